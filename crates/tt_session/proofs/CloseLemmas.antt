-- From what the parts of a call leave to what it answers.
use Rattle.std.proofs.Common.{◌≡◌, ◌≢◌, ◌∙◌, ◌≤◌, ◌⊎◌, ℕ, List, [], Option, None, Some, refl, sym, inl, inr, arith}
use Rattle.tt_core.specs.Stage.{Began}
use Rattle.tt_devices.specs.Names.{HasName, Names, Tells}
use Rattle.tt_devices.specs.declared.files.Files.{Ghosts as OfFiles}
use Rattle.tt_devices.specs.declared.sink.Sink.{Ghosts as OfSink}
use Rattle.tt_devices.specs.declared.source.Source.{Ghosts as OfSource}
use Rattle.tt_schedule.specs.ScheduleText.{most_steps}
use Rattle.tt_words.proofs.OneLemmas.{one_reading}
use Rattle.tt_words.specs.Asked.{Asked, Generate, HasSteps, Plain, WordsAskFor, Replay, generate, plain, replay}
use Rattle.tt_session.specs.Answer.{AnswersTo, IsAnswered, IsRefusal, HasRun, IsUsage, IsWordRefusal}
use Rattle.tt_session.specs.Answer as answer
use Rattle.tt_session.specs.Asking.{record_of}
use Rattle.tt_session.specs.Lines.{PutsLine}
use Rattle.tt_session.specs.Recording.{HasText, IsUnwritten, Records, RecordsUnder}
use Rattle.tt_session.specs.Recording as recording
use Rattle.tt_session.specs.Status.{ended_status, refused_status}
use Rattle.tt_session.specs.declared.ended.Ended.{Ended}
use Rattle.tt_session.specs.declared.status.End.{End}
use Rattle.tt_session.specs.declared.status.End.TheVariants as ends
use Rattle.tt_session.specs.declared.status.Refusal.{Refusal}
use Rattle.tt_session.specs.declared.status.Refusal.TheVariants as refusal
use Rattle.tt_session.specs.declared.status.Status.{Status}
use Rattle.tt_session.specs.declared.status.Status.TheVariants.{Usage, NoMemory}

-- ---- files that were read meanwhile

module _ {F : Type 0} (files : OfFiles F) where
  under-after : (name : List ℕ) (end : End) (schedule : List ℕ) (old mid new : F) (status : Status)
      → files.map mid ≡ files.map old → files.write_fault_count mid ≡ files.write_fault_count old
      → RecordsUnder files name end schedule mid new status → RecordsUnder files name end schedule old new status
  under-after name end schedule old mid new status same steady (recording.no_memory is unwritten) =
      recording.no_memory is (record { same = unwritten.same ∙ same; steady = unwritten.steady ∙ steady })
  under-after name end schedule old mid new status same steady (recording.written some is has) =
      recording.written some is
      (record { text = has.text; is_text = has.is_text; found = has.found; steady = has.steady ∙ steady; others = rw (← same) has.others })
  under-after name end schedule old mid new status same steady (recording.failed some is fails) =
      recording.failed some is (record { rises = rw (← steady) fails.rises; others = rw (← same) fails.others })

  pub records-after : (file : Option (List ℕ)) (end : End) (schedule : List ℕ) (old mid new : F) (status : Status)
      → files.map mid ≡ files.map old → files.write_fault_count mid ≡ files.write_fault_count old
      → Records files file end schedule mid new status → Records files file end schedule old new status
  records-after None end schedule old mid new status same steady is = (is.0, record { same = is.1.same ∙ same; steady = is.1.steady ∙ steady })
  records-after (Some name) end schedule old mid new status same steady is = under-after name end schedule old mid new status same steady is

-- ---- by the words

-- a run isn't answered by `Usage`
no-usage : (end : End) → ended_status end ≡ Usage → ⊥
no-usage (ends.Done code) is = cc
no-usage ends.ScheduleEnded is = cc
no-usage (ends.Barred entry) is = cc
no-usage ends.Stalled is = cc
no-usage (ends.StepLimit steps) is = cc
no-usage ends.ReadFault is = cc
no-usage ends.WriteFault is = cc
no-usage ends.NoMemory is = cc

-- wrong words are, and nothing else that is wrong
wrong-usage : (why : Refusal) (words : List (List ℕ)) → IsWordRefusal why words → refused_status why ≡ Usage → (asked : Asked) → ¬ WordsAskFor words asked
wrong-usage refusal.Usage words is same = is
wrong-usage refusal.NoMemory words is same = absurd (cc same)
wrong-usage (refusal.NoFile name) words is same = absurd is
wrong-usage (refusal.BadText offset) words is same = absurd is
wrong-usage (refusal.TooLong entries) words is same = absurd is
wrong-usage refusal.ReadFault words is same = absurd is

unread-status : (why : Refusal) (words : List (List ℕ)) (status : Status) → IsWordRefusal why words → status ≡ refused_status why
    → (status ≡ Usage) ⊎ (status ≡ NoMemory)
unread-status refusal.Usage words status is same = inl same
unread-status refusal.NoMemory words status is same = inr same
unread-status (refusal.NoFile name) words status is same = absurd is
unread-status (refusal.BadText offset) words status is same = absurd is
unread-status (refusal.TooLong entries) words status is same = absurd is
unread-status refusal.ReadFault words status is same = absurd is

module _ {F S K E : Type 0} (files : OfFiles F) (source : OfSource S) (output : OfSink K) (errors : OfSink E) where
  refused-usage : (asked : Asked) (why : Refusal) (old new : F) → IsRefusal files asked why old new → refused_status why ≡ Usage → ⊥
  refused-usage asked refusal.Usage old new is same = is
  refused-usage asked refusal.NoMemory old new is same = cc
  refused-usage asked (refusal.NoFile name) old new is same = cc
  refused-usage asked (refusal.BadText offset) old new is same = cc
  refused-usage asked (refusal.TooLong entries) old new is same = cc
  refused-usage asked refusal.ReadFault old new is same = cc

  recorded-usage : (file : Option (List ℕ)) (end : End) (schedule : List ℕ) (old new : F) (status : Status)
      → Records files file end schedule old new status → status ≡ Usage → ⊥
  recorded-usage None end schedule old new status is usage = no-usage end (sym is.0 ∙ usage)
  recorded-usage (Some name) end schedule old new status (recording.no_memory is unwritten) usage = cc (sym is ∙ usage)
  recorded-usage (Some name) end schedule old new status (recording.written some is has) usage = no-usage end (sym is ∙ usage)
  recorded-usage (Some name) end schedule old new status (recording.failed some is fails) usage = cc (sym is ∙ usage)

  answered-usage : (asked : Asked) (old new : F) (began : Began S K E) (ended : Ended S K E)
      → AnswersTo files source output errors asked old new began ended → ended.status ≡ Usage → ⊥
  answered-usage asked old new began ended (answer.refused why is untouched) usage = refused-usage asked why old new is (sym untouched.status ∙ usage)
  answered-usage asked old new began ended (answer.ran is) usage =
      recorded-usage (record_of asked) is.finish.end is.finish.schedule.threads old new ended.status is.records usage
  answered-usage asked old new began ended (answer.debugged named same is) usage = no-usage is.end (sym is.status ∙ usage)

  pub usage-answer : (words : List (List ℕ)) (old new : F) (began : Began S K E) (ended : Ended S K E)
      → IsAnswered files source output errors words old new began ended → IsUsage ended.status words
  usage-answer words old new began ended (answer.unread why is untouched) = record {
    wrong = λ usage. wrong-usage why words is (sym untouched.status ∙ usage);
    only = λ none. unread-status why words ended.status is untouched.status;
  }
  usage-answer words old new began ended (answer.read asked reads is) = record {
    wrong = λ usage. absurd (answered-usage asked old new began ended is usage);
    only = λ none. absurd (none asked reads);
  }

  -- words that aren't read
  pub unread-answer : (words : List (List ℕ)) (why : Refusal) (now : F) (began : Began S K E) (ended : Ended S K E) → IsWordRefusal why words
      → ended.status ≡ refused_status why → ended.schedule.threads ≡ [] → (ended.input ≡ began.input) × (ended.output ≡ began.output)
      → PutsLine errors (errors.fault_count began.errors) ended.status [] began.errors ended.errors
      → IsAnswered files source output errors words now now began ended
  unread-answer words why now began ended is status no_step streams line = answer.unread why is (record {
    status = status;
    no_step = no_step;
    input = streams.0;
    output = streams.1;
    line = line;
    unwritten = record { same = refl; steady = refl };
    reads_steady = λ other. refl;
  })

  -- streams that were handed back
  pub moved-answer : (words : List (List ℕ)) (old mid new : F) (input in_again : S) (sink sink_again : K) (errs errs_again : E) (ended : Ended S K E)
      → mid ≡ old → (in_again ≡ input) × (sink_again ≡ sink) × (errs_again ≡ errs)
      → IsAnswered files source output errors words mid new (record { input = in_again; output = sink_again; errors = errs_again }) ended
      → IsAnswered files source output errors words old new (record { input = input; output = sink; errors = errs }) ended
  moved-answer words old mid new input in_again sink sink_again errs errs_again ended same (a, b, c) is = rw (← same, ← a, ← b, ← c) is

-- what is asked for is one
pub not-replay : (words : List (List ℕ)) (named : Plain) (other : Replay) → WordsAskFor words (plain named) → WordsAskFor words (replay other) → ⊥
not-replay words named other a b = let same = one_reading words (plain named) (replay other) a b in cc

pub not-generate : (words : List (List ℕ)) (named : Plain) (other : Generate) → WordsAskFor words (plain named) → WordsAskFor words (generate other) → ⊥
not-generate words named other a b = let same = one_reading words (plain named) (generate other) a b in cc

-- a schedule has room for the steps that may be asked for
few : (value : Option (List ℕ)) (steps : ℕ) → HasSteps value steps → steps ≤ most_steps
few None steps is = omega arith
few (Some text) steps is = is.at_most

pub few-generated : (words : List (List ℕ)) (named : Generate) → WordsAskFor words (generate named) → named.steps ≤ most_steps
few-generated words named is = few _ named.steps is.asks.steps

-- no plain run is asked for if the words were refused
pub no-plain : (why : Refusal) (words : List (List ℕ)) (status : Status) → IsWordRefusal why words → status ≡ refused_status why
    → status ≢ NoMemory → (named : Plain) → ¬ (WordsAskFor words (plain named))
no-plain refusal.Usage words status is same some named = is (plain named)
no-plain refusal.NoMemory words status is same some named = absurd (some same)
no-plain (refusal.NoFile name) words status is same some named = absurd is
no-plain (refusal.BadText offset) words status is same some named = absurd is
no-plain (refusal.TooLong entries) words status is same some named = absurd is
no-plain refusal.ReadFault words status is same some named = absurd is

-- what a map has is there
pub has-name : (told : Option Names) (name bytes : List ℕ) → Tells told name (Some bytes) → HasName told name
has-name None name bytes is = tt
has-name (Some map) name bytes is = rw is refl
