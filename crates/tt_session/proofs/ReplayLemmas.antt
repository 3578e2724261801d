-- That a run is replayed after its own schedule.
use Rattle.std.proofs.Common.{◌≡◌, ◌∙◌, ℕ, Bool, false, List, [], Option, Some}
use Rattle.std.proofs.Common.{IsSome, refl, sym, ap, subst, append-nil}
use Rattle.tt_core.specs.Faithful.{IsFaithful}
use Rattle.tt_devices.specs.Names.{Names}
use Rattle.tt_devices.specs.Streams.{Grows}
use Rattle.tt_kept.specs.declared.setup.Setup.{Setup}
use Rattle.tt_machine.proofs.Steps.{same_run}
use Rattle.tt_machine.specs.Machine.{Machine, Runs, start_machine}
use Rattle.tt_schedule.proofs.LawLemmas.{one_list}
use Rattle.tt_schedule.specs.ScheduleText.{IsScheduleText}
use Rattle.tt_words.specs.Asked.{Asked, Replay, replay}
use Rattle.tt_core.specs.Stage.{Began}
use Rattle.tt_devices.specs.declared.files.Files.{Ghosts as OfFiles}
use Rattle.tt_devices.specs.declared.sink.Sink.{Ghosts as OfSink}
use Rattle.tt_devices.specs.declared.source.Source.{Ghosts as OfSource}
use Rattle.tt_session.specs.Answer.{HasRun}
use Rattle.tt_session.specs.AnswerLaws.{GotSame, IsSettled, ReplayLaw, replayed_as}
use Rattle.tt_session.specs.Asking.{record_of}
use Rattle.tt_session.specs.Choosing.{Mode, Replaying, limit_of}
use Rattle.tt_session.specs.Running.{HasMachine}
use Rattle.tt_session.specs.Status.{ended_status}
use Rattle.tt_session.specs.declared.ended.Ended.{Ended}
use Rattle.tt_session.specs.declared.status.Status.{Status}
use Rattle.tt_session.specs.declared.status.Status.TheVariants.{Done}
use Rattle.tt_session.proofs.EndLemmas.{EndView, over, not_over, refused, stuck, full, end-view, not-refused, no-limit, some-limit, over-can, uncut}
use Rattle.tt_session.proofs.WayLemmas.{same-way, stopped}
use Rattle.tt_session.proofs.AnswerLemmas.{told-is, settled-end}
use Rattle.tt_session.proofs.SessionLemmas.{tells-is}

-- ---- a run that is replayed

-- what sinks held and hold
record Sinks : Type 0 where
  old_out : Option (List ℕ)
  new_out : Option (List ℕ)
  old_err : Option (List ℕ)
  new_err : Option (List ℕ)

-- a settled run, with what its sinks got
record IsWhollyRun (setup : Setup) (mode : Mode) (input : List ℕ) (status : Status) (schedule : List ℕ) (sinks : Sinks) : Type 0 where
  machine : Machine
  ran : Runs (start_machine setup input) schedule machine
  view : EndView mode machine schedule status
  faithful : IsFaithful false (start_machine setup input) schedule sinks.old_out sinks.new_out sinks.old_err sinks.new_err machine

module _ {F S K E : Type 0} (files : OfFiles F) (source : OfSource S) (output : OfSink K) (errors : OfSink E) where
  abbrev sinks-of : {asked : Asked} {old new : F} {began : Began S K E} {ended : Ended S K E}
      → HasRun files source output errors asked old new began ended → Sinks
  sinks-of {began = began} is = record {
    old_out = output.got began.output;
    new_out = output.got is.finish.output;
    old_err = errors.got began.errors;
    new_err = errors.got is.finish.errors;
  }

  wholly-run : (asked : Asked) (old new : F) (began : Began S K E) (ended : Ended S K E) (input : List ℕ)
      → source.held began.input ≡ Some input → IsSettled ended.status
      → (is : HasRun files source output errors asked old new began ended)
      → IsWhollyRun is.setup is.mode input ended.status ended.schedule.threads (sinks-of is)
  wholly-run asked old new began ended input told settled is =
      let same = settled-end files (record_of asked) is.finish.end is.finish.schedule.threads old new ended.status is.records settled in
      let has = told-is (source.held began.input) input (λ bytes. HasMachine source output errors is.setup is.mode began is.finish bytes)
      told is.leaves.has_machine in
      let still : IsSettled (ended_status is.finish.end) = let P : Status → Type 0 = λ s. IsSettled s in subst P same settled in
      let view = end-view is.finish.end is.mode has.machine is.finish.schedule.threads still has.ends in
      let Faithful : Bool → Type 0 =
      λ b. IsFaithful b (start_machine is.setup input) is.finish.schedule.threads (output.got began.output)
      (output.got is.finish.output) (errors.got began.errors) (errors.got is.finish.errors) has.machine in
      let found : IsWhollyRun is.setup is.mode input (ended_status is.finish.end) is.finish.schedule.threads (sinks-of is) = record {
        machine = has.machine;
        ran = has.ran;
        view = view;
        faithful = subst Faithful (uncut is.finish.end still) has.faithful;
      } in
      subst (λ (s : Status). IsWhollyRun is.setup is.mode input s ended.schedule.threads (sinks-of is)) (sym same)
      (subst (λ (steps : List ℕ). IsWhollyRun is.setup is.mode input (ended_status is.finish.end) steps (sinks-of is)) (sym is.schedule) found)

-- the end of a run and that of its replay, in one machine
replayed-end : (one other : Status) (mode : Mode) (machine : Machine) (schedule : List ℕ) → IsSome (limit_of mode)
    → EndView mode machine schedule one → EndView (Replaying schedule) machine schedule other → other ≡ replayed_as one
replayed-end one other mode machine schedule free (over {code = code} a is) (over {code = value} b also) =
    let same : value ≡ code = cc (sym also ∙ is) in
    ap Done same
replayed-end one other mode machine schedule free (over a is) (not_over b also) = absurd (cc (sym is ∙ also))
replayed-end one other mode machine schedule free (stuck a is) (over b also) = absurd (cc (sym also ∙ is.going))
replayed-end one other mode machine schedule free (stuck a is) (not_over b also) = refl
replayed-end one other mode machine schedule free (full is) (over {code = code} b also) = absurd (over-can machine code is.thread also is.can)
replayed-end one other mode machine schedule free (full is) (not_over b also) = refl
replayed-end one other mode machine schedule free (not_over a is) b = absurd (some-limit (limit_of mode) free (no-limit mode schedule a))
replayed-end one other mode machine schedule free (refused a) b = absurd (some-limit (limit_of mode) free (no-limit mode _ a.next))
replayed-end one other mode machine schedule free a (refused {number = number} b) = absurd (not-refused (Replaying schedule) machine schedule number refl b)
replayed-end one other mode machine schedule free a (stuck b is) = absurd (cc b)
replayed-end one other mode machine schedule free a (full b) = absurd (cc b.limit)

module _ {F S K E : Type 0} (files : OfFiles F) (source : OfSource S) (output : OfSink K) (errors : OfSink E) where
  list-of : (named : Replay) (old new : F) (began : Began S K E) (ended : Ended S K E) (names : Names) (text list : List ℕ)
      → files.map old ≡ Some names → names named.schedule ≡ Some text → IsScheduleText text list
      → (is : HasRun files source output errors (replay named) old new began ended) → is.mode ≡ Replaying list
  list-of named old new began ended names text list told has is_text is =
      let other = tells-is (files.map old) names named.schedule (Some is.begins.text) told is.begins.there.text_is in
      let same : is.begins.text ≡ text = cc (sym other ∙ has) in
      let lists : is.begins.given ≡ list =
      one_list text is.begins.given list (subst (λ (t : List ℕ). IsScheduleText t is.begins.given) same is.begins.is_text) is_text in
      is.begins.chosen ∙ ap Replaying lists

-- the same run, moved to the other's setup and mode
moved-whole : (setup setup' : Setup) (mode mode' : Mode) (input : List ℕ) (status : Status) (schedule : List ℕ) (sinks : Sinks)
    → setup ≡ setup' → mode ≡ mode' → IsWhollyRun setup mode input status schedule sinks → IsWhollyRun setup' mode' input status schedule sinks
moved-whole setup setup' mode mode' input status schedule sinks a b is =
    subst (λ (m : Mode). IsWhollyRun setup' m input status schedule sinks) b (subst (λ (s : Setup). IsWhollyRun s mode input status schedule sinks) a is)

replayed : (setup : Setup) (mode : Mode) (input : List ℕ) (one other : Status) (left right : List ℕ) (sinks others : Sinks) → IsSome (limit_of mode)
    → IsWhollyRun setup mode input one left sinks → IsWhollyRun setup (Replaying left) input other right others
    → (right ≡ left) × (other ≡ replayed_as one) × GotSame sinks.old_out sinks.new_out others.old_out others.new_out × GotSame sinks.old_err
    sinks.new_err others.old_err others.new_err
replayed setup mode input one other left right sinks others free a b =
    let stop = stopped other left b.machine right b.view in
    let same : right ≡ left =
    same-way (start_machine setup input) b.machine a.machine right left stop.rest [] b.ran a.ran stop.stops tt (sym stop.cut ∙ sym (append-nil left)) in
    let ran : Runs (start_machine setup input) left b.machine = subst (λ (steps : List ℕ). Runs (start_machine setup input) steps b.machine) same b.ran in
    let machines : b.machine ≡ a.machine = same_run (start_machine setup input) b.machine a.machine left ran a.ran in
    let moved : EndView (Replaying left) a.machine left other =
    subst (λ (m : Machine). EndView (Replaying left) m left other) machines
    (subst (λ (steps : List ℕ). EndView (Replaying left) b.machine steps other) same b.view) in (
      same,
      replayed-end one other mode a.machine left free a.view moved,
      record {
        bytes = a.machine.out;
        grew = a.faithful.out;
        grows = subst (λ (m : Machine). Grows others.old_out others.new_out m.out) machines b.faithful.out;
      },
      record {
        bytes = a.machine.err;
        grew = a.faithful.err;
        grows = subst (λ (m : Machine). Grows others.old_err others.new_err m.err) machines b.faithful.err;
      },
    )

module _ {F S T K E : Type 0} (files : OfFiles F) (source : OfSource S) (other_source : OfSource T) (output : OfSink K) (errors : OfSink E) where
  pub replay_law : ReplayLaw files source other_source output errors
  replay_law asked named text input names old new store kept began again one other first second told heard s t free setups is has is_text =
      replayed first.setup first.mode input one.status other.status one.schedule.threads other.schedule.threads
      (sinks-of files source output errors first) (sinks-of files other_source output errors second) free
      (wholly-run files source output errors asked old new began one input told s first)
      (moved-whole second.setup first.setup second.mode (Replaying one.schedule.threads) input other.status other.schedule.threads
      (sinks-of files other_source output errors second) setups
      (list-of files other_source output errors named store kept again other names text one.schedule.threads is has is_text second)
      (wholly-run files other_source output errors (replay named) store kept again other input heard t second))
