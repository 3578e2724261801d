-- That what a debugging session answers is one.
use Rattle.std.proofs.Common.{◌≡◌, ◌∙◌, ℕ, List, [], ◌∷◌, ◌++◌, length, Option, None, Some, refl, sym, ap, ap₂, subst, inl, inr}
use Rattle.tt_core.specs.Stage.{Began}
use Rattle.tt_debug.proofs.OnceLemmas.{shown_once}
use Rattle.tt_devices.proofs.StreamLemmas.{Grows-same}
use Rattle.tt_devices.specs.Names.{Names, Tells}
use Rattle.tt_devices.specs.Streams.{Grows}
use Rattle.tt_devices.specs.declared.files.Files.{Ghosts as OfFiles}
use Rattle.tt_devices.specs.declared.sink.Sink.{Ghosts as OfSink}
use Rattle.tt_devices.specs.declared.source.Source.{Ghosts as OfSource}
use Rattle.tt_kept.specs.declared.setup.Setup.{Setup}
use Rattle.tt_schedule.proofs.LawLemmas.{one_list, one_place}
use Rattle.tt_schedule.specs.ScheduleText.{IsFirstWrong, IsScheduleText}
use Rattle.tt_session.proofs.ByteLemmas.{got-same, line-put}
use Rattle.tt_session.specs.Answer.{AnswersTo, HasDebugged, IsRefusal}
use Rattle.tt_session.specs.Answer as answer
use Rattle.tt_session.specs.AnswerLaws.{IsSameAnswer, IsSettled}
use Rattle.tt_session.specs.Asking.{BeginsReplay, IsMissing, IsNoSession, IsTooMuch, replay_setup}
use Rattle.tt_session.specs.Choosing.{Mode, Replaying}
use Rattle.tt_session.specs.Debugging.{AreShown, Shows, ShowsAll, lines_of}
use Rattle.tt_session.specs.Debugging as shows
use Rattle.tt_session.specs.Lines.{PutsLine, line_of}
use Rattle.tt_session.specs.Status.{ended_status, refused_status}
use Rattle.tt_session.specs.declared.ended.Ended.{Ended}
use Rattle.tt_session.specs.declared.status.End.{End}
use Rattle.tt_session.specs.declared.status.End.TheVariants as ends
use Rattle.tt_session.specs.declared.status.Place.TheVariants.{Byte}
use Rattle.tt_session.specs.declared.status.Refusal.{Refusal}
use Rattle.tt_session.specs.declared.status.Refusal.TheVariants as refusal
use Rattle.tt_session.specs.declared.status.Status.{Status}
use Rattle.tt_session.specs.declared.status.Status.TheVariants.{BadSchedule, Done, NoFile}
use Rattle.tt_words.specs.Asked.{Asked, Debug, NoReport, Races, Replay, Report, Waits, generate, plain, replay}

-- ---- which words ask for a session

pub data Kind (asked : Asked) : Type 0 where
  is_session : (named : Replay) (file : List ℕ) → asked ≡ replay named → named.report ≡ Debug file → Kind asked
  is_run : ((named : Replay) → asked ≡ replay named → IsNoSession named.report) → Kind asked

no_session_by : (named : Replay) → IsNoSession named.report → Kind (replay named)
no_session_by named runs = is_run (λ other same. let named_is : named ≡ other = cc same in subst (λ (one : Replay). IsNoSession one.report) named_is runs)

replay_kind : (named : Replay) (report : Report) → named.report ≡ report → Kind (replay named)
replay_kind named NoReport is = no_session_by named (rw is tt)
replay_kind named Waits is = no_session_by named (rw is tt)
replay_kind named Races is = no_session_by named (rw is tt)
replay_kind named (Debug file) is = is_session named file refl is

pub kind_of : (asked : Asked) → Kind asked
kind_of (plain named) = is_run (λ other same. absurd (cc same))
kind_of (replay named) = replay_kind named named.report refl
kind_of (generate named) = is_run (λ other same. absurd (cc same))

-- ---- what is shown

pub shows-once : {setup : Setup} {given : List ℕ} (place : ℕ) (lines : List (List ℕ)) (one other : List ℕ) (last later : ℕ)
    → Shows setup given place lines one last → Shows setup given place lines other later → one ≡ other
shows-once place [] one other last later shows.none shows.none = refl
shows-once {setup} {given} place (line ∷ lines) one other last later (shows.more {later = to} {text = text} {shown = shown} a rest)
    (shows.more {later = too} {text = also} {shown = seen} b others) =
    let same = shown_once setup given place line text also to too a b in
    let moved : Shows setup given too lines shown last = subst (λ (n : ℕ). Shows setup given n lines shown last) same.1 rest in
    ap₂ (λ (first then : List ℕ). first ++ then) same.0 (shows-once too lines shown seen last later moved others)

-- by what is under the names of the files: how the session ends, and what it shows
abbrev ByCommands : Setup → (given file : List ℕ) → (commands : Option (List ℕ)) → Status → (shown : List ℕ) → Type 0
ByCommands setup given file None status shown = (status ≡ NoFile file) × (shown ≡ [])
ByCommands setup given file (Some commands) status shown = (status ≡ Done 0) × (last : ℕ) × Shows setup given 0 (lines_of commands) shown last

data ByText (setup : Setup) (text file : List ℕ) (commands : Option (List ℕ)) (status : Status) (shown : List ℕ) : Type 0 where
  wrong : (place : ℕ) → IsFirstWrong text place → ((threads : List ℕ) → ¬ (IsScheduleText text threads)) → status ≡ BadSchedule (Byte place)
      → shown ≡ [] → ByText setup text file commands status shown
  right : (given : List ℕ) → IsScheduleText text given → ByCommands setup given file commands status shown → ByText setup text file commands status shown

abbrev BySchedule : Replay → (script file : List ℕ) → (text commands : Option (List ℕ)) → Status → (shown : List ℕ) → Type 0
BySchedule named script file None commands status shown = (status ≡ NoFile named.schedule) × (shown ≡ [])
BySchedule named script file (Some text) commands status shown = ByText (replay_setup named script) text file commands status shown

abbrev ByFiles : Replay → (file : List ℕ) → (script text commands : Option (List ℕ)) → Status → (shown : List ℕ) → Type 0
ByFiles named file None text commands status shown = (status ≡ NoFile named.script) × (shown ≡ [])
ByFiles named file (Some script) text commands status shown = BySchedule named script file text commands status shown

abbrev BySession : Replay → (file : List ℕ) → Names → Status → (shown : List ℕ) → Type 0
BySession named file names status shown = ByFiles named file (names named.script) (names named.schedule) (names file) status shown

abbrev AreSame : (one other : Status) → (shown also : List ℕ) → Type 0
AreSame one other shown also = (one ≡ other) × (shown ≡ also)

same-commands : (setup : Setup) (given file : List ℕ) (commands : Option (List ℕ)) (one other : Status) (shown also : List ℕ)
    → ByCommands setup given file commands one shown → ByCommands setup given file commands other also → AreSame one other shown also
same-commands setup given file None one other shown also a b = (a.0 ∙ sym b.0, a.1 ∙ sym b.1)
same-commands setup given file (Some commands) one other shown also a b =
    (a.0 ∙ sym b.0, shows-once 0 (lines_of commands) shown also a.1 b.1 a.2 b.2)

same-text : (setup : Setup) (text file : List ℕ) (commands : Option (List ℕ)) (one other : Status) (shown also : List ℕ)
    → ByText setup text file commands one shown → ByText setup text file commands other also → AreSame one other shown also
same-text setup text file commands one other shown also (wrong place first no_text is none) (wrong place' first' no_text' is' none') =
    (is ∙ (ap (λ (n : ℕ). BadSchedule (Byte n)) (one_place text place place' first first') ∙ sym is'), none ∙ sym none')
same-text setup text file commands one other shown also (wrong place first no_text is none) (right given is_text by) = absurd (no_text given is_text)
same-text setup text file commands one other shown also (right given is_text by) (wrong place first no_text is none) = absurd (no_text given is_text)
same-text setup text file commands one other shown also (right given is_text by) (right given' is_text' by') =
    same-commands setup given' file commands one other shown also
    (subst (λ (list : List ℕ). ByCommands setup list file commands one shown) (one_list text given given' is_text is_text') by) by'

same-files : (named : Replay) (file : List ℕ) (script text commands : Option (List ℕ)) (one other : Status) (shown also : List ℕ)
    → ByFiles named file script text commands one shown → ByFiles named file script text commands other also → AreSame one other shown also
same-files named file None text commands one other shown also a b = (a.0 ∙ sym b.0, a.1 ∙ sym b.1)
same-files named file (Some script) None commands one other shown also a b = (a.0 ∙ sym b.0, a.1 ∙ sym b.1)
same-files named file (Some script) (Some text) commands one other shown also a b =
    same-text (replay_setup named script) text file commands one other shown also a b

-- ---- what an answer is

pub tells-is : (told : Option Names) (names : Names) (name : List ℕ) (found : Option (List ℕ)) → told ≡ Some names → Tells told name found → names name ≡ found
tells-is None names name found is tells = absurd (cc is)
tells-is (Some map) names name found is tells = let same : map ≡ names = cc is in subst (λ (m : Names). m name ≡ found) same tells

-- the file of the commands is the one that is asked for
same-file : (wanted : Report) (file name : List ℕ) → wanted ≡ Debug file → wanted ≡ Debug name → name ≡ file
same-file wanted file name is also = let both : Debug name ≡ Debug file = sym also ∙ is in cc both

missing-by : (named : Replay) (file : List ℕ) (told : Option Names) (names : Names) (name : List ℕ) → named.report ≡ Debug file → told ≡ Some names
    → IsMissing (replay named) told name → BySession named file names (NoFile name) []
missing-by named file told names name wanted is (inl absent) = rw (tells-is told names named.script None is absent.1) (ap NoFile absent.0, refl)
missing-by named file told names name wanted is (inr (inl absent)) =
    rw (tells-is told names named.script (Some absent.1.0) is absent.1.1, tells-is told names named.schedule None is absent.2) (ap NoFile absent.0, refl)
missing-by named file told names name wanted is (inr (inr lacks)) =
    let begins = lacks.begins in
    let named_so : name ≡ file = same-file named.report file name wanted lacks.asked in
    let absent : names file ≡ None =
    subst (λ (one : List ℕ). names one ≡ None) named_so (tells-is told names name None is lacks.missing) in
    rw (
      tells-is told names named.script (Some begins.script) is begins.there.script_is,
      tells-is told names named.schedule (Some begins.text) is begins.there.text_is,
      absent,
    )
    (right begins.given begins.is_text (ap NoFile named_so, refl))

not-much : (wanted : Report) (file : List ℕ) (entries : ℕ) → wanted ≡ Debug file → IsTooMuch wanted entries → ⊥
not-much wanted file entries is much = let P : Report → Type 0 = λ r. IsTooMuch r entries in subst P is much

refused-by : {F : Type 0} (files : OfFiles F) (named : Replay) (file : List ℕ) (names : Names) (why : Refusal) (old new : F)
    → named.report ≡ Debug file → files.map old ≡ Some names → IsSettled (refused_status why) → IsRefusal files (replay named) why old new
    → BySession named file names (refused_status why) []
refused-by files named file names (refusal.NoFile name) old new wanted is settled why = missing-by named file (files.map old) names name wanted is why
refused-by files named file names (refusal.BadText offset) old new wanted is settled why =
    rw (
      tells-is (files.map old) names named.script (Some why.script) is why.there.script_is,
      tells-is (files.map old) names named.schedule (Some why.text) is why.there.text_is,
    )
    (wrong offset why.wrong why.no_text refl refl)
refused-by files named file names (refusal.TooLong entries) old new wanted is settled why = absurd (not-much named.report file entries wanted why.too_long)
refused-by files named file names refusal.Usage old new wanted is settled why = absurd why
refused-by files named file names refusal.ReadFault old new wanted is settled why = absurd settled
refused-by files named file names refusal.NoMemory old new wanted is settled why = absurd settled

-- a session that is settled came to the end of its lines
record ShowsWhole {K : Type 0} (sink : OfSink K) (setup : Setup) (given : List ℕ) (lines : List (List ℕ)) (status : Status) (old new : K) : Type 0 where
  done : status ≡ Done 0
  all : ShowsAll sink setup given lines old new

shows-whole : {K : Type 0} (sink : OfSink K) (setup : Setup) (given : List ℕ) (lines : List (List ℕ)) (end : End) (old new : K)
    → IsSettled (ended_status end) → AreShown sink setup given lines end old new → ShowsWhole sink setup given lines (ended_status end) old new
shows-whole sink setup given lines (ends.Done code) old new settled are = record { done = ap Done are.0; all = are.1 }
shows-whole sink setup given lines ends.ScheduleEnded old new settled are = absurd are
shows-whole sink setup given lines (ends.Barred entry) old new settled are = absurd are
shows-whole sink setup given lines ends.Stalled old new settled are = absurd are
shows-whole sink setup given lines (ends.StepLimit steps) old new settled are = absurd are
shows-whole sink setup given lines ends.ReadFault old new settled are = absurd are
shows-whole sink setup given lines ends.WriteFault old new settled are = absurd settled
shows-whole sink setup given lines ends.NoMemory old new settled are = absurd settled

module _ {F S K E : Type 0} (files : OfFiles F) (source : OfSource S) (output : OfSink K) (errors : OfSink E) where
  record IsHeld (named : Replay) (file : List ℕ) (names : Names) (began : Began S K E) (ended : Ended S K E) : Type 0 where
    shown : List ℕ
    by : BySession named file names ended.status shown
    no_step : ended.schedule.threads ≡ []
    out : Grows (output.got began.output) (output.got ended.output) shown
    line : PutsLine errors (errors.fault_count began.errors) ended.status [] began.errors ended.errors

  debugged-is : (named : Replay) (file : List ℕ) (names : Names) (old new : F) (began : Began S K E) (ended : Ended S K E) → named.report ≡ Debug file
      → files.map old ≡ Some names → IsSettled ended.status → HasDebugged files source output errors named old new began ended
      → IsHeld named file names began ended
  debugged-is named file names old new began ended wanted is settled has =
      let still : IsSettled (ended_status has.end) = let P : Status → Type 0 = λ s. IsSettled s in subst P has.status settled in
      let whole = shows-whole output has.setup has.given (lines_of has.commands) has.end began.output ended.output still has.shown in
      let begins = has.begins in
      let lists : has.given ≡ begins.given = let modes : Replaying has.given ≡ Replaying begins.given = begins.chosen in cc modes in
      let commands : names file ≡ Some has.commands =
      subst (λ (one : List ℕ). names one ≡ Some has.commands) (same-file named.report file has.file wanted has.asked)
      (tells-is (files.map old) names has.file (Some has.commands) is has.commands_are) in
      let shows : Shows (replay_setup named begins.script) begins.given 0 (lines_of has.commands) whole.all.shown whole.all.last =
      subst (λ (s : Setup). Shows s begins.given 0 (lines_of has.commands) whole.all.shown whole.all.last) begins.begins
      (subst (λ (list : List ℕ). Shows has.setup list 0 (lines_of has.commands) whole.all.shown whole.all.last) lists whole.all.shows) in
      record {
        shown = whole.all.shown;
        by = rw (
          tells-is (files.map old) names named.script (Some begins.script) is begins.there.script_is,
          tells-is (files.map old) names named.schedule (Some begins.text) is begins.there.text_is,
          commands,
        )
            (right begins.given begins.is_text (has.status ∙ whole.done, whole.all.last, shows));
        no_step = has.no_step;
        out = whole.all.grew;
        line = has.line;
      }

  is-held : (named : Replay) (file : List ℕ) (names : Names) (old new : F) (began : Began S K E) (ended : Ended S K E) → named.report ≡ Debug file
      → files.map old ≡ Some names → IsSettled ended.status → AnswersTo files source output errors (replay named) old new began ended
      → IsHeld named file names began ended
  is-held named file names old new began ended wanted is settled (answer.refused why refuses untouched) =
      let still : IsSettled (refused_status why) = let P : Status → Type 0 = λ s. IsSettled s in subst P untouched.status settled in
      record {
        shown = [];
        by = subst (λ (s : Status). BySession named file names s []) (sym untouched.status)
            (refused-by files named file names why old new wanted is still refuses);
        no_step = untouched.no_step;
        out = subst (λ (sink : K). Grows (output.got began.output) (output.got sink) []) (sym untouched.output) (Grows-same (output.got began.output));
        line = untouched.line;
      }
  is-held named file names old new began ended wanted is settled (answer.ran ran) =
      absurd (let P : Report → Type 0 = λ r. IsNoSession r in subst P wanted ran.asks)
  is-held named file names old new began ended wanted is settled (answer.debugged other same has) =
      let named_is : other ≡ named = cc same in
      debugged-is named file names old new began ended wanted is settled
      (subst (λ (one : Replay). HasDebugged files source output errors one old new began ended) named_is has)

  -- two settled answers to words that ask for a session
  pub one-session : (named : Replay) (file : List ℕ) (names : Names) (old new store kept : F) (began again : Began S K E) (one other : Ended S K E)
      → named.report ≡ Debug file → files.map old ≡ Some names → files.map store ≡ Some names → IsSettled one.status → IsSettled other.status
      → AnswersTo files source output errors (replay named) old new began one → AnswersTo files source output errors (replay named) store kept again other
      → IsSameAnswer output errors began again one other
  one-session named file names old new store kept began again one other wanted is also s t first second =
      let a = is-held named file names old new began one wanted is s first in
      let b = is-held named file names store kept again other wanted also t second in
      let same : AreSame one.status other.status a.shown b.shown =
      same-files named file (names named.script) (names named.schedule) (names file) one.status other.status a.shown b.shown a.by b.by in
      record {
        status = same.0;
        steps = a.no_step ∙ sym b.no_step;
        out = record {
          bytes = a.shown;
          grew = a.out;
          grows = subst (λ (bytes : List ℕ). Grows (output.got again.output) (output.got other.output) bytes) (sym same.1) b.out;
        };
        err = λ stays rests.
            got-same errors (line_of one.status ++ []) (line_of other.status ++ []) [] began.errors began.errors one.errors again.errors again.errors
            other.errors (ap (λ (s : Status). line_of s ++ []) same.0)
            (Grows-same (errors.got began.errors)) (Grows-same (errors.got again.errors))
            (line-put errors (errors.fault_count began.errors) one.status [] began.errors one.errors refl stays a.line)
            (line-put errors (errors.fault_count again.errors) other.status [] again.errors other.errors refl rests b.line);
      }
