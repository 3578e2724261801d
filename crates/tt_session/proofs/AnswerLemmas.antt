-- That the answer is one.
use Rattle.std.proofs.Common.{◌≡◌, ◌∙◌, ℕ, Bool, false, List, [], ◌++◌, length, Option, None, Some}
use Rattle.std.proofs.Common.{IfSome, refl, sym, ap, ap₂, subst, arith, inl, inr}
use Rattle.tt_core.specs.Faithful.{IsFaithful}
use Rattle.tt_devices.proofs.StreamLemmas.{Grows-append, Grows-same}
use Rattle.tt_devices.specs.Faults.{Rises}
use Rattle.tt_devices.specs.Names.{Names}
use Rattle.tt_devices.specs.Streams.{Grows}
use Rattle.tt_kept.specs.declared.setup.Setup.{Setup}
use Rattle.tt_machine.proofs.Steps.{same_run}
use Rattle.tt_machine.specs.Machine.{Machine, Runs, start_machine}
use Rattle.tt_schedule.proofs.LawLemmas.{one_list, one_place}
use Rattle.tt_schedule.specs.ScheduleText.{IsFirstWrong, IsScheduleText}
use Rattle.tt_words.proofs.OneLemmas.{one_reading}
use Rattle.tt_words.specs.Asked.{Asked, Debug, Plain, Report, WordsAskFor, Replay, generate, plain, replay}
use Rattle.tt_core.specs.Stage.{Began}
use Rattle.tt_devices.specs.declared.files.Files.{Ghosts as OfFiles}
use Rattle.tt_devices.specs.declared.sink.Sink.{Ghosts as OfSink}
use Rattle.tt_devices.specs.declared.source.Source.{Ghosts as OfSource}
use Rattle.tt_session.specs.Answer.{AnswersTo, IsAnswered, IsRefusal, IsUntouched, HasRun, IsWordRefusal}
use Rattle.tt_session.specs.Answer as answer
use Rattle.tt_session.specs.AnswerLaws.{GotSame, IsSameAnswer, IsSettled, OneAnswerLaw}
use Rattle.tt_session.specs.Asking.{BeginsAs, HasLongText, HasWrongText, IsMissing, IsNoSession, IsTooMuch, generate_setup, plain_setup}
use Rattle.tt_session.specs.Asking.{record_of, replay_setup}
use Rattle.tt_session.specs.Choosing.{Allows, Chooses, Freely, InTurn, Mode, Replaying}
use Rattle.tt_session.specs.Lines.{PutsLine, line_of}
use Rattle.tt_session.specs.Lines as lines
use Rattle.tt_session.specs.Recording.{Records}
use Rattle.tt_session.specs.Reporting.{IsReport, report_of}
use Rattle.tt_session.specs.Recording as recording
use Rattle.tt_session.specs.Running.{HasMachine}
use Rattle.tt_session.specs.Status.{ended_status, refused_status}
use Rattle.tt_session.specs.declared.ended.Ended.{Ended}
use Rattle.tt_session.specs.declared.status.End.{End}
use Rattle.tt_session.specs.declared.status.Place.TheVariants.{Byte}
use Rattle.tt_session.specs.declared.status.Refusal.{Refusal}
use Rattle.tt_session.specs.declared.status.Refusal.TheVariants as refusal
use Rattle.tt_session.specs.declared.status.Status.{Status}
use Rattle.tt_session.specs.declared.status.Status.TheVariants.{Usage, NoFile, BadSchedule, TooLong}
use Rattle.tt_session.proofs.ByteLemmas.{got-same, line-put}
use Rattle.tt_session.proofs.SessionLemmas.{Kind, is_run, is_session, kind_of, one-session, tells-is}
use Rattle.tt_session.proofs.OneReportLemmas.{no-report, one-report}
use Rattle.tt_session.proofs.EndLemmas.{EndView, end-view, same-end, uncut, not-write}
use Rattle.tt_session.proofs.WayLemmas.{same-way, stopped, same-turns, rests}

-- ---- what the words and the files give

data Found : Type 0 where
  missing : (name : List ℕ) → Found
  with_text : (setup : Setup) (wanted : Report) (text : List ℕ) → Found
  begins : (setup : Setup) (mode : Mode) → Found

abbrev with_found : Setup → Report → (schedule : List ℕ) → Option (List ℕ) → Found
with_found setup wanted schedule None = missing schedule
with_found setup wanted schedule (Some text) = with_text setup wanted text

abbrev plain_by : Plain → Option (List ℕ) → Found
plain_by named None = missing named.script
plain_by named (Some script) = begins (plain_setup named script) (Freely named.steps)

abbrev replay_by : Replay → Names → Option (List ℕ) → Found
replay_by named names None = missing named.script
replay_by named names (Some script) = with_found (replay_setup named script) named.report named.schedule (names named.schedule)

abbrev found_by : Asked → Names → Found
found_by (plain named) names = plain_by named (names named.script)
found_by (replay named) names = replay_by named names (names named.script)
found_by (generate named) names = begins (generate_setup named) (InTurn named.steps)

-- the steps of a run, and what it wrote
record Deeds : Type 0 where
  steps : List ℕ
  out : List ℕ
  err : List ℕ

abbrev no_deeds : Deeds
no_deeds = record { steps = []; out = []; err = [] }

abbrev deeds_of : List ℕ → Machine → Deeds
deeds_of steps machine = record { steps = steps; out = machine.out; err = machine.err }

-- a run over this input, and its end
record IsRunTo (setup : Setup) (mode : Mode) (input : List ℕ) (status : Status) (taken : Deeds) : Type 0 where
  machine : Machine
  allowed : Allows mode taken.steps
  ran : Runs (start_machine setup input) taken.steps machine
  chosen : Chooses mode (start_machine setup input) taken.steps
  view : EndView mode machine taken.steps status
  wrote : taken ≡ deeds_of taken.steps machine

data TextView (setup : Setup) (wanted : Report) (text input : List ℕ) : Status → Deeds → Type 0 where
  wrong_text : {place : ℕ} {taken : Deeds} → IsFirstWrong text place → ((threads : List ℕ) → ¬ (IsScheduleText text threads)) → taken ≡ no_deeds
      → TextView setup wanted text input (BadSchedule (Byte place)) taken
  too_long : {entries : ℕ} {given : List ℕ} {taken : Deeds} → IsScheduleText text given → entries ≡ length given → IsTooMuch wanted entries
      → taken ≡ no_deeds → TextView setup wanted text input (TooLong entries) taken
  with_run : {status : Status} {given : List ℕ} {taken : Deeds} → IsScheduleText text given → ¬ IsTooMuch wanted (length given)
      → IsRunTo setup (Replaying given) input status taken → TextView setup wanted text input status taken

abbrev View : Found → (input : List ℕ) → Status → Deeds → Type 0
View (missing name) input status taken = (status ≡ NoFile name) × (taken ≡ no_deeds)
View (with_text setup wanted text) input status taken = TextView setup wanted text input status taken
View (begins setup mode) input status taken = IsRunTo setup mode input status taken

pub told-is : {X : Type 0} (told : Option X) (x : X) (P : X → Type 0) → told ≡ Some x → IfSome told P → P x
told-is None x P is all = absurd (cc is)
told-is (Some y) x P is all = let same : y ≡ x = cc is in subst P same all

-- a settled status is that of the run
pub settled-end : {F : Type 0} (files : OfFiles F) (file : Option (List ℕ)) (end : End) (schedule : List ℕ) (old new : F) (status : Status)
    → Records files file end schedule old new status → IsSettled status → status ≡ ended_status end
settled-end files None end schedule old new status is settled = is.0
settled-end files (Some name) end schedule old new status (recording.no_memory is unwritten) settled =
    absurd (let P : Status → Type 0 = λ s. IsSettled s in subst P is settled)
settled-end files (Some name) end schedule old new status (recording.written some is has) settled = is
settled-end files (Some name) end schedule old new status (recording.failed some is fails) settled =
    absurd (let P : Status → Type 0 = λ s. IsSettled s in subst P is settled)

moved-run : (setup setup' : Setup) (mode mode' : Mode) (input : List ℕ) (status : Status) (taken : Deeds) → setup ≡ setup' → mode ≡ mode'
    → IsRunTo setup mode input status taken → IsRunTo setup' mode' input status taken
moved-run setup setup' mode mode' input status taken a b is =
    subst (λ (m : Mode). IsRunTo setup' m input status taken) b (subst (λ (s : Setup). IsRunTo s mode input status taken) a is)

ran-view : (asked : Asked) (told : Option Names) (names : Names) (setup : Setup) (mode : Mode) (status : Status) (input : List ℕ) (taken : Deeds)
    → told ≡ Some names → BeginsAs asked told setup mode → IsRunTo setup mode input status taken → View (found_by asked names) input status taken
ran-view (plain named) told names setup mode status input taken is asks ran =
    rw (tells-is told names named.script (Some asks.script) is asks.script_is) (moved-run setup _ mode _ input status taken asks.begins asks.chosen ran)
ran-view (replay named) told names setup mode status input taken is asks ran =
    rw (
      tells-is told names named.script (Some asks.script) is asks.there.script_is,
      tells-is told names named.schedule (Some asks.text)
          is asks.there.text_is,
    )
    (with_run asks.is_text asks.short (moved-run setup _ mode _ input status taken asks.begins asks.chosen ran))
ran-view (generate named) told names setup mode status input taken is asks ran = moved-run setup _ mode _ input status taken asks.0 asks.1 ran

-- a run is no debugging session
no-session : (wanted : Report) (file : List ℕ) → IsNoSession wanted → wanted ≡ Debug file → ⊥
no-session wanted file run is = let P : Report → Type 0 = λ r. IsNoSession r in subst P is run

missing-view : (asked : Asked) (told : Option Names) (names : Names) (name input : List ℕ) (taken : Deeds) → told ≡ Some names
    → IsMissing asked told name → ((named : Replay) → asked ≡ replay named → IsNoSession named.report) → taken ≡ no_deeds
    → View (found_by asked names) input (NoFile name) taken
missing-view (plain named) told names name input taken is absent runs empty = rw (tells-is told names named.script None is absent.1) (ap NoFile absent.0, empty)
missing-view (replay named) told names name input taken is (inl absent) runs empty =
    rw (tells-is told names named.script None is absent.1) (ap NoFile absent.0, empty)
missing-view (replay named) told names name input taken is (inr (inl absent)) runs empty =
    rw (tells-is told names named.script (Some absent.1.0) is absent.1.1, tells-is told names named.schedule None is absent.2) (ap NoFile absent.0, empty)
missing-view (replay named) told names name input taken is (inr (inr lacks)) runs empty = absurd (no-session named.report name (runs named refl) lacks.asked)
missing-view (generate named) told names name input taken is absent runs empty = absurd absent

wrong-view : (asked : Asked) (told : Option Names) (names : Names) (place : ℕ) (input : List ℕ) (taken : Deeds) → told ≡ Some names
    → HasWrongText asked told place → taken ≡ no_deeds → View (found_by asked names) input (BadSchedule (Byte place)) taken
wrong-view (plain named) told names place input taken is wrong empty = absurd wrong
wrong-view (replay named) told names place input taken is wrong empty =
    rw (
      tells-is told names named.script (Some wrong.script) is wrong.there.script_is,
      tells-is told names named.schedule
          (Some wrong.text) is wrong.there.text_is,
    )
    (wrong_text wrong.wrong wrong.no_text empty)
wrong-view (generate named) told names place input taken is wrong empty = absurd wrong

long-view : (asked : Asked) (told : Option Names) (names : Names) (entries : ℕ) (input : List ℕ) (taken : Deeds) → told ≡ Some names
    → HasLongText asked told entries → taken ≡ no_deeds → View (found_by asked names) input (TooLong entries) taken
long-view (plain named) told names entries input taken is long empty = absurd long
long-view (replay named) told names entries input taken is long empty =
    rw (
      tells-is told names named.script (Some long.script) is long.there.script_is,
      tells-is told names named.schedule
          (Some long.text) is long.there.text_is,
    )
    (too_long long.is_text long.counted long.too_long empty)
long-view (generate named) told names entries input taken is long empty = absurd long

refusal-view : {F : Type 0} (files : OfFiles F) (asked : Asked) (why : Refusal) (names : Names) (old new : F) (input : List ℕ) (taken : Deeds)
    → files.map old ≡ Some names → IsSettled (refused_status why) → IsRefusal files asked why old new
    → ((named : Replay) → asked ≡ replay named → IsNoSession named.report) → taken ≡ no_deeds
    → View (found_by asked names) input (refused_status why) taken
refusal-view files asked (refusal.NoFile name) names old new input taken is settled why runs empty =
    missing-view asked (files.map old) names name input taken is why runs empty
refusal-view files asked (refusal.BadText offset) names old new input taken is settled why runs empty =
    wrong-view asked (files.map old) names offset input taken is why empty
refusal-view files asked (refusal.TooLong entries) names old new input taken is settled why runs empty =
    long-view asked (files.map old) names entries input taken is why empty
refusal-view files asked refusal.Usage names old new input taken is settled why runs empty = absurd why
refusal-view files asked refusal.ReadFault names old new input taken is settled why runs empty = absurd settled
refusal-view files asked refusal.NoMemory names old new input taken is settled why runs empty = absurd settled

-- ---- what is reported

-- the bytes that follow the status line, by what was found
abbrev MoreView : Found → (input : List ℕ) → Status → (steps more : List ℕ) → Type 0
MoreView (missing name) input status steps more = more ≡ []
MoreView (with_text setup wanted text) input status steps more = IsReport wanted status setup (Some input) steps more
MoreView (begins setup mode) input status steps more = more ≡ []

ran-more : (asked : Asked) (told : Option Names) (names : Names) (setup : Setup) (mode : Mode) (status : Status) (input steps more : List ℕ)
    → told ≡ Some names → BeginsAs asked told setup mode → IsReport (report_of asked) status setup (Some input) steps more
    → MoreView (found_by asked names) input status steps more
ran-more (plain named) told names setup mode status input steps more is asks report =
    rw (tells-is told names named.script (Some asks.script) is asks.script_is) report
ran-more (replay named) told names setup mode status input steps more is asks report =
    rw (
      tells-is told names named.script (Some asks.script) is asks.there.script_is,
      tells-is told names named.schedule (Some asks.text)
          is asks.there.text_is,
    )
    (subst (λ (s : Setup). IsReport named.report status s (Some input) steps more) asks.begins report)
ran-more (generate named) told names setup mode status input steps more is asks report = report

refused-more : (found : Found) (why : Refusal) (input : List ℕ) → MoreView found input (refused_status why) [] []
refused-more (missing name) why input = refl
refused-more (with_text setup wanted text) why input = no-report wanted why setup input
refused-more (begins setup mode) why input = refl

one-more : (found : Found) (input : List ℕ) (status : Status) (steps one other : List ℕ)
    → MoreView found input status steps one → MoreView found input status steps other → one ≡ other
one-more (missing name) input status steps one other a b = a ∙ sym b
one-more (with_text setup wanted text) input status steps one other a b = one-report wanted status setup input steps one other a b
one-more (begins setup mode) input status steps one other a b = a ∙ sym b

module _ {F S K E : Type 0} (files : OfFiles F) (source : OfSource S) (output : OfSink K) (errors : OfSink E) where
  -- what an answer is by the words, and what its sinks got: on standard error its status line comes last
  record HasView (found : Found) (input : List ℕ) (began : Began S K E) (ended : Ended S K E) : Type 0 where
    deeds : Deeds
    steps : ended.schedule.threads ≡ deeds.steps
    view : View found input ended.status deeds
    out : Grows (output.got began.output) (output.got ended.output) deeds.out
    middle : E
    err : Grows (errors.got began.errors) (errors.got middle) deeds.err
    steady : errors.fault_count middle ≡ errors.fault_count began.errors
    more : List ℕ
    reported : MoreView found input ended.status deeds.steps more
    line : PutsLine errors (errors.fault_count began.errors) ended.status more middle ended.errors

  run-to : (asked : Asked) (names : Names) (old new : F) (began : Began S K E) (ended : Ended S K E) (input : List ℕ) → files.map old ≡ Some names
      → source.held began.input ≡ Some input → IsSettled ended.status
      → (is : HasRun files source output errors asked old new began ended) → HasView (found_by asked names) input began ended
  run-to asked names old new began ended input map_is told settled is =
      let same = settled-end files (record_of asked) is.finish.end is.finish.schedule.threads old new ended.status is.records settled in
      let has = told-is (source.held began.input) input (λ bytes. HasMachine source output errors is.setup is.mode began is.finish bytes)
      told is.leaves.has_machine in
      let still : IsSettled (ended_status is.finish.end) = let P : Status → Type 0 = λ s. IsSettled s in subst P same settled in
      let view = end-view is.finish.end is.mode has.machine is.finish.schedule.threads still has.ends in
      let Faithful : Bool → Type 0 =
      λ b. IsFaithful b (start_machine is.setup input) is.finish.schedule.threads (output.got began.output)
      (output.got is.finish.output) (errors.got began.errors) (errors.got is.finish.errors) has.machine in
      let faithful : Faithful false = subst Faithful (uncut is.finish.end still) has.faithful in
      let found : IsRunTo is.setup is.mode input (ended_status is.finish.end) (deeds_of is.finish.schedule.threads has.machine) =
      record { machine = has.machine; allowed = is.leaves.allowed; ran = has.ran; chosen = has.chosen; view = view; wrote = refl } in
      record {
        deeds = deeds_of is.finish.schedule.threads has.machine;
        steps = is.schedule;
        view = ran-view asked (files.map old) names is.setup is.mode ended.status input (deeds_of is.finish.schedule.threads has.machine) map_is is.begins
            (subst (λ (s : Status). IsRunTo is.setup is.mode input s (deeds_of is.finish.schedule.threads has.machine)) (sym same) found);
        out = subst (λ (sink : K). Grows (output.got began.output) (output.got sink) has.machine.out) (sym is.output) faithful.out;
        middle = is.finish.errors;
        err = faithful.err;
        steady = (is.leaves.writes_steady (not-write is.finish.end still)).1;
        more = is.more;
        reported = ran-more asked (files.map old) names is.setup is.mode ended.status input is.finish.schedule.threads is.more map_is is.begins
            (subst (λ (held : Option (List ℕ)). IsReport (report_of asked) ended.status is.setup held is.finish.schedule.threads is.more) told is.report);
        line = is.line;
      }

  view : (asked : Asked) (names : Names) (input : List ℕ) (old new : F) (began : Began S K E) (ended : Ended S K E)
      → files.map old ≡ Some names → source.held began.input ≡ Some input → IsSettled ended.status
      → ((named : Replay) → asked ≡ replay named → IsNoSession named.report)
      → AnswersTo files source output errors asked old new began ended → HasView (found_by asked names) input began ended
  view asked names input old new began ended is told settled runs (answer.debugged named same has) =
      absurd (no-session named.report has.file (runs named same) has.asked)
  view asked names input old new began ended is told settled runs (answer.ran ran) = run-to asked names old new began ended input is told settled ran
  view asked names input old new began ended is told settled runs (answer.refused why refuses untouched) =
      let still : IsSettled (refused_status why) = let P : Status → Type 0 = λ s. IsSettled s in subst P untouched.status settled in
      record {
        deeds = no_deeds;
        steps = untouched.no_step;
        view = subst (λ (s : Status). View (found_by asked names) input s no_deeds) (sym untouched.status)
            (refusal-view files asked why names old new input no_deeds is still refuses runs refl);
        out = subst (λ (sink : K). Grows (output.got began.output) (output.got sink) []) (sym untouched.output) (Grows-same (output.got began.output));
        middle = began.errors;
        err = Grows-same (errors.got began.errors);
        steady = refl;
        more = [];
        reported = subst (λ (s : Status). MoreView (found_by asked names) input s [] []) (sym untouched.status)
            (refused-more (found_by asked names) why input);
        line = untouched.line;
      }

-- ---- the answer is one

abbrev IsSame : Status → Status → Deeds → Deeds → Type 0
IsSame one other taken also = (one ≡ other) × (taken ≡ also)

-- the same steps come to the same end
same-steps : (setup : Setup) (mode : Mode) (input : List ℕ) (one other : Status) (taken also : Deeds) → IsRunTo setup mode input one taken
    → IsRunTo setup mode input other also → taken.steps ≡ also.steps → IsSame one other taken also
same-steps setup mode input one other taken also a b same =
    let steps = also.steps in
    let ran : Runs (start_machine setup input) steps a.machine = subst (λ (list : List ℕ). Runs (start_machine setup input) list a.machine) same a.ran in
    let machines : a.machine ≡ b.machine = same_run (start_machine setup input) a.machine b.machine steps ran b.ran in
    let moved : EndView mode b.machine steps one =
    subst (λ (m : Machine). EndView mode m steps one) machines (subst (λ (list : List ℕ). EndView mode a.machine list one) same a.view) in (
      same-end one other mode b.machine steps moved b.view,
      a.wrote ∙ ap (λ (list : List ℕ). deeds_of list a.machine) same ∙ ap (deeds_of steps) machines ∙ sym b.wrote,
    )

same-run-end : (setup : Setup) (mode : Mode) (input : List ℕ) (one other : Status) (taken also : Deeds)
    → IsRunTo setup mode input one taken → IsRunTo setup mode input other also → ((steps : ℕ) → mode ≡ Freely steps → taken.steps ≡ also.steps)
    → taken.steps ≡ also.steps
same-run-end setup (Replaying given) input one other taken also a b free =
    let stop = stopped one given a.machine taken.steps a.view in
    let stops = stopped other given b.machine also.steps b.view in
    same-way (start_machine setup input) a.machine b.machine taken.steps also.steps stop.rest stops.rest a.ran b.ran stop.stops stops.stops
    (sym stop.cut ∙ stops.cut)
same-run-end setup (InTurn steps) input one other taken also a b free =
    same-turns (start_machine setup input) a.machine b.machine 0 0 steps taken.steps also.steps a.chosen b.chosen a.ran b.ran (omega (arith, a.allowed))
    (omega (arith, b.allowed)) (rests one steps a.machine taken.steps a.view) (rests other steps b.machine also.steps b.view)
same-run-end setup (Freely steps) input one other taken also a b free = free steps refl

-- what a schedule's text is read as is too much, or it isn't
same-much : (wanted : Report) (text : List ℕ) (entries : ℕ) (given given' : List ℕ) → IsScheduleText text given → IsScheduleText text given'
    → entries ≡ length given → IsTooMuch wanted entries → ¬ IsTooMuch wanted (length given') → ⊥
same-much wanted text entries given given' is is' counted much short =
    short (subst (λ (n : ℕ). IsTooMuch wanted n) (counted ∙ ap length (one_list text given given' is is')) much)

same-text : (setup : Setup) (wanted : Report) (text input : List ℕ) (one other : Status) (taken also : Deeds)
    → TextView setup wanted text input one taken → TextView setup wanted text input other also → IsSame one other taken also
same-text setup wanted text input one other taken also (wrong_text {place = place} wrong no_text empty)
    (wrong_text {place = place'} wrong' no_text' empty') = (ap (λ (n : ℕ). BadSchedule (Byte n)) (one_place text place place' wrong wrong'), empty ∙ sym empty')
same-text setup wanted text input one other taken also (wrong_text wrong no_text empty) (too_long is counted much none) = absurd (no_text _ is)
same-text setup wanted text input one other taken also (wrong_text wrong no_text empty) (with_run is short ran) = absurd (no_text _ is)
same-text setup wanted text input one other taken also (too_long is counted much none) (wrong_text wrong no_text empty) = absurd (no_text _ is)
same-text setup wanted text input one other taken also (too_long {given = given} is counted much none)
    (too_long {given = given'} is' counted' much' none') =
    (ap TooLong (counted ∙ (ap length (one_list text given given' is is') ∙ sym counted')), none ∙ sym none')
same-text setup wanted text input one other taken also (too_long is counted much none) (with_run is' short ran) =
    absurd (same-much wanted text _ _ _ is is' counted much short)
same-text setup wanted text input one other taken also (with_run is short ran) (wrong_text wrong no_text empty) = absurd (no_text _ is)
same-text setup wanted text input one other taken also (with_run is short ran) (too_long is' counted much none) =
    absurd (same-much wanted text _ _ _ is' is counted much short)
same-text setup wanted text input one other taken also (with_run {given = given} is short ran) (with_run {given = given'} is' short' ran') =
    let lists : given ≡ given' = one_list text given given' is is' in
    let moved = subst (λ (list : List ℕ). IsRunTo setup (Replaying list) input one taken) lists ran in
    same-steps setup (Replaying given') input one other taken also moved ran'
    (same-run-end setup (Replaying given') input one other taken also moved ran' (λ steps is. absurd (cc is)))

same-view : (found : Found) (input : List ℕ) (one other : Status) (taken also : Deeds) → View found input one taken
    → View found input other also → ((setup : Setup) (steps : ℕ) → found ≡ begins setup (Freely steps) → taken.steps ≡ also.steps) → IsSame one other taken also
same-view (missing name) input one other taken also a b free = (a.0 ∙ sym b.0, a.1 ∙ sym b.1)
same-view (with_text setup wanted text) input one other taken also a b free = same-text setup wanted text input one other taken also a b
same-view (begins setup mode) input one other taken also a b free =
    same-steps setup mode input one other taken also a b
    (same-run-end setup mode input one other taken also a b (λ steps is. free setup steps (ap (λ (m : Mode). begins setup m) is)))

-- only a plain run chooses freely
only-plain : (asked : Asked) (names : Names) (setup : Setup) (steps : ℕ) (P : Type 0) → ((named : Plain) → asked ≡ plain named → P)
    → found_by asked names ≡ begins setup (Freely steps) → P
only-plain (plain named) names setup steps P then is = then named refl
only-plain (replay named) names setup steps P then is = go (names named.script) (names named.schedule) is
  where
    inner : (script : List ℕ) (text : Option (List ℕ)) → with_found (replay_setup named script) named.report named.schedule text ≡ begins setup (Freely steps) → P
    inner script None is = absurd (cc is)
    inner script (Some text) is = absurd (cc is)

    go : (script text : Option (List ℕ)) → replay_by named names script ≡ begins setup (Freely steps) → P
    go None text is = absurd (cc is)
    go (Some script) text is = inner script (names named.schedule) is
only-plain (generate named) names setup steps P then is = absurd (cc is)

unread-usage : (why : Refusal) (words : List (List ℕ)) → IsSettled (refused_status why) → IsWordRefusal why words
    → (refused_status why ≡ Usage) × ((asked : Asked) → ¬ WordsAskFor words asked)
unread-usage refusal.Usage words settled is = (refl, is)
unread-usage refusal.NoMemory words settled is = absurd settled
unread-usage (refusal.NoFile name) words settled is = absurd is
unread-usage (refusal.BadText offset) words settled is = absurd is
unread-usage (refusal.TooLong entries) words settled is = absurd is
unread-usage refusal.ReadFault words settled is = absurd is

-- wrong words are answered by `Usage`
wrong-words : (why : Refusal) (words : List (List ℕ)) (status : Status) → status ≡ refused_status why → IsSettled status
    → IsWordRefusal why words → (status ≡ Usage) × ((asked : Asked) → ¬ WordsAskFor words asked)
wrong-words why words status same settled is =
    let still : IsSettled (refused_status why) = let P : Status → Type 0 = λ s. IsSettled s in subst P same settled in
    let found = unread-usage why words still is in
    (same ∙ found.0, found.1)

module _ {F S K E : Type 0} (files : OfFiles F) (source : OfSource S) (output : OfSink K) (errors : OfSink E) where
  -- two answers that are explained alike
  explained : (found : Found) (input : List ℕ) (began again : Began S K E) (one other : Ended S K E)
      → HasView files source output errors found input began one → HasView files source output errors found input again other
      → ((setup : Setup) (steps : ℕ) → found ≡ begins setup (Freely steps) → one.schedule.threads ≡ other.schedule.threads)
      → IsSameAnswer output errors began again one other
  explained found input began again one other a b free =
      let same = same-view found input one.status other.status a.deeds b.deeds a.view b.view
      (λ setup steps is. sym a.steps ∙ (free setup steps is ∙ b.steps)) in
      let out : a.deeds.out ≡ b.deeds.out = ap (λ (d : Deeds). d.out) same.1 in
      let err : a.deeds.err ≡ b.deeds.err = ap (λ (d : Deeds). d.err) same.1 in
      let steps : a.deeds.steps ≡ b.deeds.steps = ap (λ (d : Deeds). d.steps) same.1 in
      let moved : MoreView found input other.status b.deeds.steps a.more =
      subst (λ (list : List ℕ). MoreView found input other.status list a.more) steps
      (subst (λ (s : Status). MoreView found input s a.deeds.steps a.more) same.0 a.reported) in
      let mores : a.more ≡ b.more = one-more found input other.status b.deeds.steps a.more b.more moved b.reported in
      record {
        status = same.0;
        steps = a.steps ∙ (ap (λ (d : Deeds). d.steps) same.1 ∙ sym b.steps);
        out = record {
          bytes = a.deeds.out;
          grew = a.out;
          grows = subst (λ (bytes : List ℕ). Grows (output.got again.output) (output.got other.output) bytes) (sym out) b.out;
        };
        err = λ stays rests.
            got-same errors (line_of one.status ++ a.more) (line_of other.status ++ b.more) a.deeds.err began.errors a.middle one.errors again.errors b.middle
            other.errors (ap₂ (λ (s : Status) (bytes : List ℕ). line_of s ++ bytes) same.0 mores)
            a.err (subst (λ (bytes : List ℕ). Grows (errors.got again.errors) (errors.got b.middle) bytes) (sym err) b.err)
            (line-put errors (errors.fault_count began.errors) one.status a.more a.middle one.errors a.steady stays a.line)
            (line-put errors (errors.fault_count again.errors) other.status b.more b.middle other.errors b.steady rests b.line);
      }

  -- words that can't be read
  untouched-same : (why reason : Refusal) (old new store kept : F) (began again : Began S K E) (one other : Ended S K E) → one.status ≡ other.status
      → IsUntouched files source output errors why old new began one → IsUntouched files source output errors reason store kept again other
      → IsSameAnswer output errors began again one other
  untouched-same why reason old new store kept began again one other same a b = record {
    status = same;
    steps = a.no_step ∙ sym b.no_step;
    out = record {
      bytes = [];
      grew = subst (λ (sink : K). Grows (output.got began.output) (output.got sink) []) (sym a.output) (Grows-same (output.got began.output));
      grows = subst (λ (sink : K). Grows (output.got again.output) (output.got sink) []) (sym b.output) (Grows-same (output.got again.output));
    };
    err = λ stays rests.
        got-same errors (line_of one.status ++ []) (line_of other.status ++ []) [] began.errors began.errors one.errors again.errors again.errors
        other.errors (ap (λ (s : Status). line_of s ++ []) same)
        (Grows-same (errors.got began.errors)) (Grows-same (errors.got again.errors))
        (line-put errors (errors.fault_count began.errors) one.status [] began.errors one.errors refl stays a.line)
        (line-put errors (errors.fault_count again.errors) other.status [] again.errors other.errors refl rests b.line);
  }

  pub one_answer : OneAnswerLaw files source output errors
  one_answer words names input old new store kept began again one other is also told heard s t (answer.unread why a idle) (answer.unread reason b still) free =
      untouched-same why reason old new store kept began again one other
      ((wrong-words why words one.status idle.status s a).0 ∙ sym (wrong-words reason words other.status still.status t b).0) idle still
  one_answer words names input old new store kept began again one other is also told heard s t (answer.unread why a idle) (answer.read asked reads b) free =
      absurd ((wrong-words why words one.status idle.status s a).1 asked reads)
  one_answer words names input old new store kept began again one other is also told heard s t (answer.read asked reads a) (answer.unread reason b still) free =
      absurd ((wrong-words reason words other.status still.status t b).1 asked reads)
  one_answer words names input old new store kept began again one other is also told heard s t (answer.read asked reads a)
      (answer.read repeated rereads b) free =
      let same : repeated ≡ asked = one_reading words repeated asked rereads reads in
      let moved : AnswersTo files source output errors asked store kept again other =
      subst (λ (x : Asked). AnswersTo files source output errors x store kept again other) same b in
      go (kind_of asked) moved
    where
      go : Kind asked → AnswersTo files source output errors asked store kept again other → IsSameAnswer output errors began again one other
      go (is_session named file plays wanted) moved =
          one-session files source output errors named file names old new store kept began again one other wanted is also s t
          (subst (λ (x : Asked). AnswersTo files source output errors x old new began one) plays a)
          (subst (λ (x : Asked). AnswersTo files source output errors x store kept again other) plays moved)
      go (is_run runs) moved =
          explained (found_by asked names) input began again one other
          (view files source output errors asked names input old new began one is told s runs a)
          (view files source output errors asked names input store kept again other also heard t runs moved)
          (λ setup steps begun. only-plain asked names setup steps (one.schedule.threads ≡ other.schedule.threads)
          (λ named plain_is. free named (subst (λ (x : Asked). WordsAskFor words x) plain_is reads)) begun)
