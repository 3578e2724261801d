-- That what a replay reports of itself is one.
use Rattle.std.proofs.Common.{◌≡◌, ◌∙◌, ℕ, List, [], ◌++◌, length, take, Some, refl, sym, ap, ap₂, subst}
use Rattle.std.specs.List.{flat_map}
use Rattle.tt_before.proofs.RaceLawProofs as of_races
use Rattle.tt_before.specs.RaceLists.{AreRacesOf}
use Rattle.tt_before.specs.Steps.{Entry}
use Rattle.tt_before.specs.declared.race.Race.{Race}
use Rattle.tt_before.specs.declared.race.Races.{Races as AllRaces}
use Rattle.tt_kept.specs.declared.setup.Setup.{Setup}
use Rattle.tt_machine.proofs.Steps.{same_run}
use Rattle.tt_machine.proofs.WaitingLists as of_waiting
use Rattle.tt_machine.specs.Machine.{Machine, start_machine}
use Rattle.tt_reports.specs.RaceText.{count_line, race_line, races_text_of}
use Rattle.tt_reports.specs.WaitsText.{IsWaitsText, deadlock_line, waits_line}
use Rattle.tt_waiting.specs.Report.{IsWaitsReport}
use Rattle.tt_waits.proofs.WaitLawProofs.{one_list_law}
use Rattle.tt_waits.specs.Waiting.{Waiting, edges_of}
use Rattle.tt_words.specs.Asked.{Report, NoReport, Waits, Races, Debug}
use Rattle.tt_session.proofs.TellingLemmas.{one_entries}
use Rattle.tt_session.specs.Reporting.{IsReport, RacesAfter, ReportsRaces, ReportsWaits, WaitsAfter}
use Rattle.tt_session.specs.Status.{refused_status}
use Rattle.tt_session.specs.declared.status.Refusal.{Refusal}
use Rattle.tt_session.specs.declared.status.Refusal.TheVariants as refusal
use Rattle.tt_session.specs.declared.status.Status.{Status}
use Rattle.tt_session.specs.declared.status.Status.TheVariants as status

-- ---- who waits for whom

one-waits-text : (waiting : List Waiting) (one other : List ℕ) → IsWaitsText waiting one → IsWaitsText waiting other → one ≡ other
one-waits-text waiting one other a b =
    let caught : a.caught ≡ b.caught = one_list_law (edges_of waiting) a.caught b.caught a.are_caught b.are_caught in
    a.is_text ∙ (ap (λ (list : List ℕ). flat_map waits_line waiting ++ deadlock_line list) caught ∙ sym b.is_text)

one-waits-report : (machine : Machine) (one other : List ℕ) → IsWaitsReport one machine → IsWaitsReport other machine → one ≡ other
one-waits-report machine one other a b =
    let lists : b.waiting ≡ a.waiting = of_waiting.one_list machine b.waiting a.waiting b.are a.are in
    one-waits-text a.waiting one other a.is_text (subst (λ (list : List Waiting). IsWaitsText list other) lists b.is_text)

one-waits : (setup : Setup) (input schedule one other : List ℕ)
    → ReportsWaits setup input schedule one → ReportsWaits setup input schedule other → one ≡ other
one-waits setup input schedule one other a b =
    let same : b.machine ≡ a.machine = same_run (start_machine setup input) b.machine a.machine schedule b.ran a.ran in
    one-waits-report a.machine one other a.report (subst (λ (machine : Machine). IsWaitsReport other machine) same b.report)

-- ---- races

one-races-text : (entries : List Entry) (one other : AllRaces) → AreRacesOf entries one → AreRacesOf entries other → races_text_of one ≡ races_text_of other
one-races-text entries one other a b =
    let all : a.all ≡ b.all = of_races.one_list entries a.all b.all a.are_all b.are_all in
    let items : one.first.items ≡ other.first.items = a.first ∙ (ap (λ (list : List Race). take 100 list) all ∙ sym b.first) in
    let counts : one.count ≡ other.count = a.counted ∙ (ap (λ (list : List Race). length list) all ∙ sym b.counted) in
    ap₂ (λ (list : List Race) (count : ℕ). flat_map race_line list ++ count_line count) items counts

one-races : (setup : Setup) (input schedule one other : List ℕ)
    → ReportsRaces setup input schedule one → ReportsRaces setup input schedule other → one ≡ other
one-races setup input schedule one other a b =
    let same : b.entries ≡ a.entries = one_entries (start_machine setup input) b.machine a.machine schedule b.entries a.entries b.are a.are in
    let found : AreRacesOf a.entries b.races = subst (λ (entries : List Entry). AreRacesOf entries b.races) same b.found in
    a.text ∙ (one-races-text a.entries a.races b.races a.found found ∙ sym b.text)

-- ---- all of them

both-none : (one other : List ℕ) → one ≡ [] → other ≡ [] → one ≡ other
both-none one other a b = a ∙ sym b

waits-once : (how : Status) (setup : Setup) (input schedule one other : List ℕ)
    → WaitsAfter how setup (Some input) schedule one → WaitsAfter how setup (Some input) schedule other → one ≡ other
waits-once (status.Done code) setup input schedule one other a b = both-none one other a b
waits-once status.Usage setup input schedule one other a b = both-none one other a b
waits-once (status.NoFile name) setup input schedule one other a b = both-none one other a b
waits-once (status.BadSchedule place) setup input schedule one other a b = both-none one other a b
waits-once (status.TooLong entries) setup input schedule one other a b = both-none one other a b
waits-once status.ScheduleEnded setup input schedule one other a b = one-waits setup input schedule one other a b
waits-once status.Stalled setup input schedule one other a b = both-none one other a b
waits-once (status.StepLimit steps) setup input schedule one other a b = both-none one other a b
waits-once status.ReadFault setup input schedule one other a b = both-none one other a b
waits-once status.WriteFault setup input schedule one other a b = both-none one other a b
waits-once status.NoMemory setup input schedule one other a b = both-none one other a b

races-once : (how : Status) (setup : Setup) (input schedule one other : List ℕ)
    → RacesAfter how setup (Some input) schedule one → RacesAfter how setup (Some input) schedule other → one ≡ other
races-once (status.Done code) setup input schedule one other a b = one-races setup input schedule one other a b
races-once status.Usage setup input schedule one other a b = both-none one other a b
races-once (status.NoFile name) setup input schedule one other a b = both-none one other a b
races-once (status.BadSchedule place) setup input schedule one other a b = both-none one other a b
races-once (status.TooLong entries) setup input schedule one other a b = both-none one other a b
races-once status.ScheduleEnded setup input schedule one other a b = one-races setup input schedule one other a b
races-once status.Stalled setup input schedule one other a b = both-none one other a b
races-once (status.StepLimit steps) setup input schedule one other a b = both-none one other a b
races-once status.ReadFault setup input schedule one other a b = both-none one other a b
races-once status.WriteFault setup input schedule one other a b = both-none one other a b
races-once status.NoMemory setup input schedule one other a b = both-none one other a b

pub one-report : (wanted : Report) (how : Status) (setup : Setup) (input schedule one other : List ℕ)
    → IsReport wanted how setup (Some input) schedule one → IsReport wanted how setup (Some input) schedule other → one ≡ other
one-report NoReport how setup input schedule one other a b = both-none one other a b
one-report Waits how setup input schedule one other a b = waits-once how setup input schedule one other a b
one-report Races how setup input schedule one other a b = races-once how setup input schedule one other a b
one-report (Debug file) how setup input schedule one other a b = both-none one other a b

-- ---- nothing is reported of a call that had no run

no-waits : (why : Refusal) (setup : Setup) (input : List ℕ) → WaitsAfter (refused_status why) setup (Some input) [] []
no-waits refusal.Usage setup input = refl
no-waits (refusal.NoFile name) setup input = refl
no-waits (refusal.BadText offset) setup input = refl
no-waits (refusal.TooLong entries) setup input = refl
no-waits refusal.ReadFault setup input = refl
no-waits refusal.NoMemory setup input = refl

no-races : (why : Refusal) (setup : Setup) (input : List ℕ) → RacesAfter (refused_status why) setup (Some input) [] []
no-races refusal.Usage setup input = refl
no-races (refusal.NoFile name) setup input = refl
no-races (refusal.BadText offset) setup input = refl
no-races (refusal.TooLong entries) setup input = refl
no-races refusal.ReadFault setup input = refl
no-races refusal.NoMemory setup input = refl

pub no-report : (wanted : Report) (why : Refusal) (setup : Setup) (input : List ℕ) → IsReport wanted (refused_status why) setup (Some input) [] []
no-report NoReport why setup input = refl
no-report Waits why setup input = no-waits why setup input
no-report Races why setup input = no-races why setup input
no-report (Debug file) why setup input = refl
