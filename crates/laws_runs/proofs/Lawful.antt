-- Every run is lawful.
use Rattle.std.proofs.Common.{List, [], ◌∷◌, flat_map, arith, sym, subst}
use Rattle.std.proofs.lemmas.List.Elements.{All-cons, All-nil, All-weaker}
use Rattle.std.specs.List.{All}
use Rattle.laws_runs.proofs.Finished.{AfterBegin, finished_after}
use Rattle.laws_runs.proofs.Threads.{at_start}
use Rattle.laws_runs.specs.Lawful.{LawfulLaw}
use Rattle.laws_pools.proofs.Kept.{jobs_kept}
use Rattle.laws_sends.proofs.Cuts.{Along, at_cut}
use Rattle.laws_sends.proofs.Kept.{sends_kept}
use Rattle.laws_shared.proofs.ArraysAlone.{arrays_alone}
use Rattle.laws_shared.proofs.Drawn.{up_along}
use Rattle.laws_shared.proofs.GoesOn.{goes_on}
use Rattle.laws_shared.proofs.Orderly.{orderly}
use Rattle.laws_shared.proofs.Pipes.{piped}
use Rattle.laws_shared.specs.Actions.{Action, Acts, Moment, NumbersFit, Reached, after, moments, more, none}
use Rattle.laws_shared.specs.Happenings.{Began, Finished, Got, Set, happenings, happenings_by}
use Rattle.laws_shared.specs.Orderly.{IsOrderly, KeepsArrays, KeepsChannels, KeepsLocks}
use Rattle.tt_calls.specs.declared.start.Start.TheVariants as start
use Rattle.tt_machine.proofs.RunActionLemmas.{few_channels, has_actions}
use Rattle.tt_machine.specs.Machine.{start_machine}
use Rattle.tt_machine.specs.RunActions.{run_actions}
use Rattle.tt_shared.specs.State.{State, start_state}

all_orderly : (old new : State) (actions : List Action) → Acts old actions new → Reached old → NumbersFit new → All IsOrderly (moments old actions)
all_orderly old new [] none reached fits = All-nil IsOrderly
all_orderly old new (action ∷ actions) (more can rest) reached fits =
    let here : Moment = record { before = old; action = action } in
    let up = (up_along (after old action) new actions rest).up in
    All-cons IsOrderly here (moments (after old action) actions)
    (orderly here reached can (omega (arith, up, fits)))
    (all_orderly (after old action) new actions rest (goes_on old action reached can) fits)

pub lawful_law : LawfulLaw
lawful_law setup schedule small input machine ran =
    let begun = start_machine setup input in
    let main = start.Script setup.script in
    let actions = run_actions ran in
    let has = has_actions begun machine schedule ran in
    let sends = sends_kept main actions machine.shared has.acts in
    let fits : NumbersFit machine.shared = omega (arith, small, few_channels setup input machine schedule ran) in
    let all = all_orderly begun.shared machine.shared actions has.acts (record { main = main; actions = []; acts = none }) fits in
    let hs = happenings (start_state main) actions in
    let finished : Along AfterBegin [] hs =
    subst (λ (list : List Moment). Along AfterBegin [] (flat_map happenings_by list)) (sym has.before)
    (finished_after begun machine schedule ran (at_start setup input)) in
    record {
      begins = record {
        once = sends.once.begins_once;
        posted = λ before rest n t is. (sends.after before rest (Began n t) is).posted;
      };
      order = λ before rest n k t is tail also less. (sends.after before rest (Began n t) is).in_order k tail also less;
      answers = record {
        ends_once = sends.once.ends_once;
        answered_once = sends.once.answered_once;
        finished = λ before rest n outcome is. at_cut AfterBegin [] hs before rest (Finished n outcome) finished is;
        got = λ before rest n t answered is. sends.after before rest (Got n t answered) is;
        set = λ before rest n t value is. sends.after before rest (Set n t value) is;
      };
      arrays = All-weaker IsOrderly KeepsArrays (λ moment is. is.arrays) (moments begun.shared actions) all;
      array_replies = arrays_alone begun.shared machine.shared actions has.acts;
      locks = All-weaker IsOrderly KeepsLocks (λ moment is. is.locks) (moments begun.shared actions) all;
      channels = All-weaker IsOrderly KeepsChannels (λ moment is. is.channels) (moments begun.shared actions) all;
      pipes = λ id. piped main actions machine.shared id has.acts fits;
      jobs = λ pool. jobs_kept main actions machine.shared pool has.acts;
    }
