use Rattle.std.proofs.Common.{rules, ◌≡◌, ◌∷◌, Some}
use Rattle.tt_threads.proofs.Turns.{after_one}
use Rattle.tt_threads.specs.Requests.{with_setting}
use Rattle.tt_threads.proofs.configure.Settings.with_all.Goals as goal

pub loop-option-preserved : goal.loop-option-preserved
loop-option-preserved c =
    let one : c.loop-option.rest.now ≡ c.in-Some.option.now ∷ c.in-Some.later.now = search rules in
    let two : c.in-Some.later.now ≡ c.in_ok-value.value.now ∷ c.in_ok-value.later.now = search rules in
    let next : with_setting c.in-Some.option.now c.in_ok-value.value.now c.loop-option.settings ≡ Some c.in_ok-settings.settings = search rules in
    after_one _ _ _ _ _ _ _ _ one two next c.loop-option.invariant
