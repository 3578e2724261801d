use Rattle.std.proofs.Common.{◌≡◌, ◌≢◌, ◌+◌, ◌≤◌, [], length, ap, arith}
use Rattle.std.proofs.lemmas.Bool.Decides.{nat_tests}
use Rattle.tt_schedule.specs.inside.Runs.{LastDiffers, end_of}
use Rattle.tt_schedule.specs.ScheduleText.{most_steps}
use Rattle.tt_schedule.proofs.ReadLemmas.{none-may, none-next, read-wrong, read-refused, read-more, rest-within, stops-before}
use Rattle.tt_schedule.proofs.reading.read_lines.Goals as goal

pub returns-in_default : goal.returns-in_default
returns-in_default c =
    let some : c.loop-rest.rest.now ≢ [] = λ none. let zero : length c.loop-rest.rest.now ≡ 0 = ap length none in grind (arith, nat_tests) in
    record {
      exact = (
        rest-within c.args.text.now c.loop-rest.runs.items c.loop-rest.rest.now c.loop-rest.invariant,
        stops-before c.args.text.now c.loop-rest.runs.items c.loop-rest.rest.now c.loop-rest.invariant some (none-next _ _ c.in_default.ensures.none),
        read-wrong c.args.text.now c.loop-rest.runs.items c.loop-rest.rest.now c.loop-rest.invariant some c.in_default.ensures.none,
      );
    }

pub returns-then-not-can_follow : goal.returns-then-not-can_follow
returns-then-not-can_follow c =
    let found = c.in-Some.ensures.found in
    let refused = rw c.deref.ensures.value at c.if-not-can_follow.ensures in
    let not : LastDiffers c.loop-rest.runs.items c.in-Some.line.thread × (end_of 0 c.loop-rest.runs.items + c.in-Some.line.steps ≤ most_steps) → ⊥ = λ may. let no = refused.1 may in cc in
    let some : c.loop-rest.rest.now ≢ [] = λ none. let zero : length c.loop-rest.rest.now ≡ 0 = ap length none in grind (arith, nat_tests) in
    record {
      exact = (
        rest-within c.args.text.now c.loop-rest.runs.items c.loop-rest.rest.now c.loop-rest.invariant,
        stops-before c.args.text.now c.loop-rest.runs.items c.loop-rest.rest.now c.loop-rest.invariant some
            (none-may c.loop-rest.runs.items c.loop-rest.rest.now c.in-Some.after.now c.in-Some.line c.loop-rest.invariant.runs found.0 found.1 not),
        read-refused c.args.text.now c.loop-rest.runs.items c.loop-rest.rest.now c.in-Some.after.now c.in-Some.line c.loop-rest.invariant found.0 found.1 not,
      );
    }

pub loop-rest-preserved : goal.loop-rest-preserved
loop-rest-preserved c =
    let found = c.in-Some.ensures.found in
    read-more c.args.text.now c.loop-rest.runs.items c.add_line.new.runs.items c.loop-rest.rest.now c.in-Some.after.now c.in-Some.line c.loop-rest.invariant found.0 found.1 c.in_ok-add_line.ensures.runs c.in_ok-add_line.ensures.lines
