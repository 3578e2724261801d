use Rattle.std.proofs.Common.{rules}
use Rattle.tt_frames.specs.Loops.{after_next}
use Rattle.tt_frames.specs.Vocabulary.{same_ending}
use Rattle.tt_outcomes.specs.declared.ending.Ending.TheVariants as endings
use Rattle.tt_direct.proofs.Staying.{comes_now, stays_as}
use Rattle.tt_direct.proofs.loops.next_ended.Goals as goal

pub returns-in-Fine : goal.returns-in-Fine
returns-in-Fine c again kept held whole stack before on =
    stays_as (after_next again c.args.ending stack.state) (again stack.state) stack (search rules) on

pub returns-in-Broke : goal.returns-in-Broke
returns-in-Broke c again kept held whole stack before on =
    stays_as (after_next again c.args.ending stack.state) (same_ending (endings.Fine c.new.result) stack.state) stack (search rules) on

pub returns-in_ok-came-in_default : goal.returns-in_ok-came-in_default
returns-in_ok-came-in_default c again kept held whole stack before on =
    comes_now c.in_ok-came-in_default.came (same_ending c.args.ending stack.state) stack (search rules)
    (c.in_ok-came-in_default.ensures.ended stack.state)
    (stays_as (after_next again c.args.ending stack.state) (same_ending c.args.ending stack.state) stack (search rules) on)
