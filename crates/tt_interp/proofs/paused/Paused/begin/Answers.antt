use Rattle.std.proofs.Common.{◌≡◌, [], rules}
use Rattle.tt_evaluation.specs.declared.stack.TheConstants.{STEPS}
use Rattle.tt_frames.specs.Units.{fresh}
use Rattle.tt_interp.proofs.Following.{begun_on}
use Rattle.tt_interp.proofs.paused.Paused.begin.Goals as goal

pub returns-clause-leads : goal.returns-clause-leads
returns-clause-leads c =
    let stack = c.deref_mut.result.now in
    let none : stack.calls.items ≡ [] = search rules in
    let is : stack.state ≡ fresh c.args.me c.args.limit = search rules in
    let all : stack.steps ≡ STEPS = search rules in
    begun_on c.args.start c.args.me c.args.limit stack none is all c.in_ok-reached.ensures.leads
