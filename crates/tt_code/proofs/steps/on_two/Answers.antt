use Rattle.std.proofs.Common.{rules}
use Rattle.tt_code.proofs.Numbers.{two_applied}
use Rattle.tt_code.proofs.steps.on_two.Goals as goal

pub returns-in-Ok : goal.returns-in-Ok
returns-in-Ok c =
    two_applied c.args.op _ _ _ c.args.a.now c.args.b.now (search rules) (search rules) c.in_ok-a.ensures.written c.in_ok-b.ensures.written
    c.requires.numbers c.requires.count (search rules)
