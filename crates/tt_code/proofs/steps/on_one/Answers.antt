use Rattle.std.proofs.Common.{rules}
use Rattle.tt_code.proofs.Numbers.{one_applied}
use Rattle.tt_code.proofs.steps.on_one.Goals as goal

pub returns-in-Ok : goal.returns-in-Ok
returns-in-Ok c =
    one_applied c.args.op _ _ c.args.a.now (search rules) c.in_ok-a.ensures.written c.requires.numbers c.requires.count (search rules)
