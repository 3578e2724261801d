use Rattle.std.proofs.Common.{rules}
use Rattle.tt_interp.proofs.Following.{stood}
use Rattle.tt_interp.proofs.settling.begun.Goals as goal

pub returns-clause-leads : goal.returns-clause-leads
returns-clause-leads c =
    stood c.standing_of.result c.in_ok-stack.reached c.in_ok-stack.stack (search rules) c.in_ok-stack.ensures.leads
