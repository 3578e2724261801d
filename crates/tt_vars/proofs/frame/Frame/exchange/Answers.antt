use Rattle.std.proofs.Common.{rules}
use Rattle.tt_vars.proofs.FrameLemmas.{with_same_frame}
use Rattle.tt_vars.proofs.LinkLemmas.{keeps-through}
use Rattle.tt_vars.proofs.frame.Frame.exchange.Goals as goal

pub returns-in-Some-clause-unchanged : goal.returns-in-Some-clause-unchanged
returns-in-Some-clause-unchanged c = search (with_same_frame, rules)

pub returns-in-Some-clause-links : goal.returns-in-Some-clause-links
returns-in-Some-clause-links c = search (keeps-through, rules)
