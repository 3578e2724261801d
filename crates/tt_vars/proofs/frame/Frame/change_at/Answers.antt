use Rattle.std.proofs.Common.{rules}
use Rattle.tt_vars.proofs.ChangeLemmas.{in-frame}
use Rattle.tt_vars.proofs.LinkLemmas.{keeps-set_at}
use Rattle.tt_vars.proofs.frame.Frame.change_at.Goals as goal

pub returns-clause-changed : goal.returns-clause-changed
returns-clause-changed g c = search (in-frame, rules)

pub returns-clause-links : goal.returns-clause-links
returns-clause-links g c = search (keeps-set_at, rules)
