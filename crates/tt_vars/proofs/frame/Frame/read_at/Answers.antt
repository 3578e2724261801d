use Rattle.std.proofs.Common.{rules}
use Rattle.tt_vars.proofs.FrameLemmas.{set_value_at-same}
use Rattle.tt_vars.proofs.frame.Frame.read_at.Goals as goal

pub returns-clause-same : goal.returns-clause-same
returns-clause-same c = search (set_value_at-same, rules)
