use Rattle.std.proofs.Common.{rules}
use Rattle.tt_vars.proofs.LinkLemmas.{keeps-without}
use Rattle.tt_vars.proofs.frame.Frame.remove_element.Goals as goal

pub returns-clause-links : goal.returns-clause-links
returns-clause-links c = keeps-without c.args.self.now c.match-at_mut.self-inside.names c.args.place c.args.element.now (search rules)
