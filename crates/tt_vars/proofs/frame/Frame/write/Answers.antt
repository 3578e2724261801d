use Rattle.std.proofs.Common.{rules}
use Rattle.tt_vars.proofs.FrameLemmas.{puts-through, with_same_frame}
use Rattle.tt_vars.proofs.LinkLemmas.{keeps-new, keeps-through}
use Rattle.tt_vars.proofs.frame.Frame.write.Goals as goal

pub returns-in-Some-clause-written : goal.returns-in-Some-clause-written
returns-in-Some-clause-written c = search (puts-through, rules)

pub returns-in-Some-clause-unchanged : goal.returns-in-Some-clause-unchanged
returns-in-Some-clause-unchanged c = search (with_same_frame, rules)

pub returns-in-Some-clause-links : goal.returns-in-Some-clause-links
returns-in-Some-clause-links c = search (keeps-through, rules)

pub returns-clause-links : goal.returns-clause-links
returns-clause-links c =
    keeps-new c.args.self.now c.insert.new.self c.args.name c.in_ok-variable.variable (search rules) (search rules) (search rules)
