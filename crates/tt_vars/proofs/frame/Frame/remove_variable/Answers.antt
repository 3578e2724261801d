use Rattle.std.proofs.Common.{subst}
use Rattle.tt_vars.specs.inside.Ending.{KeepsLinks}
use Rattle.tt_vars.proofs.LinkLemmas.{keeps-taken}
use Rattle.tt_vars.proofs.frame.Frame.remove_variable.Goals as goal

pub returns-clause-links : goal.returns-clause-links
returns-clause-links c =
    let after = c.remove_at in
    subst (λ old. KeepsLinks old after.new.self) c.self.view_is
    (keeps-taken c.self.inside.names after.new.self c.args.place after.ensures.removed after.ensures.updates)
