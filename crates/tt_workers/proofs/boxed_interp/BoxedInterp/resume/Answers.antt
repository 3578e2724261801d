use Rattle.std.proofs.Common.{subst}
use Rattle.tt_interp.specs.Interps as interps
use Rattle.tt_interp.specs.Interps.{Interpreter}
use Rattle.tt_workers.proofs.boxed_interp.BoxedInterp.resume.Goals as goal

pub returns-clause-stands : goal.returns-clause-stands
returns-clause-stands c =
    subst (λ (old : Interpreter). interps.GoesOn c.resume.new.self old c.args.reply) c.self.view_is
    (subst (λ (old : Interpreter). interps.GoesOn c.resume.new.self old c.args.reply) c.deref_mut.ensures.value c.in_ok-resume.ensures.stands)
