use Rattle.std.proofs.Common.{subst, sym}
use Rattle.tt_interp.specs.Interps as interps
use Rattle.tt_interp.specs.Interps.{Interpreter}
use Rattle.tt_workers.proofs.boxed_interp.BoxedInterp.new.Goals as goal

pub returns-clause-stands : goal.returns-clause-stands
returns-clause-stands c =
    subst (λ (interp : Interpreter). interps.StandsFor interp c.args.setup.now c.args.number c.args.start.now) (sym c.in_ok-new.ensures.ok)
    c.in_ok-interp.ensures.stands
