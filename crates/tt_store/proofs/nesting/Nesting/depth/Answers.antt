use Rattle.std.proofs.Common.{arith, sym, subst, ◌+◌}
use Rattle.tt_store.proofs.Climbing.{LeadsOn, goes_on, at_end}
use Rattle.tt_store.proofs.nesting.Nesting.depth.Goals as goal

pub callers-preserved : goal.callers-preserved
callers-preserved c = (
  (omega arith),
  subst (λ frame. LeadsOn c.args.self.now (c.callers.depth + 1) frame c.args.self.now.current)
      (sym c.caller-frame.ensures.caller)
      (goes_on c.args.self.now c.callers.depth c.callers.frame c.args.self.now.current (omega arith) c.callers.invariant.1),
)

pub returns : goal.returns
returns c =
    at_end c.args.self.now c.callers.depth c.callers.frame c.args.self.now.current (omega arith) c.callers.invariant.1
