use Rattle.std.proofs.Common.{arith, rules, ◌∙◌, ap, ◌+◌, ◌-◌}
use Rattle.tt_store.specs.Levels.{above}
use Rattle.tt_store.proofs.Climbing.{one_less}
use Rattle.tt_store.proofs.nesting.Nesting.above.Goals as goal

pub callers-preserved : goal.callers-preserved
callers-preserved c = (
  (search rules),
  (ap (λ frame. above c.args.self.now (c.args.count - (c.callers.counter + 1)) frame) c.caller-frame.ensures.caller
      ∙ (one_less c.args.self.now c.args.count c.callers.counter c.callers.frame (omega arith) (omega arith)
      ∙ c.callers.invariant.1)),
)
