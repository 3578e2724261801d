use Rattle.std.proofs.Common.{◌∙◌, ap}
use Rattle.tt_debug.proofs.DebugLemmas.{begun}
use Rattle.tt_debug.proofs.debug.started.Goals as goal
use Rattle.tt_devices.specs.Memory.{Collected, Supply}

pub returns-in-Ok : goal.returns-in-Ok
returns-in-Ok c = record {
  run = begun c.args.setup.now c.args.given.now.threads c.in-Ok.run' c.new-input.result c.new-output.result c.new-errors.result
      (c.in-Ok.ensures.setup ∙ c.in_ok-setup.ensures) c.in-Ok.ensures.given c.in-Ok.ensures.no_step
      (ap (λ (source : Supply). source.left) c.new-input.ensures ∙ c.new.ensures.items)
      (ap (λ (sink : Collected). sink.got) c.new-output.ensures)
      (ap (λ (sink : Collected). sink.got) c.new-errors.ensures);
}
