use Rattle.std.proofs.Common.{◌≡◌, [], None}
use Rattle.tt_calls.specs.declared.start.Start.TheVariants as start
use Rattle.tt_shared.specs.State.{start_state}
use Rattle.tt_workers.proofs.RunLemmas.{begun-tied}
use Rattle.tt_workers.proofs.world.World.new.Goals as goal

pub returns-in-Ok-new-clause-tied : goal.returns-in-Ok-new-clause-tied
returns-in-Ok-new-clause-tied g c = λ count.
    let begins = c.in-Ok.ensures.begins in
    let desk : c.in-Ok-new.desk ≡ record {
      shared = start_state (start.Script c.args.setup.script);
      schedule = [];
      devices = record { input = c.args.input; ahead = []; output = c.args.output; errors = c.args.errors };
      kept = None;
    } =
    rw (← c.in-Ok.ensures.start) c.in-Ok-new.ensures.new in
    rw c.of-devices.ensures
    (begun-tied g.S.Source g.K.Sink g.E.Sink
    (record { setup = c.args.setup; steps = c.args.steps; devices = record { input = c.args.input; output = c.args.output; errors = c.args.errors } })
    c.in-Ok-new.desk c.in-Ok.roster begins.place count desk begins.pushed begins.fresh)
