use Rattle.std.proofs.Common.{◌≡◌, [], None}
use Rattle.tt_calls.specs.declared.start.Start.TheVariants as start
use Rattle.tt_core.proofs.StandLemmas.{begun}
use Rattle.tt_core.proofs.system.System.new.Goals as goal
use Rattle.tt_shared.specs.State.{start_state}

pub invariant_of-result : goal.invariant_of-result
invariant_of-result g c =
    let begins = c.in-Ok.ensures.begins in
    let desk : c.in-Ok-new.desk ≡ record {
      shared = start_state (start.Script c.args.setup.script);
      schedule = [];
      devices = record { input = c.args.input; ahead = []; output = c.args.output; errors = c.args.errors };
      kept = None;
    } =
    rw (← c.in-Ok.ensures.start) c.in-Ok-new.ensures.new in
    rw c.of-began.ensures
    (begun g.S.Source.held g.K.Sink.got g.E.Sink.got c.args.setup c.args.input c.args.output c.args.errors begins.interp c.in-Ok.crew
    c.in-Ok-new.desk desk begins.pushed begins.stands)
