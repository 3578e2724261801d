use Rattle.tt_session.proofs.FreelyLemmas.{leaves-freely}
use Rattle.tt_session.proofs.on_workers.run_freely.Goals as goal

pub returns : goal.returns
returns g c =
    rw c.end_of.ensures
    (leaves-freely g.S.Source g.K.Sink g.E.Sink c.args.setup c.args.steps c.args.input c.args.output c.args.errors c.run-end.result c.run-end.ensures.ran)
