use Rattle.std.proofs.Common.{◌≡◌, rules}
use Rattle.tt_workers.proofs.RunLemmas.{finished}
use Rattle.tt_workers.specs.Ran.{end_or_memory}
use Rattle.tt_workers.proofs.world.World.finish.Goals as goal

pub returns-clause-ran : goal.returns-clause-ran
returns-clause-ran g c = λ notes tied.
    let ends : c.unwrap_or.result ≡ end_or_memory c.self.inside.end = search rules in
    let is = rw (← c.self.view_is) at tied in
    rw (← c.self.view_is)
    (finished g.S.Source g.K.Sink g.E.Sink _ c.self.inside.desk c.self.inside.roster c.self.inside.end notes _ ends
    c.finish-schedule.ensures.schedule c.finish-schedule.ensures.devices is)
