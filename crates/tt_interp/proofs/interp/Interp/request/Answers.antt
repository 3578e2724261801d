use Rattle.std.proofs.Common.{rules}
use Rattle.tt_interp.proofs.Following.{asks_now, asks_request, ends_now, ends_request}
use Rattle.tt_interp.proofs.interp.Interp.request.Goals as goal

pub returns-in-Asks : goal.returns-in-Asks
returns-in-Asks c = record {
  asks = asks_now c.args.self.now.kept c.args.self.now.standing c.in-Asks.stack c.get.result.now (search rules);
  is = asks_request c.args.self.now.standing c.in-Asks.stack c.get.result.now (search rules);
}

pub returns-in-Over : goal.returns-in-Over
returns-in-Over c = record {
  asks = ends_now c.args.self.now.kept c.args.self.now.standing c.in-Over.stack c.in-Over.ending c.self.inside.last (search rules) (search rules);
  is = ends_request c.args.self.now.standing c.in-Over.stack c.in-Over.ending c.self.inside.last (search rules) (search rules);
}
