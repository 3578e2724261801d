use Rattle.tt_core.specs.inside.Crew.{is_ready}
use Rattle.tt_core.proofs.CrewLemmas.{beyond-ready, turn-above, turn-below, zero-ready}
use Rattle.tt_core.proofs.system.next_ready.Goals as goal

pub returns-in-Some : goal.returns-in-Some
returns-in-Some g c = turn-above (is_ready c.args.desk.now c.args.crew.now) c.args.after c.len-last.result c.in-Some.next c.in-Some.ensures

pub returns-in-None : goal.returns-in-None
returns-in-None g c =
    turn-below (is_ready c.args.desk.now c.args.crew.now) c.args.after c.len-last.result c.least.result c.first_ready.result
    (zero-ready c.args.desk.now c.args.crew.now) (λ number above. beyond-ready c.args.desk.now c.args.crew.now number (rw (← c.len-last.ensures) above))
    c.least.ensures c.in-None.ensures c.first_ready.ensures
