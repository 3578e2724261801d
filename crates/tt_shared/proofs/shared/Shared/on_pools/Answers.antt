use Rattle.std.proofs.Common.{◌∙◌, ap, rules}
use Rattle.tt_shared.proofs.PoolCalls.{given}
use Rattle.tt_shared.proofs.shared.Shared.on_pools.Goals as goal

pub returns-clause-state : goal.returns-clause-state
returns-clause-state c =
    c.in_ok-applied.ensures.state
    ∙ ap (λ acted. acted.state)
    (given c.args.self.now _ c.args.thread c.args.call.now c.room-room.result c.is_marked-marked.result c.apply.new.self c.in_ok-gives.gives
    (search rules) (search rules) (search rules) (search rules) (search rules))

pub returns-clause-gives : goal.returns-clause-gives
returns-clause-gives c =
    c.in_ok-applied.ensures.gives
    ∙ ap (λ acted. acted.gives)
    (given c.args.self.now _ c.args.thread c.args.call.now c.room-room.result c.is_marked-marked.result c.apply.new.self c.in_ok-gives.gives
    (search rules) (search rules) (search rules) (search rules) (search rules))
