-- A call on pools, by what the pools say of it.
use Rattle.std.proofs.Common.{◌≡◌, ℕ, Bool, refl}
use Rattle.tt_calls.specs.declared.pool_call.PoolCall.{PoolCall}
use Rattle.tt_pools.specs.Calls as pools
use Rattle.tt_pools.specs.Pools.{PoolTable}
use Rattle.tt_pools.specs.declared.step.PoolStep.{PoolStep}
use Rattle.tt_shared.specs.Acts.{gives_of, on_pools}
use Rattle.tt_shared.specs.State.{State, is_marked, room}

pub given : (state after : State) (t : ℕ) (call : PoolCall) (most : ℕ) (marked : Bool) (table : PoolTable) (gives : PoolStep) →
    after ≡ record state { pools = table } → most ≡ room state → marked ≡ is_marked state t →
    table ≡ (pools.act_or_wait state.pools t most marked call).table → gives ≡ (pools.act_or_wait state.pools t most marked call).gives →
    gives_of after t gives ≡ on_pools state t call
given state after t call most marked table gives after_is most_is marked_is table_is gives_is = rw (after_is, table_is, gives_is, most_is, marked_is) refl
