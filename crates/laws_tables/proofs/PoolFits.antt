-- What calls on pools are answered fits them.
use Rattle.std.proofs.Common.{◌≡◌, ◌&&◌, ◌||◌, ℕ, Bool, true, false, not, if◌then◌else◌, None, is_some, ap, sym, ◌∙◌, pos, negsuc, refl}
use Rattle.laws_tables.proofs.PoolRows.{Steps, by_cancels, by_counts, by_creates, by_ends, by_gets, by_gives, by_jobs, by_looks, by_posts, by_suspends}
use Rattle.laws_tables.proofs.Shapes.{first, second, third}
use Rattle.laws_tables.proofs.ThreadRows.{by_takes}
use Rattle.laws_tables.specs.Fitting.{Fits}
use Rattle.tt_calls.specs.declared.pool_call.PoolCall.{PoolCall}
use Rattle.tt_calls.specs.declared.pool_call.PoolCall.TheVariants as pool
use Rattle.tt_calls.specs.declared.request.Request.TheVariants as ask
use Rattle.tt_pools.specs.Calls as pools
use Rattle.tt_pools.specs.Pools.{PoolTable}
use Rattle.tt_shared.specs.Acts.{on_pools, pools_after}
use Rattle.tt_shared.specs.Enabled.{can_pool, has_event, is_look}
use Rattle.tt_shared.specs.Mail.{first_of}
use Rattle.tt_shared.specs.Sends.{takes}
use Rattle.tt_shared.specs.State.{State, is_marked, room}

by_act : (table : PoolTable) (t room : ℕ) (marked : Bool) (call : PoolCall) → Steps (Fits (ask.Pool call)) (pools.act table t room marked call).gives.step
by_act table t room marked (pool.Create least most init exit) =
    by_creates (Fits (ask.Pool (pool.Create least most init exit))) table (λ b rest. (1, second, refl)) least most init exit room (λ text. (0, first, refl))
    (λ is. (1, second, refl))
by_act table t room marked pool.Names = (0, first, refl)
by_act table t room marked (pool.Post text script detached) =
    by_posts (Fits (ask.Pool (pool.Post text script detached))) table (λ b rest. (1, second, refl)) text script detached room (λ text. (0, first, refl))
by_act table t room marked (pool.Look text listed) =
    by_looks (Fits (ask.Pool (pool.Look text listed))) table (λ b rest. (2, third, refl)) text listed (λ one other. (0, first, refl))
by_act table t room marked (pool.Cancel text listed) =
    by_cancels (Fits (ask.Pool (pool.Cancel text listed))) table (λ b rest. (1, second, refl)) text listed (λ one other. (0, first, refl))
by_act table t room marked (pool.Get text job) =
    by_gets (Fits (ask.Pool (pool.Get text job))) table (λ b rest. (1, second, refl)) text job (λ outcome. (0, first, refl))
by_act table t room marked (pool.Preserve text) =
    by_counts (Fits (ask.Pool (pool.Preserve text))) table (λ b rest. (1, second, refl)) (pos 1) text (λ text. (0, first, refl))
by_act table t room marked (pool.Release text) =
    by_counts (Fits (ask.Pool (pool.Release text))) table (λ b rest. (1, second, refl)) (negsuc 0) text (λ text. (0, first, refl))
by_act table t room marked (pool.Suspend text on) =
    by_suspends (Fits (ask.Pool (pool.Suspend text on))) table (λ b rest. (1, second, refl)) on text (0, first, refl)
by_act table t room marked (pool.JobTake text) =
    by_jobs (Fits (ask.Pool (pool.JobTake text))) table (λ b rest. (2, third, refl)) t marked text (λ n script detached. (0, first, refl)) (1, second, refl)
by_act table t room marked (pool.JobDone text n outcome) =
    by_ends (Fits (ask.Pool (pool.JobDone text n outcome))) table (λ b rest. (1, second, refl)) t text n outcome (0, first, refl) (1, second, refl)

-- who waits has an event, and asked for jobs that are done
by_event : (state : State) (t : ℕ) (call : PoolCall) → is_look call && has_event state t ≡ true →
    Fits (ask.Pool call) (takes state t).gives.reply
by_event state t (pool.Look text listed) can =
    by_takes (Fits (ask.Pool (pool.Look text listed))) state t (λ event. (1, second, refl)) (λ none. absurd (not_none none can))
  where
    not_none : first_of state.queues t ≡ None → is_some (first_of state.queues t) ≡ true → ⊥
    not_none none can = let both : false ≡ true = sym (ap is_some none) ∙ can in cc both
by_event state t call can = absurd (cc can)

pub pool_fits : (state : State) (t : ℕ) (call : PoolCall) → can_pool state t call ≡ true → Fits (ask.Pool call) (on_pools state t call).gives.reply
pool_fits state t call can = go (pools.waits state.pools (is_marked state t) call) can
  where
    go : (waits : Bool) → not waits || is_look call && has_event state t ≡ true
        → Fits (ask.Pool call)
        (pools_after state t (if waits then record { table = state.pools; gives = pools.waiting } else
        pools.act state.pools t (room state) (is_marked state t) call)).gives.reply
    go true can = by_event state t call can
    go false can =
        let answered = pools.act state.pools t (room state) (is_marked state t) call in
        by_gives (Fits (ask.Pool call)) (record state { pools = answered.table }) t answered.gives (by_act state.pools t (room state) (is_marked state t) call)
