-- What a command asks is not refused with the empty text, row by row.
use Rattle.std.proofs.Common.{◌≡◌, ◌∙◌, ◌<◌, ◌^◌, ℕ, Bool, true, false, not, if◌then◌else◌, List, Option, Some, ap, sym, pos, negsuc}
use Rattle.laws_tables.proofs.ChannelRows as channel_rows
use Rattle.laws_tables.proofs.Commands.{asked_fine}
use Rattle.laws_tables.proofs.Found.{found_is, found_row, named_row, own_id}
use Rattle.laws_tables.proofs.LockRows as lock_rows
use Rattle.laws_tables.proofs.PoolRows as pool_rows
use Rattle.laws_tables.proofs.PoolRows.{Steps}
use Rattle.laws_tables.proofs.Steps.{by_step}
use Rattle.laws_tables.proofs.ThreadRows.{by_configures, by_counts, by_creates, by_joins, by_names, by_reads, by_reports, by_sends, by_takes}
use Rattle.laws_tables.proofs.Asked.{IsFine, IsFineArray, IsFineChan, IsFineLock, IsFinePool}
use Rattle.laws_tables.proofs.SaysWhy.{SaysWhy, not_empty}
use Rattle.laws_tables.specs.Refusals.{HasRead, RefusalLaw}
use Rattle.laws_shared.proofs.Channels.{owned_is}
use Rattle.laws_shared.proofs.PipeEnds.{reads_other}
use Rattle.tt_calls.specs.declared.chan_call.ChanCall.{ChanCall}
use Rattle.tt_calls.specs.declared.chan_call.ChanCall.TheVariants as chan
use Rattle.tt_calls.specs.declared.lock_call.LockCall.{LockCall}
use Rattle.tt_calls.specs.declared.lock_call.LockCall.TheVariants as lock
use Rattle.tt_calls.specs.declared.pool_call.PoolCall.{PoolCall}
use Rattle.tt_calls.specs.declared.pool_call.PoolCall.TheVariants as pool
use Rattle.tt_calls.specs.declared.request.Mode.TheVariants.{Waits, Later}
use Rattle.tt_calls.specs.declared.request.Request.{Request}
use Rattle.tt_calls.specs.declared.request.Request.TheVariants as ask
use Rattle.tt_calls.specs.declared.tsv_call.TsvCall.{TsvCall}
use Rattle.tt_calls.specs.declared.tsv_call.TsvCall.TheVariants as tsv
use Rattle.tt_chans.specs.Calls as channels
use Rattle.tt_chans.specs.Channels.{ChannelTable, channel_of, is_standard}
use Rattle.tt_chans.specs.declared.channel.Channel.{Channel}
use Rattle.tt_chans.specs.declared.channel.End.TheVariants.{Writes}
use Rattle.tt_locks.specs.Calls as locks
use Rattle.tt_locks.specs.Table.{LockTable}
use Rattle.tt_pools.specs.Calls as pools
use Rattle.tt_pools.specs.Pools.{PoolTable, is_allowed}
use Rattle.tt_shared.specs.Acts.{act, on_pools, pools_after, target_of}
use Rattle.tt_shared.specs.Enabled.{enabled}
use Rattle.tt_shared.specs.Sends.{is_asked}
use Rattle.tt_shared.specs.State.{State, is_marked, reply_of, room}
use Rattle.tt_shared.specs.declared.applied.Line.{Line}
use Rattle.tt_threads.specs.Requests as threads
use Rattle.tt_threads.specs.Rows.{is_linked, is_living, linked_thread, thread_of_id}
use Rattle.tt_tsv.specs.Arrays.{Table}
use Rattle.tt_tsv.specs.Calls as arrays

not_both : (b : Bool) → b ≡ true → b ≡ false → ⊥
not_both b is other = let both : true ≡ false = sym is ∙ other in cc both

-- ---- arrays and locks ----

array_told : (table : Table) (t : ℕ) (call : TsvCall) → IsFineArray call → not (arrays.waits table t call) ≡ true
    → SaysWhy (reply_of (arrays.step_after table t call))
array_told table t call fine ready = by_step SaysWhy (arrays.waits table t call) (arrays.act table t call) ready (by_act call fine)
  where
    by_act : (call : TsvCall) → IsFineArray call → SaysWhy (arrays.act table t call).reply
    by_act (tsv.Hold name) fine = tt
    by_act (tsv.Unhold name) fine = absurd fine
    by_act (tsv.Run words) fine = fine table

lock_told : (table : LockTable) (t : ℕ) (call : LockCall) → IsFineLock call → not (locks.waits table t call) ≡ true
    → SaysWhy (reply_of (locks.step_after table t call))
lock_told table t call fine ready = by_step SaysWhy (locks.waits table t call) (locks.act table t call) ready (by_act call fine)
  where
    by_act : (call : LockCall) → IsFineLock call → SaysWhy (locks.act table t call).reply
    by_act (lock.Create kind) fine = tt
    by_act (lock.Destroy which text) fine =
        lock_rows.by_act SaysWhy tt (λ b rest. tt) table t (lock.Destroy which text) (λ is. not_both (locks.is_first which text) is fine)
    by_act call fine = lock_rows.by_act SaysWhy tt (λ b rest. tt) table t call tt

-- ---- pools ----

pool_act : (table : PoolTable) (t room : ℕ) (marked : Bool) (call : PoolCall) → IsFinePool call → Steps SaysWhy (pools.act table t room marked call).gives.step
pool_act table t room marked (pool.Create least most init exit) fine =
    pool_rows.by_creates SaysWhy table (λ b rest. tt) least most init exit room (λ text. tt) (λ is. not_both (is_allowed least most) fine is)
pool_act table t room marked pool.Names fine = tt
pool_act table t room marked (pool.Post text script detached) fine = pool_rows.by_posts SaysWhy table (λ b rest. tt) text script detached room (λ text. tt)
pool_act table t room marked (pool.Look text listed) fine = pool_rows.by_looks SaysWhy table (λ b rest. tt) text listed (λ one other. tt)
pool_act table t room marked (pool.Cancel text listed) fine = pool_rows.by_cancels SaysWhy table (λ b rest. tt) text listed (λ one other. tt)
pool_act table t room marked (pool.Get text job) fine = pool_rows.by_gets SaysWhy table (λ b rest. tt) text job (λ outcome. tt)
pool_act table t room marked (pool.Preserve text) fine = pool_rows.by_counts SaysWhy table (λ b rest. tt) (pos 1) text (λ text. tt)
pool_act table t room marked (pool.Release text) fine = pool_rows.by_counts SaysWhy table (λ b rest. tt) (negsuc 0) text (λ text. tt)
pool_act table t room marked (pool.Suspend text on) fine = pool_rows.by_suspends SaysWhy table (λ b rest. tt) on text tt
pool_act table t room marked (pool.JobTake text) fine = pool_rows.by_jobs SaysWhy table (λ b rest. tt) t marked text (λ n script detached. tt) tt
pool_act table t room marked (pool.JobDone text n outcome) fine = absurd fine

pool_told : (state : State) (t : ℕ) (call : PoolCall) → IsFinePool call → SaysWhy (on_pools state t call).gives.reply
pool_told state t call fine = go (pools.waits state.pools (is_marked state t) call)
  where
    go : (waits : Bool)
        → SaysWhy
        (pools_after state t (if waits then record { table = state.pools; gives = pools.waiting } else
        pools.act state.pools t (room state) (is_marked state t) call)).gives.reply
    go true = by_takes SaysWhy state t (λ event. tt) (λ none. tt)
    go false =
        let answered = pools.act state.pools t (room state) (is_marked state t) call in
        pool_rows.by_gives SaysWhy (record state { pools = answered.table }) t answered.gives
        (pool_act state.pools t (room state) (is_marked state t) call fine)

-- ---- channels ----

-- no write end has another one for its other end
abbrev ReadOthers : ChannelTable → Type 0
ReadOthers table =
    (text : List ℕ) (channel reader : Channel) → channel_of table text ≡ Some channel → channel.end ≡ Writes → channel_of table channel.other ≡ Some reader
    → reader.end ≡ Writes → ⊥

module _ (table : ChannelTable) (others : ReadOthers table) (t : ℕ) (target : Option ℕ) where
  channel_act : (call : ChanCall) → IsFineChan call → SaysWhy (channels.act table t target call).reply
  channel_act chan.Pipe fine = tt
  channel_act (chan.Put text bytes) fine =
      channel_rows.by_id SaysWhy table t target (chan.Put text bytes) (λ is. absurd (not_both (is_standard text) is fine))
      (λ is. channel_rows.by_puts SaysWhy table t target (λ b rest. tt) text bytes tt
      (λ channel reader mine writes there also. others text channel reader (owned_is t (channel_of table text) channel mine).there writes there also))
  channel_act (chan.GetLine text) fine =
      channel_rows.by_id SaysWhy table t target (chan.GetLine text) (λ is. absurd (not_both (is_standard text) is fine))
      (λ is. channel_rows.by_gets SaysWhy table t target (λ b rest. tt) text (λ line. tt) tt)
  channel_act (chan.Eof text) fine =
      channel_rows.by_id SaysWhy table t target (chan.Eof text) (λ is. absurd (not_both (is_standard text) is fine))
      (λ is. channel_rows.by_eof SaysWhy table t target (λ b rest. tt) text (λ value. tt))
  channel_act (chan.Close text) fine =
      channel_rows.by_id SaysWhy table t target (chan.Close text) (λ is. tt) (λ is. channel_rows.by_closes SaysWhy table t target (λ b rest. tt) text tt)
  channel_act (chan.Detach text) fine =
      channel_rows.by_id SaysWhy table t target (chan.Detach text) (λ is. tt) (λ is. channel_rows.by_detaches SaysWhy table t target (λ b rest. tt) text tt)
  channel_act (chan.Attach text) fine =
      channel_rows.by_id SaysWhy table t target (chan.Attach text) (λ is. tt) (λ is. channel_rows.by_attaches SaysWhy table t target (λ b rest. tt) text tt)
  channel_act (chan.Transfer thread text) fine =
      channel_rows.by_id SaysWhy table t target (chan.Transfer thread text) (λ is. tt)
      (λ is. channel_rows.by_transfers SaysWhy table t target (λ b rest. tt) thread text tt (λ value. tt))
  channel_act (chan.AwaitMove text) fine = absurd fine

  channel_told : (call : ChanCall) → IsFineChan call → not (channels.waits table t call) ≡ true → SaysWhy (reply_of (channels.step_after table t target call))
  channel_told call fine ready = by_step SaysWhy (channels.waits table t call) (channels.act table t target call) ready (channel_act call fine)

-- ---- all rows ----

told : (state : State) (t : ℕ) (request : Request) (line : Line) → ReadOthers state.channels → t < 2 ^ 64 → is_living state.rows t ≡ true
    → enabled state t request ≡ true → HasRead request line → IsFine t request → SaysWhy (act state t request line).gives.reply
told state t ask.ReadLine line others small lives can read fine = by_reads SaysWhy state line (λ text. tt) tt (λ b text. tt) (λ is. read is)
told state t (ask.Create joinable preserved script) line others small lives can read fine =
    by_creates SaysWhy state joinable preserved script (λ text. tt) (λ b text. tt)
told state t (ask.Preserve text) line others small lives can read fine =
    by_counts SaysWhy state.rows (λ b rest. tt) threads.with_reference text (threads.thread_named state.rows t text) (λ value. tt)
    (λ n is none. named_row state.rows t text n lives is none)
told state t (ask.Release text) line others small lives can read fine =
    by_counts SaysWhy state.rows (λ b rest. tt) threads.without_reference text (threads.thread_named state.rows t text) (λ value. tt)
    (λ n is none. named_row state.rows t text n lives is none)
told state t (ask.Join text) line others small lives can read fine =
    by_joins SaysWhy state.rows (λ b rest. tt) t text (thread_of_id state.rows text) (λ n. tt) (λ n is none. found_row (λ life. true) state.rows text n is none)
told state t (ask.AwaitEnd thread) line others small lives can read fine = absurd fine
told state t (ask.Configure text words) line others small lives can read fine =
    by_configures SaysWhy state.rows (λ b rest. tt) text words (linked_thread state.rows text) tt (λ n is none. found_row is_linked state.rows text n is none)
    fine.tells (λ now many is. fine.sets now many is)
told state t (ask.ErrorProc name) line others small lives can read fine = by_names SaysWhy state t name (λ text. tt) tt
told state t (ask.Send text script Waits variable head) line others small lives can read fine =
    by_sends SaysWhy state t text script Waits variable head (λ n. tt) (λ b rest. tt)
    (λ is. not_both (is_asked Waits variable) (ap (is_asked Waits) fine.0) is)
    (λ waits target is mine. not_both _ (own_id t target text small (found_is is_linked state.rows text target is).named mine) fine.1)
told state t (ask.Send text script Later variable head) line others small lives can read fine =
    by_sends SaysWhy state t text script Later variable head (λ n. tt) (λ b rest. tt) (λ is. cc is) (λ waits target is mine. cc waits)
told state t (ask.Await n) line others small lives can read fine = absurd fine
told state t ask.Take line others small lives can read fine = by_takes SaysWhy state t (λ event. tt) (λ none. tt)
told state t ask.TakeReady line others small lives can read fine = by_takes SaysWhy state t (λ event. tt) (λ none. tt)
told state t (ask.Deliver n outcome) line others small lives can read fine = absurd fine
told state t (ask.Report trace plain) line others small lives can read fine = by_reports SaysWhy state t trace plain (λ stops. tt)
told state t (ask.AddTimer after script) line others small lives can read fine = absurd fine
told state t (ask.Sleep after) line others small lives can read fine = absurd fine
told state t (ask.Cancel text unwind) line others small lives can read fine = absurd fine
told state t (ask.Tsv call) line others small lives can read fine = array_told state.arrays t call fine can
told state t (ask.Lock call) line others small lives can read fine = lock_told state.locks t call fine can
told state t (ask.Pool call) line others small lives can read fine = pool_told state t call fine
told state t (ask.Chan call) line others small lives can read fine = channel_told state.channels others t (target_of state call) call fine can
told state t request line others small lives can read fine = tt

pub refusals_say_why : RefusalLaw
refusals_say_why state action reached numbers small can asked read =
    not_empty _
    (told state action.thread action.request action.line (reads_other state reached numbers) small can.lives can.enabled read
    (asked_fine action.thread action.request asked))
