-- What commands ask, as far as what they are answered needs it.
use Rattle.std.proofs.Common.{◌≡◌, ◌≢◌, ℕ, true, false, nat_lt, List, length, None}
use Rattle.std.specs.Bool.{⊤}
use Rattle.laws_tables.proofs.SaysWhy.{SaysWhy}
use Rattle.tt_calls.specs.declared.chan_call.ChanCall.{ChanCall}
use Rattle.tt_calls.specs.declared.chan_call.ChanCall.TheVariants as chan
use Rattle.tt_calls.specs.declared.lock_call.LockCall.{LockCall}
use Rattle.tt_calls.specs.declared.lock_call.LockCall.TheVariants as lock
use Rattle.tt_calls.specs.declared.pool_call.PoolCall.{PoolCall}
use Rattle.tt_calls.specs.declared.pool_call.PoolCall.TheVariants as pool
use Rattle.tt_calls.specs.declared.request.Mode.TheVariants.{Waits, Later}
use Rattle.tt_calls.specs.declared.request.Request.{Request}
use Rattle.tt_calls.specs.declared.request.Request.TheVariants as ask
use Rattle.tt_calls.specs.declared.tsv_call.TsvCall.{TsvCall}
use Rattle.tt_calls.specs.declared.tsv_call.TsvCall.TheVariants as tsv
use Rattle.tt_chans.specs.Channels.{is_standard}
use Rattle.tt_locks.specs.Calls.{is_first}
use Rattle.tt_pools.specs.Pools.{is_allowed}
use Rattle.tt_thread_commands.specs.Sending.{is_id_of}
use Rattle.tt_threads.specs.Requests.{settings_report, with_settings}
use Rattle.tt_tsv.specs.Arrays.{Table}
use Rattle.tt_tsv.specs.Calls.{asked_answer}
use Rattle.tt_tsv.specs.Words.{usage_of_words}

-- words of thread::configure that are understood
pub record AreSettings (words : List (List ℕ)) : Type 0 where
  pub tells : (now : _) → nat_lt (length words) 2 ≡ true → SaysWhy (settings_report now words)
  pub sets : (now : _) → nat_lt (length words) 2 ≡ false → with_settings words now ≢ None

abbrev pub IsFineArray : TsvCall → Type 0
IsFineArray (tsv.Run words) = (table : Table) → SaysWhy (asked_answer table (usage_of_words words)).reply
IsFineArray (tsv.Hold name) = ⊤
IsFineArray (tsv.Unhold name) = ⊥

abbrev pub IsFineLock : LockCall → Type 0
IsFineLock (lock.Destroy which text) = is_first which text ≡ false
IsFineLock call = ⊤

abbrev pub IsFinePool : PoolCall → Type 0
IsFinePool (pool.Create least most init exit) = is_allowed least most ≡ true
IsFinePool (pool.JobDone text n outcome) = ⊥
IsFinePool call = ⊤

abbrev pub IsFineChan : ChanCall → Type 0
IsFineChan (chan.Put text bytes) = is_standard text ≡ false
IsFineChan (chan.GetLine text) = is_standard text ≡ false
IsFineChan (chan.Eof text) = is_standard text ≡ false
IsFineChan (chan.AwaitMove text) = ⊥
IsFineChan call = ⊤

abbrev pub IsFine : (me : ℕ) → Request → Type 0
IsFine me (ask.Send id script Waits variable head) = (variable ≡ None) × (is_id_of me id ≡ false)
IsFine me (ask.Send id script Later variable head) = ⊤
IsFine me (ask.Configure id words) = AreSettings words
IsFine me (ask.AwaitEnd thread) = ⊥
IsFine me (ask.Await n) = ⊥
IsFine me (ask.Deliver n outcome) = ⊥
IsFine me (ask.AddTimer after script) = ⊥
IsFine me (ask.Sleep after) = ⊥
IsFine me (ask.Cancel id unwind) = ⊥
IsFine me (ask.Tsv call) = IsFineArray call
IsFine me (ask.Lock call) = IsFineLock call
IsFine me (ask.Pool call) = IsFinePool call
IsFine me (ask.Chan call) = IsFineChan call
IsFine me request = ⊤
