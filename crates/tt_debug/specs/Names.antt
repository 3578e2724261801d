-- The names of requests; that of a call on shared variables, a lock, a pool or a channel is the call's own.
use Rattle.std.specs.Prelude.{ℕ, List, codes}
use Rattle.tt_calls.specs.declared.request.Request.{Request}
use Rattle.tt_calls.specs.declared.request.Request.TheVariants as ask
use Rattle.tt_calls.specs.declared.tsv_call.TsvCall.{TsvCall}
use Rattle.tt_calls.specs.declared.tsv_call.TsvCall.TheVariants as tsv
use Rattle.tt_calls.specs.declared.lock_call.LockCall.{LockCall}
use Rattle.tt_calls.specs.declared.lock_call.LockCall.TheVariants as lock
use Rattle.tt_calls.specs.declared.pool_call.PoolCall.{PoolCall}
use Rattle.tt_calls.specs.declared.pool_call.PoolCall.TheVariants as pool
use Rattle.tt_calls.specs.declared.chan_call.ChanCall.{ChanCall}
use Rattle.tt_calls.specs.declared.chan_call.ChanCall.TheVariants as chan

-- calls on shared variables (tsv(n))
abbrev pub tsv_name : TsvCall → List ℕ
tsv_name (tsv.Hold array) = codes "Hold"
tsv_name (tsv.Unhold array) = codes "Unhold"
tsv_name (tsv.Run words) = codes "Run"

-- calls on locks (thread(n), thread::mutex, thread::rwmutex, thread::cond)
abbrev pub lock_name : LockCall → List ℕ
lock_name (lock.Create kind) = codes "Create"
lock_name (lock.Destroy family id) = codes "Destroy"
lock_name (lock.Lock id) = codes "Lock"
lock_name (lock.ReadLock id) = codes "ReadLock"
lock_name (lock.WriteLock id) = codes "WriteLock"
lock_name (lock.Unlock family id) = codes "Unlock"
lock_name (lock.Notify id) = codes "Notify"
lock_name (lock.CondWait cond mutex after) = codes "CondWait"
lock_name (lock.CondTake cond mutex) = codes "CondTake"

-- calls on pools (tpool(n))
abbrev pub pool_name : PoolCall → List ℕ
pool_name (pool.Create least most init exit) = codes "Create"
pool_name pool.Names = codes "Names"
pool_name (pool.Post id script detached) = codes "Post"
pool_name (pool.Look id jobs) = codes "Look"
pool_name (pool.Cancel id jobs) = codes "Cancel"
pool_name (pool.Get id job) = codes "Get"
pool_name (pool.Preserve id) = codes "Preserve"
pool_name (pool.Release id) = codes "Release"
pool_name (pool.Suspend id on) = codes "Suspend"
pool_name (pool.JobTake id) = codes "JobTake"
pool_name (pool.JobDone id job outcome) = codes "JobDone"

-- calls on channels (chan(n))
abbrev pub chan_name : ChanCall → List ℕ
chan_name chan.Pipe = codes "Pipe"
chan_name (chan.Put id bytes) = codes "Put"
chan_name (chan.GetLine id) = codes "GetLine"
chan_name (chan.Eof id) = codes "Eof"
chan_name (chan.Close id) = codes "Close"
chan_name (chan.Detach id) = codes "Detach"
chan_name (chan.Attach id) = codes "Attach"
chan_name (chan.Transfer id channel) = codes "Transfer"
chan_name (chan.AwaitMove id) = codes "AwaitMove"

-- all requests
abbrev pub name_of : Request → List ℕ
name_of (ask.WriteOut text) = codes "WriteOut"
name_of (ask.WriteErr text) = codes "WriteErr"
name_of ask.ReadLine = codes "ReadLine"
name_of ask.StdinEof = codes "StdinEof"
name_of (ask.Create joinable preserved script) = codes "Create"
name_of (ask.Preserve id) = codes "Preserve"
name_of (ask.Release id) = codes "Release"
name_of ask.Names = codes "Names"
name_of (ask.Exists id) = codes "Exists"
name_of (ask.Join id) = codes "Join"
name_of (ask.AwaitEnd thread) = codes "AwaitEnd"
name_of (ask.Configure id words) = codes "Configure"
name_of (ask.ErrorProc name) = codes "ErrorProc"
name_of (ask.Send id script mode variable head) = codes "Send"
name_of (ask.Await n) = codes "Await"
name_of ask.Take = codes "Take"
name_of ask.TakeReady = codes "TakeReady"
name_of (ask.Deliver n outcome) = codes "Deliver"
name_of (ask.Report trace plain) = codes "Report"
name_of (ask.Broadcast script) = codes "Broadcast"
name_of (ask.Tsv call) = tsv_name call
name_of (ask.Lock call) = lock_name call
name_of (ask.Pool call) = pool_name call
name_of (ask.Chan call) = chan_name call
name_of (ask.AddTimer after script) = codes "AddTimer"
name_of (ask.DropTimer number) = codes "DropTimer"
name_of (ask.Sleep after) = codes "Sleep"
name_of ask.AwaitTime = codes "AwaitTime"
name_of (ask.Cancel id unwind) = codes "Cancel"
name_of ask.Pause = codes "Pause"
name_of (ask.End code) = codes "End"
name_of (ask.Exit code) = codes "Exit"
