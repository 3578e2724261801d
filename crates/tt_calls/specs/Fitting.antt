-- Which replies fit which requests: a table, a line for each request (thread(n), tsv(n), tpool(n), chan(n)).
use Rattle.std.specs.Prelude.{List, [], ◌∷◌}
use Rattle.tt_calls.specs.declared.request.Request.{Request}
use Rattle.tt_calls.specs.declared.request.Request.TheVariants as ask
use Rattle.tt_calls.specs.declared.tsv_call.TsvCall.{TsvCall}
use Rattle.tt_calls.specs.declared.tsv_call.TsvCall.TheVariants as tsv
use Rattle.tt_calls.specs.declared.lock_call.LockCall.{LockCall}
use Rattle.tt_calls.specs.declared.lock_call.LockCall.TheVariants as lock
use Rattle.tt_calls.specs.declared.pool_call.PoolCall.{PoolCall}
use Rattle.tt_calls.specs.declared.pool_call.PoolCall.TheVariants as pool
use Rattle.tt_calls.specs.declared.chan_call.ChanCall.{ChanCall}
use Rattle.tt_calls.specs.declared.chan_call.ChanCall.TheVariants as chan
use Rattle.tt_calls.specs.declared.reply.Reply.{Reply}
use Rattle.tt_calls.specs.declared.reply.Reply.TheVariants as reply
use Rattle.tt_calls.specs.declared.reply.Shape.{Shape}
use Rattle.tt_calls.specs.declared.reply.Shape.TheVariants.{Go, Value, Refused, Found, Posted, Waits, Answer, Died}
use Rattle.tt_calls.specs.declared.reply.Shape.TheVariants.{Event, NoEvent, Served, Line, LineEnd, Job, JobStop, Lists}
use Rattle.tt_calls.specs.declared.reply.Shape.TheVariants.{Cancelled}

-- which variant a reply is
abbrev pub shape_of : Reply → Shape
shape_of reply.Go = Go
shape_of (reply.Value text) = Value
shape_of (reply.Refused text) = Refused
shape_of (reply.Found found text) = Found
shape_of (reply.Posted post) = Posted
shape_of (reply.Waits thread) = Waits
shape_of (reply.Answer outcome) = Answer
shape_of reply.Died = Died
shape_of (reply.Event event) = Event
shape_of reply.NoEvent = NoEvent
shape_of (reply.Served stops) = Served
shape_of (reply.Line text) = Line
shape_of reply.LineEnd = LineEnd
shape_of (reply.Job job script detached) = Job
shape_of reply.JobStop = JobStop
shape_of (reply.Lists first second) = Lists
shape_of (reply.Cancelled unwinds) = Cancelled

-- calls on shared variables (tsv(n))
abbrev pub tsv_shapes : TsvCall → List Shape
tsv_shapes (tsv.Hold array) = Go ∷ Refused ∷ []
tsv_shapes (tsv.Unhold array) = Go ∷ Refused ∷ []
tsv_shapes (tsv.Run words) = Value ∷ Found ∷ Refused ∷ []

-- calls on locks (thread(n), thread::mutex, thread::rwmutex, thread::cond)
abbrev pub lock_shapes : LockCall → List Shape
lock_shapes (lock.Create kind) = Value ∷ []
lock_shapes call = Go ∷ Refused ∷ []

-- calls on pools (tpool(n))
abbrev pub pool_shapes : PoolCall → List Shape
pool_shapes (pool.Create least most init exit) = Value ∷ Refused ∷ []
pool_shapes pool.Names = Value ∷ []
pool_shapes (pool.Post id script detached) = Value ∷ Refused ∷ []
pool_shapes (pool.Look id jobs) = Lists ∷ Event ∷ Refused ∷ []
pool_shapes (pool.Cancel id jobs) = Lists ∷ Refused ∷ []
pool_shapes (pool.Get id job) = Answer ∷ Refused ∷ []
pool_shapes (pool.Preserve id) = Value ∷ Refused ∷ []
pool_shapes (pool.Release id) = Value ∷ Refused ∷ []
pool_shapes (pool.Suspend id on) = Go ∷ Refused ∷ []
pool_shapes (pool.JobTake id) = Job ∷ JobStop ∷ Refused ∷ []
pool_shapes (pool.JobDone id job outcome) = Go ∷ Refused ∷ []

-- calls on channels (chan(n); thread(n), thread::detach, thread::attach, thread::transfer)
abbrev pub chan_shapes : ChanCall → List Shape
chan_shapes chan.Pipe = Value ∷ []
chan_shapes (chan.Put id bytes) = Go ∷ Refused ∷ []
chan_shapes (chan.GetLine id) = Line ∷ LineEnd ∷ Refused ∷ []
chan_shapes (chan.Eof id) = Value ∷ Refused ∷ []
chan_shapes (chan.Close id) = Go ∷ Refused ∷ []
chan_shapes (chan.Detach id) = Go ∷ Refused ∷ []
chan_shapes (chan.Attach id) = Go ∷ Refused ∷ []
chan_shapes (chan.Transfer id channel) = Go ∷ Value ∷ Refused ∷ []
chan_shapes (chan.AwaitMove id) = Go ∷ Died ∷ Refused ∷ []

-- all requests (thread(n), puts(n), gets(n), eof(n), vwait(n), update(n), after(n), exit(n))
abbrev pub shapes_for : Request → List Shape
shapes_for (ask.WriteOut text) = Go ∷ []
shapes_for (ask.WriteErr text) = Go ∷ []
shapes_for ask.ReadLine = Line ∷ LineEnd ∷ Refused ∷ []
shapes_for ask.StdinEof = Value ∷ []
shapes_for (ask.Create joinable preserved script) = Value ∷ Refused ∷ []
shapes_for (ask.Preserve id) = Value ∷ Refused ∷ []
shapes_for (ask.Release id) = Value ∷ Refused ∷ []
shapes_for ask.Names = Value ∷ []
shapes_for (ask.Exists id) = Value ∷ []
shapes_for (ask.Join id) = Waits ∷ Refused ∷ []
shapes_for (ask.AwaitEnd thread) = Value ∷ Refused ∷ []
shapes_for (ask.Configure id words) = Value ∷ Go ∷ Refused ∷ []
shapes_for (ask.ErrorProc name) = Value ∷ Go ∷ []
shapes_for (ask.Send id script mode variable head) = Posted ∷ Refused ∷ []
shapes_for (ask.Await n) = Answer ∷ Died ∷ Refused ∷ []
shapes_for ask.Take = Event ∷ []
shapes_for ask.TakeReady = Event ∷ NoEvent ∷ []
shapes_for (ask.Deliver n outcome) = Served ∷ Refused ∷ []
shapes_for (ask.Report trace plain) = Served ∷ []
shapes_for (ask.Broadcast script) = Go ∷ []
shapes_for (ask.Tsv call) = tsv_shapes call
shapes_for (ask.Lock call) = lock_shapes call
shapes_for (ask.Pool call) = pool_shapes call
shapes_for (ask.Chan call) = chan_shapes call
shapes_for (ask.AddTimer after script) = Value ∷ Refused ∷ []
shapes_for (ask.DropTimer number) = Go ∷ []
shapes_for (ask.Sleep after) = Go ∷ Refused ∷ []
shapes_for ask.AwaitTime = Go ∷ []
shapes_for (ask.Cancel id unwind) = Value ∷ Refused ∷ []
shapes_for ask.Pause = Go ∷ []
shapes_for (ask.End code) = Go ∷ []
shapes_for (ask.Exit code) = Go ∷ []
