-- What each step releases and acquires: a step that releases an object is before each later one that acquires it.
use Rattle.std.specs.Prelude.{ℕ, zero, suc, ◌+◌, ◌/◌, ◌==◌, List, [], ◌∷◌, ◌++◌, Option, Some, None}
use Rattle.std.specs.Prelude.{if◌then◌else◌}
use Rattle.std.specs.List.{filter_map}
use Rattle.std.specs.Option.{option_map, option_to_list}
use Rattle.tt_calls.specs.declared.chan_call.ChanCall.{ChanCall}
use Rattle.tt_calls.specs.declared.chan_call.ChanCall.TheVariants as chan
use Rattle.tt_calls.specs.declared.lock_call.LockCall.{LockCall}
use Rattle.tt_calls.specs.declared.lock_call.LockCall.TheVariants as lock
use Rattle.tt_calls.specs.declared.pool_call.PoolCall.{PoolCall}
use Rattle.tt_calls.specs.declared.pool_call.PoolCall.TheVariants as pool
use Rattle.tt_calls.specs.declared.reply.Reply.{Reply}
use Rattle.tt_calls.specs.declared.reply.Reply.TheVariants as reply
use Rattle.tt_calls.specs.declared.request.Request.{Request}
use Rattle.tt_calls.specs.declared.request.Request.TheVariants as ask
use Rattle.tt_calls.specs.declared.tsv_call.TsvCall.{TsvCall}
use Rattle.tt_calls.specs.declared.tsv_call.TsvCall.TheVariants as tsv
use Rattle.tt_before.specs.Known.{Knowledge}
use Rattle.tt_before.specs.Steps.{Step, is_done}
use Rattle.tt_before.specs.declared.known.Post.{Post}
use Rattle.tt_before.specs.declared.known.Worker.{Worker}
use Rattle.tt_before.specs.declared.object.Object.{Object}
use Rattle.tt_before.specs.declared.object.Object.TheVariants.{Line, Life, Queue, Queues, Slot, End, Pool, Lock, Array}
use Rattle.tt_before.specs.declared.object.Object.TheVariants.{Pipe}
use Rattle.tt_ids.specs.Ids.{id_named}
use Rattle.tt_ids.specs.declared.id.IdKind.TheVariants.{Thread, Channel}

-- ---- the objects that ids name ----

abbrev pub queue_of : (id : List ℕ) → List Object
queue_of id = option_to_list (option_map Queue (id_named Thread id))

-- thread::release: the empty id is the asker's own
abbrev pub own_queue_of : (thread : ℕ) → (id : List ℕ) → List Object
own_queue_of thread [] = Queue thread ∷ []
own_queue_of thread (letter ∷ id) = queue_of (letter ∷ id)

-- two channels are the ends of a pipe
abbrev pub pipe_of : (channel : List ℕ) → List Object
pipe_of channel = option_to_list (option_map (λ number. Pipe ((number + 1) / 2)) (id_named Channel channel))

-- ---- what is known ----

abbrev pub sender_if : (number : ℕ) → Post → Option Object
sender_if number post = if post.number == number then Some (Queue post.sender) else None

abbrev pub sender_queues : Knowledge → (number : ℕ) → List Object
sender_queues known number = filter_map (sender_if number) known.posts

abbrev pub target_if : (number : ℕ) → Post → Option Object
target_if number post = if post.number == number then Some (End post.target) else None

abbrev pub target_ends : Knowledge → (number : ℕ) → List Object
target_ends known number = filter_map (target_if number) known.posts

abbrev pub sender_if_to : (thread : ℕ) → Post → Option Object
sender_if_to thread post = if post.target == thread then Some (Queue post.sender) else None

abbrev pub queues_that_sent_to : Knowledge → (thread : ℕ) → List Object
queues_that_sent_to known thread = filter_map (sender_if_to thread) known.posts

abbrev pub pool_if : (thread : ℕ) → Worker → Option Object
pool_if thread worker = if worker.thread == thread then Some (Pool worker.pool) else None

abbrev pub pools_of : Knowledge → (thread : ℕ) → List Object
pools_of known thread = filter_map (pool_if thread) known.workers

abbrev pub reported_to : Option ℕ → List Object
reported_to reporter = option_to_list (option_map Queue reporter)

-- ---- what a step releases ----

-- the lives of so many threads, from this number on
abbrev pub lives_from : (first count : ℕ) → List Object
lives_from first zero = []
lives_from first (suc count) = lives_from first count ++ Life (first + count) ∷ []

abbrev pub if_posted : Reply → List Object → List Object
if_posted (reply.Posted number) objects = objects
if_posted answer objects = []

abbrev pub released_by_array : TsvCall → List Object
released_by_array (tsv.Unhold name) = Array name ∷ []
released_by_array call = []

abbrev pub released_by_lock : LockCall → List Object
released_by_lock (lock.Unlock family id) = Lock id ∷ []
released_by_lock (lock.CondWait cond mutex after) = Lock mutex ∷ []
released_by_lock (lock.Notify cond) = Lock cond ∷ []
released_by_lock call = []

abbrev pub released_by_pool : PoolCall → List Object
released_by_pool (pool.Post id script detached) = Pool id ∷ []
released_by_pool (pool.JobDone id job outcome) = Pool id ∷ []
released_by_pool call = []

abbrev pub released_by_channel : ChanCall → List Object
released_by_channel (chan.Put id bytes) = pipe_of id
released_by_channel (chan.Close id) = pipe_of id
released_by_channel (chan.Detach id) = pipe_of id
released_by_channel (chan.Transfer thread id) = queue_of thread
released_by_channel call = []

abbrev pub released : Knowledge → (thread : ℕ) → Request → Reply → List Object
released known t (ask.Send id script mode variable head) answer = if_posted answer (queue_of id)
released known t (ask.Release id) answer = own_queue_of t id
released known t (ask.Broadcast script) answer = Queues ∷ []
released known t (ask.Report trace plain) answer = reported_to known.reporter
released known t (ask.Deliver n outcome) answer = Slot n ∷ sender_queues known n
released known t (ask.End code) answer = End t ∷ (queues_that_sent_to known t ++ pools_of known t)
released known t (ask.Tsv call) answer = released_by_array call
released known t (ask.Lock call) answer = released_by_lock call
released known t (ask.Pool call) answer = released_by_pool call
released known t (ask.Chan call) answer = released_by_channel call
released known t request answer = []

-- the threads that a step makes begin after it; a thread's steps follow one another on its line
abbrev pub released_if_done : Knowledge → Step → List Object
released_if_done known step =
    if is_done step.reply
    then lives_from known.next step.made ++ released known step.thread step.request step.reply
    else []

abbrev pub releases : Knowledge → Step → List Object
releases known step = Line step.thread ∷ released_if_done known step

-- ---- what a step acquires ----

abbrev pub if_event : Reply → List Object → List Object
if_event (reply.Event event) objects = objects
if_event answer objects = []

abbrev pub acquired_by_array : TsvCall → List Object
acquired_by_array (tsv.Hold name) = Array name ∷ []
acquired_by_array call = []

abbrev pub acquired_by_lock : LockCall → List Object
acquired_by_lock (lock.Lock id) = Lock id ∷ []
acquired_by_lock (lock.ReadLock id) = Lock id ∷ []
acquired_by_lock (lock.WriteLock id) = Lock id ∷ []
acquired_by_lock (lock.CondTake cond mutex) = Lock mutex ∷ Lock cond ∷ []
acquired_by_lock call = []

abbrev pub acquired_by_pool : (thread : ℕ) → PoolCall → Reply → List Object
acquired_by_pool t (pool.Look id jobs) answer = Pool id ∷ if_event answer (Queue t ∷ Queues ∷ [])
acquired_by_pool t (pool.JobTake id) answer = Pool id ∷ []
acquired_by_pool t (pool.Get id job) answer = Pool id ∷ []
acquired_by_pool t call answer = []

abbrev pub acquired_by_channel : ChanCall → List Object
acquired_by_channel (chan.GetLine id) = pipe_of id
acquired_by_channel (chan.Eof id) = pipe_of id
acquired_by_channel (chan.Attach id) = pipe_of id
acquired_by_channel call = []

abbrev pub acquired : Knowledge → (thread : ℕ) → Request → Reply → List Object
acquired known t ask.Take answer = if_event answer (Queue t ∷ Queues ∷ [])
acquired known t ask.TakeReady answer = if_event answer (Queue t ∷ Queues ∷ [])
acquired known t (ask.Await n) answer = Slot n ∷ target_ends known n
acquired known t (ask.AwaitEnd u) answer = End u ∷ []
acquired known t (ask.Tsv call) answer = acquired_by_array call
acquired known t (ask.Lock call) answer = acquired_by_lock call
acquired known t (ask.Pool call) answer = acquired_by_pool t call answer
acquired known t (ask.Chan call) answer = acquired_by_channel call
acquired known t request answer = []

abbrev pub acquired_if_done : Knowledge → Step → List Object
acquired_if_done known step =
    if is_done step.reply then acquired known step.thread step.request step.reply else []

abbrev pub acquires : Knowledge → Step → List Object
acquires known step = Line step.thread ∷ Life step.thread ∷ acquired_if_done known step
