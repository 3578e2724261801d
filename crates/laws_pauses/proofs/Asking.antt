-- The plans of Tcl keep to their bounds: commands that ask, and that evaluate.
use Rattle.std.proofs.Common.{ℕ, Bool, true, false, List, [], ◌∷◌, Option, Some, None, nat_lt, if◌then◌else◌, arith}
use Rattle.laws_pauses.proofs.Plans.{LightAt, LightEnding, LightThen, asking_for, calling, finely, going, in_variable, over, recorded, truly, wanting}
use Rattle.tt_calls.specs.declared.chan_call.ChanCall.TheVariants as chan
use Rattle.tt_calls.specs.declared.lock_call.LockCall.TheVariants as lock
use Rattle.tt_calls.specs.declared.pool_call.PoolCall.TheVariants as pool
use Rattle.tt_calls.specs.declared.reply.Reply.{Reply}
use Rattle.tt_calls.specs.declared.reply.Reply.TheVariants as reply
use Rattle.tt_calls.specs.declared.request.Request.{Request}
use Rattle.tt_calls.specs.declared.request.Request.TheVariants as request
use Rattle.tt_command_tables.specs.declared.call.Call.{Call}
use Rattle.tt_command_tables.specs.declared.call.Call.TheVariants as call
use Rattle.tt_command_tables.specs.declared.call.Goal.{Goal}
use Rattle.tt_command_tables.specs.declared.call.Goal.TheVariants as goal
use Rattle.tt_command_tables.specs.declared.call.Here.TheVariants as here
use Rattle.tt_command_tables.specs.declared.call.Then.TheVariants as after
use Rattle.tt_command_tables.specs.declared.call.Then.{Then as After}
use Rattle.tt_control.specs.declared.control.Control.{Control}
use Rattle.tt_control.specs.declared.control.Control.TheVariants as control
use Rattle.tt_evaluation.specs.Plans.{Calls}
use Rattle.tt_frames.specs.Asking.{answering, asking, awaits_of, call_then, following, on_reply, outcome_in, own_send, reply_in_variable, request_then, serving}
use Rattle.tt_frames.specs.Asking.{wait_for, waiting}
use Rattle.tt_frames.specs.Control.{caught, clauses, control_then}
use Rattle.tt_frames.specs.Held as held
use Rattle.tt_frames.specs.Nesting as nesting
use Rattle.tt_frames.specs.Vocabulary.{Then}
use Rattle.tt_frames.specs.declared.job.Awaits.{Awaits}
use Rattle.tt_frames.specs.declared.job.Awaits.TheVariants as awaits
use Rattle.tt_frames.specs.declared.job.Hold.{Hold}
use Rattle.tt_frames.specs.declared.job.Job.TheVariants as job
use Rattle.tt_frames.specs.declared.job.Loop.TheVariants as loop
use Rattle.tt_frames.specs.declared.job.Purpose.TheVariants.{Condition, Value}
use Rattle.tt_frames.specs.declared.job.Until.TheVariants as until
use Rattle.tt_frames.specs.declared.state.TheConstants.{DEEPEST}
use Rattle.tt_outcomes.specs.Endings.{error_ending}
use Rattle.tt_outcomes.specs.declared.ending.Ending.{Ending}
use Rattle.tt_outcomes.specs.declared.ending.Ending.TheVariants as ending
use Rattle.tt_outcomes.specs.declared.got.Got.{Got}
use Rattle.tt_outcomes.specs.declared.got.Got.TheVariants as got
use Rattle.tt_outcomes.specs.declared.want.Body.{Body}
use Rattle.tt_outcomes.specs.declared.want.Body.TheVariants as body

abbrev pub LightReply : (Reply → Then) → Type 0
LightReply next = (answered : Reply) → LightThen 8 (next answered)

-- ---- requests ----

asks_for : (k : ℕ) (asked : Request) (go : Reply → Then) → LightReply go → LightThen k (asking asked go)
asks_for k asked go light state = asking_for k asked state (on_reply go) on
  where
    on : (it : Got) → LightAt 8 state (on_reply go it state)
    on (got.Reply answered) = light answered state
    on other = over 8 _ state

answers : LightReply answering
answers answered state = over 8 _ state

stored : (name : List ℕ) → LightReply (reply_in_variable name)
stored name (reply.Line line) state = in_variable 8 (Some name) line _ state
stored name reply.LineEnd state = in_variable 8 (Some name) [] _ state
stored name (reply.Found true value) state = in_variable 8 (Some name) value _ state
stored name (reply.Found false value) state = over 8 _ state
stored name (reply.Lists removed left) state = in_variable 8 (Some name) left removed state
stored name answered state = over 8 _ state

outcomes : (variable : Option (List ℕ)) → LightReply (outcome_in variable)
outcomes (Some name) (reply.Answer outcome) state = in_variable 8 (Some name) outcome.value _ state
outcomes None answered state = over 8 _ state
outcomes (Some name) answered state = over 8 _ state

follows : (kept : Awaits) → LightReply (following kept)
follows awaits.Value answered state = over 8 _ state
follows (awaits.Store name) answered state = stored name answered state
follows (awaits.Outcome variable) answered state = outcomes variable answered state
follows (awaits.Answers value) answered state = over 8 _ state
follows (awaits.Result variable) (reply.Posted n) state = asks_for 8 (request.Await n) (outcome_in variable) (outcomes variable) state
follows (awaits.End thread) (reply.Value count) state = asks_for 8 (request.AwaitEnd thread) _ (λ answered st. over 8 _ st) state
follows awaits.NamedEnd (reply.Waits thread) state = asks_for 8 (request.AwaitEnd thread) answering answers state
follows (awaits.Move name) reply.Go state = asks_for 8 (request.Chan (chan.AwaitMove name)) answering answers state
follows (awaits.Retake condition mutex) reply.Go state = asks_for 8 (request.Lock (lock.CondTake condition mutex)) answering answers state
follows (awaits.Held hold script) reply.Go state = going 8 (job.Held hold script) state (omega arith)
follows kept answered state = over 8 _ state

-- ---- event loops ----

waits : (asked : Request) (variable : Option (List ℕ)) → LightThen 3 (waiting asked variable)
waits (request.Pool (pool.Look id jobs)) variable state = going 3 (job.Serve (until.Jobs (wait_for id jobs variable))) state (omega arith)
waits asked variable state = asks_for 3 asked answering answers state

serves : (asked : Request) (for : Goal) → LightThen 3 (serving asked for)
serves asked (goal.Written name) state = wanting 3 _ state _ (λ it. going 3 (job.Serve until.Written) state (omega arith))
serves asked goal.Idle state = going 3 (job.Serve until.Idle) state (omega arith)
serves asked goal.Stopped state = going 3 (job.Serve until.Stopped) state (omega arith)
serves asked (goal.Pool variable) state = waits asked variable state

requests : (asked : Request) (next : After) → LightThen 3 (request_then asked next)
requests asked (after.Serve for) state = serves asked for state
requests asked next state = asks_for 3 asked (following (awaits_of asked next)) (follows (awaits_of asked next)) state

-- ---- commands ----

own_sends : (variable : Option (List ℕ)) → LightEnding 3 (own_send variable)
own_sends None ended state = over 3 ended state
own_sends (Some name) ended state = in_variable 3 (Some name) _ _ state

calls_light : (meant : Call) (words : List (List ℕ)) → LightThen 3 (call_then meant words)
calls_light call.Other words state = over 3 _ state
calls_light (call.Bad message) words state = over 3 _ state
calls_light (call.Here (here.Local value)) words state = over 3 _ state
calls_light (call.Here (here.Direct script variable)) words state =
    calling 3 None (job.Global script) state _ (omega arith) (omega arith) (own_sends variable)
calls_light (call.Ask asked next) words state = requests asked next state

clauses_light : (all : List (List ℕ)) → LightThen 3 (clauses all)
clauses_light [] state = over 3 _ state
clauses_light (otherwise ∷ []) state = going 3 (job.Script otherwise) state (omega arith)
clauses_light (test ∷ body ∷ rest) state =
    calling 3 None (job.Expression Condition test) state _ (omega arith) (omega arith)
    (truly 3 _ _ (λ st. going 3 (job.Script body) st (omega arith)) (clauses_light rest))

catches : (variable : Option (List ℕ)) → LightEnding 3 (caught variable)
catches variable (ending.Failed fault) state = recorded 3 _ _ (in_variable 3 variable _ _) state
catches variable (ending.Raised fault) state = recorded 3 _ _ (in_variable 3 variable _ _) state
catches variable ended state = in_variable 3 variable _ _ state

pub controls : (words : List (List ℕ)) (meant : Control) → LightThen 3 (control_then words meant)
controls words control.Other state = calls_light _ words state
controls words (control.Bad message) state = over 3 _ state
controls words control.Break state = over 3 _ state
controls words control.Continue state = over 3 _ state
controls words (control.Return kept value) state = over 3 _ state
controls words (control.Error message info) state = over 3 _ state
controls words (control.Catch script variable) state = calling 3 None (job.Script script) state _ (omega arith) (omega arith) (catches variable)
controls words (control.Expr text) state = going 3 (job.Expression Value text) state (omega arith)
controls words (control.If rest) state = clauses_light rest state
controls words (control.While test body) state = going 3 (job.Loop (loop.While test body)) state (omega arith)
controls words (control.For start test next body) state =
    calling 3 None (job.Script start) state _ (omega arith) (omega arith)
    (finely 3 _ _ (λ value st. going 3 (job.Loop (loop.For test next body)) st (omega arith)) (over 3))
controls words (control.Foreach names values body) state = going 3 (job.Loop (loop.Foreach names values body)) state (omega arith)
controls words (control.Script text) state = going 3 (job.Script text) state (omega arith)

-- ---- nested evaluations and holds ----

leaves : (kind : Body) (ended : Ending) → LightThen 1 (nesting.leaving kind ended)
leaves kind ended state = wanting 1 _ state _ (λ it. over 1 ended state)

pub nested : (kind : Body) (text : List ℕ) → LightThen 1 (nesting.body_then kind text)
nested kind text state = go (nat_lt state.nested DEEPEST)
  where
    go : (b : Bool) → LightAt 1 state
        (if b then Calls None (job.Script text) (nesting.deeper state) (nesting.left kind) else nesting.leaving kind (error_ending nesting.too_deep) state)
    go true = calling 1 None (job.Script text) (nesting.deeper state) _ (omega arith) (omega arith) (λ ended st. leaves kind _ (nesting.shallower st))
    go false = leaves kind _ state

pub globals : (text : List ℕ) → LightThen 2 (nesting.global text)
globals text state = wanting 2 _ state _ (λ it. going 2 (job.Nested body.Global text) state (omega arith))

lets_go : (one : Hold) (ended : Ending) → LightThen 1 (held.letting_go one ended)
lets_go one ended state = asking_for 1 (held.release_of one) state _ (λ it. over 8 ended state)

pub holds : (one : Hold) (text : List ℕ) → LightThen 1 (held.script_in_hold one text)
holds one text state = go (nat_lt state.nested DEEPEST)
  where
    go : (b : Bool) → LightAt 1 state
        (if b then Calls None (job.Script text) (nesting.deeper state) (held.end_of_hold one) else held.letting_go one (error_ending nesting.too_deep) state)
    go true = calling 1 None (job.Script text) (nesting.deeper state) _ (omega arith) (omega arith) (λ ended st. lets_go one ended (nesting.shallower st))
    go false = lets_go one _ state
