-- The plans of Tcl keep to their duties: commands that ask, and that evaluate.
use Rattle.std.proofs.Common.{◌≡◌, ℕ, Bool, true, false, List, [], ◌∷◌, Option, Some, None, nat_lt, if◌then◌else◌, refl}
use Rattle.laws_serving.proofs.Fitting.{Fits, FitsGoal, FitsThen, is_wait, ordinary}
use Rattle.laws_serving.proofs.Plans.{KeepsEnding, KeepsPlan, KeepsThen, calling, finely, in_variable, ordinarily, quietly, recorded, same, truly}
use Rattle.laws_serving.specs.Duties.{ends, goes}
use Rattle.laws_serving.specs.Requests.{is_ordinary}
use Rattle.tt_calls.specs.declared.chan_call.ChanCall.TheVariants as chan
use Rattle.tt_calls.specs.declared.lock_call.LockCall.TheVariants as lock
use Rattle.tt_calls.specs.declared.pool_call.PoolCall.TheVariants as pool
use Rattle.tt_calls.specs.declared.reply.Reply.{Reply}
use Rattle.tt_calls.specs.declared.reply.Reply.TheVariants as reply
use Rattle.tt_calls.specs.declared.request.Request.{Request}
use Rattle.tt_calls.specs.declared.request.Request.TheVariants as request
use Rattle.tt_command_tables.specs.declared.call.Call.{Call}
use Rattle.tt_command_tables.specs.declared.call.Call.TheVariants as call
use Rattle.tt_command_tables.specs.declared.call.Goal.{Goal}
use Rattle.tt_command_tables.specs.declared.call.Goal.TheVariants as goal
use Rattle.tt_command_tables.specs.declared.call.Here.TheVariants as here
use Rattle.tt_command_tables.specs.declared.call.Then.TheVariants as after
use Rattle.tt_command_tables.specs.declared.call.Then.{Then as After}
use Rattle.tt_commands.specs.Calls.{call_of}
use Rattle.tt_control.specs.declared.control.Control.{Control}
use Rattle.tt_control.specs.declared.control.Control.TheVariants as control
use Rattle.tt_evaluation.specs.Plans.{Calls}
use Rattle.tt_frames.specs.Asking.{answering, asking, awaits_of, call_then, following, on_reply, outcome_in, own_send, reply_in_variable, request_then, serving}
use Rattle.tt_frames.specs.Asking.{wait_for, waiting}
use Rattle.tt_frames.specs.Control.{caught, clauses, control_then}
use Rattle.tt_frames.specs.Held as held
use Rattle.tt_frames.specs.Nesting as nesting
use Rattle.tt_frames.specs.Vocabulary.{Then}
use Rattle.tt_frames.specs.declared.job.Awaits.{Awaits}
use Rattle.tt_frames.specs.declared.job.Awaits.TheVariants as awaits
use Rattle.tt_frames.specs.declared.job.Hold.{Hold}
use Rattle.tt_frames.specs.declared.job.Hold.TheVariants as hold
use Rattle.tt_frames.specs.declared.job.Job.TheVariants as job
use Rattle.tt_frames.specs.declared.job.Loop.TheVariants as loop
use Rattle.tt_frames.specs.declared.job.Purpose.TheVariants.{Condition, Value}
use Rattle.tt_frames.specs.declared.job.Until.TheVariants as until
use Rattle.tt_frames.specs.declared.state.Counts.{Counts}
use Rattle.tt_frames.specs.declared.state.TheConstants.{DEEPEST}
use Rattle.tt_outcomes.specs.Endings.{error_ending}
use Rattle.tt_outcomes.specs.declared.ending.Ending.{Ending}
use Rattle.tt_outcomes.specs.declared.ending.Ending.TheVariants as ending
use Rattle.tt_outcomes.specs.declared.got.Got.{Got}
use Rattle.tt_outcomes.specs.declared.got.Got.TheVariants as got
use Rattle.tt_outcomes.specs.declared.want.Body.{Body}
use Rattle.tt_outcomes.specs.declared.want.Body.TheVariants as body

abbrev pub KeepsReply : (Reply → Then) → Type 0
KeepsReply next = (answered : Reply) → KeepsThen None (next answered)

-- ---- requests ----

asks_for : (asked : Request) (go : Reply → Then) → is_ordinary asked ≡ true → KeepsReply go → KeepsThen None (asking asked go)
asks_for asked go is keeps state = ordinarily None asked state (on_reply go) is on
  where
    on : (it : Got) (st : Counts) → KeepsPlan None (on_reply go it st)
    on (got.Reply answered) st = keeps answered st
    on other st = ends refl

answers : KeepsReply answering
answers answered state = ends refl

stored : (name : List ℕ) → KeepsReply (reply_in_variable name)
stored name (reply.Line line) state = in_variable (Some name) line _ state
stored name reply.LineEnd state = in_variable (Some name) [] _ state
stored name (reply.Found true value) state = in_variable (Some name) value _ state
stored name (reply.Found false value) state = ends refl
stored name (reply.Lists removed left) state = in_variable (Some name) left removed state
stored name answered state = ends refl

outcomes : (variable : Option (List ℕ)) → KeepsReply (outcome_in variable)
outcomes (Some name) (reply.Answer outcome) state = in_variable (Some name) outcome.value _ state
outcomes None answered state = ends refl
outcomes (Some name) answered state = ends refl

follows : (kept : Awaits) → KeepsReply (following kept)
follows awaits.Value answered state = ends refl
follows (awaits.Store name) answered state = stored name answered state
follows (awaits.Outcome variable) answered state = outcomes variable answered state
follows (awaits.Answers value) answered state = ends refl
follows (awaits.Result variable) (reply.Posted n) state = asks_for (request.Await n) (outcome_in variable) refl (outcomes variable) state
follows (awaits.End thread) (reply.Value count) state = asks_for (request.AwaitEnd thread) _ refl (λ answered st. ends refl) state
follows awaits.NamedEnd (reply.Waits thread) state = asks_for (request.AwaitEnd thread) answering refl answers state
follows (awaits.Move name) reply.Go state = asks_for (request.Chan (chan.AwaitMove name)) answering refl answers state
follows (awaits.Retake condition mutex) reply.Go state = asks_for (request.Lock (lock.CondTake condition mutex)) answering refl answers state
follows (awaits.Held hold script) reply.Go state = goes {job = job.Held hold script} refl
follows kept answered state = ends refl

-- ---- event loops ----

waits : (asked : Request) (variable : Option (List ℕ)) → is_wait asked ≡ true → KeepsThen None (waiting asked variable)
waits (request.Pool (pool.Look id jobs)) variable is state = goes {job = job.Serve (until.Jobs (wait_for id jobs variable))} refl
waits asked variable is state = absurd (cc is)

serves : (asked : Request) (for : Goal) → FitsGoal asked for → KeepsThen None (serving asked for)
serves asked (goal.Written name) fits state = quietly None _ state _ refl (λ it. refl) (λ it st. goes {job = job.Serve until.Written} refl)
serves asked goal.Idle fits state = goes {job = job.Serve until.Idle} refl
serves asked goal.Stopped fits state = goes {job = job.Serve until.Stopped} refl
serves asked (goal.Pool variable) fits state = waits asked variable fits state

requests : (asked : Request) (next : After) → FitsThen asked next → KeepsThen None (request_then asked next)
requests asked (after.Serve for) fits state = serves asked for fits state
requests asked next fits state = asks_for asked (following (awaits_of asked next)) (ordinary asked fits) (follows (awaits_of asked next)) state

-- ---- commands ----

pub own_sends : (variable : Option (List ℕ)) → KeepsEnding None (own_send variable)
own_sends None ended state = ends refl
own_sends (Some name) ended state = in_variable (Some name) _ _ state

pub calls_keep : (meant : Call) (words : List (List ℕ)) → Fits meant → KeepsThen None (call_then meant words)
calls_keep call.Other words fits state = ends refl
calls_keep (call.Bad message) words fits state = ends refl
calls_keep (call.Here (here.Local value)) words fits state = ends refl
calls_keep (call.Here (here.Direct script variable)) words fits state = calling None (job.Global script) state _ refl (own_sends variable)
calls_keep (call.Ask asked next) words fits state = requests asked next fits state

clauses_keep : (all : List (List ℕ)) → KeepsThen None (clauses all)
clauses_keep [] state = ends refl
clauses_keep (otherwise ∷ []) state = goes {job = job.Script otherwise} refl
clauses_keep (test ∷ body ∷ rest) state =
    calling None (job.Expression Condition test) state _ refl (truly _ _ (λ st. goes {job = job.Script body} refl) (clauses_keep rest))

pub catches : (variable : Option (List ℕ)) → KeepsEnding None (caught variable)
catches variable (ending.Failed fault) state = recorded None _ _ (in_variable variable _ _) state
catches variable (ending.Raised fault) state = recorded None _ _ (in_variable variable _ _) state
catches variable ended state = in_variable variable _ _ state

pub controls : (words : List (List ℕ)) (meant : Control) → ((me : ℕ) → Fits (call_of words me)) → KeepsThen None (control_then words meant)
controls words control.Other fit state = calls_keep _ words (fit state.me) state
controls words (control.Bad message) fit state = ends refl
controls words control.Break fit state = ends refl
controls words control.Continue fit state = ends refl
controls words (control.Return kept value) fit state = ends refl
controls words (control.Error message info) fit state = ends refl
controls words (control.Catch script variable) fit state = calling None (job.Script script) state _ refl (catches variable)
controls words (control.Expr text) fit state = goes {job = job.Expression Value text} refl
controls words (control.If rest) fit state = clauses_keep rest state
controls words (control.While test body) fit state = goes {job = job.Loop (loop.While test body)} refl
controls words (control.For start test next body) fit state =
    calling None (job.Script start) state _ refl (finely None _ _ (λ value st. goes {job = job.Loop (loop.For test next body)} refl) same)
controls words (control.Foreach names values body) fit state = goes {job = job.Loop (loop.Foreach names values body)} refl
controls words (control.Script text) fit state = goes {job = job.Script text} refl

-- ---- nested evaluations and holds ----

leaves : (kind : Body) (ended : Ending) → KeepsThen None (nesting.leaving kind ended)
leaves kind ended state = quietly None _ state _ refl (λ it. refl) (λ it st. ends refl)

pub nested : (kind : Body) (text : List ℕ) → KeepsThen None (nesting.body_then kind text)
nested kind text state = go (nat_lt state.nested DEEPEST)
  where
    go : (b : Bool) → KeepsPlan None
        (if b then Calls None (job.Script text) (nesting.deeper state) (nesting.left kind) else nesting.leaving kind (error_ending nesting.too_deep) state)
    go true = calling None (job.Script text) (nesting.deeper state) _ refl (λ ended st. leaves kind _ (nesting.shallower st))
    go false = leaves kind _ state

pub globals : (text : List ℕ) → KeepsThen None (nesting.global text)
globals text state = quietly None _ state _ refl (λ it. refl) (λ it st. goes {job = job.Nested body.Global text} refl)

release_ordinary : (one : Hold) → is_ordinary (held.release_of one) ≡ true
release_ordinary (hold.Array array) = refl
release_ordinary (hold.Mutex id) = refl

lets_go : (one : Hold) (ended : Ending) → KeepsThen None (held.letting_go one ended)
lets_go one ended state = ordinarily None (held.release_of one) state _ (release_ordinary one) (λ it st. ends refl)

pub holds : (one : Hold) (text : List ℕ) → KeepsThen None (held.script_in_hold one text)
holds one text state = go (nat_lt state.nested DEEPEST)
  where
    go : (b : Bool) → KeepsPlan None
        (if b then Calls None (job.Script text) (nesting.deeper state) (held.end_of_hold one) else held.letting_go one (error_ending nesting.too_deep) state)
    go true = calling None (job.Script text) (nesting.deeper state) _ refl (λ ended st. lets_go one ended (nesting.shallower st))
    go false = lets_go one _ state
