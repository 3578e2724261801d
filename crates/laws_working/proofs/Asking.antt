-- Commands that ask, and that evaluate, are plain.
use Rattle.std.proofs.Common.{◌≡◌, ℕ, Bool, true, false, List, [], ◌∷◌, Option, Some, None, nat_lt, if◌then◌else◌, refl}
use Rattle.laws_serving.proofs.Fitting.{Fits, FitsGoal, FitsThen, is_commanded, is_wait}
use Rattle.laws_working.proofs.Plain.{Plain, PlainEnding, PlainThen, asks, calls, ends, goes, is_plain}
use Rattle.laws_working.proofs.Plans.{finely, in_variable, recorded, same, truly}
use Rattle.tt_calls.specs.declared.chan_call.ChanCall.TheVariants as chan
use Rattle.tt_calls.specs.declared.lock_call.LockCall.TheVariants as lock
use Rattle.tt_calls.specs.declared.pool_call.PoolCall.TheVariants as pool
use Rattle.tt_calls.specs.declared.reply.Reply.TheVariants as reply
use Rattle.tt_calls.specs.declared.reply.Reply.{Reply}
use Rattle.tt_calls.specs.declared.request.Request.TheVariants as request
use Rattle.tt_calls.specs.declared.request.Request.{Request}
use Rattle.tt_command_tables.specs.declared.call.Call.TheVariants as call
use Rattle.tt_command_tables.specs.declared.call.Call.{Call}
use Rattle.tt_command_tables.specs.declared.call.Goal.TheVariants as goal
use Rattle.tt_command_tables.specs.declared.call.Goal.{Goal}
use Rattle.tt_command_tables.specs.declared.call.Here.TheVariants as here
use Rattle.tt_command_tables.specs.declared.call.Then.TheVariants as after
use Rattle.tt_command_tables.specs.declared.call.Then.{Then as After}
use Rattle.tt_commands.specs.Calls.{call_of}
use Rattle.tt_control.specs.declared.control.Control.TheVariants as control
use Rattle.tt_control.specs.declared.control.Control.{Control}
use Rattle.tt_evaluation.specs.Plans.{Calls}
use Rattle.tt_frames.specs.Asking.{answering, asking, awaits_of, call_then, following, on_reply, outcome_in, own_send, reply_in_variable, request_then, serving}
use Rattle.tt_frames.specs.Asking.{waiting}
use Rattle.tt_frames.specs.Control.{caught, clauses, control_then}
use Rattle.tt_frames.specs.Held as held
use Rattle.tt_frames.specs.Nesting as nesting
use Rattle.tt_frames.specs.Vocabulary.{Then}
use Rattle.tt_frames.specs.declared.job.Awaits.TheVariants as awaits
use Rattle.tt_frames.specs.declared.job.Awaits.{Awaits}
use Rattle.tt_frames.specs.declared.job.Hold.TheVariants as hold
use Rattle.tt_frames.specs.declared.job.Hold.{Hold}
use Rattle.tt_frames.specs.declared.job.Job.TheVariants as job
use Rattle.tt_frames.specs.declared.state.Counts.{Counts}
use Rattle.tt_frames.specs.declared.state.TheConstants.{DEEPEST}
use Rattle.tt_outcomes.specs.Endings.{error_ending}
use Rattle.tt_outcomes.specs.declared.ending.Ending.TheVariants as ending
use Rattle.tt_outcomes.specs.declared.ending.Ending.{Ending}
use Rattle.tt_outcomes.specs.declared.got.Got.TheVariants as got
use Rattle.tt_outcomes.specs.declared.got.Got.{Got}
use Rattle.tt_outcomes.specs.declared.want.Body.{Body}

abbrev pub PlainReply : (Reply → Then) → Type 0
PlainReply next = (answered : Reply) → PlainThen (next answered)

-- ---- requests ----

asks_for : (asked : Request) (go : Reply → Then) → is_plain asked ≡ true → PlainReply go → PlainThen (asking asked go)
asks_for asked go is plain state = asks is on
  where
    on : (it : Got) (st : Counts) → Plain (on_reply go it st)
    on (got.Reply answered) st = plain answered st
    on other st = ends

answers : PlainReply answering
answers answered state = ends

stored : (name : List ℕ) → PlainReply (reply_in_variable name)
stored name (reply.Line line) state = in_variable (Some name) line _ state
stored name reply.LineEnd state = in_variable (Some name) [] _ state
stored name (reply.Found true value) state = in_variable (Some name) value _ state
stored name (reply.Found false value) state = ends
stored name (reply.Lists removed left) state = in_variable (Some name) left removed state
stored name answered state = ends

outcomes : (variable : Option (List ℕ)) → PlainReply (outcome_in variable)
outcomes (Some name) (reply.Answer outcome) state = in_variable (Some name) outcome.value _ state
outcomes None answered state = ends
outcomes (Some name) answered state = ends

follows : (kept : Awaits) → PlainReply (following kept)
follows awaits.Value answered state = ends
follows (awaits.Store name) answered state = stored name answered state
follows (awaits.Outcome variable) answered state = outcomes variable answered state
follows (awaits.Answers value) answered state = ends
follows (awaits.Result variable) (reply.Posted n) state = asks_for (request.Await n) (outcome_in variable) refl (outcomes variable) state
follows (awaits.End thread) (reply.Value count) state = asks_for (request.AwaitEnd thread) _ refl (λ answered st. ends) state
follows awaits.NamedEnd (reply.Waits thread) state = asks_for (request.AwaitEnd thread) answering refl answers state
follows (awaits.Move name) reply.Go state = asks_for (request.Chan (chan.AwaitMove name)) answering refl answers state
follows (awaits.Retake condition mutex) reply.Go state = asks_for (request.Lock (lock.CondTake condition mutex)) answering refl answers state
follows (awaits.Held hold script) reply.Go state = goes refl
follows kept answered state = ends

-- ---- event loops ----

waits : (asked : Request) (variable : Option (List ℕ)) → is_wait asked ≡ true → PlainThen (waiting asked variable)
waits (request.Pool (pool.Look id jobs)) variable is state = goes refl
waits asked variable is state = absurd (cc is)

serves : (asked : Request) (for : Goal) → FitsGoal asked for → PlainThen (serving asked for)
serves asked (goal.Written name) fits state = asks refl (λ it st. goes refl)
serves asked goal.Idle fits state = goes refl
serves asked goal.Stopped fits state = goes refl
serves asked (goal.Pool variable) fits state = waits asked variable fits state

plainly : (asked : Request) → is_commanded asked ≡ true → is_plain asked ≡ true
plainly (request.Pool (pool.JobTake id)) is = absurd (cc is)
plainly (request.Pool (pool.JobDone id n outcome)) is = absurd (cc is)
plainly (request.Pool call) is = refl
plainly asked is = refl

requests : (asked : Request) (next : After) → FitsThen asked next → PlainThen (request_then asked next)
requests asked (after.Serve for) fits state = serves asked for fits state
requests asked next fits state = asks_for asked (following (awaits_of asked next)) (plainly asked fits) (follows (awaits_of asked next)) state

-- ---- commands ----

pub own_sends : (variable : Option (List ℕ)) → PlainEnding (own_send variable)
own_sends None ended state = ends
own_sends (Some name) ended state = in_variable (Some name) _ _ state

pub calls_plain : (meant : Call) (words : List (List ℕ)) → Fits meant → PlainThen (call_then meant words)
calls_plain call.Other words fits state = ends
calls_plain (call.Bad message) words fits state = ends
calls_plain (call.Here (here.Local value)) words fits state = ends
calls_plain (call.Here (here.Direct script variable)) words fits state = calls refl (own_sends variable)
calls_plain (call.Ask asked next) words fits state = requests asked next fits state

clauses_plain : (all : List (List ℕ)) → PlainThen (clauses all)
clauses_plain [] state = ends
clauses_plain (otherwise ∷ []) state = goes refl
clauses_plain (test ∷ body ∷ rest) state = calls refl (truly _ _ (λ st. goes refl) (clauses_plain rest))

pub catches : (variable : Option (List ℕ)) → PlainEnding (caught variable)
catches variable (ending.Failed fault) state = recorded _ _ (in_variable variable _ _) state
catches variable (ending.Raised fault) state = recorded _ _ (in_variable variable _ _) state
catches variable ended state = in_variable variable _ _ state

pub controls : (words : List (List ℕ)) (meant : Control) → ((me : ℕ) → Fits (call_of words me)) → PlainThen (control_then words meant)
controls words control.Other fit state = calls_plain _ words (fit state.me) state
controls words (control.Bad message) fit state = ends
controls words control.Break fit state = ends
controls words control.Continue fit state = ends
controls words (control.Return kept value) fit state = ends
controls words (control.Error message info) fit state = ends
controls words (control.Catch script variable) fit state = calls refl (catches variable)
controls words (control.Expr text) fit state = goes refl
controls words (control.If rest) fit state = clauses_plain rest state
controls words (control.While test body) fit state = goes refl
controls words (control.For start test next body) fit state = calls refl (finely _ _ (λ value st. goes refl) same)
controls words (control.Foreach names values body) fit state = goes refl
controls words (control.Script text) fit state = goes refl

-- ---- nested evaluations and holds ----

leaves : (kind : Body) (ended : Ending) → PlainThen (nesting.leaving kind ended)
leaves kind ended state = asks refl (λ it st. ends)

pub nested : (kind : Body) (text : List ℕ) → PlainThen (nesting.body_then kind text)
nested kind text state = go (nat_lt state.nested DEEPEST)
  where
    go : (b : Bool) → Plain
        (if b then Calls None (job.Script text) (nesting.deeper state) (nesting.left kind) else nesting.leaving kind (error_ending nesting.too_deep) state)
    go true = calls refl (λ ended st. leaves kind _ (nesting.shallower st))
    go false = leaves kind _ state

pub globals : (text : List ℕ) → PlainThen (nesting.global text)
globals text state = asks refl (λ it st. goes refl)

release_plain : (one : Hold) → is_plain (held.release_of one) ≡ true
release_plain (hold.Array array) = refl
release_plain (hold.Mutex id) = refl

lets_go : (one : Hold) (ended : Ending) → PlainThen (held.letting_go one ended)
lets_go one ended state = asks (release_plain one) (λ it st. ends)

pub holds : (one : Hold) (text : List ℕ) → PlainThen (held.script_in_hold one text)
holds one text state = go (nat_lt state.nested DEEPEST)
  where
    go : (b : Bool) → Plain
        (if b then Calls None (job.Script text) (nesting.deeper state) (held.end_of_hold one) else held.letting_go one (error_ending nesting.too_deep) state)
    go true = calls refl (λ ended st. lets_go one ended (nesting.shallower st))
    go false = lets_go one _ state
