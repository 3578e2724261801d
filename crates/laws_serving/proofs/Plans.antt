-- The plans of Tcl keep to their duties: words that all of them are written in, scripts, expressions and loops.
use Rattle.std.proofs.Common.{◌≡◌, ◌&&◌, not, ℕ, Bool, true, false, List, [], ◌∷◌, Option, Some, None, is_some, if◌then◌else◌, bytes_eq, codes, refl, sym}
use Rattle.std.proofs.Common.{subst}
use Rattle.laws_serving.specs.Duties.{Keeps, asks, calls, ends, goes}
use Rattle.laws_serving.specs.Requests.{delivered, is_ordinary, takes_events}
use Rattle.laws_serving.specs.Serving.{duties, handed, owes, taken}
use Rattle.tt_calls.specs.declared.reply.Reply.TheVariants as reply
use Rattle.tt_calls.specs.declared.request.Request.{Request}
use Rattle.tt_calls.specs.declared.request.Request.TheVariants as request
use Rattle.tt_code.specs.Needs.{Needs, Refused, Script, Values, Variable}
use Rattle.tt_evaluation.specs.Plans.{Asks, Calls}
use Rattle.tt_frames.specs.Events.{post_of}
use Rattle.tt_frames.specs.Loops as loops
use Rattle.tt_frames.specs.Programs.{PlainStep, Wrong, Does}
use Rattle.tt_frames.specs.Scripts.{OnValues, command_end, command_of_words, command_then, commands, needing}
use Rattle.tt_frames.specs.Units.{by_unit, counts_after_unit, past_limit, spending, unit_of}
use Rattle.tt_frames.specs.Vocabulary.{OnEnding, OnValue, TclPlan, Then, ending_of, on_fine, on_truth, same_ending, set_name, setting, variable_result}
use Rattle.tt_frames.specs.Vocabulary.{with_error_info}
use Rattle.tt_frames.specs.declared.job.Job.{Job}
use Rattle.tt_frames.specs.declared.job.Job.TheVariants as job
use Rattle.tt_frames.specs.declared.job.Loop.{Loop}
use Rattle.tt_frames.specs.declared.job.Loop.TheVariants.{While, For, Foreach}
use Rattle.tt_frames.specs.declared.job.Purpose.TheVariants.{Condition}
use Rattle.tt_frames.specs.declared.state.Counts.{Counts}
use Rattle.tt_frames.specs.declared.state.Unit.{Unit}
use Rattle.tt_frames.specs.declared.state.Unit.TheVariants.{Past, Pauses, Spent}
use Rattle.tt_outcomes.specs.Endings.{error_ending, fine, of_value}
use Rattle.tt_outcomes.specs.declared.ending.Ending.{Ending}
use Rattle.tt_outcomes.specs.declared.ending.Ending.TheVariants.{Fine, Failed, Raised, Returned, Broke, Continued}
use Rattle.tt_outcomes.specs.declared.got.Got.{Got}
use Rattle.tt_outcomes.specs.declared.got.Got.TheVariants as got
use Rattle.tt_outcomes.specs.declared.want.Want.{Want}
use Rattle.tt_outcomes.specs.declared.want.Want.TheVariants as want
use Rattle.tt_script.specs.Names.{element_of}

abbrev pub KeepsPlan : Option ℕ → TclPlan → Type 0
KeepsPlan owed one = Keeps duties owed None one

abbrev pub KeepsThen : Option ℕ → Then → Type 0
KeepsThen owed next = (state : Counts) → KeepsPlan owed (next state)

abbrev pub KeepsEnding : Option ℕ → OnEnding → Type 0
KeepsEnding owed next = (ending : Ending) (state : Counts) → KeepsPlan owed (next ending state)

abbrev pub KeepsValue : Option ℕ → OnValue → Type 0
KeepsValue owed next = (value : List ℕ) (state : Counts) → KeepsPlan owed (next value state)

abbrev pub KeepsValues : Option ℕ → OnValues → Type 0
KeepsValues owed next = (values : List (List ℕ)) (state : Counts) → KeepsPlan owed (next values state)

-- ---- what is wanted ----

-- what takes no post and hands none over
pub quietly : (owed : Option ℕ) (wanted : Want) (state : Counts) (on : Got → Counts → TclPlan) → handed wanted ≡ None → ((it : Got) → taken wanted it ≡ None)
    → ((it : Got) (after : Counts) → KeepsPlan owed (on it after)) → KeepsPlan owed (Asks wanted state on)
quietly owed wanted state on quiet none keeps = asks quiet (λ it after. subst (λ begun. Keeps duties owed begun (on it after)) (sym (none it)) (keeps it after))

-- a job is called that owes no post
pub calling : (owed : Option ℕ) (called : Job) (state : Counts) (on : OnEnding) → owes called ≡ None → KeepsEnding owed on
    → KeepsPlan owed (Calls None called state on)
calling owed called state on is keeps = calls {job = called} {state = state} {on = on} is keeps

both_parts : (a b : Bool) → a && b ≡ true → (a ≡ true) × (b ≡ true)
both_parts true true is = (refl, refl)
both_parts true false is = absurd (cc is)
both_parts false b is = absurd (cc is)

pub not_delivered : (asked : Request) → is_ordinary asked ≡ true → delivered asked ≡ None
not_delivered asked is = go (delivered asked) (both_parts (not (is_some (delivered asked))) (not (takes_events asked)) is).0
  where
    go : (post : Option ℕ) → not (is_some post) ≡ true → post ≡ None
    go None is = refl
    go (Some n) is = absurd (cc is)

pub not_taken : (asked : Request) → is_ordinary asked ≡ true → (it : Got) → taken (want.Ask asked) it ≡ None
not_taken asked is (got.Reply (reply.Event event)) =
    go (takes_events asked) (both_parts (not (is_some (delivered asked))) (not (takes_events asked)) is).1
  where
    go : (b : Bool) → not b ≡ true → (if b then post_of event else None) ≡ None
    go true is = absurd (cc is)
    go false is = refl
not_taken asked is other = refl

pub ordinarily : (owed : Option ℕ) (asked : Request) (state : Counts) (on : Got → Counts → TclPlan) → is_ordinary asked ≡ true
    → ((it : Got) (after : Counts) → KeepsPlan owed (on it after)) → KeepsPlan owed (Asks (want.Ask asked) state on)
ordinarily owed asked state on is keeps = quietly owed (want.Ask asked) state on (not_delivered asked is) (not_taken asked is) keeps

-- ---- words that plans are written in ----

pub same : KeepsEnding None same_ending
same ending state = ends refl

pub finely : (owed : Option ℕ) (go : OnValue) (quit : OnEnding) → KeepsValue owed go → KeepsEnding owed quit → KeepsEnding owed (on_fine go quit)
finely owed go quit on out (Fine value) state = on value state
finely owed go quit on out (Failed fault) state = out (Failed fault) state
finely owed go quit on out (Raised fault) state = out (Raised fault) state
finely owed go quit on out (Returned value code) state = out (Returned value code) state
finely owed go quit on out (Broke value line) state = out (Broke value line) state
finely owed go quit on out (Continued value line) state = out (Continued value line) state

pub truly : (holds fails : Then) → KeepsThen None holds → KeepsThen None fails → KeepsEnding None (on_truth holds fails)
truly holds fails first second =
    finely None (λ value st. (if bytes_eq value (codes "1") then holds else fails) st) same_ending (λ value st. go (bytes_eq value (codes "1")) st) same
  where
    go : (b : Bool) (st : Counts) → KeepsPlan None ((if b then holds else fails) st)
    go true st = first st
    go false st = second st

pub set_quiet : (name value : List ℕ) → (handed (setting name value) ≡ None) × ((it : Got) → taken (setting name value) it ≡ None)
set_quiet name value = go (element_of name)
  where
    go : (element : Option (List ℕ × List ℕ)) → (handed (set_name element name value) ≡ None) × ((it : Got) → taken (set_name element name value) it ≡ None)
    go None = (refl, λ it. refl)
    go (Some (array, index)) = (refl, λ it. refl)

pub in_variable : (variable : Option (List ℕ)) (value result : List ℕ) → KeepsThen None (variable_result variable value result)
in_variable None value result state = ends refl
in_variable (Some name) value result state =
    let quiet = set_quiet name value in
    quietly None (setting name value) state _ quiet.0 quiet.1
    (λ it after. finely None (λ old. same_ending (Fine result)) same_ending (λ old st. ends refl) same (ending_of it) after)

pub recorded : (owed : Option ℕ) (trace : List ℕ) (go : Then) → KeepsThen owed go → KeepsThen owed (with_error_info trace go)
recorded owed trace go keeps state = quietly owed _ state _ refl (λ it. refl) (λ it after. keeps after)

pub spends : (go past : Then) → KeepsThen None go → KeepsThen None past → KeepsThen None (spending go past)
spends go past on out state = by (unit_of state)
  where
    by : (unit : Unit) → KeepsPlan None (by_unit unit (counts_after_unit state) go past)
    by Past = out (counts_after_unit state)
    by Pauses = ordinarily None request.Pause (counts_after_unit state) _ refl (λ it after. on after)
    by Spent = on (counts_after_unit state)

-- ---- scripts ----

pub needs : (finish : OnValues) (quit : OnEnding) → KeepsValues None finish → KeepsEnding None quit → (all : Needs) → KeepsThen None (needing finish quit all)
needs finish quit on out (Variable name index go) state =
    quietly None _ state _ refl (λ it. refl)
    (λ it after. finely None (λ value. needing finish quit (go value)) quit (λ value. needs finish quit on out (go value)) out (ending_of it) after)
needs finish quit on out (Script text go) state =
    calling None (job.Script text) state _ refl
    (λ ending after. finely None (λ value. needing finish quit (go value)) quit (λ value. needs finish quit on out (go value)) out ending after)
needs finish quit on out (Refused message) state = out (error_ending message) state
needs finish quit on out (Values values) state = on values state

pub runs : (go : OnEnding) → KeepsEnding None go → (it : Got) → KeepsThen None (command_then go it)
runs go keeps (got.Value outcome) state = keeps (of_value outcome) state
runs go keeps (got.Own words) state = calling None (job.Own words) state go refl keeps
runs go keeps (got.RunBody body text) state = calling None (job.Nested body text) state go refl keeps
runs go keeps (got.Reply answered) state = keeps (fine []) state

pub words_run : (go : OnEnding) → KeepsEnding None go → KeepsValues None (command_of_words go)
words_run go keeps words state = quietly None _ state _ refl (λ it. refl) (λ it after. runs go keeps it after)

pub command_ends : (text : List ℕ) (start end : ℕ) (next : OnValue) → KeepsValue None next → KeepsEnding None (command_end text start end next)
command_ends text start end next keeps (Fine value) state = keeps value state
command_ends text start end next keeps (Failed fault) state = ends refl
command_ends text start end next keeps (Raised fault) state = ends refl
command_ends text start end next keeps (Returned value code) state = ends refl
command_ends text start end next keeps (Broke value line) state = ends refl
command_ends text start end next keeps (Continued value line) state = ends refl

pub commands_keep : (text : List ℕ) (steps : List PlainStep) → KeepsValue None (commands text steps)
commands_keep text [] last state = ends refl
commands_keep text (Wrong fault start ∷ steps) last state = ends refl
commands_keep text (Does all start end ∷ steps) last state =
    let after = command_ends text start end (commands text steps) (commands_keep text steps) in
    let all_words = needs (command_of_words (command_end text start end (commands text steps))) _ (words_run _ after) after all in
    spends _ _ all_words (after (error_ending past_limit)) state

-- ---- loops ----

pub done_keeps : KeepsThen None loops.done
done_keeps state = ends refl

pub body_ends : (again : Then) → KeepsThen None again → KeepsEnding None (loops.after_body again)
body_ends again keeps (Fine value) state = keeps state
body_ends again keeps (Continued value line) state = keeps state
body_ends again keeps (Broke value line) state = ends refl
body_ends again keeps (Failed fault) state = ends refl
body_ends again keeps (Raised fault) state = ends refl
body_ends again keeps (Returned value code) state = ends refl

next_ends : (again : Then) → KeepsThen None again → KeepsEnding None (loops.after_next again)
next_ends again keeps (Fine value) state = keeps state
next_ends again keeps (Broke value line) state = ends refl
next_ends again keeps (Continued value line) state = ends refl
next_ends again keeps (Failed fault) state = ends refl
next_ends again keeps (Raised fault) state = ends refl
next_ends again keeps (Returned value code) state = ends refl

follows : (loop : Loop) → KeepsThen None (loops.following loop)
follows (While test body) state = goes {job = job.Loop (While test body)} refl
follows (Foreach names values body) state = goes {job = job.Loop (Foreach names values body)} refl
follows (For test next body) state = calling None (job.Script next) state _ refl (next_ends _ (λ st. goes {job = job.Loop (For test next body)} refl))

bodily : (loop : Loop) → KeepsThen None (loops.bodily loop)
bodily loop state = calling None (job.Script (loops.body_of loop)) state _ refl (body_ends (loops.following loop) (follows loop))

assigns : (names left values : List (List ℕ)) (body : List ℕ) → KeepsThen None (loops.assigning names left values body)
assigns names [] values body state = bodily (Foreach names values body) state
assigns names (name ∷ left) [] body state = bodily (Foreach names [] body) state
assigns names (name ∷ left) (value ∷ values) body state =
    let quiet = set_quiet name value in
    quietly None (setting name value) state _ quiet.0 quiet.1
    (λ it after. finely None (λ old. loops.assigning names left values body) same_ending (λ old. assigns names left values body) same (ending_of it) after)

pub turns : (loop : Loop) → KeepsThen None (loops.turning loop)
turns (While test body) state = calling None (job.Expression Condition test) state _ refl (truly _ _ (bodily (While test body)) done_keeps)
turns (For test next body) state = calling None (job.Expression Condition test) state _ refl (truly _ _ (bodily (For test next body)) done_keeps)
turns (Foreach names values body) state = assigns names names values body state

pub loops_keep : (loop : Loop) → KeepsThen None (loops.looping loop)
loops_keep loop state = go (loops.is_over loop)
  where
    go : (b : Bool) → KeepsPlan None ((if b then loops.done else loops.next_turn loop) state)
    go true = ends refl
    go false = spends _ _ (λ st. goes {job = job.Turn loop} refl) (same (error_ending past_limit)) state
