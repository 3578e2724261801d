-- The plans of Tcl keep to their bounds: words that all of them are written in, scripts, expressions and loops.
use Rattle.std.proofs.Common.{◌≡◌, ◌≤◌, ◌<◌, ◌+◌, ◌*◌, ◌-◌, ◌%◌, ◌==◌, nat_le, ℕ, Bool, true, false, List, [], ◌∷◌}
use Rattle.std.proofs.Common.{Option, Some, None, if◌then◌else◌, bytes_eq, codes, refl, arith}
use Rattle.std.proofs.lemmas.Bool.Decides.{nat_tests}
use Rattle.laws_pauses.proofs.Bounds.{Comes, asks, calls, ends, goes, left, rank, wants}
use Rattle.tt_calls.specs.declared.request.Request.{Request}
use Rattle.tt_code.specs.Needs.{Needs, Refused, Script, Values, Variable}
use Rattle.tt_evaluation.specs.Plans.{Asks, Calls, Goes}
use Rattle.tt_frames.specs.Loops as loops
use Rattle.tt_frames.specs.Programs.{PlainStep, Wrong, Does}
use Rattle.tt_frames.specs.Scripts.{OnValues, command_end, command_of_words, command_then, commands, needing}
use Rattle.tt_frames.specs.Units.{by_unit, past_limit, spending}
use Rattle.tt_frames.specs.Vocabulary.{OnEnding, OnValue, TclPlan, Then, ending_of, on_fine, on_truth, same_ending, setting, variable_result}
use Rattle.tt_frames.specs.Vocabulary.{with_error_info}
use Rattle.tt_frames.specs.declared.job.Job.{Job}
use Rattle.tt_frames.specs.declared.job.Job.TheVariants as job
use Rattle.tt_frames.specs.declared.job.Loop.{Loop}
use Rattle.tt_frames.specs.declared.job.Loop.TheVariants.{While, For, Foreach}
use Rattle.tt_frames.specs.declared.job.Purpose.TheVariants.{Condition}
use Rattle.tt_frames.specs.declared.state.Counts.{Counts}
use Rattle.tt_frames.specs.declared.state.TheConstants.{STRETCH}
use Rattle.tt_frames.specs.declared.state.Unit.TheVariants.{Past, Pauses, Spent}
use Rattle.tt_outcomes.specs.Endings.{error_ending, fine, of_value}
use Rattle.tt_outcomes.specs.declared.ending.Ending.{Ending}
use Rattle.tt_outcomes.specs.declared.ending.Ending.TheVariants.{Fine, Failed, Raised, Returned, Broke, Continued}
use Rattle.tt_outcomes.specs.declared.got.Got.{Got}
use Rattle.tt_outcomes.specs.declared.got.Got.TheVariants as got
use Rattle.tt_outcomes.specs.declared.want.Want.{Want}
use Rattle.tt_outcomes.specs.declared.want.Want.TheVariants as want

-- a plan within what is left of a state, and a rank
abbrev pub LightAt : ℕ → Counts → TclPlan → Type 0
LightAt k state one = (m b : ℕ) → left state ≤ m → 8 * left state + k ≤ b → Comes m b one

abbrev pub LightThen : ℕ → Then → Type 0
LightThen k next = (state : Counts) → LightAt k state (next state)

abbrev pub LightEnding : ℕ → OnEnding → Type 0
LightEnding k next = (ending : Ending) (state : Counts) → LightAt k state (next ending state)

abbrev pub LightValue : ℕ → OnValue → Type 0
LightValue k next = (value : List ℕ) (state : Counts) → LightAt k state (next value state)

abbrev pub LightValues : ℕ → OnValues → Type 0
LightValues k next = (values : List (List ℕ)) (state : Counts) → LightAt k state (next values state)

pub over : (k : ℕ) (ending : Ending) (state : Counts) → LightAt k state (same_ending ending state)
over k ending state m b low high = ends low

pub heavier : (j k : ℕ) (state : Counts) (one : TclPlan) → j ≤ k → LightAt j state one → LightAt k state one
heavier j k state one le light m b low high = light m b low (omega (arith, high, le))

-- ---- what is wanted ----

pub wanting : (k : ℕ) (wanted : Want) (state : Counts) (on : Got → Then) → ((it : Got) → LightAt k state (on it state)) → LightAt k state (Asks wanted state on)
wanting k wanted state on light m b low high = wants (λ it. light it m b low high)

-- after a request all may be called
pub asking_for : (k : ℕ) (asked : Request) (state : Counts) (on : Got → Then) → ((it : Got) → LightAt 8 state (on it state))
    → LightAt k state (Asks (want.Ask asked) state on)
asking_for k asked state on light m b low high = asks refl (λ it. light it)

pub calling : (k : ℕ) (serves : Option ℕ) (called : Job) (state : Counts) (on : OnEnding) → k ≤ 8 → rank called < k → LightEnding k on
    → LightAt k state (Calls serves called state on)
calling k serves called state on top less light m b low high = calls k top low high less light

pub going : (k : ℕ) (next : Job) (state : Counts) → rank next < k → LightAt k state (Goes next state)
going k next state less m b low high = goes low (omega (arith, high, less))

-- ---- words that plans are written in ----

pub finely : (k : ℕ) (go : OnValue) (quit : OnEnding) → LightValue k go → LightEnding k quit → LightEnding k (on_fine go quit)
finely k go quit on out (Fine value) state = on value state
finely k go quit on out (Failed fault) state = out (Failed fault) state
finely k go quit on out (Raised fault) state = out (Raised fault) state
finely k go quit on out (Returned value code) state = out (Returned value code) state
finely k go quit on out (Broke value line) state = out (Broke value line) state
finely k go quit on out (Continued value line) state = out (Continued value line) state

pub truly : (k : ℕ) (holds fails : Then) → LightThen k holds → LightThen k fails → LightEnding k (on_truth holds fails)
truly k holds fails first second =
    finely k (λ value st. (if bytes_eq value (codes "1") then holds else fails) st) same_ending (λ value st. go (bytes_eq value (codes "1")) st) (over k)
  where
    go : (b : Bool) (st : Counts) → LightAt k st ((if b then holds else fails) st)
    go true st = first st
    go false st = second st

pub in_variable : (k : ℕ) (variable : Option (List ℕ)) (value result : List ℕ) → LightThen k (variable_result variable value result)
in_variable k None value result state = over k (Fine result) state
in_variable k (Some name) value result state =
    wanting k (setting name value) state _
    (λ it. finely k (λ old. same_ending (Fine result)) same_ending (λ old. over k (Fine result)) (over k) (ending_of it) state)

pub recorded : (k : ℕ) (trace : List ℕ) (go : Then) → LightThen k go → LightThen k (with_error_info trace go)
recorded k trace go light state = wanting k _ state _ (λ it. light state)

-- ---- units ----

abbrev after_unit : Counts → Counts
after_unit state = record state { units = state.units + 1 }

less : (state : Counts) → nat_le state.limit state.units ≡ false → ((state.units + 1) % STRETCH == 0) ≡ false → left (after_unit state) < left state
less state room is = rw room (go (nat_le state.limit (state.units + 1)))
  where
    other : (state.units + 1) % STRETCH ≡ 0 → ⊥
    other same = grind (arith, nat_tests, is, same)

    go : (b : Bool) → (if b then 0 else STRETCH - (state.units + 1) % STRETCH) < STRETCH - state.units % STRETCH
    go true = omega arith
    go false = omega (arith, other)

pub spends : (go past : Then) → LightThen 8 go → LightThen 0 past → LightThen 0 (spending go past)
spends go past on out state m b low high = by (nat_le state.limit state.units) ((state.units + 1) % STRETCH == 0) refl refl
  where
    by : (p q : Bool) → nat_le state.limit state.units ≡ p → ((state.units + 1) % STRETCH == 0) ≡ q
        → Comes m b (by_unit (if p then Past else (if q then Pauses else Spent)) (if p then state else after_unit state) go past)
    by true q room is = out state m b low high
    by false true room is = asks refl (λ it. on (after_unit state))
    by false false room is =
        let fewer = less state room is in
        on (after_unit state) m b (omega (arith, fewer, low)) (omega (arith, fewer, high))

-- ---- scripts ----

pub needs : (k : ℕ) (finish : OnValues) (quit : OnEnding) → 0 < k → k ≤ 8 → LightValues k finish → LightEnding k quit → (all : Needs)
    → LightThen k (needing finish quit all)
needs k finish quit some top on out (Variable name index go) state =
    wanting k _ state _
    (λ it. finely k (λ value. needing finish quit (go value)) quit (λ value. needs k finish quit some top on out (go value)) out (ending_of it) state)
needs k finish quit some top on out (Script text go) state =
    calling k None (job.Script text) state _ top some
    (finely k (λ value. needing finish quit (go value)) quit (λ value. needs k finish quit some top on out (go value)) out)
needs k finish quit some top on out (Refused message) state = out (error_ending message) state
needs k finish quit some top on out (Values values) state = on values state

pub runs : (go : OnEnding) → LightEnding 8 go → (it : Got) → LightThen 8 (command_then go it)
runs go light (got.Value outcome) state = light (of_value outcome) state
runs go light (got.Own words) state = calling 8 None (job.Own words) state go (omega arith) (omega arith) light
runs go light (got.RunBody body text) state = calling 8 None (job.Nested body text) state go (omega arith) (omega arith) light
runs go light (got.Reply answered) state = light (fine []) state

pub words_run : (go : OnEnding) → LightEnding 8 go → LightValues 8 (command_of_words go)
words_run go light words state = wanting 8 _ state _ (λ it. runs go light it state)

pub command_ends : (k : ℕ) (text : List ℕ) (start end : ℕ) (next : OnValue) → LightValue k next → LightEnding k (command_end text start end next)
command_ends k text start end next light (Fine value) state = light value state
command_ends k text start end next light (Failed fault) state = over k _ state
command_ends k text start end next light (Raised fault) state = over k _ state
command_ends k text start end next light (Returned value code) state = over k _ state
command_ends k text start end next light (Broke value line) state = over k _ state
command_ends k text start end next light (Continued value line) state = over k _ state

pub commands_light : (text : List ℕ) (steps : List PlainStep) → LightValue 0 (commands text steps)
commands_light text [] last state = over 0 _ state
commands_light text (Wrong fault start ∷ steps) last state = over 0 _ state
commands_light text (Does all start end ∷ steps) last state =
    let next : LightValue 8 (commands text steps) = λ value st. heavier 0 8 st _ (omega arith) (commands_light text steps value st) in
    let after = command_ends 8 text start end (commands text steps) next in
    let out = command_ends 0 text start end (commands text steps) (commands_light text steps) in
    let all_words = needs 8 (command_of_words (command_end text start end (commands text steps))) _ (omega arith) (omega arith) (words_run _ after) after all in
    spends _ _ all_words (out (error_ending past_limit)) state

-- ---- loops ----

pub done_light : (k : ℕ) → LightThen k loops.done
done_light k state = over k (fine []) state

body_ends : (k : ℕ) (again : Then) → LightThen k again → LightEnding k (loops.after_body again)
body_ends k again light (Fine value) state = light state
body_ends k again light (Continued value line) state = light state
body_ends k again light (Broke value line) state = over k (fine []) state
body_ends k again light (Failed fault) state = over k (Failed fault) state
body_ends k again light (Raised fault) state = over k (Raised fault) state
body_ends k again light (Returned value code) state = over k (Returned value code) state

next_ends : (k : ℕ) (again : Then) → LightThen k again → LightEnding k (loops.after_next again)
next_ends k again light (Fine value) state = light state
next_ends k again light (Broke value line) state = over k (fine []) state
next_ends k again light (Continued value line) state = over k (Continued value line) state
next_ends k again light (Failed fault) state = over k (Failed fault) state
next_ends k again light (Raised fault) state = over k (Raised fault) state
next_ends k again light (Returned value code) state = over k (Returned value code) state

follows : (loop : Loop) → LightThen 2 (loops.following loop)
follows (While test body) state = going 2 (job.Loop (While test body)) state (omega arith)
follows (Foreach names values body) state = going 2 (job.Loop (Foreach names values body)) state (omega arith)
follows (For test next body) state =
    calling 2 None (job.Script next) state _ (omega arith) (omega arith)
    (next_ends 2 _ (λ st. going 2 (job.Loop (For test next body)) st (omega arith)))

bodily : (loop : Loop) → LightThen 2 (loops.bodily loop)
bodily loop state =
    calling 2 None (job.Script (loops.body_of loop)) state _ (omega arith) (omega arith) (body_ends 2 (loops.following loop) (follows loop))

assigns : (names left values : List (List ℕ)) (body : List ℕ) → LightThen 2 (loops.assigning names left values body)
assigns names [] values body state = bodily (Foreach names values body) state
assigns names (name ∷ left) [] body state = bodily (Foreach names [] body) state
assigns names (name ∷ left) (value ∷ values) body state =
    wanting 2 (setting name value) state _
    (λ it. finely 2 (λ old. loops.assigning names left values body) same_ending (λ old. assigns names left values body) (over 2) (ending_of it) state)

pub turns : (loop : Loop) → LightThen 2 (loops.turning loop)
turns (While test body) state =
    calling 2 None (job.Expression Condition test) state _ (omega arith) (omega arith) (truly 2 _ _ (bodily (While test body)) (done_light 2))
turns (For test next body) state =
    calling 2 None (job.Expression Condition test) state _ (omega arith) (omega arith) (truly 2 _ _ (bodily (For test next body)) (done_light 2))
turns (Foreach names values body) state = assigns names names values body state

pub loops_light : (loop : Loop) → LightThen 0 (loops.looping loop)
loops_light loop state = go (loops.is_over loop)
  where
    go : (b : Bool) → LightAt 0 state ((if b then loops.done else loops.next_turn loop) state)
    go true = done_light 0 state
    go false = spends _ _ (λ st. going 8 (job.Turn loop) st (omega arith)) (over 0 (error_ending past_limit)) state
