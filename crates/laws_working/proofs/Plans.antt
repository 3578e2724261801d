-- Words that all plans are written in, scripts, expressions and loops are plain.
use Rattle.std.proofs.Common.{◌≡◌, ℕ, Bool, true, false, List, [], ◌∷◌, Option, Some, None, if◌then◌else◌, bytes_eq, codes, refl}
use Rattle.laws_working.proofs.Plain.{Plain, PlainEnding, PlainThen, PlainValue, PlainValues, asks, calls, ends, goes, wants_plainly}
use Rattle.tt_code.specs.Needs.{Needs, Refused, Script, Values, Variable}
use Rattle.tt_frames.specs.Loops as loops
use Rattle.tt_frames.specs.Programs.{PlainStep, Wrong, Does}
use Rattle.tt_frames.specs.Scripts.{OnValues, command_end, command_of_words, command_then, commands, needing}
use Rattle.tt_frames.specs.Units.{by_unit, counts_after_unit, past_limit, spending, unit_of}
use Rattle.tt_frames.specs.Vocabulary.{OnEnding, OnValue, Then, ending_of, on_fine, on_truth, same_ending, set_name, setting, variable_result}
use Rattle.tt_frames.specs.Vocabulary.{with_error_info}
use Rattle.tt_frames.specs.declared.job.Loop.TheVariants.{While, For, Foreach}
use Rattle.tt_frames.specs.declared.job.Loop.{Loop}
use Rattle.tt_frames.specs.declared.state.Counts.{Counts}
use Rattle.tt_frames.specs.declared.state.Unit.TheVariants.{Past, Pauses, Spent}
use Rattle.tt_frames.specs.declared.state.Unit.{Unit}
use Rattle.tt_outcomes.specs.Endings.{error_ending, fine, of_value}
use Rattle.tt_outcomes.specs.declared.ending.Ending.TheVariants.{Fine, Failed, Raised, Returned, Broke, Continued}
use Rattle.tt_outcomes.specs.declared.got.Got.TheVariants as got
use Rattle.tt_outcomes.specs.declared.got.Got.{Got}
use Rattle.tt_script.specs.Names.{element_of}

-- ---- words that plans are written in ----

pub same : PlainEnding same_ending
same ending state = ends

pub finely : (go : OnValue) (quit : OnEnding) → PlainValue go → PlainEnding quit → PlainEnding (on_fine go quit)
finely go quit on out (Fine value) state = on value state
finely go quit on out (Failed fault) state = out (Failed fault) state
finely go quit on out (Raised fault) state = out (Raised fault) state
finely go quit on out (Returned value code) state = out (Returned value code) state
finely go quit on out (Broke value line) state = out (Broke value line) state
finely go quit on out (Continued value line) state = out (Continued value line) state

pub truly : (holds fails : Then) → PlainThen holds → PlainThen fails → PlainEnding (on_truth holds fails)
truly holds fails first second =
    finely (λ value st. (if bytes_eq value (codes "1") then holds else fails) st) same_ending (λ value st. go (bytes_eq value (codes "1")) st) same
  where
    go : (b : Bool) (st : Counts) → Plain ((if b then holds else fails) st)
    go true st = first st
    go false st = second st

pub sets_plainly : (name value : List ℕ) → wants_plainly (setting name value) ≡ true
sets_plainly name value = go (element_of name)
  where
    go : (element : Option (List ℕ × List ℕ)) → wants_plainly (set_name element name value) ≡ true
    go None = refl
    go (Some (array, index)) = refl

pub in_variable : (variable : Option (List ℕ)) (value result : List ℕ) → PlainThen (variable_result variable value result)
in_variable None value result state = ends
in_variable (Some name) value result state =
    asks (sets_plainly name value)
    (λ it after. finely (λ old. same_ending (Fine result)) same_ending (λ old st. ends) same (ending_of it) after)

pub recorded : (trace : List ℕ) (go : Then) → PlainThen go → PlainThen (with_error_info trace go)
recorded trace go plain state = asks refl (λ it after. plain after)

pub spends : (go past : Then) → PlainThen go → PlainThen past → PlainThen (spending go past)
spends go past on out state = by (unit_of state)
  where
    by : (unit : Unit) → Plain (by_unit unit (counts_after_unit state) go past)
    by Past = out (counts_after_unit state)
    by Pauses = asks refl (λ it after. on after)
    by Spent = on (counts_after_unit state)

-- ---- scripts ----

pub needs : (finish : OnValues) (quit : OnEnding) → PlainValues finish → PlainEnding quit → (all : Needs) → PlainThen (needing finish quit all)
needs finish quit on out (Variable name index go) state =
    asks refl (λ it after. finely (λ value. needing finish quit (go value)) quit (λ value. needs finish quit on out (go value)) out (ending_of it) after)
needs finish quit on out (Script text go) state =
    calls refl (λ ending after. finely (λ value. needing finish quit (go value)) quit (λ value. needs finish quit on out (go value)) out ending after)
needs finish quit on out (Refused message) state = out (error_ending message) state
needs finish quit on out (Values values) state = on values state

pub runs : (go : OnEnding) → PlainEnding go → (it : Got) → PlainThen (command_then go it)
runs go plain (got.Value outcome) state = plain (of_value outcome) state
runs go plain (got.Own words) state = calls refl plain
runs go plain (got.RunBody body text) state = calls refl plain
runs go plain (got.Reply answered) state = plain (fine []) state

pub words_run : (go : OnEnding) → PlainEnding go → PlainValues (command_of_words go)
words_run go plain words state = asks refl (λ it after. runs go plain it after)

pub command_ends : (text : List ℕ) (start end : ℕ) (next : OnValue) → PlainValue next → PlainEnding (command_end text start end next)
command_ends text start end next plain (Fine value) state = plain value state
command_ends text start end next plain (Failed fault) state = ends
command_ends text start end next plain (Raised fault) state = ends
command_ends text start end next plain (Returned value code) state = ends
command_ends text start end next plain (Broke value line) state = ends
command_ends text start end next plain (Continued value line) state = ends

pub commands_plain : (text : List ℕ) (steps : List PlainStep) → PlainValue (commands text steps)
commands_plain text [] last state = ends
commands_plain text (Wrong fault start ∷ steps) last state = ends
commands_plain text (Does all start end ∷ steps) last state =
    let after = command_ends text start end (commands text steps) (commands_plain text steps) in
    let all_words = needs (command_of_words (command_end text start end (commands text steps))) _ (words_run _ after) after all in
    spends _ _ all_words (after (error_ending past_limit)) state

-- ---- loops ----

pub done_plain : PlainThen loops.done
done_plain state = ends

pub body_ends : (again : Then) → PlainThen again → PlainEnding (loops.after_body again)
body_ends again plain (Fine value) state = plain state
body_ends again plain (Continued value line) state = plain state
body_ends again plain (Broke value line) state = ends
body_ends again plain (Failed fault) state = ends
body_ends again plain (Raised fault) state = ends
body_ends again plain (Returned value code) state = ends

next_ends : (again : Then) → PlainThen again → PlainEnding (loops.after_next again)
next_ends again plain (Fine value) state = plain state
next_ends again plain (Broke value line) state = ends
next_ends again plain (Continued value line) state = ends
next_ends again plain (Failed fault) state = ends
next_ends again plain (Raised fault) state = ends
next_ends again plain (Returned value code) state = ends

follows : (loop : Loop) → PlainThen (loops.following loop)
follows (While test body) state = goes refl
follows (Foreach names values body) state = goes refl
follows (For test next body) state = calls refl (next_ends _ (λ st. goes refl))

bodily : (loop : Loop) → PlainThen (loops.bodily loop)
bodily loop state = calls refl (body_ends (loops.following loop) (follows loop))

assigns : (names left values : List (List ℕ)) (body : List ℕ) → PlainThen (loops.assigning names left values body)
assigns names [] values body state = bodily (Foreach names values body) state
assigns names (name ∷ left) [] body state = bodily (Foreach names [] body) state
assigns names (name ∷ left) (value ∷ values) body state =
    asks (sets_plainly name value)
    (λ it after. finely (λ old. loops.assigning names left values body) same_ending (λ old. assigns names left values body) same (ending_of it) after)

pub turns : (loop : Loop) → PlainThen (loops.turning loop)
turns (While test body) state = calls refl (truly _ _ (bodily (While test body)) done_plain)
turns (For test next body) state = calls refl (truly _ _ (bodily (For test next body)) done_plain)
turns (Foreach names values body) state = assigns names names values body state

pub loops_plain : (loop : Loop) → PlainThen (loops.looping loop)
loops_plain loop state = go (loops.is_over loop)
  where
    go : (b : Bool) → Plain ((if b then loops.done else loops.next_turn loop) state)
    go true = ends
    go false = spends _ _ (λ st. goes refl) (same (error_ending past_limit)) state
