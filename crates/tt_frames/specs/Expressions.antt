-- Expressions (expr(n)).
use Rattle.std.specs.Prelude.{ℕ, Bool, List, [], ◌∷◌, Result, Ok, Err}
use Rattle.std.specs.Arc.{arc_value}
use Rattle.tt_code.specs.Code.{needs_of}
use Rattle.tt_code.specs.Expressions.{value_needs}
use Rattle.tt_code.specs.Needs.{Needs, Refused, bit}
use Rattle.tt_outcomes.specs.Endings.{error_ending, fine}
use Rattle.tt_outcomes.specs.declared.ending.Ending.{Ending}
use Rattle.tt_exprs.specs.Apply.{truth_of}
use Rattle.tt_exprs.specs.Parsing.{parse}
use Rattle.tt_exprs.specs.Trees.{PlainParsed, tree, bad}
use Rattle.tt_frames.specs.Scripts.{OnValues, needing}
use Rattle.tt_frames.specs.Vocabulary.{Then, same_ending}
use Rattle.tt_frames.specs.declared.job.Purpose.{Purpose}
use Rattle.tt_frames.specs.declared.job.Purpose.TheVariants.{Value, Condition}
use Rattle.tt_frames.specs.declared.kept.Made.{Made}
use Rattle.tt_frames.specs.declared.kept.Made.TheVariants as made

-- what a text needs as an expression, or its error
abbrev pub parsed_needs : PlainParsed → Needs
parsed_needs (tree whole) = value_needs whole
parsed_needs (bad message) = Refused message

abbrev pub text_needs : (text : List ℕ) → Needs
text_needs text = parsed_needs (parse text)

abbrev pub made_needs : Made → Needs
made_needs (made.Code code) = needs_of (arc_value code)
made_needs (made.Bad message) = Refused message

-- the first of the values that an expression comes to, which are one
abbrev pub first_of : List (List ℕ) → List ℕ
first_of [] = []
first_of (value ∷ values) = value

-- a value as a condition: 1 or 0 (if(n), while(n))
abbrev pub truth_ending : Result Bool (List ℕ) → Ending
truth_ending (Ok truth) = fine (bit truth)
truth_ending (Err message) = error_ending message

-- what an expression comes to, by what it is evaluated for
abbrev pub ending_for : Purpose → (value : List ℕ) → Ending
ending_for Value value = fine value
ending_for Condition value = truth_ending (truth_of value)

abbrev pub came_to : Purpose → OnValues
came_to purpose values = same_ending (ending_for purpose (first_of values))

-- what is needed, up to a value or another ending
abbrev pub needs_then : Purpose → Needs → Then
needs_then purpose needs = needing (came_to purpose) same_ending needs

abbrev pub expression : Purpose → (text : List ℕ) → Then
expression purpose text = needs_then purpose (text_needs text)
