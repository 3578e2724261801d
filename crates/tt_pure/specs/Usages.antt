-- How words that a command doesn't take are reported, and what becomes of an answer.
use Rattle.std.specs.Prelude.{ℕ, List}
use Rattle.tt_calls.specs.Outcomes.{error_outcome, fine}
use Rattle.tt_calls.specs.Usages as usages
use Rattle.tt_calls.specs.declared.outcome.Outcome.{Outcome}
use Rattle.tt_lists.specs.declared.answer.ListAnswer.{ListAnswer}
use Rattle.tt_lists.specs.declared.answer.ListAnswer.TheVariants.{Made, Bad}

-- that words are too few or too many
abbrev pub wrong_number : (usage : List ℕ) → ListAnswer
wrong_number usage = Bad (usages.wrong_number usage)

-- that a word is no option
abbrev pub bad_option : (word : List ℕ) → ListAnswer
bad_option word = Bad (usages.bad_option word)

-- how the command ends
abbrev pub outcome_of : ListAnswer → Outcome
outcome_of (Made text) = fine text
outcome_of (Bad message) = error_outcome message
