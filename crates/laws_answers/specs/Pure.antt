-- What the commands without variables come to (list(n), string(n), format(n)).
use Rattle.std.specs.Prelude.{ℕ, IsTrue, List}
use Rattle.tt_calls.specs.declared.outcome.Outcome.{Outcome}
use Rattle.tt_pure.specs.Table.{IsOutcome, command_of, is_pure}

-- each of them has an outcome, whatever its words are
abbrev pub PureAnswersLaw : Type 0
PureAnswersLaw =
    (name : List ℕ) (words : List (List ℕ)) →
    IsTrue (is_pure name) →
    (outcome : Outcome) × IsOutcome (command_of name) words outcome
