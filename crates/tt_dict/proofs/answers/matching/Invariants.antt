use Rattle.std.proofs.Common.{◌≡◌, ◌++◌, drop, filter}
use Rattle.tt_text.specs.Characters.{characters}
use Rattle.tt_text.specs.GlobFunction.{is_match}
use Rattle.tt_dict.proofs.answers.matching.Given as goal

abbrev pub invariant-loop-text : goal.invariant-loop-text
invariant-loop-text l =
    l.like ++ filter (λ text. is_match (characters l.pattern) (characters text)) (drop l.text-index l.texts)
    ≡ filter (λ text. is_match (characters l.pattern) (characters text)) l.texts
