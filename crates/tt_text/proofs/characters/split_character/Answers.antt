use Rattle.std.proofs.Common.{◌∷◌, sym, ap₂, ◌∙◌}
use Rattle.tt_text.specs.Characters.{characters}
use Rattle.tt_text.proofs.CharacterLemmas.{first_character}
use Rattle.tt_text.proofs.characters.split_character.Goals as goal

pub returns-clause-cases : goal.returns-clause-cases
returns-clause-cases c =
    first_character _ c.continuing.result c.args.text.now c.in_ok-rest.rest.now c.in_ok-rest.ensures.cases.0 c.continuing.ensures
    ∙ ap₂ (λ a b. a ∷ characters b) (sym c.split_at.ensures.front) (sym c.split_at.ensures.back)
