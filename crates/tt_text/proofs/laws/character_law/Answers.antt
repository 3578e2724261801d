use Rattle.tt_text.proofs.CharacterLemmas.{character_laws}
use Rattle.tt_text.proofs.laws.character_law.Goals as goal

pub returns : goal.returns
returns c = character_laws
