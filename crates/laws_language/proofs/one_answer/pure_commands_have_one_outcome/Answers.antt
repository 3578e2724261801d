use Rattle.laws_language.proofs.PureCommands.{pure_law}
use Rattle.laws_language.proofs.one_answer.pure_commands_have_one_outcome.Goals as goal

pub returns : goal.returns
returns c = pure_law
