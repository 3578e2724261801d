use Rattle.laws_language.proofs.Readings.{steps-commands}
use Rattle.laws_language.proofs.script_steps.steps_are_commands.Goals as goal

pub returns : goal.returns
returns c = steps-commands
