use Rattle.tt_machine.proofs.RunActionLemmas.{few_channels}
use Rattle.tt_machine.proofs.laws.channels_are_few.Goals as goal

pub returns : goal.returns
returns c = few_channels
