use Rattle.laws_tables.proofs.Refusals.{refusals_say_why}
use Rattle.laws_tables.proofs.laws.refusals_say_why.Goals as goal

pub returns : goal.returns
returns c = refusals_say_why
