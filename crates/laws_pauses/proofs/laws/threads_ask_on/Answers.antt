use Rattle.laws_pauses.proofs.Threads.{asks_on}
use Rattle.laws_pauses.proofs.laws.threads_ask_on.Goals as goal

pub returns : goal.returns
returns c = asks_on
