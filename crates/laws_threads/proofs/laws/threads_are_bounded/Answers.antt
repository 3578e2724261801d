use Rattle.laws_threads.proofs.Bounds.{threads_bounded}
use Rattle.laws_threads.proofs.laws.threads_are_bounded.Goals as goal

pub returns : goal.returns
returns c = threads_bounded
