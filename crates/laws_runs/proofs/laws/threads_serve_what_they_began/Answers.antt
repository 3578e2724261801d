use Rattle.laws_runs.proofs.Threads.{served_law}
use Rattle.laws_runs.proofs.laws.threads_serve_what_they_began.Goals as goal

pub returns : goal.returns
returns c = served_law
