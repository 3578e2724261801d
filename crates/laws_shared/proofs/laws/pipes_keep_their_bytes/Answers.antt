use Rattle.laws_shared.proofs.Pipes.{piped}
use Rattle.laws_shared.proofs.laws.pipes_keep_their_bytes.Goals as goal

pub returns : goal.returns
returns c = piped
