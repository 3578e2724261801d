use Rattle.laws_pauses.proofs.Steps.{next_requests}
use Rattle.laws_pauses.proofs.laws.evaluations_come_to_requests.Goals as goal

pub returns : goal.returns
returns c = next_requests
