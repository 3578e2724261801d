use Rattle.std.proofs.Common.{refl}
use Rattle.std.specs.Fmt.{digits}
use Rattle.laws_shared.specs.Example.{main}
use Rattle.laws_threads.proofs.Possible.{acts_of}
use Rattle.laws_threads.specs.ThreadExamples.{most}
use Rattle.laws_threads.proofs.laws.worked_threads.Goals as goal

-- they are computed
pub returns : goal.returns
unfolding digits
returns c = record { filled = refl; crowded = refl; too_many = refl; acts = acts_of main most refl; met = refl }
