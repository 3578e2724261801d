-- What comes of the clauses of a choice (if(n)).
use Rattle.std.specs.Prelude.{ℕ, List, [], None}
use Rattle.tt_evaluation.specs.Plans.{Calls, Goes}
use Rattle.tt_frames.specs.Control.{clauses}
use Rattle.tt_frames.specs.Vocabulary.{Then, on_truth, same_ending}
use Rattle.tt_frames.specs.declared.job.Job.TheVariants as job
use Rattle.tt_frames.specs.declared.job.Purpose.TheVariants.{Condition}
use Rattle.tt_outcomes.specs.Endings.{fine}
use Rattle.tt_direct.specs.declared.choices.Clause.{Clause}
use Rattle.tt_direct.specs.declared.choices.Clause.TheVariants as clause

-- what follows the clause that comes first, if these are left
abbrev pub then_clause : Clause → (left : List (List ℕ)) → Then
then_clause clause.None left = same_ending (fine [])
then_clause (clause.Otherwise body) left = Goes (job.Script body)
then_clause (clause.Tests test body) left = λ state.
    Calls None (job.Expression Condition test) state (on_truth (Goes (job.Script body)) (clauses left))
