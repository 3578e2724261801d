-- A loop that goes on for ever, as an example (while(n)).
use Rattle.std.specs.Prelude.{◌≡◌, ℕ, List, [], ◌∷◌, codes}
use Rattle.tt_evaluation.specs.Evaluation.{eval}
use Rattle.tt_evaluation.specs.Plans.{Course, Fin, Stop}
use Rattle.tt_frames.specs.Tcl.{plan}
use Rattle.tt_frames.specs.Units.{fresh, past_limit}
use Rattle.tt_frames.specs.declared.job.Job.TheVariants as job
use Rattle.tt_frames.specs.declared.state.Counts.{Counts}
use Rattle.tt_calls.specs.declared.request.Request.TheVariants.{Pause}
use Rattle.tt_outcomes.specs.Endings.{error_ending}
use Rattle.tt_outcomes.specs.Places.{in_command}
use Rattle.tt_outcomes.specs.declared.ending.Ending.{Ending}
use Rattle.tt_outcomes.specs.declared.got.Got.{Got}
use Rattle.tt_outcomes.specs.declared.got.Got.TheVariants as gots
use Rattle.tt_outcomes.specs.declared.want.Want.{Want}
use Rattle.tt_outcomes.specs.declared.want.Want.TheVariants.{Ask, RunWords}

-- the first thread, which has spent so many units of those that it may spend
abbrev pub spent : (limit units : ℕ) → Counts
spent limit units = record (fresh 1 limit) { units = units }

abbrev pub forever : List ℕ
forever = codes "while 1 {}"

-- its words, which are no command's of the host
abbrev pub words : List (List ℕ)
words = codes "while" ∷ codes "1" ∷ [] ∷ []

-- what it comes to, with steps enough
abbrev pub comes_to : Counts → List Got → Course Want Got Ending Counts
comes_to state gots = eval plan (job.Script forever) state 20 gots

pub record WorkedPauses : Type 0 where
  pub wants : comes_to (spent 100000 9998) [] ≡ Stop (RunWords words) []
  -- after 10,000 units it asks for a pause
  pub pauses : comes_to (spent 100000 9998) (gots.Own words ∷ []) ≡ Stop (Ask Pause) []
  -- past the limit it ends with an error
  pub ends :
      comes_to (spent 9999 9998) (gots.Own words ∷ [])
      ≡ Fin (in_command forever 0 10 (error_ending past_limit)) (spent 9999 9999) 18 []
