-- What a thread has at its start, and what it asks next (tclsh(n), thread(n)).
use Rattle.std.specs.Prelude.{ℕ, ◌==◌, ◌≡◌, if◌then◌else◌, List, [], ◌∷◌, codes, decimal, length}
use Rattle.tt_calls.specs.declared.reply.Reply.{Reply}
use Rattle.tt_calls.specs.declared.request.Request.{Request}
use Rattle.tt_calls.specs.declared.start.Start.{Start}
use Rattle.tt_frames.specs.Tcl.{plan}
use Rattle.tt_frames.specs.Units.{fresh}
use Rattle.tt_frames.specs.declared.job.Job.TheVariants as job
use Rattle.tt_lists.specs.Spelling.{list_of}
use Rattle.tt_evaluation.specs.Evaluation.{eval}
use Rattle.tt_procedures.specs.declared.calling.Argument.{Argument}
use Rattle.tt_store.specs.Held.{AreSet, nothing_held}
use Rattle.tt_kept.specs.declared.kept.Kept.{Kept}
use Rattle.tt_kept.specs.declared.setup.Setup.{Setup}
use Rattle.tt_kept.specs.Asking.{AsksNext}

abbrev pub argument : (name value : List ℕ) → Argument
argument name value = record { name = name; value = value }

abbrev pub count_of : (arguments : List (List ℕ)) → List ℕ
count_of arguments = decimal (length arguments)

-- the variables that the main thread has at its start, and no other one
abbrev pub globals : (me : ℕ) → Setup → List Argument
globals me setup =
    if me == 1 then
    (argument (codes "argv0") setup.name
    ∷ argument (codes "argv") (list_of setup.arguments)
    ∷ argument (codes "argc") (count_of setup.arguments) ∷ [])
    else []

-- what a thread keeps at its start
pub record BeginsThread (setup : Setup) (me : ℕ) (kept : Kept) : Type 0 where
  pub variables : AreSet (globals me setup) nothing_held kept.store
  pub procedures : kept.procedures ≡ []

-- what the thread of this number that begins so asks next after these replies, and the posts that it serves then,
-- innermost first: with some number of steps
pub record IsNext (setup : Setup) (me : ℕ) (start : Start)
    (replies : List Reply) (request : Request) (serving : List ℕ) : Type 0 where
  pub kept : Kept
  pub steps : ℕ
  pub begins : BeginsThread setup me kept
  pub asks : AsksNext (eval plan (job.Start start) (fresh me setup.limit) steps) kept replies request serving
