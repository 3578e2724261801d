-- The report of who waits for whom: a line for each thread that waits, and one with the threads that are caught in a
-- circle of waiting. A thread is named by its id (thread(n), thread::id).
use Rattle.std.specs.Prelude.{◌≡◌, ℕ, List, [], ◌∷◌, ◌++◌, codes}
use Rattle.std.specs.List.{flat_map}
use Rattle.tt_ids.specs.Ids.{id}
use Rattle.tt_ids.specs.declared.id.IdKind.TheVariants.{Thread}
use Rattle.tt_waits.specs.Waiting.{Waiting, edges_of}
use Rattle.tt_waits.specs.Walks.{AreTheCaught}

-- an id, with the space before it
abbrev pub later_id : ℕ → List ℕ
later_id thread = 32 ∷ id Thread thread

-- whom a thread waits for, if there is somebody
abbrev pub for_whom : List ℕ → List ℕ
for_whom [] = []
for_whom (other ∷ others) = codes " for" ++ flat_map later_id (other ∷ others)

-- the line of a thread that waits, with its newline
abbrev pub waits_line : Waiting → List ℕ
waits_line one = id Thread one.thread ++ (codes " waits" ++ (for_whom one.others ++ 10 ∷ []))

-- the line of the threads that are caught, if there are any
abbrev pub deadlock_line : (caught : List ℕ) → List ℕ
deadlock_line [] = []
deadlock_line (thread ∷ threads) = codes "deadlock" ++ (flat_map later_id (thread ∷ threads) ++ 10 ∷ [])

-- the whole report
pub record IsWaitsText (waiting : List Waiting) (text : List ℕ) : Type 0 where
  pub caught : List ℕ
  pub are_caught : AreTheCaught (edges_of waiting) caught
  pub is_text : text ≡ flat_map waits_line waiting ++ deadlock_line caught
