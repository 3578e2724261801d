-- Laws on the command dict(n).
use Rattle.std.specs.Prelude.{◌≡◌, ℕ, List, ◌∷◌, ◌++◌, map, Ok}
use Rattle.tt_pairs.specs.PairLaws.{KeysDiffer}
use Rattle.tt_pairs.specs.Pairs.{Pairs}
use Rattle.tt_pairs.specs.Reading.{Reading, reading_of}
use Rattle.tt_calls.specs.declared.outcome.Outcome.{Outcome}
use Rattle.tt_dict.specs.Changing.{after, change_answer}
use Rattle.tt_dict.specs.Rows.{reads}
use Rattle.tt_dict.specs.Telling.{merge, merge_of}
use Rattle.tt_dict.specs.declared.changes.Change.{Change}

-- texts that are read as the same pairs give the same answers: to a command that reads one, to dict merge, and after a
-- change
pub record SamePairsLaw : Type 0 where
  pub read : (answer : (wrong : Outcome) → Reading → (words : List (List ℕ)) → Outcome)
      (wrong : Outcome) (one other : List ℕ) (words : List (List ℕ)) →
      reading_of one ≡ reading_of other →
      reads answer wrong (one ∷ words) ≡ reads answer wrong (other ∷ words)
  pub merged : (wrong : Outcome) (ones others : List (List ℕ)) →
      map reading_of ones ≡ map reading_of others →
      merge wrong ones ≡ merge wrong others
  pub changed : (change : Change) (one other : List ℕ) →
      reading_of one ≡ reading_of other →
      change_answer change (reading_of one) ≡ change_answer change (reading_of other)

-- a change leaves a dictionary: its keys differ
abbrev pub ChangedKeysLaw : Type 0
ChangedKeysLaw =
    (change : Change) (pairs made : Pairs) → KeysDiffer pairs → after change pairs ≡ Ok made → KeysDiffer made

-- merging more goes on from what was merged
abbrev pub MergeLaw : Type 0
MergeLaw =
    (pairs between : Pairs) (front back : List Reading) →
    merge_of pairs front ≡ Ok between →
    merge_of pairs (front ++ back) ≡ merge_of between back
