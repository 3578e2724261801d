-- Lines of standard input (gets(n)).
use Rattle.std.specs.Prelude.{◌≡◌, ◌≢◌, ◌≤◌, ◌==◌, not, ℕ, Bool, true, false, IsTrue, List, [], ◌∷◌, ◌++◌, length}
use Rattle.std.specs.Prelude.{Option, Some, None, ⊤}
use Rattle.std.specs.List.{list_all}
use Rattle.tt_calls.specs.declared.request.Request.{Request}
use Rattle.tt_calls.specs.declared.request.Request.TheVariants as ask
use Rattle.tt_shared.specs.declared.applied.Line.{Line}
use Rattle.tt_shared.specs.declared.applied.Line.TheVariants.{Read, End, TooLong}

-- the request that reads of standard input
abbrev pub reads_line : Request → Bool
reads_line ask.ReadLine = true
reads_line request = false

-- the most bytes of a line, without its newline
abbrev pub most_bytes : ℕ
most_bytes = 16777216

-- bytes of one line
abbrev pub IsInLine : (bytes : List ℕ) → Type 0
IsInLine bytes = IsTrue (list_all (λ b. not (b == 10)) bytes)

-- What is read of standard input for a line, and what remains of it (gets(n)): a line is taken with its newline; the
-- last one may have none; at the end there is no line; of one with too many bytes as many are taken as a line may have.
pub data TakesLine : (held : List ℕ) → Line → (left : List ℕ) → Type 0 where
  whole : (line left : List ℕ) →
      IsInLine line → length line ≤ most_bytes →
      TakesLine (line ++ 10 ∷ left) (Read (line ++ 10 ∷ [])) left
  last : (line : List ℕ) →
      IsInLine line → line ≢ [] → length line ≤ most_bytes →
      TakesLine line (Read line) []
  ended : TakesLine [] End []
  long : (part left : List ℕ) (next : ℕ) →
      IsInLine part → length part ≡ most_bytes → next ≢ 10 →
      TakesLine (part ++ next ∷ left) TooLong (next ∷ left)

-- of the same bytes one line is read, and the same remains
abbrev pub OneLineLaw : Type 0
OneLineLaw =
    (held left rest : List ℕ) (one other : Line) →
    TakesLine held one left →
    TakesLine held other rest →
    (one ≡ other) × (left ≡ rest)

-- a line is read, if standard input shows its bytes
abbrev pub ReadsKnown : (held left : Option (List ℕ)) → Line → Type 0
ReadsKnown None left line = ⊤
ReadsKnown (Some held) None line = ⊥
ReadsKnown (Some held) (Some left) line = TakesLine held line left
