-- Braces that match (Tcl(n), rule 6). A byte after a backslash is never a brace.
use Rattle.std.specs.Prelude.{◌≡◌, ◌≢◌, ℕ, zero, suc, ◌+◌, Bool, true, false, if◌then◌else◌, ◌==◌, ◌↔◌, IsTrue, List}
use Rattle.std.specs.Prelude.{[], ◌∷◌, ◌++◌, length, Option, Some, None}

-- the braces of a text match: each that opens has one that closes it, and no backslash is left alone
pub data IsBalanced : List ℕ → Type 0 where
  empty : IsBalanced []
  -- a byte that is no brace and no backslash
  other : {b : ℕ} {text : List ℕ} →
      b ≢ 123 →
      b ≢ 125 →
      b ≢ 92 →
      IsBalanced text →
      IsBalanced (b ∷ text)
  -- a backslash with the byte after it
  escaped : {b next : ℕ} {text : List ℕ} →
      b ≡ 92 →
      IsBalanced text →
      IsBalanced (b ∷ next ∷ text)
  -- a group in braces
  group : {text inner rest : List ℕ} →
      text ≡ 123 ∷ (inner ++ (125 ∷ rest)) →
      IsBalanced inner →
      IsBalanced rest →
      IsBalanced text

-- what a byte does to the count of open braces
pub data Mark : Type 0 where
  Opens : Mark
  Closes : Mark
  Escapes : Mark
  Letter : Mark

abbrev pub mark_of : ℕ → Mark
mark_of b = if b == 123 then Opens else if b == 125 then Closes else if b == 92 then Escapes else Letter

-- n more
abbrev pub further : ℕ → Option ℕ → Option ℕ
further n None = None
further n (Some m) = Some (n + m)

-- how many bytes stand before the brace that closes this many inner groups and the outer one; `after` says
-- that a backslash is before the first byte
abbrev pub closing_brace : (after : Bool) (depth : ℕ) → List ℕ → Option ℕ
closing_brace after depth [] = None
closing_brace true depth (b ∷ text) = further 1 (closing_brace false depth text)
closing_brace false depth (b ∷ text) =
    elim (mark_of b) [
      | Opens ↦ further 1 (closing_brace false (suc depth) text)
      | Closes ↦ elim depth [ zero ↦ Some 0 | suc outer ↦ further 1 (closing_brace false outer text) ]
      | Escapes ↦ further 1 (closing_brace true depth text)
      | Letter ↦ further 1 (closing_brace false depth text)
    ]

-- how many bytes of a text that follows an open brace stand before the brace that closes it
abbrev pub matching_brace : List ℕ → Option ℕ
matching_brace text = closing_brace false 0 text

-- the text after an open brace is balanced up to a closing brace that has n bytes before it
pub record IsClosedAt (text : List ℕ) (n : ℕ) : Type 0 where
  pub inner : List ℕ
  pub rest : List ℕ
  pub cut : text ≡ inner ++ (125 ∷ rest)
  pub place : length inner ≡ n
  pub balanced : IsBalanced inner

-- the matching brace is the one that the text before is balanced up to, and there is one at most
abbrev pub MatchingBraceLaw : Type 0
MatchingBraceLaw = (text : List ℕ) (n : ℕ) → (matching_brace text ≡ Some n) ↔ IsClosedAt text n

-- whether a text may stand in braces: with a closing brace after it, that is the one that matches
abbrev pub is_balanced : List ℕ → Bool
is_balanced text = elim (matching_brace (text ++ (125 ∷ []))) [ Some n ↦ n == length text | None ↦ false ]

abbrev pub BalancedLaw : Type 0
BalancedLaw = (text : List ℕ) → IsTrue (is_balanced text) ↔ IsBalanced text
