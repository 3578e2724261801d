-- Fields between splitting characters.
use Rattle.std.proofs.Common.{◌≡◌, ℕ, ◌-◌, ◌<◌, ◌≤◌, true, false, List, [], ◌∷◌, ◌++◌, length, take, refl, sym, ap, subst, ◌∙◌, arith, append_assoc, append-nil}
use Rattle.std.specs.List.{AllByRecursion}
use Rattle.tt_text.specs.Characters.{Character, characters}
use Rattle.tt_strings.specs.Splitting.{HasNone, BeginsWithField, IsSplit, last, field, IsSplitInto}
use Rattle.tt_strings.specs.Trimming.{is_among}
use Rattle.tt_strings.proofs.Cuts.{whole_text}
use Rattle.tt_strings.proofs.Keys.{First, first_of}
use Rattle.tt_strings.proofs.Ranges.{before_rest, rest_no_longer}

-- the characters passed over, none of which splits
pub record IsPassed (splitting text left : List Character) : Type 0 where
  pub front : List Character
  pub cut : text ≡ front ++ left
  pub none : HasNone splitting front

pub none_passed : (splitting text : List Character) → IsPassed splitting text text
none_passed splitting text = record { front = []; cut = refl; none = tt }

all_more : (P : Character → Type 0) (front : List Character) (c : Character) → AllByRecursion P front → P c → AllByRecursion P (front ++ c ∷ [])
all_more P [] c h p = (p, tt)
all_more P (d ∷ front) c h p = (h.0, all_more P front c h.1 p)

pub one_passed : (splitting text left : List Character) (c : Character) (rest : List Character) → left ≡ c ∷ rest → is_among splitting c ≡ false
    → IsPassed splitting text left → IsPassed splitting text rest
one_passed splitting text left c rest e not h = record {
  front = h.front ++ c ∷ [];
  cut = h.cut ∙ ap (λ l. h.front ++ l) e ∙ sym (append_assoc h.front (c ∷ []) rest);
  none = all_more (λ d. is_among splitting d ≡ false) h.front c h.none not;
}

pub all_passed : (splitting text left : List Character) → left ≡ [] → IsPassed splitting text left → HasNone splitting text
all_passed splitting text left e h =
    let P : List Character → Type 0 = HasNone splitting in
    subst P (sym (h.cut ∙ ap (λ l. h.front ++ l) e ∙ append-nil h.front)) h.none

pub found_field : (splitting : List Character) (text left : List ℕ) (c : Character) (rest : List Character) → characters left ≡ c ∷ rest →
    is_among splitting c ≡ true
    → IsPassed splitting (characters text) (characters left) →
    BeginsWithField splitting (characters text) (characters (take (length text - length left) text)) rest
found_field splitting text left c rest e is h =
    let same : characters (take (length text - length left) text) ≡ h.front = before_rest text left h.front h.cut in
    let P : List Character → Type 0 = HasNone splitting in
    record {
      splits = c;
      cut = h.cut ∙ ap (λ l. h.front ++ l) e ∙ ap (λ f. f ++ c ∷ rest) (sym same);
      none = subst P (sym same) h.none;
      listed = is;
    }

pub passed_within : (splitting : List Character) (text left : List ℕ) → IsPassed splitting (characters text) (characters left) → length left ≤ length text
passed_within splitting text left h = rest_no_longer text left h.front h.cut

-- a field more
pub field_more : (splitting : List Character) (text rest : List Character) (first made : List ℕ) (more : List (List ℕ)) → made ≡ first
    → BeginsWithField splitting text (characters first) rest → IsSplit splitting rest more → IsSplit splitting text (made ∷ more)
field_more splitting text rest first made more e b s =
    let P : List ℕ → Type 0 = λ m. IsSplit splitting text (m ∷ more) in subst P (whole_text first ∙ sym e) (field b s)

pub last_field : (splitting : List Character) (text made : List ℕ) → made ≡ text → HasNone splitting (characters text) →
    IsSplit splitting (characters text) (made ∷ [])
last_field splitting text made e none = let P : List ℕ → Type 0 = λ m. IsSplit splitting (characters text) (m ∷ []) in subst P (whole_text text ∙ sym e) (last none)

pub regroup : (splitting text : List Character) (all done : List (List ℕ)) (made : List ℕ) (more : List (List ℕ)) → all ≡ done ++ made ∷ []
    → IsSplit splitting text (done ++ made ∷ more) → IsSplit splitting text (all ++ more)
regroup splitting text all done made more e h =
    let P : List (List ℕ) → Type 0 = IsSplit splitting text in subst P (sym (ap (λ t. t ++ more) e ∙ append_assoc done (made ∷ []) more)) h

pub ended : (splitting text : List Character) (all done : List (List ℕ)) → all ≡ done → IsSplit splitting text done → IsSplit splitting text all
ended splitting text all done e h = let P : List (List ℕ) → Type 0 = IsSplit splitting text in subst P (sym e) h

-- by cases on what is empty

nothing : (text : List ℕ) → length text < 1 → characters text ≡ []
nothing [] h = refl
nothing (b ∷ text) h = absurd (omega arith)

pub no_text : (splitting : List Character) (text : List ℕ) (fields : List (List ℕ)) → length text < 1 → fields ≡ [] →
    IsSplitInto splitting (characters text) fields
no_text splitting text fields few e = let P : List Character → Type 0 = λ t. IsSplitInto splitting t fields in subst P (sym (nothing text few)) (on splitting) where
  on : (s : List Character) → IsSplitInto s [] fields
  on [] = e
  on (c ∷ s) = e

some_first : (text : List ℕ) → 1 ≤ length text → First text
some_first [] some = absurd (omega arith)
some_first (b ∷ text) some = first_of (b ∷ text) (λ n. absurd (omega (arith, ap length n)))

pub each_one : (splitting text : List ℕ) (fields : List (List ℕ)) → 1 ≤ length text → length splitting < 1 → fields ≡ characters text
    → IsSplitInto (characters splitting) (characters text) fields
each_one splitting text fields some few e =
    let first = some_first text some in
    let P : List Character → Type 0 = λ s. IsSplitInto s (characters text) fields in
    let Q : List Character → Type 0 = λ t. IsSplitInto [] t fields in
    subst P (sym (nothing splitting few)) (subst Q (sym first.cut) (e ∙ first.cut))

pub between_some : (splitting text : List ℕ) (fields : List (List ℕ)) → 1 ≤ length text → 1 ≤ length splitting →
    IsSplit (characters splitting) (characters text) fields
    → IsSplitInto (characters splitting) (characters text) fields
between_some splitting text fields some more h =
    let first = some_first text some in
    let splits = some_first splitting more in
    let P : List Character → Type 0 = λ s. IsSplitInto s (characters text) fields in
    let Q : List Character → Type 0 = λ t. IsSplitInto (splits.first ∷ splits.later) t fields in
    let S : List Character → Type 0 = λ s. IsSplit s (characters text) fields in
    let U : List Character → Type 0 = λ t. IsSplit (splits.first ∷ splits.later) t fields in
    subst P (sym splits.cut) (subst Q (sym first.cut) (subst U first.cut (subst S splits.cut h)))
