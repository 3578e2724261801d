-- `split` and `string map` always come to something.
use Rattle.std.proofs.Common.{◌≡◌, ◌⊎◌, inl, inr, ◌<◌, ◌≢◌, ℕ, zero, suc, Bool, true, false, List, [], ◌∷◌, ◌++◌, ap, arith, length}
use Rattle.std.proofs.Common.{length-append, refl}
use Rattle.laws_answers.proofs.Fronts.{Fronts, front}
use Rattle.tt_strings.proofs.Keys.{first_of}
use Rattle.tt_strings.specs.Mapping.{HasNoPair, IsAtFront, IsFirstPair, IsMapped, IsNotAtFront, ended, here, kept, later, replaced, step}
use Rattle.tt_strings.specs.Places.{bytes_of}
use Rattle.tt_strings.specs.Splitting.{IsSplit, IsSplitInto, field, last}
use Rattle.tt_strings.specs.Trimming.{is_among}
use Rattle.tt_text.specs.Characters.{Character, characters}

-- ---- split(n) ----

abbrev SplitAt : List Character → List Character → Type 0
SplitAt splitting text = (fields : List (List ℕ)) × IsSplit splitting text fields

longer-first : (splitting : List Character) (c : Character) (text : List Character) → is_among splitting c ≡ false → (fields : List (List ℕ))
    → IsSplit splitting text fields → SplitAt splitting (c ∷ text)
longer-first splitting c text not fields (last none) = (bytes_of (c ∷ text) ∷ [], last (not, none))
longer-first splitting c text not fields (field {first = first} {rest = rest} {fields = more} begins is) = (
  bytes_of (c ∷ first) ∷ more,
  field {first = c ∷ first} (record { splits = begins.splits; cut = ap (λ l. c ∷ l) begins.cut; none = (not, begins.none); listed = begins.listed }) is,
)

split-at : (splitting text : List Character) → SplitAt splitting text
split-at splitting [] = ([] ∷ [], last tt)
split-at splitting (c ∷ text) = by (is_among splitting c) refl (split-at splitting text)
  where
    by : (among : Bool) → is_among splitting c ≡ among → SplitAt splitting text → SplitAt splitting (c ∷ text)
    by true is rest = ([] ∷ rest.0, field {first = []} (record { splits = c; cut = refl; none = tt; listed = is }) rest.1)
    by false is rest = longer-first splitting c text is rest.0 rest.1

pub splits : (splitting text : List Character) → (fields : List (List ℕ)) × IsSplitInto splitting text fields
splits splitting [] = nothing splitting
  where
    nothing : (splitting : List Character) → (fields : List (List ℕ)) × IsSplitInto splitting [] fields
    nothing [] = ([], refl)
    nothing (s ∷ splitting) = ([], refl)
splits [] (c ∷ text) = (c ∷ text, refl)
splits (s ∷ splitting) (c ∷ text) = split-at (s ∷ splitting) (c ∷ text)

-- ---- string map ----

-- a key stands at the front, and fewer characters follow; or it doesn't
key : (k : List ℕ) (text : List Character) → ((rest : List Character) × IsAtFront k text rest × (length rest < length text)) ⊎ IsNotAtFront k text
key [] text = inr (λ rest at. at.some refl)
key (b ∷ k) text = by (front (characters (b ∷ k)) text)
  where
    some : (b ∷ k) ≢ []
    some e = absurd (cc e)

    by : Fronts (characters (b ∷ k)) text ⊎ ((rest : List Character) → text ≡ characters (b ∷ k) ++ rest → ⊥)
        → ((rest : List Character) × IsAtFront (b ∷ k) text rest × (length rest < length text)) ⊎ IsNotAtFront (b ∷ k) text
    by (inl at) =
        let first = first_of (b ∷ k) some in
        let long = length-append (characters (b ∷ k)) at.0 in
        let least = ap length first.cut in
        let all = ap length at.1 in
        inl (at.0, record { some = some; cut = at.1 }, omega (arith, long, least, all))
    by (inr not) = inr (λ rest at. not rest at.cut)

abbrev Paired : List (List ℕ) → List Character → Type 0
Paired pairs text = (value : List ℕ) × (rest : List Character) × IsFirstPair pairs text value rest × (length rest < length text)

first-pair : (pairs : List (List ℕ)) (text : List Character) → Paired pairs text ⊎ HasNoPair pairs text
first-pair [] text = inr tt
first-pair (k ∷ []) text = inr tt
first-pair (k ∷ value ∷ more) text = by (key k text) (first-pair more text)
  where
    by : ((rest : List Character) × IsAtFront k text rest × (length rest < length text)) ⊎ IsNotAtFront k text → Paired more text ⊎ HasNoPair more text
        → Paired (k ∷ value ∷ more) text ⊎ HasNoPair (k ∷ value ∷ more) text
    by (inl at) others = inl (value, at.0, here at.1, at.2)
    by (inr not) (inl pair) = inl (pair.0, pair.1, later not pair.2, pair.3)
    by (inr not) (inr none) = inr (not, none)

abbrev Mapped : List (List ℕ) → List Character → Type 0
Mapped pairs text = (made : List ℕ) × IsMapped pairs text made

goes : (pairs : List (List ℕ)) (most : ℕ) (text : List Character) → length text < most → Mapped pairs text
goes pairs zero text less = absurd (omega (arith, less))
goes pairs (suc most) [] less = ([], ended)
goes pairs (suc most) (c ∷ text) less = by (first-pair pairs (c ∷ text)) (λ rest shorter. goes pairs most rest (omega (arith, less, shorter)))
  where
    by : Paired pairs (c ∷ text) ⊎ HasNoPair pairs (c ∷ text) → ((rest : List Character) → length rest < length (c ∷ text) → Mapped pairs rest)
        → Mapped pairs (c ∷ text)
    by (inl pair) further = let on = further pair.1 pair.3 in (pair.0 ++ on.0, step (replaced pair.2) on.1)
    by (inr none) further = let on = further text (omega arith) in (c ++ on.0, step (kept none) on.1)

pub maps : (pairs : List (List ℕ)) (text : List Character) → (made : List ℕ) × IsMapped pairs text made
maps pairs text = goes pairs (suc (length text)) text (omega arith)
