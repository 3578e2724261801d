-- Searching a needle's characters by its bytes.
use Rattle.std.proofs.Common.{◌⊎◌, inl, inr, ◌≡◌, ◌≢◌, ℕ, suc, ◌+◌, ◌-◌, ◌<◌, ◌≤◌, true, false, List, [], ◌∷◌, ◌++◌}
use Rattle.std.proofs.Common.{Some, None, length, take, drop, get_or, refl, sym, ap, subst, ◌∙◌, arith, append_assoc}
use Rattle.std.proofs.Common.{length-append, length-drop, length-take-le, get_or-drop, get_or-take}
use Rattle.std.specs.List.{AllByRecursion}
use Rattle.std.proofs.lemmas.Bool.{false≢true, cases_lt}
use Rattle.std.proofs.lemmas.List.{take_rest}
use Rattle.std.proofs.Math.Seq.{take-append_seam}
use Rattle.memchr.specs.Find.{OccursAt, Nowhere, NoneBefore, NoneAfter}
use Rattle.tt_text.specs.Characters.{Character, characters, IsCharacter}
use Rattle.tt_text.proofs.CharacterLemmas.{character_laws}
use Rattle.tt_strings.specs.inside.Ends.{is_whole}
use Rattle.tt_strings.specs.Finding.{StandsAt, IsFirstPlace, IsLastPlace}
use Rattle.tt_strings.specs.Places.{bytes_of}
use Rattle.tt_strings.specs.inside.Whole.{IsWholeAt}
use Rattle.tt_strings.proofs.Cuts.{cut_at, all_front}
use Rattle.tt_strings.proofs.Keys.{First, first_of}
use Rattle.tt_strings.proofs.Standing.{whole_occurs, whole_test, test_whole}

-- a needle in a part of the text

occurs_before : (text needle : List ℕ) (from k : ℕ) → from ≤ length text → OccursAt text needle (from + k) → OccursAt (drop from text) needle k
occurs_before text needle from k within o =
    let fits = o.fits in
    record {
      fits = omega (arith, fits, length-drop from text);
      reads = λ j l. get_or-drop from text (k + j) 0 ∙ ap (λ n. get_or text n 0) (omega arith) ∙ o.reads j l;
    }

occurs_after : (text needle : List ℕ) (from k : ℕ) → from ≤ length text → OccursAt (drop from text) needle k → OccursAt text needle (from + k)
occurs_after text needle from k within o =
    let fits = o.fits in
    record {
      fits = omega (arith, fits, length-drop from text);
      reads = λ j l. ap (λ n. get_or text n 0) (omega arith) ∙ sym (get_or-drop from text (k + j) 0) ∙ o.reads j l;
    }

occurs_within : (text needle : List ℕ) (end k : ℕ) → end ≤ length text → k + length needle ≤ end → OccursAt text needle k → OccursAt (take end text) needle k
occurs_within text needle end k within ends o =
    record {
      fits = omega (arith, length-take-le end text within);
      reads = λ j l. get_or-take end text (k + j) 0 (omega arith) ∙ o.reads j l;
    }

occurs_outside : (text needle : List ℕ) (end k : ℕ) → end ≤ length text → OccursAt (take end text) needle k → OccursAt text needle k
occurs_outside text needle end k within o =
    let fits = o.fits in
    let long = length-take-le end text within in
    record {
      fits = omega (arith, fits, long);
      reads = λ j l. sym (get_or-take end text (k + j) 0 (omega arith)) ∙ o.reads j l;
    }

-- no whole needle begins before a place
abbrev pub NoneUpTo : List ℕ → List ℕ → ℕ → Type 0
NoneUpTo needle text from = (k : ℕ) → k < from → ¬ IsWholeAt needle text k

-- what a search from a place on finds
abbrev pub FoundFrom : List ℕ → List ℕ → ℕ → ℕ → Type 0
FoundFrom needle text from at =
    NoneBefore (OccursAt (drop from text) needle) 0 (length (drop from text) + 1) at × OccursAt (drop from text) needle at

pub found_from : (needle text : List ℕ) (from at : ℕ)
    → (let part = take (length text - from) (drop from text) in NoneBefore (OccursAt part needle) 0 (length part + 1) at × OccursAt part needle at)
    → FoundFrom needle text from at
found_from needle text from at h =
    let P : List ℕ → Type 0 = λ part. NoneBefore (OccursAt part needle) 0 (length part + 1) at × OccursAt part needle at in
    subst P (take_rest text from) h

pub nowhere_from : (needle text : List ℕ) (from : ℕ)
    → (let part = take (length text - from) (drop from text) in Nowhere (OccursAt part needle) 0 (length part + 1))
    → Nowhere (OccursAt (drop from text) needle) 0 (length (drop from text) + 1)
nowhere_from needle text from h =
    let P : List ℕ → Type 0 = λ part. Nowhere (OccursAt part needle) 0 (length part + 1) in
    subst P (take_rest text from) h

none_to : (needle text : List ℕ) (from at : ℕ) → from ≤ length text → NoneUpTo needle text from → FoundFrom needle text from at →
    NoneUpTo needle text (from + at)
none_to needle text from at within none found k less w = by_side (cases_lt k from) where
  by_side : (k < from) ⊎ (from ≤ k) → ⊥
  by_side (inl before) = none k before w
  by_side (inr after) =
      let P : ℕ → Type 0 = OccursAt text needle in
      let o : OccursAt text needle (from + (k - from)) = subst P (omega arith) (whole_occurs needle text k w) in
      found.0.before (k - from) (omega arith) (omega arith) (occurs_before text needle from (k - from) within o)

pub first_found : (needle text : List ℕ) (from at : ℕ) → from ≤ length text → NoneUpTo needle text from → FoundFrom needle text from at
    → is_whole text (from + at) (from + at + length needle) ≡ true
    → IsWholeAt needle text (from + at) × NoneUpTo needle text (from + at)
first_found needle text from at within none found h =
    (test_whole needle text (from + at) (occurs_after text needle from at within found.1) h, none_to needle text from at within none found)

pub first_on : (needle text : List ℕ) (from at : ℕ) → needle ≢ [] → from ≤ length text → NoneUpTo needle text from → FoundFrom needle text from at
    → is_whole text (from + at) (from + at + length needle) ≡ false
    → NoneUpTo needle text (from + at + 1)
first_on needle text from at some within none found h k less w = by_side (cases_lt k (from + at)) where
  by_side : (k < from + at) ⊎ (from + at ≤ k) → ⊥
  by_side (inl before) = none_to needle text from at within none found k before w
  by_side (inr after) =
      let P : ℕ → Type 0 = IsWholeAt needle text in
      let here : IsWholeAt needle text (from + at) = subst P (omega arith) w in
      absurd (false≢true (sym h ∙ whole_test needle text (from + at) some here))

pub first_within : (needle text : List ℕ) (from at : ℕ) → 0 < length needle → from ≤ length text → FoundFrom needle text from at → from + at + 1 ≤ length text
first_within needle text from at some within found = let fits = found.1.fits in omega (arith, fits, length-drop from text)

pub first_none : (needle text : List ℕ) (from : ℕ) → from ≤ length text → NoneUpTo needle text from
    → Nowhere (OccursAt (drop from text) needle) 0 (length (drop from text) + 1) → (k : ℕ) → ¬ IsWholeAt needle text k
first_none needle text from within none nowhere k w = by_side (cases_lt k from) where
  by_side : (k < from) ⊎ (from ≤ k) → ⊥
  by_side (inl before) = none k before w
  by_side (inr after) =
      let P : ℕ → Type 0 = OccursAt text needle in
      let o : OccursAt text needle (from + (k - from)) = subst P (omega arith) (whole_occurs needle text k w) in
      let fits = o.fits in
      nowhere (k - from) (omega arith) (omega (arith, fits, length-drop from text)) (occurs_before text needle from (k - from) within o)

-- no whole needle ends after a place
abbrev pub NonePast : List ℕ → List ℕ → ℕ → Type 0
NonePast needle text end = (k : ℕ) → end < k + length needle → ¬ IsWholeAt needle text k

-- what a search up to a place finds
abbrev pub FoundUpTo : List ℕ → List ℕ → ℕ → ℕ → Type 0
FoundUpTo needle text end start =
    NoneAfter (OccursAt (take end text) needle) 0 (length (take end text) + 1) start × OccursAt (take end text) needle start

none_later : (needle text : List ℕ) (end start : ℕ) → end ≤ length text → NonePast needle text end → FoundUpTo needle text end start
    → (k : ℕ) → start < k → ¬ IsWholeAt needle text k
none_later needle text end start within none found k more w = by_side (cases_lt end (k + length needle)) where
  by_side : (end < k + length needle) ⊎ (k + length needle ≤ end) → ⊥
  by_side (inl past) = none k past w
  by_side (inr ends) =
      found.0.after k (omega arith) (omega (arith, length-take-le end text within))
      (occurs_within text needle end k within ends (whole_occurs needle text k w))

pub last_found : (needle text : List ℕ) (end start : ℕ) → end ≤ length text → NonePast needle text end → FoundUpTo needle text end start
    → is_whole text start (start + length needle) ≡ true
    → IsWholeAt needle text start × ((k : ℕ) → start < k → ¬ IsWholeAt needle text k)
last_found needle text end start within none found h =
    (test_whole needle text start (occurs_outside text needle end start within found.1) h, none_later needle text end start within none found)

pub last_on : (needle text : List ℕ) (end start : ℕ) → needle ≢ [] → end ≤ length text → NonePast needle text end → FoundUpTo needle text end start
    → is_whole text start (start + length needle) ≡ false
    → NonePast needle text (start + length needle - 1)
last_on needle text end start some within none found h k past w = by_side (cases_lt start k) where
  by_side : (start < k) ⊎ (k ≤ start) → ⊥
  by_side (inl later) = none_later needle text end start within none found k later w
  by_side (inr least) =
      let P : ℕ → Type 0 = IsWholeAt needle text in
      let here : IsWholeAt needle text start = subst P (omega arith) w in
      absurd (false≢true (sym h ∙ whole_test needle text start some here))

pub last_within : (needle text : List ℕ) (end start : ℕ) → end ≤ length text → FoundUpTo needle text end start → start + length needle ≤ end
last_within needle text end start within found = let fits = found.1.fits in omega (arith, fits, length-take-le end text within)

pub last_none : (needle text : List ℕ) (end : ℕ) → end ≤ length text → NonePast needle text end
    → Nowhere (OccursAt (take end text) needle) 0 (length (take end text) + 1) → (k : ℕ) → ¬ IsWholeAt needle text k
last_none needle text end within none nowhere k w = by_side (cases_lt end (k + length needle)) where
  by_side : (end < k + length needle) ⊎ (k + length needle ≤ end) → ⊥
  by_side (inl past) = none k past w
  by_side (inr ends) =
      nowhere k (omega arith) (omega (arith, length-take-le end text within)) (occurs_within text needle end k within ends (whole_occurs needle text k w))

pub none_past_end : (needle text : List ℕ) → NonePast needle text (length text)
none_past_end needle text k past w = let fits = (whole_occurs needle text k w).fits in omega (arith, fits)

pub some_bytes : (needle : List ℕ) → 0 < length needle → needle ≢ []
some_bytes [] some e = absurd (omega arith)
some_bytes (b ∷ needle) some e = absurd (none (ap length e)) where
  none : {n : ℕ} → suc n ≡ 0 → ⊥
  none e = omega (arith, e)

-- places by characters

nonempty : (c : Character) → IsCharacter c → 0 < length c
nonempty [] h = absurd h
nonempty (b ∷ more) h = omega arith

same_first : (a b : Character) (xs ys : List Character) → a ∷ xs ≡ b ∷ ys → (a ≡ b) × (xs ≡ ys)
same_first a b xs ys e = (ap (λ l. get_or l 0 []) e, ap (drop 1) e)

-- of two fronts of characters, the one of fewer has fewer bytes
shorter_front : (front other rest more : List Character) → front ++ rest ≡ other ++ more → AllByRecursion IsCharacter other → length front < length other
    → length (bytes_of front) < length (bytes_of other)
shorter_front front [] rest more e each less = absurd (omega arith)
shorter_front [] (c ∷ other) rest more e each less = omega (arith, nonempty c each.0, length-append c (bytes_of other))
shorter_front (b ∷ front) (c ∷ other) rest more e each less =
    let same = same_first b c (front ++ rest) (other ++ more) e in
    omega (
      arith,
      shorter_front front other rest more same.1 each.1 (omega arith),
      ap length same.0,
      length-append b (bytes_of front),
      length-append c
          (bytes_of other),
    )

stands : (needle text : List ℕ) (k : ℕ) (w : IsWholeAt needle text k) → StandsAt (characters needle) (characters text) (length w.before)
stands needle text k w = record { before = w.before; after = w.after; cut = w.cut; place_is = refl }

whole_of : (needle text : List ℕ) (p : ℕ) (s : StandsAt (characters needle) (characters text) p) → IsWholeAt needle text (length (bytes_of s.before))
whole_of needle text p s = record { before = s.before; after = s.after; cut = s.cut; start_is = refl }

each_before : (text : List ℕ) (front rest : List Character) → characters text ≡ front ++ rest → AllByRecursion IsCharacter front
each_before text front rest e = let P : List Character → Type 0 = AllByRecursion IsCharacter in all_front IsCharacter front rest (subst P e (character_laws.cut text).each)

regrouped : (text needle : List ℕ) (before after : List Character) → characters text ≡ (before ++ characters needle) ++ after →
    characters text ≡ before ++ (characters needle ++ after)
regrouped text needle before after e = e ∙ append_assoc before (characters needle) after

-- the characters before a place are those of the bytes before it
place_is : (needle text : List ℕ) (k : ℕ) (w : IsWholeAt needle text k) → length (characters (take k text)) ≡ length w.before
place_is needle text k w =
    let cut = cut_at text w.before (characters needle ++ w.after) (regrouped text needle w.before w.after w.cut) in
    ap (λ n. length (characters (take n text))) (sym w.start_is)
    ∙ ap (λ t. length (characters (take (length (bytes_of w.before)) t))) cut.bytes
    ∙ ap (λ t. length (characters t)) (take-append_seam (bytes_of w.before) (bytes_of (characters needle ++ w.after)))
    ∙ ap length cut.front_is

pub nowhere : (needle text : List ℕ) → ((k : ℕ) → ¬ IsWholeAt needle text k) → (p : ℕ) → ¬ StandsAt (characters needle) (characters text) p
nowhere needle text none p s = none (length (bytes_of s.before)) (whole_of needle text p s)

fewer : (needle text : List ℕ) (p : ℕ) (s : StandsAt (characters needle) (characters text) p) (k : ℕ) (w : IsWholeAt needle text k) →
    length s.before < length w.before
    → length (bytes_of s.before) < k
fewer needle text p s k w less =
    let short : length (bytes_of s.before) < length (bytes_of w.before) =
    shorter_front s.before w.before (characters needle ++ s.after) (characters needle ++ w.after)
    (sym (regrouped text needle s.before s.after s.cut) ∙ regrouped text needle w.before w.after w.cut)
    (each_before text w.before (characters needle ++ w.after) (regrouped text needle w.before w.after w.cut)) less in
    omega (arith, short, w.start_is)

more : (needle text : List ℕ) (p : ℕ) (s : StandsAt (characters needle) (characters text) p) (k : ℕ) (w : IsWholeAt needle text k) →
    length w.before < length s.before
    → k < length (bytes_of s.before)
more needle text p s k w less =
    let short : length (bytes_of w.before) < length (bytes_of s.before) =
    shorter_front w.before s.before (characters needle ++ w.after) (characters needle ++ s.after)
    (sym (regrouped text needle w.before w.after w.cut) ∙ regrouped text needle s.before s.after s.cut)
    (each_before text s.before (characters needle ++ s.after) (regrouped text needle s.before s.after s.cut)) less in
    omega (arith, short, w.start_is)

pub stands_first : (needle text : List ℕ) (start : ℕ) → IsWholeAt needle text start × ((k : ℕ) → k < start → ¬ IsWholeAt needle text k)
    → StandsAt (characters needle) (characters text) (length (characters (take start text)))
    × ((p : ℕ) → p < length (characters (take start text)) → ¬ StandsAt (characters needle) (characters text) p)
stands_first needle text start h =
    let P : ℕ → Type 0 = StandsAt (characters needle) (characters text) in
    let same = place_is needle text start h.0 in (
      subst P (sym same) (stands needle text start h.0),
      λ p less s. h.1 (length (bytes_of s.before)) (fewer needle text p s start h.0 (omega (arith, less, same, s.place_is))) (whole_of needle text p s),
    )

pub stands_last : (needle text : List ℕ) (start : ℕ) → IsWholeAt needle text start × ((k : ℕ) → start < k → ¬ IsWholeAt needle text k)
    → StandsAt (characters needle) (characters text) (length (characters (take start text)))
    × ((p : ℕ) → length (characters (take start text)) < p → ¬ StandsAt (characters needle) (characters text) p)
stands_last needle text start h =
    let P : ℕ → Type 0 = StandsAt (characters needle) (characters text) in
    let same = place_is needle text start h.0 in (
      subst P (sym same) (stands needle text start h.0),
      λ p less s. h.1 (length (bytes_of s.before)) (more needle text p s start h.0 (omega (arith, less, same, s.place_is))) (whole_of needle text p s),
    )

-- by cases on the needle

no_characters : (needle : List ℕ) → length needle < 1 → characters needle ≡ []
no_characters [] h = refl
no_characters (b ∷ needle) h = absurd (omega arith)

pub first_of_nothing : (needle : List ℕ) (text : List Character) → length needle < 1 → IsFirstPlace (characters needle) text None
first_of_nothing needle text few = let P : List Character → Type 0 = λ n. IsFirstPlace n text None in subst P (sym (no_characters needle few)) refl

pub last_of_nothing : (needle : List ℕ) (text : List Character) → length needle < 1 → IsLastPlace (characters needle) text None
last_of_nothing needle text few = let P : List Character → Type 0 = λ n. IsLastPlace n text None in subst P (sym (no_characters needle few)) refl

some_characters : (needle : List ℕ) → 1 ≤ length needle → First needle
some_characters needle some = first_of needle (some_bytes needle (omega arith))

pub first_nowhere : (needle text : List ℕ) → 1 ≤ length needle → ((k : ℕ) → ¬ IsWholeAt needle text k) → IsFirstPlace (characters needle) (characters text) None
first_nowhere needle text some none =
    let first = some_characters needle some in
    let P : List Character → Type 0 = λ n. IsFirstPlace n (characters text) None in
    let Q : List Character → Type 0 = λ n. (p : ℕ) → ¬ StandsAt n (characters text) p in
    subst P (sym first.cut) (subst Q first.cut (nowhere needle text none))

pub last_nowhere : (needle text : List ℕ) → 1 ≤ length needle → ((k : ℕ) → ¬ IsWholeAt needle text k) → IsLastPlace (characters needle) (characters text) None
last_nowhere needle text some none =
    let first = some_characters needle some in
    let P : List Character → Type 0 = λ n. IsLastPlace n (characters text) None in
    let Q : List Character → Type 0 = λ n. (p : ℕ) → ¬ StandsAt n (characters text) p in
    subst P (sym first.cut) (subst Q first.cut (nowhere needle text none))

pub first_somewhere : (needle text : List ℕ) (start place : ℕ) → 1 ≤ length needle → place ≡ length (characters (take start text))
    → IsWholeAt needle text start × ((k : ℕ) → k < start → ¬ IsWholeAt needle text k) → IsFirstPlace (characters needle) (characters text) (Some place)
first_somewhere needle text start place some e h =
    let first = some_characters needle some in
    let P : List Character → Type 0 = λ n. IsFirstPlace n (characters text) (Some place) in
    let Q : List Character → Type 0 = λ n. StandsAt n (characters text) place × ((p : ℕ) → p < place → ¬ StandsAt n (characters text) p) in
    let R : ℕ → Type 0 = λ m. StandsAt (characters needle) (characters text) m × ((p : ℕ) → p < m → ¬ StandsAt (characters needle) (characters text) p) in
    subst P (sym first.cut) (subst Q first.cut (subst R (sym e) (stands_first needle text start h)))

pub last_somewhere : (needle text : List ℕ) (start place : ℕ) → 1 ≤ length needle → place ≡ length (characters (take start text))
    → IsWholeAt needle text start × ((k : ℕ) → start < k → ¬ IsWholeAt needle text k) → IsLastPlace (characters needle) (characters text) (Some place)
last_somewhere needle text start place some e h =
    let first = some_characters needle some in
    let P : List Character → Type 0 = λ n. IsLastPlace n (characters text) (Some place) in
    let Q : List Character → Type 0 = λ n. StandsAt n (characters text) place × ((p : ℕ) → place < p → ¬ StandsAt n (characters text) p) in
    let R : ℕ → Type 0 = λ m. StandsAt (characters needle) (characters text) m × ((p : ℕ) → m < p → ¬ StandsAt (characters needle) (characters text) p) in
    subst P (sym first.cut) (subst Q first.cut (subst R (sym e) (stands_last needle text start h)))

pub start_within : (needle text : List ℕ) (start : ℕ) → IsWholeAt needle text start → start ≤ length text
start_within needle text start w = let fits = (whole_occurs needle text start w).fits in omega (arith, fits)
