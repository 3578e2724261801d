-- Indices by the grammar and by the function.
use Rattle.std.proofs.Common.{◌≡◌, ℕ, ◌^◌, Bool, true, false, ◌==◌, ◌&&◌, ◌||◌, cond, ℤ, pos, negsuc, neg_ℤ, ◌+ℤ◌, List}
use Rattle.std.proofs.Common.{[], ◌∷◌, ◌++◌, length, take, drop, Option, Some, None, refl, sym, ap, subst, ◌∙◌, inl}
use Rattle.std.proofs.Common.{inr, arith}
use Rattle.std.specs.List.{list_all, prefix_len, take_while}
use Rattle.std.specs.Prelude.{nat_lt, FitsSigned, ◌⊎◌}
use Rattle.std.specs.Int.{w64}
use Rattle.std.specs.Str.Parse.{digits_value}
use Rattle.std.proofs.lemmas.Bool.{cases_Bool, and_parts, eqb-true, lt-ltb, ltb-true, both_ways}
use Rattle.std.proofs.lemmas.Bool.Decides.{nat_tests}
use Rattle.std.proofs.lemmas.List.{take-append-drop}
use Rattle.std.proofs.Math.Seq.{take-append_seam, drop-append_seam}
use Rattle.tt_lists.specs.Indices.{IsOffset, IsIndex, IndexLaw, is_decimal, is_number, number_of, signed_with}
use Rattle.tt_lists.specs.Indices.{offset_of, fits, place_of, sum_of, from_first_of, is_end_first, is_sign_first}
use Rattle.tt_lists.specs.Indices.{index_of}
use Rattle.tt_lists.specs.Indices.IsOffset.{none, plus, minus}
use Rattle.tt_lists.specs.Indices.IsIndex.{from_first, signed, from_end}
use Rattle.tt_lists.specs.declared.place.Index.{Index}
use Rattle.tt_lists.specs.declared.place.Index.TheVariants.{At, FromEnd}

-- ---- numbers

fits_from : (z : ℤ) → FitsSigned w64 z → fits z ≡ true
fits_from (pos n) h = lt-ltb n (2 ^ 63) h.sfits
fits_from (negsuc n) h = lt-ltb n (2 ^ 63) h.sfits

fits_to : (z : ℤ) → fits z ≡ true → FitsSigned w64 z
fits_to (pos n) h = record { sfits = ltb-true n (2 ^ 63) h }
fits_to (negsuc n) h = record { sfits = ltb-true n (2 ^ 63) h }

number_sound : (digits : List ℕ) (n : ℕ) → number_of digits ≡ Some n → (is_number digits ≡ true) × (n ≡ digits_value 10 digits)
number_sound digits n h = both (is_number digits) refl h
  where
    both : (t : Bool) → is_number digits ≡ t → cond t (Some (digits_value 10 digits)) None ≡ Some n → (is_number digits ≡ true) × (n ≡ digits_value 10 digits)
    both true e h = (e, cc)
    both false e h = absurd (cc h)

number_complete : (digits : List ℕ) → is_number digits ≡ true → number_of digits ≡ Some (digits_value 10 digits)
number_complete digits h = ap (λ t. cond t (Some (digits_value 10 digits)) None) h

-- a number with a sign, if there is one
signed_sound : (negative : Bool) (digits : List ℕ) (z : ℤ) → signed_with negative (number_of digits) ≡ Some z → (is_number digits ≡ true)
    × (z ≡ cond negative (neg_ℤ (pos (digits_value 10 digits))) (pos (digits_value 10 digits)))
signed_sound negative digits z h = go (number_of digits) refl h
  where
    go : (o : Option ℕ) → number_of digits ≡ o → signed_with negative o ≡ Some z → (is_number digits ≡ true)
        × (z ≡ cond negative (neg_ℤ (pos (digits_value 10 digits))) (pos (digits_value 10 digits)))
    go None e h = absurd (cc h)
    go (Some n) e h = let p = number_sound digits n e in let is : cond negative (neg_ℤ (pos n)) (pos n) ≡ z = cc in (p.0, sym is ∙ ap (λ m. cond negative (neg_ℤ (pos m)) (pos m)) p.1)

offset_sound : (text : List ℕ) (z : ℤ) → offset_of text ≡ Some z → IsOffset text z
offset_sound [] z h = let is : pos 0 ≡ z = cc in subst (IsOffset []) is none
offset_sound (b ∷ digits) z h =
    elim (cases_Bool (b == 43)) [
      | inl p ↦ (let e = eqb-true b 43 p in let q = signed_sound false digits z (rw p at h) in rw (e, q.1) (plus q.0))
      | inr p ↦ elim (cases_Bool (b == 45)) [
        | inl q ↦ (let e = eqb-true b 45 q in let r = signed_sound true digits z (rw (p, q) at h) in rw (e, r.1) (minus r.0))
        | inr q ↦ absurd (cc (rw (p, q) at h))
      ]
    ]

offset_complete : {text : List ℕ} {z : ℤ} → IsOffset text z → offset_of text ≡ Some z
offset_complete none = refl
offset_complete (plus {digits} h) = ap (signed_with false) (number_complete digits h)
offset_complete (minus {digits} h) = ap (signed_with true) (number_complete digits h)

-- a place in signed 64 bits
record IsPlace (index : ℤ → Index) (o : Option ℤ) (i : Index) : Type 0 where
  number : ℤ
  told : o ≡ Some number
  inside : FitsSigned w64 number
  is : index number ≡ i

place_sound : (index : ℤ → Index) (o : Option ℤ) (i : Index) → place_of index o ≡ Some i → IsPlace index o i
place_sound index None i h = absurd (cc h)
place_sound index (Some z) i h = both (fits z) refl h
  where
    both : (t : Bool) → fits z ≡ t → cond t (Some (index z)) None ≡ Some i → IsPlace index (Some z) i
    both true e h = record { number = z; told = refl; inside = fits_to z e; is = cc }
    both false e h = absurd (cc h)

place_complete : (index : ℤ → Index) (z : ℤ) → FitsSigned w64 z → place_of index (Some z) ≡ Some (index z)
place_complete index z h = ap (λ t. cond t (Some (index z)) None) (fits_from z h)

-- ---- what begins a text

ends_first : (text : List ℕ) → is_end_first text ≡ true → text ≡ 101 ∷ 110 ∷ 100 ∷ drop 3 text
ends_first [] h = absurd (cc h)
ends_first (e ∷ []) h = absurd (cc h)
ends_first (e ∷ n ∷ []) h = absurd (cc h)
ends_first (e ∷ n ∷ d ∷ text) h =
    let p = and_parts (e == 101 && n == 110) (d == 100) h in
    let q = and_parts (e == 101) (n == 110) p.0 in
    rw (eqb-true e 101 q.0, eqb-true n 110 q.1, eqb-true d 100 p.1) refl

-- a text that begins with a digit begins with no `end` and no sign
digit_first : (b : ℕ) (text : List ℕ) → is_decimal b ≡ true → (is_end_first (b ∷ text) ≡ false) × (is_sign_first (b ∷ text) ≡ false)
digit_first b text h =
    let e : (b == 101) ≡ false = grind (arith, nat_tests) in
    let s : (b == 43 || b == 45) ≡ false = grind (arith, nat_tests) in
    (no_end text e, s)
  where
    no_end : (text : List ℕ) → (b == 101) ≡ false → is_end_first (b ∷ text) ≡ false
    no_end [] e = refl
    no_end (n ∷ []) e = refl
    no_end (n ∷ d ∷ text) e = rw e refl

-- digits end if an offset begins
offset_ends : {text : List ℕ} {z : ℤ} → IsOffset text z → prefix_len is_decimal text ≡ 0
offset_ends none = refl
offset_ends (plus h) = refl
offset_ends (minus h) = refl

digits_end : (digits offset : List ℕ) → list_all is_decimal digits ≡ true → prefix_len is_decimal offset ≡ 0 →
    prefix_len is_decimal (digits ++ offset) ≡ length digits
digits_end [] offset h e = e
digits_end (d ∷ digits) offset h e = let p = and_parts (is_decimal d) (list_all is_decimal digits) h in rw p.0 (omega (arith, digits_end digits offset p.1 e))

-- ---- the law

first_sound : (text : List ℕ) (i : Index) → from_first_of text ≡ Some i → IsIndex text i
first_sound text i h =
    go (number_of (take_while is_decimal text)) (offset_of (drop (prefix_len is_decimal text) text)) refl refl
    (place_sound At (sum_of (number_of (take_while is_decimal text)) (offset_of (drop (prefix_len is_decimal text) text))) i h)
  where
    go : (m : Option ℕ) (n : Option ℤ) → number_of (take_while is_decimal text) ≡ m → offset_of (drop (prefix_len is_decimal text) text) ≡ n →
        IsPlace At (sum_of m n) i → IsIndex text i
    go None n e f p = absurd (cc p.told)
    go (Some m) None e f p = absurd (cc p.told)
    go (Some m) (Some n) e f p =
        let number = number_sound (take_while is_decimal text) m e in
        let sum : pos m +ℤ n ≡ p.number = cc (p.told) in
        let place : p.number ≡ pos (digits_value 10 (take_while is_decimal text)) +ℤ n = sym sum ∙ ap (λ k. pos k +ℤ n) number.1 in
        subst (IsIndex text) p.is
        (from_first (take_while is_decimal text) (drop (prefix_len is_decimal text) text) n
        (sym (take-append-drop (prefix_len is_decimal text) text)) number.0 (offset_sound (drop (prefix_len is_decimal text) text) n f) place p.inside)

signed_index : (text : List ℕ) (i : Index) → is_sign_first text ≡ true → place_of At (offset_of text) ≡ Some i → IsIndex text i
signed_index [] i s h = absurd (cc s)
signed_index (b ∷ digits) i s h = let p = place_sound At (offset_of (b ∷ digits)) i h in subst (IsIndex (b ∷ digits)) p.is (signed (offset_sound (b ∷ digits) p.number p.told) p.inside)

sound : (text : List ℕ) (i : Index) → index_of text ≡ Some i → IsIndex text i
unfolding index_of
sound text i h =
    elim (cases_Bool (is_end_first text)) [
      | inl p ↦ (
          let q = place_sound FromEnd (offset_of (drop 3 text)) i (rw p at h) in
          subst (λ t. IsIndex t i) (sym (ends_first text p))
          (subst (IsIndex (101 ∷ 110 ∷ 100 ∷ drop 3 text)) q.is (from_end (offset_sound (drop 3 text) q.number q.told) q.inside)))
      | inr p ↦ elim (cases_Bool (is_sign_first text)) [
        | inl q ↦ signed_index text i q (rw (p, q) at h)
        | inr q ↦ first_sound text i (rw (p, q) at h)
      ]
    ]

-- an offset with something in it begins with a sign
sign_of_offset : (b : ℕ) (digits : List ℕ) (z : ℤ) → IsOffset (b ∷ digits) z → (b ≡ 43) ⊎ (b ≡ 45)
sign_of_offset _ digits _ (plus h) = inl refl
sign_of_offset _ digits _ (minus h) = inr refl

complete_signed : (b : ℕ) (digits : List ℕ) (z : ℤ) → IsOffset (b ∷ digits) z → FitsSigned w64 z → index_of (b ∷ digits) ≡ Some (At z)
unfolding index_of
complete_signed b digits z o f =
    let told : place_of At (offset_of (b ∷ digits)) ≡ Some (At z) = ap (place_of At) (offset_complete o) ∙ place_complete At z f in
    elim (sign_of_offset b digits z o) [
      | inl e ↦ rw (no_end b digits (rw e refl), sign b (rw e refl)) told
      | inr e ↦ rw (no_end b digits (rw e refl), sign b (rw e refl)) told
    ]
  where
    no_end : (b : ℕ) (text : List ℕ) → (b == 101) ≡ false → is_end_first (b ∷ text) ≡ false
    no_end b [] e = refl
    no_end b (n ∷ []) e = refl
    no_end b (n ∷ d ∷ text) e = rw e refl

    sign : (b : ℕ) → (b == 43 || b == 45) ≡ true → (b == 43 || b == 45) ≡ true
    sign b e = e

complete_first : (digits offset : List ℕ) (number place : ℤ) → is_number digits ≡ true → IsOffset offset number →
    place ≡ pos (digits_value 10 digits) +ℤ number → FitsSigned w64 place → index_of (digits ++ offset) ≡ Some (At place)
unfolding index_of
complete_first digits offset number place d o e f = go digits d refl
  where
    told : (digits : List ℕ) → is_number digits ≡ true → place ≡ pos (digits_value 10 digits) +ℤ number → from_first_of (digits ++ offset) ≡ Some (At place)
    told digits d e =
        let all = (and_parts (nat_lt 0 (length digits)) (list_all is_decimal digits)
        (and_parts (nat_lt 0 (length digits) && list_all is_decimal digits) (nat_lt (digits_value 10 digits) (2 ^ 64)) d).0).1 in
        let size = digits_end digits offset all (offset_ends o) in
        let front : take_while is_decimal (digits ++ offset) ≡ digits = ap (λ n. take n (digits ++ offset)) size ∙ take-append_seam digits offset in
        let back : drop (prefix_len is_decimal (digits ++ offset)) (digits ++ offset) ≡ offset =
        ap (λ n. drop n (digits ++ offset)) size ∙ drop-append_seam digits offset in
        ap (λ t. place_of At (sum_of (number_of t) (offset_of (drop (prefix_len is_decimal (digits ++ offset)) (digits ++ offset))))) front
        ∙ ap (λ t. place_of At (sum_of (number_of digits) (offset_of t))) back
        ∙ ap (λ n. place_of At (sum_of n (offset_of offset))) (number_complete digits d)
        ∙ ap (λ n. place_of At (sum_of (Some (digits_value 10 digits)) n)) (offset_complete o)
        ∙ ap (λ z. place_of At (Some z)) (sym e)
        ∙ place_complete At place f

    go : (ds : List ℕ) → is_number ds ≡ true → digits ≡ ds → index_of (digits ++ offset) ≡ Some (At place)
    go [] d' same = absurd (both_ways false refl d')
    go (b ∷ ds) d' same =
        let all = (and_parts (nat_lt 0 (length (b ∷ ds))) (list_all is_decimal (b ∷ ds))
        (and_parts (nat_lt 0 (length (b ∷ ds)) && list_all is_decimal (b ∷ ds)) (nat_lt (digits_value 10 (b ∷ ds)) (2 ^ 64)) d').0).1 in
        let p = digit_first b (ds ++ offset) (and_parts (is_decimal b) (list_all is_decimal ds) all).0 in
        rw same (rw (p.0, p.1) (told (b ∷ ds) d' (e ∙ ap (λ t. pos (digits_value 10 t) +ℤ number) same)))

complete : {text : List ℕ} {i : Index} → IsIndex text i → index_of text ≡ Some i
unfolding index_of
complete (from_first {text} {place} digits offset number is d o e f) = ap index_of is ∙ complete_first digits offset number place d o e f
complete (signed {b} {digits} {number} o f) = complete_signed b digits number o f
complete (from_end {offset} {number} o f) = ap (place_of FromEnd) (offset_complete o) ∙ place_complete FromEnd number f

pub index_law : IndexLaw
index_law text i = (λ e. sound text i e, λ h. complete h)
