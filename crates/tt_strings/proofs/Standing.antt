-- Bytes and whole characters at a place.
use Rattle.std.proofs.Common.{◌⊎◌, inl, inr, ◌≡◌, ◌≢◌, ℕ, zero, suc, ◌+◌, ◌≤◌, Bool, true, false, not, ◌||◌, List, []}
use Rattle.std.proofs.Common.{◌∷◌, ◌++◌, length, take, drop, refl, sym, ap, subst, ◌∙◌, arith, append_assoc}
use Rattle.std.proofs.Common.{length-append, length-take-le, take-append-drop}
use Rattle.std.specs.Prelude.{◌==◌}
use Rattle.std.specs.List.{AllByRecursion}
use Rattle.std.proofs.lemmas.Bool.{and_from, and_parts, eq-eqb, not_from_false, false≢true}
use Rattle.std.proofs.Math.Dec.{eqb-suc-zero}
use Rattle.std.proofs.lemmas.List.Concat.{flat_map-append}
use Rattle.std.proofs.Math.Seq.{drop-append_seam, take-append_seam}
use Rattle.memchr.specs.Find.{OccursAt}
use Rattle.memchr.proofs.lemmas.MatchLemmas.{OccursAt-from_part, OccursAt-split}
use Rattle.tt_text.specs.Characters.{Character, characters, BeginsAnywhere, later_characters}
use Rattle.tt_text.proofs.CharacterLemmas.{character_laws}
use Rattle.tt_strings.specs.inside.Ends.{goes_on, is_whole}
use Rattle.tt_strings.specs.Places.{bytes_of}
use Rattle.tt_strings.specs.inside.Whole.{IsWholeAt}
use Rattle.tt_strings.proofs.Cuts.{IsFresh, all_back, all_fresh, append_fresh, cut_at, fresh_of, whole_text}
use Rattle.tt_strings.proofs.Keys.{First, first_of, fresh_begins, begins_no, no_begins}

-- the bytes of a text at whole characters

pub whole_bytes : (needle text : List ℕ) (k : ℕ) (w : IsWholeAt needle text k) → text ≡ bytes_of w.before ++ (needle ++ bytes_of w.after)
whole_bytes needle text k w =
    (cut_at text (w.before ++ characters needle) w.after w.cut).bytes
    ∙ ap (λ t. t ++ bytes_of w.after) (flat_map-append (λ c. c) w.before (characters needle) ∙ ap (λ t. bytes_of w.before ++ t) (whole_text needle))
    ∙ append_assoc (bytes_of w.before) needle (bytes_of w.after)

from_start : (needle text : List ℕ) (k : ℕ) (w : IsWholeAt needle text k) → drop k text ≡ needle ++ bytes_of w.after
from_start needle text k w =
    ap (λ n. drop n text) (sym w.start_is) ∙ ap (drop (length (bytes_of w.before))) (whole_bytes needle text k w)
    ∙ drop-append_seam (bytes_of w.before) (needle ++ bytes_of w.after)

whole_fits : (needle text : List ℕ) (k : ℕ) (w : IsWholeAt needle text k) → k + length needle ≤ length text
whole_fits needle text k w =
    let long : length text ≡ length (bytes_of w.before) + length (needle ++ bytes_of w.after) =
    ap length (whole_bytes needle text k w) ∙ length-append (bytes_of w.before) (needle ++ bytes_of w.after) in
    omega (arith, long, w.start_is, length-append needle (bytes_of w.after))

-- a needle's bytes stand where its characters do
pub whole_occurs : (needle text : List ℕ) (k : ℕ) → IsWholeAt needle text k → OccursAt text needle k
whole_occurs needle text k w =
    OccursAt-from_part text needle k (whole_fits needle text k w)
    (ap (take (length needle)) (from_start needle text k w) ∙ take-append_seam needle (bytes_of w.after))

from_end : (needle text : List ℕ) (k : ℕ) (w : IsWholeAt needle text k) → drop (k + length needle) text ≡ bytes_of w.after
from_end needle text k w =
    sym (drop-append_seam needle (drop (k + length needle) text))
    ∙ ap (drop (length needle)) (sym (OccursAt-split text needle k (whole_occurs needle text k w)) ∙ from_start needle text k w)
    ∙ drop-append_seam needle (bytes_of w.after)

fresh_after : (front rest : List Character) → front ≢ [] → AllByRecursion BeginsAnywhere (later_characters (front ++ rest)) → IsFresh rest
fresh_after [] rest some h = absurd (some refl)
fresh_after (c ∷ front) rest some h = all_fresh rest (all_back BeginsAnywhere front rest h)

-- what follows some of a text's characters begins with one
pub back_fresh : (text : List ℕ) (front rest : List Character) → front ≢ [] → characters text ≡ front ++ rest → IsFresh rest
back_fresh text front rest some e =
    let P : List Character → Type 0 = λ cut. AllByRecursion BeginsAnywhere (later_characters cut) in
    fresh_after front rest some (subst P e (character_laws.cut text).apart)

not_empty : (front : List Character) (c : Character) (later : List Character) → front ++ c ∷ later ≢ []
not_empty [] c later e = no_length (ap length e) where
  no_length : {n : ℕ} → suc n ≡ 0 → ⊥
  no_length e = omega (arith, e)
not_empty (d ∷ front) c later e = no_length (ap length e) where
  no_length : {n : ℕ} → suc n ≡ 0 → ⊥
  no_length e = omega (arith, e)

ends_whole : (needle text : List ℕ) (k : ℕ) → needle ≢ [] → IsWholeAt needle text k → goes_on (drop (k + length needle) text) ≡ false
ends_whole needle text k some w =
    let first : First needle = first_of needle some in
    let P : List Character → Type 0 = λ l. w.before ++ l ≢ [] in
    let front : w.before ++ characters needle ≢ [] = subst P (sym first.cut) (not_empty w.before first.first first.later) in
    ap goes_on (from_end needle text k w)
    ∙ begins_no (bytes_of w.after) (fresh_begins w.after (back_fresh text (w.before ++ characters needle) w.after front w.cut))

starts_whole : (needle text : List ℕ) (k : ℕ) (w : IsWholeAt needle text k) → (k ≡ 0) ⊎ (goes_on (drop k text) ≡ false)
starts_whole needle text k w = by_before w.before refl where
  by_before : (before : List Character) → w.before ≡ before → (k ≡ 0) ⊎ (goes_on (drop k text) ≡ false)
  by_before [] e = inl (sym w.start_is ∙ ap (λ b. length (bytes_of b)) e)
  by_before (c ∷ before) e =
      let some : w.before ≢ [] = λ n. not_empty [] c before (sym e ∙ n) in
      let cut : characters text ≡ w.before ++ (characters needle ++ w.after) = w.cut ∙ append_assoc w.before (characters needle) w.after in
      let same : drop k text ≡ bytes_of (characters needle ++ w.after) =
      from_start needle text k w ∙ ap (λ t. t ++ bytes_of w.after) (sym (whole_text needle)) ∙ sym (flat_map-append (λ c. c) (characters needle) w.after) in
      inr (ap goes_on same ∙ begins_no _ (fresh_begins (characters needle ++ w.after) (back_fresh text w.before (characters needle ++ w.after) some cut)))

either_true : (a b : Bool) → (a ≡ true) ⊎ (b ≡ true) → (a || b) ≡ true
either_true true b h = refl
either_true false b (inl h) = absurd (false≢true h)
either_true false b (inr h) = h

-- the test holds where the needle's characters stand
pub whole_test : (needle text : List ℕ) (k : ℕ) → needle ≢ [] → IsWholeAt needle text k → is_whole text k (k + length needle) ≡ true
whole_test needle text k some w =
    and_from _ _ (not_from_false _ (ends_whole needle text k some w)) (either_true (k == 0) (not (goes_on (drop k text))) (sides (starts_whole needle text k w))) where
      sides : (k ≡ 0) ⊎ (goes_on (drop k text) ≡ false) → ((k == 0) ≡ true) ⊎ (not (goes_on (drop k text)) ≡ true)
      sides (inl e) = inl (eq-eqb k 0 e)
      sides (inr e) = inr (not_from_false _ e)

not_true : (b : Bool) → not b ≡ true → b ≡ false
not_true true e = sym e
not_true false e = refl

cut_start : (text : List ℕ) (k : ℕ) → ((k == 0) || not (goes_on (drop k text))) ≡ true → characters text ≡ characters (take k text) ++ characters (drop k text)
cut_start text zero h = refl
cut_start text (suc k) h =
    ap characters (sym (take-append-drop (suc k) text))
    ∙ append_fresh (take (suc k) text) (drop (suc k) text)
    (fresh_of (drop (suc k) text)
    (no_begins (drop (suc k) text) (not_true (goes_on (drop (suc k) text)) (sym (ap (λ b. b || not (goes_on (drop (suc k) text))) (eqb-suc-zero k)) ∙ h))))

-- where the needle's bytes stand and the test holds, its characters stand
pub test_whole : (needle text : List ℕ) (k : ℕ) → OccursAt text needle k → is_whole text k (k + length needle) ≡ true → IsWholeAt needle text k
test_whole needle text k o h =
    let parts = and_parts _ _ h in
    let rest : List ℕ = drop (k + length needle) text in
    let back : characters (drop k text) ≡ characters needle ++ characters rest =
    ap characters (OccursAt-split text needle k o) ∙ append_fresh needle rest (fresh_of rest (no_begins rest (not_true _ parts.0))) in
    let fits = o.fits in
    record {
      before = characters (take k text);
      after = characters rest;
      cut = cut_start text k parts.1 ∙ ap (λ l. characters (take k text) ++ l) back
          ∙ sym (append_assoc (characters (take k text)) (characters needle) (characters rest));
      start_is = ap length (whole_text (take k text)) ∙ length-take-le k text (omega (arith, fits));
    }
