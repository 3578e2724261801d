-- A name is split as commands read it.
use Rattle.std.proofs.Common.{◌≡◌, ℕ, ◌+◌, ◌-◌, ◌<◌, Bool, true, false, cond, ◌==◌, List, [], ◌∷◌, ◌++◌, length, get_or}
use Rattle.std.proofs.Common.{take, drop, Option, Some, None, refl, ap, sym, subst, ◌∙◌, arith}
use Rattle.std.specs.Prelude.{nat_lt, position, slice_range, if◌then◌else◌}
use Rattle.std.specs.List.{position_or_len}
use Rattle.std.specs.Option.{option_map}
use Rattle.std.proofs.lemmas.Bool.{lt-ltb, eqb-true}
use Rattle.std.proofs.lemmas.List.{append_assoc, drop_more, drop-drop, drop_all, get_or-take, length-append, length-take-le, take-append-drop}
use Rattle.std.proofs.lemmas.List.Quantifiers.{position-Some}
use Rattle.std.proofs.lemmas.List.Sums.{position_or_len_is}
use Rattle.std.proofs.Math.Seq.{drop-append_seam, take-append_seam}
use Rattle.tt_script.specs.Reading.{begins, index_start}
use Rattle.tt_script.specs.Names.{IsElementName, element_of, ElementNameLaw}
use Rattle.tt_script.proofs.FromGrammar.{position_at}
use Rattle.tt_script.proofs.Joining.{begins_at-get, start_within}

abbrev is_opening : ℕ → Bool
is_opening b = b == 40

abbrev cut_at : List ℕ → ℕ → List ℕ × List ℕ
cut_at name start = (take start name, slice_range name (start + 1) (length name - 1))

-- what an index between parentheses says of the name
closes_of : (name : List ℕ) (start : ℕ) → index_start name ≡ Some start → (begins 41 (drop (length name - 1) name) ≡ true)
    × (position is_opening name ≡ Some start)
closes_of name start e = go (begins 41 (drop (length name - 1) name)) refl e
  where
    go : (c : Bool) → begins 41 (drop (length name - 1) name) ≡ c → (if c then position is_opening name else None) ≡ Some start →
        (begins 41 (drop (length name - 1) name) ≡ true) × (position is_opening name ≡ Some start)
    go false last found = cc
    go true last found = (last, found)

split_so : (name : List ℕ) (start : ℕ) → index_start name ≡ Some start → IsElementName name (take start name) (slice_range name (start + 1) (length name - 1))
split_so name start e =
    let both = closes_of name start e in
    let here = position-Some is_opening name start 0 both.1 in
    let within : start + 1 < length name = start_within name start e in
    let opening : get_or name start 0 ≡ 40 = eqb-true (get_or name start 0) 40 here.1 in
    let closing : get_or name (length name - 1) 0 ≡ 41 = begins_at-get 41 name (length name - 1) both.0 in
    let m : ℕ = length name - 1 - (start + 1) in
    let place : start + 1 + m ≡ length name - 1 = omega arith in
    let end : drop m (drop (start + 1) name) ≡ 41 ∷ [] =
    drop-drop m (start + 1) name ∙ ap (λ k. drop k name) place ∙ drop_more name (length name - 1) 0 (omega arith)
    ∙ ap (λ b. b ∷ drop (length name - 1 + 1) name) closing ∙ ap (λ r. 41 ∷ r) (drop_all (length name - 1 + 1) name (omega arith)) in
    let rest : drop start name ≡ 40 ∷ (take m (drop (start + 1) name) ++ (41 ∷ [])) =
    drop_more name start 0 (omega arith) ∙ ap (λ b. b ∷ drop (start + 1) name) opening
    ∙ ap (λ r. 40 ∷ r) (sym (take-append-drop m (drop (start + 1) name)) ∙ ap (λ r. take m (drop (start + 1) name) ++ r) end) in
    let size : length (take start name) ≡ start = length-take-le start name (omega arith) in
    record {
      spelled = sym (take-append-drop start name) ∙ ap (λ r. take start name ++ r) rest;
      first = position_or_len_is is_opening (take start name) (length (take start name)) 0 (omega arith)
          (λ k low. ap is_opening (get_or-take start name k 0 (omega arith)) ∙ here.2 k (omega arith)) (λ low. absurd (omega arith));
    }

joined_so : (name array index : List ℕ) → IsElementName name array index → element_of name ≡ Some (array, index)
joined_so name array index h =
    let n : ℕ = length array in
    let tail : List ℕ = index ++ (41 ∷ []) in
    let front : List ℕ = array ++ (40 ∷ index) in
    let size : length name ≡ n + (length index + 2) = omega (arith, ap length h.spelled, length-append array (40 ∷ tail), length-append index (41 ∷ [])) in
    let cut : name ≡ front ++ (41 ∷ []) = h.spelled ∙ sym (append_assoc array (40 ∷ index) (41 ∷ [])) in
    let last_place : length name - 1 ≡ length front = omega (arith, length-append array (40 ∷ index)) in
    let last : drop (length name - 1) name ≡ 41 ∷ [] = ap (λ k. drop k name) last_place ∙ ap (drop (length front)) cut ∙ drop-append_seam front (41 ∷ []) in
    let place : position_or_len is_opening name ≡ n = ap (position_or_len is_opening) h.spelled ∙ position_at is_opening array 40 tail h.first refl in
    let room : nat_lt n (length name) ≡ true = lt-ltb n (length name) (omega arith) in
    let found : position is_opening name ≡ Some n = ap (λ k. cond (nat_lt k (length name)) (Some k) None) place ∙ ap (λ v. cond v (Some n) None) room in
    let start : index_start name ≡ Some n = ap (λ rest. if begins 41 rest then position is_opening name else None) last ∙ found in
    let first : take n name ≡ array = ap (take n) h.spelled ∙ take-append_seam array (40 ∷ tail) in
    let after : drop (n + 1) name ≡ tail = sym (drop-drop 1 n name) ∙ ap (drop 1) (ap (drop n) h.spelled ∙ drop-append_seam array (40 ∷ tail)) in
    let long : length name - 1 - (n + 1) ≡ length index = omega arith in
    let inner : slice_range name (n + 1) (length name - 1) ≡ index =
    ap (take (length name - 1 - (n + 1))) after ∙ ap (λ k. take k tail) long ∙ take-append_seam index (41 ∷ []) in
    ap (λ (o : Option ℕ). option_map (cut_at name) o) start
    ∙ ap (λ a. Some (a, slice_range name (n + 1) (length name - 1))) first
    ∙ ap (λ i. Some (array, i)) inner

pub element_name_law : ElementNameLaw
element_name_law name array index = (λ e. go (index_start name) refl e, joined_so name array index)
  where
    some_same : (x y : List ℕ × List ℕ) → Some x ≡ Some y → x ≡ y
    some_same x y e = cc

    go : (o : Option ℕ) → index_start name ≡ o → option_map (cut_at name) o ≡ Some (array, index) → IsElementName name array index
    go None i e = cc
    go (Some start) i e =
        let same = some_same _ _ e in
        subst (λ (p : List ℕ × List ℕ). IsElementName name p.0 p.1) same (split_so name start i)
