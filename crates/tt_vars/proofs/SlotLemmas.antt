-- Elements in slots are found, changed, added and removed as those of the list that they are.
use Rattle.std.proofs.Common.{◌≡◌, ◌⊎◌, inl, inr, ℕ, zero, suc, ◌+◌, ◌<◌, Bool, true, false, cond, List, [], ◌∷◌, ◌++◌, Option, Some, None, bytes_eq}
use Rattle.std.proofs.Common.{slice_set, length, refl, ap, sym, subst, ◌∙◌, arith, true≢false, is_some, append-nil, length-append, get_or, take, drop, add-one, drop-cons, Result, Ok, Err}
use Rattle.std.specs.Map.{keys_of, lookup, remove_entry}
use Rattle.std.specs.Prelude.{IfOk}
use Rattle.std.proofs.Math.Seq.{take-suc}
use Rattle.std.proofs.lemmas.List.{set-get_or, take-append-drop}
use Rattle.std.proofs.lemmas.Slice.Eq.{bytes_eq-Decides}
use Rattle.indexmap.specs.IndexMap.{insert_entry}
use Rattle.tt_lists.specs.declared.answer.ListAnswer.{ListAnswer}
use Rattle.tt_lists.specs.declared.answer.ListAnswer.TheVariants.{Made, Bad}
use Rattle.tt_vars.specs.Variables.{Name, Pairs}
use Rattle.tt_vars.specs.inside.Found.{after_change}
use Rattle.tt_vars.specs.inside.Slots.{Slot, elements_in, slot_at, index_in, text_in, put_in, put_at, with_slot, ArePlaces, Differ}
use Rattle.tt_vars.proofs.FrameLemmas.{same_some, none_is_some}

same_index : (index : Name) → bytes_eq index index ≡ true
same_index index = (bytes_eq-Decides index index).1 refl

equal : (one two : Name) → bytes_eq one two ≡ true → one ≡ two
equal one two e = (bytes_eq-Decides one two).0 e

-- ---- one slot of an index ----

abbrev Only : Name → List Slot → ℕ → Type 0
Only index slots at = (place : ℕ) → index_in (slot_at slots place) ≡ Some index → place ≡ at

record At (index : Name) (slots : List Slot) (at : ℕ) : Type 0 where
  found : lookup (bytes_eq index) (elements_in slots) ≡ text_in (slot_at slots at)
  put : (new : List ℕ) → insert_entry bytes_eq (elements_in slots) index new ≡ elements_in (put_at slots at new)
  without : remove_entry (bytes_eq index) (elements_in slots) ≡ elements_in (slice_set slots at None)
  fewer : length (elements_in slots) ≡ 1 + length (elements_in (slice_set slots at None))

at_first : (index : Name) (slots : List Slot) (text : List ℕ) → At index (Some (index, text) ∷ slots) zero
at_first index slots text = record {
  found = ap (λ b. cond b (Some text) (lookup (bytes_eq index) (elements_in slots))) (same_index index);
  put = λ new. ap (λ b. cond b ((index, new) ∷ elements_in slots) ((index, text) ∷ insert_entry bytes_eq (elements_in slots) index new)) (same_index index);
  without = ap (λ b. cond b (elements_in slots) ((index, text) ∷ remove_entry (bytes_eq index) (elements_in slots))) (same_index index);
  fewer = omega arith;
}

at_later : (index : Name) (element : Name × List ℕ) (slots : List Slot) (at : ℕ) → bytes_eq index element.0 ≡ false →
    At index slots at → At index (Some element ∷ slots) (suc at)
at_later index element slots at apart h = record {
  found = ap (λ b. cond b (Some element.1) (lookup (bytes_eq index) (elements_in slots))) apart ∙ h.found;
  put = λ new.
      ap (λ b. cond b ((element.0, new) ∷ elements_in slots) (element ∷ insert_entry bytes_eq (elements_in slots) index new)) apart
      ∙ ap (λ l. element ∷ l) (h.put new);
  without =
      ap (λ b. cond b (elements_in slots) (element ∷ remove_entry (bytes_eq index) (elements_in slots))) apart
      ∙ ap (λ l. element ∷ l) h.without;
  fewer = omega (arith, h.fewer);
}

at_gap : (index : Name) (slots : List Slot) (at : ℕ) → At index slots at → At index (None ∷ slots) (suc at)
at_gap index slots at h = record { found = h.found; put = h.put; without = h.without; fewer = h.fewer }

here : (index : Name) (slot : Slot) (slots : List Slot) → index_in slot ≡ Some index → At index (slot ∷ slots) zero
here index None slots is = absurd (none_is_some is)
here index (Some element) slots is =
    subst (λ i. At index (Some (i, element.1) ∷ slots) zero) (sym (same_some is)) (at_first index slots element.1)

later : (index : Name) (slot : Slot) (slots : List Slot) (at : ℕ) → (index_in slot ≡ Some index → ⊥) → At index slots at → At index (slot ∷ slots) (suc at)
later index None slots at never h = at_gap index slots at h
later index (Some element) slots at never h = by (bytes_eq index element.0) refl
  where
    by : (b : Bool) → bytes_eq index element.0 ≡ b → At index (Some element ∷ slots) (suc at)
    by true e = absurd (never (ap Some (sym (equal index element.0 e))))
    by false e = at_later index element slots at e h

stands : (index : Name) (slots : List Slot) (at : ℕ) → index_in (slot_at slots at) ≡ Some index → Only index slots at → At index slots at
stands index [] at is only = absurd (none_is_some is)
stands index (slot ∷ slots) zero is only = here index slot slots is
stands index (slot ∷ slots) (suc at) is only =
    later index slot slots at (λ first. omega (arith, only zero first))
    (stands index slots at is (λ place e. omega (arith, only (suc place) e)))

-- ---- no slot of an index ----

abbrev No : Name → List Slot → Type 0
No index slots = (place : ℕ) → index_in (slot_at slots place) ≡ Some index → ⊥

record Absent (index : Name) (slots : List Slot) : Type 0 where
  none : lookup (bytes_eq index) (elements_in slots) ≡ None
  stays : remove_entry (bytes_eq index) (elements_in slots) ≡ elements_in slots
  last : (new : List ℕ) → insert_entry bytes_eq (elements_in slots) index new ≡ elements_in (slots ++ Some (index, new) ∷ [])

absent_first : (index : Name) (slot : Slot) (slots : List Slot) → (index_in slot ≡ Some index → ⊥) → Absent index slots → Absent index (slot ∷ slots)
absent_first index None slots never h = record { none = h.none; stays = h.stays; last = h.last }
absent_first index (Some element) slots never h = by (bytes_eq index element.0) refl
  where
    by : (b : Bool) → bytes_eq index element.0 ≡ b → Absent index (Some element ∷ slots)
    by true e = absurd (never (ap Some (sym (equal index element.0 e))))
    by false e = record {
      none = ap (λ b. cond b (Some element.1) (lookup (bytes_eq index) (elements_in slots))) e ∙ h.none;
      stays = ap (λ b. cond b (elements_in slots) (element ∷ remove_entry (bytes_eq index) (elements_in slots))) e ∙ ap (λ l. element ∷ l) h.stays;
      last = λ new.
          ap (λ b. cond b ((element.0, new) ∷ elements_in slots) (element ∷ insert_entry bytes_eq (elements_in slots) index new)) e
          ∙ ap (λ l. element ∷ l) (h.last new);
    }

absent : (index : Name) (slots : List Slot) → No index slots → Absent index slots
absent index [] never = record { none = refl; stays = refl; last = λ new. refl }
absent index (slot ∷ slots) never = absent_first index slot slots (never zero) (absent index slots (λ place e. never (suc place) e))

-- ---- slots that change ----

index-set : (slots : List Slot) (at : ℕ) (slot : Slot) → index_in slot ≡ index_in (slot_at slots at) → (place : ℕ) →
    index_in (slot_at (slice_set slots at slot) place) ≡ index_in (slot_at slots place)
index-set [] at slot same place = refl
index-set (first ∷ slots) zero slot same zero = same
index-set (first ∷ slots) zero slot same (suc place) = refl
index-set (first ∷ slots) (suc at) slot same zero = refl
index-set (first ∷ slots) (suc at) slot same (suc place) = index-set slots at slot same place

length-same : (one two : Slot) (slots : List Slot) → index_in one ≡ index_in two → length (elements_in (one ∷ slots)) ≡ length (elements_in (two ∷ slots))
length-same None None slots same = refl
length-same None (Some element) slots same = absurd (none_is_some same)
length-same (Some element) None slots same = absurd (none_is_some (sym same))
length-same (Some one) (Some two) slots same = refl

more : (slot : Slot) (one two : List Slot) → length (elements_in one) ≡ length (elements_in two) →
    length (elements_in (slot ∷ one)) ≡ length (elements_in (slot ∷ two))
more None one two same = same
more (Some element) one two same = ap suc same

pub count-set : (slots : List Slot) (at : ℕ) (slot : Slot) → index_in slot ≡ index_in (slot_at slots at) →
    length (elements_in (slice_set slots at slot)) ≡ length (elements_in slots)
count-set [] at slot same = refl
count-set (first ∷ slots) zero slot same = length-same slot first slots same
count-set (first ∷ slots) (suc at) slot same = more first (slice_set slots at slot) slots (count-set slots at slot same)

pub index-put : (slot : Slot) (text : List ℕ) → index_in (put_in slot text) ≡ index_in slot
index-put None text = refl
index-put (Some element) text = refl

same_without_gap : (slots : List Slot) (at place : ℕ) (index : Name) → index_in (slot_at (slice_set slots at None) place) ≡ Some index →
    (index_in (slot_at slots place) ≡ Some index) × (place ≡ at → ⊥)
same_without_gap [] at place index h = absurd (none_is_some h)
same_without_gap (slot ∷ slots) zero zero index h = absurd (none_is_some h)
same_without_gap (slot ∷ slots) zero (suc place) index h = (h, λ e. omega (arith, e))
same_without_gap (slot ∷ slots) (suc at) zero index h = (h, λ e. omega (arith, e))
same_without_gap (slot ∷ slots) (suc at) (suc place) index h =
    let rest = same_without_gap slots at place index h in (rest.0, λ e. rest.1 (omega (arith, e)))

same_with_gap : (slots : List Slot) (at place : ℕ) (index : Name) → index_in (slot_at slots place) ≡ Some index → (place ≡ at → ⊥) →
    index_in (slot_at (slice_set slots at None) place) ≡ Some index
same_with_gap [] at place index h apart = absurd (none_is_some h)
same_with_gap (slot ∷ slots) zero zero index h apart = absurd (apart refl)
same_with_gap (slot ∷ slots) zero (suc place) index h apart = h
same_with_gap (slot ∷ slots) (suc at) zero index h apart = h
same_with_gap (slot ∷ slots) (suc at) (suc place) index h apart = same_with_gap slots at place index h (λ e. apart (ap suc e))

in_longer : (slots more : List Slot) (place : ℕ) (index : Name) → index_in (slot_at slots place) ≡ Some index →
    (index_in (slot_at (slots ++ more) place) ≡ Some index) × (place < length slots)
in_longer [] more place index h = absurd (none_is_some h)
in_longer (slot ∷ slots) more zero index h = (h, omega arith)
in_longer (slot ∷ slots) more (suc place) index h =
    let rest = in_longer slots more place index h in (rest.0, omega (arith, rest.1))

at_end : (slots : List Slot) (slot : Slot) (more : List Slot) → slot_at (slots ++ slot ∷ more) (length slots) ≡ slot
at_end [] slot more = refl
at_end (first ∷ slots) slot more = at_end slots slot more

in_last : (slots : List Slot) (element : Name × List ℕ) (place : ℕ) (index : Name) →
    index_in (slot_at (slots ++ Some element ∷ []) place) ≡ Some index →
    (index_in (slot_at slots place) ≡ Some index) ⊎ ((place ≡ length slots) × (element.0 ≡ index))
in_last [] element zero index h = inr (refl, same_some h)
in_last [] element (suc place) index h = absurd (none_is_some h)
in_last (slot ∷ slots) element zero index h = inl h
in_last (slot ∷ slots) element (suc place) index h =
    elim (in_last slots element place index h) [ inl e ↦ inl e | inr e ↦ inr (ap suc e.0, e.1) ]

-- ---- what is said of places ----

picks : {X : Type 0} (b : Bool) (w v : X) → b ≡ true → cond b w v ≡ w
picks b w v e = ap (λ b. cond b w v) e

passes : {X : Type 0} (b : Bool) (w v : X) → b ≡ false → cond b w v ≡ v
passes b w v e = ap (λ b. cond b w v) e

module _ (place : Name → Option ℕ) (slots : List Slot) (are : ArePlaces place slots) (index : Name) where
  nowhere : place index ≡ None → Absent index slots
  nowhere none = absent index slots (λ at h. none_is_some (sym none ∙ (are index at).1 h))

  somewhere : (at : ℕ) → place index ≡ Some at → At index slots at
  somewhere at is = stands index slots at ((are index at).0 is) (λ other h. same_some (sym ((are index other).1 h) ∙ is))

  pub lookup-none : place index ≡ None → lookup (bytes_eq index) (elements_in slots) ≡ None
  lookup-none none = (nowhere none).none

  pub remove-none : place index ≡ None → remove_entry (bytes_eq index) (elements_in slots) ≡ elements_in slots
  remove-none none = (nowhere none).stays

  pub lookup-at : (at : ℕ) → place index ≡ Some at → lookup (bytes_eq index) (elements_in slots) ≡ text_in (slot_at slots at)
  lookup-at at is = (somewhere at is).found

  pub insert-at : (at : ℕ) → place index ≡ Some at → (text : List ℕ) →
      insert_entry bytes_eq (elements_in slots) index text ≡ elements_in (put_at slots at text)
  insert-at at is text = (somewhere at is).put text

  pub remove-at : (at : ℕ) → place index ≡ Some at → remove_entry (bytes_eq index) (elements_in slots) ≡ elements_in (slice_set slots at None)
  remove-at at is = (somewhere at is).without

  pub fewer-at : (at : ℕ) → place index ≡ Some at → length (elements_in slots) ≡ 1 + length (elements_in (slice_set slots at None))
  fewer-at at is = (somewhere at is).fewer

  no_place : lookup (bytes_eq index) (elements_in slots) ≡ None → (r : Option ℕ) → place index ≡ r → r ≡ None
  no_place none None is = refl
  no_place none (Some at) is =
      let there : index_in (slot_at slots at) ≡ Some index = (are index at).0 is in
      absurd (gone (slot_at slots at) there (sym (lookup-at at is) ∙ none))
    where
      gone : (slot : Slot) → index_in slot ≡ Some index → text_in slot ≡ None → ⊥
      gone None h g = none_is_some h
      gone (Some element) h g = none_is_some (sym g)

  pub place-none : lookup (bytes_eq index) (elements_in slots) ≡ None → place index ≡ None
  place-none none = no_place none (place index) refl

  pub insert-none : lookup (bytes_eq index) (elements_in slots) ≡ None → (text : List ℕ) →
      insert_entry bytes_eq (elements_in slots) index text ≡ elements_in (slots ++ Some (index, text) ∷ [])
  insert-none none text = (nowhere (place-none none)).last text

  module _ (others : Name → Option ℕ) where
    pub placed-gap : (at : ℕ) → place index ≡ Some at → ((q : Name) → others q ≡ cond (bytes_eq index q) None (place q)) →
        ArePlaces others (slice_set slots at None)
    placed-gap at is are_others q p = (to, back)
      where
        to : others q ≡ Some p → index_in (slot_at (slice_set slots at None) p) ≡ Some q
        to h = by (bytes_eq index q) refl
          where
            by : (b : Bool) → bytes_eq index q ≡ b → index_in (slot_at (slice_set slots at None) p) ≡ Some q
            by true e = absurd (none_is_some (sym (picks (bytes_eq index q) None (place q) e) ∙ sym (are_others q) ∙ h))
            by false e =
                let was : place q ≡ Some p = sym (passes (bytes_eq index q) None (place q) e) ∙ sym (are_others q) ∙ h in
                let here : index_in (slot_at slots p) ≡ Some q = (are q p).0 was in
                same_with_gap slots at p q here (λ same.
                let q_is : index ≡ q = same_some (sym ((are index at).0 is) ∙ ap (λ k. index_in (slot_at slots k)) (sym same) ∙ here) in
                true≢false (sym (same_index index) ∙ ap (bytes_eq index) q_is ∙ e))

        back : index_in (slot_at (slice_set slots at None) p) ≡ Some q → others q ≡ Some p
        back h =
            let stays = same_without_gap slots at p q h in
            let was : place q ≡ Some p = (are q p).1 stays.0 in
            by (bytes_eq index q) refl was stays.1
          where
            by : (b : Bool) → bytes_eq index q ≡ b → place q ≡ Some p → (p ≡ at → ⊥) → others q ≡ Some p
            by true e was apart = absurd (apart (same_some (sym was ∙ ap place (sym (equal index q e)) ∙ is)))
            by false e was apart = are_others q ∙ passes (bytes_eq index q) None (place q) e ∙ was

    pub placed-last : place index ≡ None → (text : List ℕ) →
        ((q : Name) → others q ≡ cond (bytes_eq index q) (Some (length slots)) (place q)) → ArePlaces others (slots ++ Some (index, text) ∷ [])
    placed-last none text are_others q p = (to, back)
      where
        to : others q ≡ Some p → index_in (slot_at (slots ++ Some (index, text) ∷ []) p) ≡ Some q
        to h = by (bytes_eq index q) refl
          where
            by : (b : Bool) → bytes_eq index q ≡ b → index_in (slot_at (slots ++ Some (index, text) ∷ []) p) ≡ Some q
            by true e =
                let p_is : length slots ≡ p =
                same_some (sym (picks (bytes_eq index q) (Some (length slots)) (place q) e) ∙ sym (are_others q) ∙ h) in
                ap (λ k. index_in (slot_at (slots ++ Some (index, text) ∷ []) k)) (sym p_is)
                ∙ ap index_in (at_end slots (Some (index, text)) []) ∙ ap Some (equal index q e)
            by false e =
                (in_longer slots (Some (index, text) ∷ []) p q
                ((are q p).0 (sym (passes (bytes_eq index q) (Some (length slots)) (place q) e) ∙ sym (are_others q) ∙ h))).0

        was : place q ≡ Some p → others q ≡ Some p
        was there = by (bytes_eq index q) refl
          where
            by : (b : Bool) → bytes_eq index q ≡ b → others q ≡ Some p
            by true e = absurd (none_is_some (sym none ∙ ap place (equal index q e) ∙ there))
            by false e = are_others q ∙ passes (bytes_eq index q) (Some (length slots)) (place q) e ∙ there

        back : index_in (slot_at (slots ++ Some (index, text) ∷ []) p) ≡ Some q → others q ≡ Some p
        back h = elim (in_last slots (index, text) p q h) [
          | inl old ↦ was ((are q p).1 old)
          | inr new ↦
              are_others q ∙ picks (bytes_eq index q) (Some (length slots)) (place q) (ap (bytes_eq index) (sym new.1) ∙ same_index index) ∙ ap Some (sym new.0)
        ]

pub placed-set : (place : Name → Option ℕ) (slots : List Slot) (at : ℕ) (slot : Slot) → ArePlaces place slots →
    index_in slot ≡ index_in (slot_at slots at) → ArePlaces place (slice_set slots at slot)
placed-set place slots at slot are same q p =
    (λ h. index-set slots at slot same p ∙ (are q p).0 h, λ h. (are q p).1 (sym (index-set slots at slot same p) ∙ h))

pub differ : (place : Name → Option ℕ) (slots : List Slot) → ArePlaces place slots → Differ slots
differ place slots are index one two h g = same_some (sym ((are index one).1 h) ∙ (are index two).1 g)

elements-append : (xs ys : List Slot) → elements_in (xs ++ ys) ≡ elements_in xs ++ elements_in ys
elements-append [] ys = refl
elements-append (None ∷ xs) ys = elements-append xs ys
elements-append (Some element ∷ xs) ys = ap (λ l. element ∷ l) (elements-append xs ys)

-- ---- slots in turn ----

append-keys : (xs ys : Pairs) → keys_of (xs ++ ys) ≡ keys_of xs ++ keys_of ys
append-keys [] ys = refl
append-keys (x ∷ xs) ys = ap (λ l. x.0 ∷ l) (append-keys xs ys)

one_more : (slots : List Slot) (i : ℕ) (slot : Slot) → i < length slots → slot ≡ get_or slots i slot → take (i + 1) slots ≡ take i slots ++ slot ∷ []
one_more slots i slot within is = ap (λ k. take k slots) (add-one i) ∙ take-suc slots i slot within ∙ ap (λ s. take i slots ++ s ∷ []) (sym is)

pub indices-more : (slots : List Slot) (i : ℕ) (slot : Slot) (old new : List Name) → i < length slots → slot ≡ get_or slots i slot →
    old ≡ keys_of (elements_in (take i slots)) → new ≡ old ++ keys_of (elements_in (slot ∷ [])) → new ≡ keys_of (elements_in (take (i + 1) slots))
indices-more slots i slot old new within is old_is new_is =
    new_is ∙ ap (λ l. l ++ keys_of (elements_in (slot ∷ []))) old_is
    ∙ sym (append-keys (elements_in (take i slots)) (elements_in (slot ∷ [])))
    ∙ ap keys_of (sym (elements-append (take i slots) (slot ∷ [])))
    ∙ ap (λ s. keys_of (elements_in s)) (sym (one_more slots i slot within is))

parted : (slots : List Slot) (i : ℕ) (slot : Slot) → i < length slots → slot ≡ get_or slots i slot → slots ≡ take i slots ++ slot ∷ drop (suc i) slots
parted slots i slot within is =
    sym (take-append-drop i slots)
    ∙ ap (λ l. take i slots ++ l) (drop-cons slots i slot within ∙ ap (λ s. s ∷ drop (suc i) slots) (sym is))

copied-element : (slots before after : List Slot) (index : Name) (text : List ℕ) → Differ slots → slots ≡ before ++ Some (index, text) ∷ after →
    insert_entry bytes_eq (elements_in before) index text ≡ elements_in (before ++ Some (index, text) ∷ [])
copied-element slots before after index text apart is = (absent index before (λ at h.
    let longer = in_longer before (Some (index, text) ∷ after) at index h in
    let in_slots : index_in (slot_at slots at) ≡ Some index = ap (λ s. index_in (slot_at s at)) is ∙ longer.0 in
    let last : index_in (slot_at slots (length before)) ≡ Some index =
    ap (λ s. index_in (slot_at s (length before))) is ∙ ap index_in (at_end before (Some (index, text)) after) in
    let same : at ≡ length before = apart index at (length before) in_slots last in
    omega (arith, longer.1, same))).last text

copied-slot : (slots before after : List Slot) (slot : Slot) → Differ slots → slots ≡ before ++ slot ∷ after →
    with_slot slot (elements_in before) ≡ elements_in (before ++ slot ∷ [])
copied-slot slots before after None apart is = sym (elements-append before (None ∷ []) ∙ append-nil (elements_in before))
copied-slot slots before after (Some element) apart is = copied-element slots before after element.0 element.1 apart is

pub copied-more : (slots : List Slot) (i : ℕ) (slot : Slot) (old new : Pairs) → Differ slots → i < length slots → slot ≡ get_or slots i slot →
    old ≡ elements_in (take i slots) → new ≡ with_slot slot old → new ≡ elements_in (take (i + 1) slots)
copied-more slots i slot old new apart within is old_is new_is =
    new_is ∙ ap (with_slot slot) old_is
    ∙ copied-slot slots (take i slots) (drop (suc i) slots) slot apart (parted slots i slot within is)
    ∙ ap elements_in (sym (one_more slots i slot within is))

-- ---- what the functions leave ----

count-last : (slots : List Slot) (element : Name × List ℕ) → length (elements_in (slots ++ Some element ∷ [])) ≡ length (elements_in slots) + 1
count-last slots element = ap length (elements-append slots (Some element ∷ [])) ∙ length-append (elements_in slots) (element ∷ [])

abbrev pub Kept : (Name → Option ℕ) → ℕ → List Slot → Type 0
Kept place count slots = ArePlaces place slots × (count ≡ length (elements_in slots))

pub kept-set : (place : Name → Option ℕ) (count : ℕ) (slots new : List Slot) (at : ℕ) (slot : Slot) → Kept place count slots →
    new ≡ slice_set slots at slot → index_in slot ≡ index_in (slot_at slots at) → Kept place count new
kept-set place count slots new at slot kept is same = (
  subst (ArePlaces place) (sym is) (placed-set place slots at slot kept.0 same),
  kept.1 ∙ sym (ap (λ s. length (elements_in s)) is ∙ count-set slots at slot same),
)

pub kept-put : (place : Name → Option ℕ) (count : ℕ) (slots new : List Slot) (at : ℕ) (text : List ℕ) → Kept place count slots →
    new ≡ put_at slots at text → Kept place count new
kept-put place count slots new at text kept is =
    kept-set place count slots new at (put_in (slot_at slots at) text) kept is (index-put (slot_at slots at) text)

pub kept-last : (place others : Name → Option ℕ) (count more : ℕ) (slots new : List Slot) (index name : Name) (text : List ℕ) (at : ℕ) (was : Option ℕ) →
    Kept place count slots → lookup (bytes_eq index) (elements_in slots) ≡ None → name ≡ index → at ≡ length slots →
    ((q : Name) → others q ≡ cond (bytes_eq name q) (Some at) (place q)) → was ≡ place name → more ≡ count + cond (is_some was) 0 1 →
    new ≡ slots ++ Some (index, text) ∷ [] → Kept others more new
kept-last place others count more slots new index name text at was kept none name_is at_is are_others was_is more_is new_is =
    let nowhere_is : place index ≡ None = place-none place slots kept.0 index none in
    let was_none : was ≡ None = was_is ∙ ap place name_is ∙ nowhere_is in (
      subst (ArePlaces others) (sym new_is) (placed-last place slots kept.0 index others nowhere_is text (λ q.
          are_others q ∙ ap (λ n. cond (bytes_eq n q) (Some at) (place q)) name_is ∙ ap (λ k. cond (bytes_eq index q) (Some k) (place q)) at_is)),
      more_is ∙ ap (λ w. count + cond (is_some w) 0 1) was_none ∙ ap (λ n. n + 1) kept.1
          ∙ sym (ap (λ s. length (elements_in s)) new_is ∙ count-last slots (index, text)),
    )

pub kept-gap : (place others : Name → Option ℕ) (count less : ℕ) (slots new : List Slot) (index : Name) (at : ℕ) → Kept place count slots →
    place index ≡ Some at → ((q : Name) → others q ≡ cond (bytes_eq index q) None (place q)) → less + 1 ≡ count →
    new ≡ slice_set slots at None → Kept others less new
kept-gap place others count less slots new index at kept is are_others less_is new_is = (
  subst (ArePlaces others) (sym new_is) (placed-gap place slots kept.0 index others at is are_others),
  omega (arith, less_is, kept.1, fewer-at place slots kept.0 index at is, ap (λ s. length (elements_in s)) new_is),
)

pub kept-none : (place others : Name → Option ℕ) (count same : ℕ) (slots : List Slot) (index : Name) → Kept place count slots →
    place index ≡ None → ((q : Name) → others q ≡ cond (bytes_eq index q) None (place q)) → same + 0 ≡ count → Kept others same slots
kept-none place others count same slots index kept none are_others same_is = (
  λ q p. (λ h. (kept.0 q p).0 (sym (stays q) ∙ h), λ h. stays q ∙ (kept.0 q p).1 h),
  omega (arith, same_is, kept.1),
)
  where
    stays : (q : Name) → others q ≡ place q
    stays q = by (bytes_eq index q) refl
      where
        by : (b : Bool) → bytes_eq index q ≡ b → others q ≡ place q
        by true e = are_others q ∙ picks (bytes_eq index q) None (place q) e ∙ sym none ∙ ap place (equal index q e)
        by false e = are_others q ∙ passes (bytes_eq index q) None (place q) e

-- what a change of a value leaves of the elements
pub changed : {E : Type 0} (place : Name → Option ℕ) (slots new : List Slot) (view : Pairs) (index : Name) (at : ℕ) → ArePlaces place slots →
    place index ≡ Some at → elements_in slots ≡ view → (r : Result (Option ListAnswer) E) →
    IfOk r (λ answer. new ≡ slice_set slots at (after_change (put_in (slot_at slots at)) (slot_at slots at) answer)) →
    IfOk r (λ answer. elements_in new ≡ after_change (insert_entry bytes_eq view index) view answer)
changed place slots new view index at are is view_is (Err e) h = tt
changed place slots new view index at are is view_is (Ok None) h = ap elements_in (h ∙ set-get_or slots at None) ∙ view_is
changed place slots new view index at are is view_is (Ok (Some (Bad message))) h = ap elements_in (h ∙ set-get_or slots at None) ∙ view_is
changed place slots new view index at are is view_is (Ok (Some (Made text))) h =
    ap elements_in h ∙ sym (insert-at place slots are index at is text) ∙ ap (λ l. insert_entry bytes_eq l index text) view_is
