-- Items read one after another.
use Rattle.std.proofs.Common.{◌≡◌, ◌≢◌, ℕ, zero, suc, ◌+◌, ◌-◌, ◌<◌, ◌≤◌, min, Bool, true, false, List, [], ◌∷◌, ◌++◌}
use Rattle.std.proofs.Common.{length, take, drop, Option, Some, None, refl, sym, ap, ◌∙◌, inl, inr, append_assoc}
use Rattle.std.proofs.Common.{append-nil, arith, length-append, length-take, length-drop}
use Rattle.std.specs.List.{take_while, prefix_len}
use Rattle.std.proofs.lemmas.Bool.{cases_Bool, cases_eq, cases_lt, eq-eqb, ne_eqb, lt-ltb, le-ltb}
use Rattle.std.proofs.lemmas.List.{take-take, take_all}
use Rattle.std.proofs.lemmas.List.Sums.{prefix_len-le-length}
use Rattle.tt_text.specs.Braces.{matching_brace}
use Rattle.tt_text.specs.Characters.{is_white_space, without_white_front}
use Rattle.tt_lists.specs.ListText.{is_no_white_space, is_quote}
use Rattle.tt_lists.specs.Reading.{front_run, split_of, split_after, with_item, item_at, item_with, in_braces, in_quotes, in_bare, closed_item, is_separated}
use Rattle.tt_lists.specs.declared.items.Split.{Split}
use Rattle.tt_lists.specs.declared.items.Split.TheVariants.{Items, Bad}
use Rattle.tt_lists.specs.declared.items.ListFault.{ListFault}
use Rattle.tt_lists.specs.declared.items.ListFault.TheVariants.{AfterBrace, AfterQuote}
use Rattle.tt_lists.specs.declared.splitting.Reading.TheVariants.{Item, Wrong}
use Rattle.tt_text.proofs.BraceLemmas.{matching_brace_law}
use Rattle.tt_lists.proofs.Runs.{run_le, run-letter, run-escape_kept}

pub take_told : (xs : List ℕ) (n m : ℕ) → n ≡ length (take_while is_no_white_space xs) → m ≡ min n 20 → take m xs ≡ take 20 (take_while is_no_white_space xs)
take_told xs n m e f =
    let p : ℕ = prefix_len is_no_white_space xs in
    let size : n ≡ p = omega (arith, length-take (prefix_len is_no_white_space xs) xs, prefix_len-le-length is_no_white_space xs) in
    let short : m ≡ min 20 p = omega arith in
    elim (cases_lt 20 p) [
      | inl long ↦ (let m_is : m ≡ 20 = omega arith in ap (λ k. take k xs) m_is ∙ sym (take-take 20 p xs (omega arith)))
      | inr few ↦ (let m_is : m ≡ p = omega arith in ap (λ k. take k xs) m_is ∙ sym (take_all 20 (take p xs) (omega (arith, length-take p xs))))
    ]

-- a part of an item is passed over
pub split_skip : (passed : ℕ) (text : List ℕ) → passed ≤ length text → split_after passed text ≡ split_of (drop passed text)
unfolding split_after
split_skip zero [] h = refl
split_skip zero (b ∷ text) h = refl
split_skip (suc passed) [] h = absurd (omega arith)
split_skip (suc passed) (b ∷ text) h = split_skip passed text (omega arith)

pub split-white : (b : ℕ) (text : List ℕ) → is_white_space b ≡ true → split_of (b ∷ text) ≡ split_of text
unfolding split_after
split-white b text h = rw (h, split_after) refl

pub split-item_kept : (b : ℕ) (text item : List ℕ) (takes : ℕ) → is_white_space b ≡ false → item_at (b ∷ text) ≡ Item item takes →
    split_of (b ∷ text) ≡ with_item item (split_after (takes - 1) text)
unfolding split_after
split-item_kept b text item takes h e = rw (h, e, split_after) refl

pub split-wrong : (b : ℕ) (text : List ℕ) (fault : ListFault) → is_white_space b ≡ false → item_at (b ∷ text) ≡ Wrong fault → split_of (b ∷ text) ≡ Bad fault
unfolding split_after
split-wrong b text fault h e = rw (h, e, split_after) refl

run_some : (stops : ℕ → Bool) (b : ℕ) (text : List ℕ) → stops b ≡ false → 1 ≤ (front_run stops 0 (b ∷ text)).takes
run_some stops b text h =
    elim (cases_eq b 92) [
      | inl q ↦ rw (run-escape_kept stops b text h q) (omega arith)
      | inr q ↦ rw (run-letter stops b text h q) (omega arith)
    ]

ended_takes : (fault : List ℕ → ListFault) (value item : List ℕ) (n takes : ℕ) (after : List ℕ) → closed_item fault value n after ≡ Item item takes → takes ≡ n
ended_takes fault value item n takes after h = both (is_separated after) refl h
  where
    both : (t : Bool) → is_separated after ≡ t → closed_item fault value n after ≡ Item item takes → takes ≡ n
    both true e h = cc (rw (e, closed_item) at h)
    both false e h = absurd (cc (rw (e, closed_item) at h))

-- ---- the item at the front, by its first byte

pub item-brace : (b : ℕ) (text : List ℕ) → b ≡ 123 → item_at (b ∷ text) ≡ in_braces text (matching_brace text)
unfolding item_at
item-brace b text e = let p = eq-eqb b 123 e in rw (p, item_with) refl

pub item-quote : (b : ℕ) (text : List ℕ) → b ≡ 34 → item_at (b ∷ text) ≡ in_quotes text (front_run is_quote 0 text)
unfolding item_at
item-quote b text e = rw e refl

pub item-bare : (b : ℕ) (text : List ℕ) → b ≢ 123 → b ≢ 34 → item_at (b ∷ text) ≡ in_bare (front_run is_white_space 0 (b ∷ text))
unfolding item_at
item-bare b text e f = let p = ne_eqb b 123 e in let q = ne_eqb b 34 f in rw (p, q, item_with) refl

place_within : (text : List ℕ) (place : ℕ) → matching_brace text ≡ Some place → place < length text
place_within text place h = let c = (matching_brace_law text place).0 h in omega (arith, ap length c.cut, c.place, length-append c.inner (125 ∷ c.rest))

braces_take : (text item : List ℕ) (takes : ℕ) → in_braces text (matching_brace text) ≡ Item item takes → (1 ≤ takes) × (takes ≤ 1 + length text)
braces_take text item takes h = go (matching_brace text) refl h
  where
    go : (o : Option ℕ) → matching_brace text ≡ o → in_braces text o ≡ Item item takes → (1 ≤ takes) × (takes ≤ 1 + length text)
    go None e h = absurd (cc h)
    go (Some place) e h = let n = ended_takes AfterBrace (take place text) item (place + 2) takes (drop (place + 1) text) h in let p = place_within text place e in (omega arith, omega arith)

quotes_take : (text item : List ℕ) (takes : ℕ) → in_quotes text (front_run is_quote 0 text) ≡ Item item takes → (1 ≤ takes) × (takes ≤ 1 + length text)
quotes_take text item takes h =
    let r = front_run is_quote 0 text in
    elim (cases_lt r.takes (length text)) [
      | inl p ↦ (let n = ended_takes AfterQuote r.value item (r.takes + 2) takes (drop (r.takes + 1) text) (rw (lt-ltb r.takes (length text) p, in_quotes) at h) in (omega arith, omega arith))
      | inr p ↦ absurd (cc (rw (le-ltb r.takes (length text) p, in_quotes) at h))
    ]

-- what writes an item is one byte or more, and lies within the text
pub item_takes : (b : ℕ) (text item : List ℕ) (takes : ℕ) → is_white_space b ≡ false → item_at (b ∷ text) ≡ Item item takes → (1 ≤ takes)
    × (takes ≤ length (b ∷ text))
item_takes b text item takes h e =
    elim (cases_eq b 123) [
      | inl p ↦ (let q = braces_take text item takes (sym (item-brace b text p) ∙ e) in (q.0, omega (arith, q.1)))
      | inr p ↦ elim (cases_eq b 34) [
        | inl q ↦ (let r = quotes_take text item takes (sym (item-quote b text q) ∙ e) in (r.0, omega (arith, r.1)))
        | inr q ↦ (let n : (front_run is_white_space 0 (b ∷ text)).takes ≡ takes = cc (sym (item-bare b text p q) ∙ e) in (omega (arith, run_some is_white_space b text h, n), omega (arith, run_le is_white_space 0 (b ∷ text), n)))
      ]
    ]

-- an item is read, and the rest is split
pub split-item : (b : ℕ) (text item : List ℕ) (takes : ℕ) → is_white_space b ≡ false → item_at (b ∷ text) ≡ Item item takes →
    split_of (b ∷ text) ≡ with_item item (split_of (drop takes (b ∷ text)))
split-item b text item zero h e = absurd (omega (arith, (item_takes b text item 0 h e).0))
split-item b text item (suc takes) h e =
    let bound : takes ≤ length text = omega (arith, (item_takes b text item (suc takes) h e).1) in
    let less : suc takes - 1 ≡ takes = omega arith in
    split-item_kept b text item (suc takes) h e ∙ ap (λ k. with_item item (split_after k text)) less ∙ ap (with_item item) (split_skip takes text bound)

-- ---- the loop over items

-- items read before those of the rest
abbrev pub after_items : List (List ℕ) → Split → Split
after_items before (Items items) = Items (before ++ items)
after_items before (Bad fault) = Bad fault

front_le : (text : List ℕ) → length (without_white_front text) ≤ length text
front_le [] = omega arith
front_le (b ∷ text) =
    elim (cases_Bool (is_white_space b)) [
      | inl p ↦ rw (p, without_white_front) (omega (arith, front_le text))
      | inr p ↦ rw (p, without_white_front) (omega arith)
    ]

pub front_again : (text : List ℕ) → without_white_front (without_white_front text) ≡ without_white_front text
front_again [] = refl
front_again (b ∷ text) =
    elim (cases_Bool (is_white_space b)) [
      | inl p ↦ rw (p, without_white_front) (front_again text)
      | inr p ↦ rw (p, without_white_front) (rw (p, without_white_front) refl)
    ]

front_not_white : (b : ℕ) (text : List ℕ) → without_white_front (b ∷ text) ≡ b ∷ text → is_white_space b ≡ false
front_not_white b text e =
    elim (cases_Bool (is_white_space b)) [ inl p ↦ absurd (omega (arith, front_le text, ap length (rw (p, without_white_front) at e))) | inr p ↦ p ]

pub split-front : (text : List ℕ) → split_of (without_white_front text) ≡ split_of text
split-front [] = refl
split-front (b ∷ text) =
    elim (cases_Bool (is_white_space b)) [
      | inl p ↦ rw (p, without_white_front) (split-front text ∙ sym (split-white b text p))
      | inr p ↦ rw (p, without_white_front) refl
    ]

pub none_before : (split : Split) → after_items [] split ≡ split
none_before (Items items) = refl
none_before (Bad fault) = refl

one_more : (before : List (List ℕ)) (item : List ℕ) (split : Split) → after_items before (with_item item split) ≡ after_items (before ++ (item ∷ [])) split
one_more before item (Items items) = ap Items (sym (append_assoc before (item ∷ []) items))
one_more before item (Bad fault) = refl

pub front_less : (text : List ℕ) (n : ℕ) → length (without_white_front (drop n text)) + n ≤ length text + (n - length text)
front_less text n = omega (arith, front_le (drop n text), length-drop n text)

-- what a turn of the loop knows if an item is read
pub record ReadsItem (rest item : List ℕ) (takes : ℕ) : Type 0 where
  pub some : 1 ≤ takes
  pub within : takes ≤ length rest
  pub split : (before : List (List ℕ)) →
      after_items before (split_of rest) ≡ after_items (before ++ (item ∷ [])) (split_of (without_white_front (drop takes rest)))

pub reads_item : (rest item : List ℕ) (takes : ℕ) → 0 < length rest → without_white_front rest ≡ rest → item_at rest ≡ Item item takes →
    ReadsItem rest item takes
reads_item [] item takes h e read = absurd (omega arith)
reads_item (b ∷ text) item takes h e read =
    let white = front_not_white b text e in
    let bounds = item_takes b text item takes white read in
    record {
      some = bounds.0;
      within = bounds.1;
      split = λ before. ap (after_items before) (split-item b text item takes white read) ∙ one_more before item (split_of (drop takes (b ∷ text)))
          ∙ ap (after_items (before ++ (item ∷ []))) (sym (split-front (drop takes (b ∷ text))));
    }

pub reads_fault : (rest : List ℕ) (fault : ListFault) (before : List (List ℕ)) → 0 < length rest → without_white_front rest ≡ rest →
    item_at rest ≡ Wrong fault → after_items before (split_of rest) ≡ Bad fault
reads_fault [] fault before h e read = absurd (omega arith)
reads_fault (b ∷ text) fault before h e read = ap (after_items before) (split-wrong b text fault (front_not_white b text e) read)

pub reads_end : (rest : List ℕ) (before : List (List ℕ)) → length rest ≡ 0 → after_items before (split_of rest) ≡ Items before
unfolding split_after
reads_end [] before h = ap Items (append-nil before)
reads_end (b ∷ text) before h = absurd (omega arith)
