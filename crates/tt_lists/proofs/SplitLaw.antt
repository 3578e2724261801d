-- Items and lists by the grammar and by the function.
use Rattle.std.proofs.Common.{◌≡◌, ℕ, zero, suc, ◌+◌, ◌-◌, ◌<◌, ◌≤◌, Bool, true, false, List, [], ◌∷◌, ◌++◌, length}
use Rattle.std.proofs.Common.{drop, take, Option, Some, None, refl, sym, ap, subst, ◌∙◌, inl, inr, arith, length-drop}
use Rattle.std.proofs.Common.{drop-drop}
use Rattle.std.specs.List.{take_while}
use Rattle.std.proofs.lemmas.Bool.{cases_Bool, cases_eq, cases_lt, both_ways, lt-ltb, le-ltb}
use Rattle.std.proofs.lemmas.List.{drop_all}
use Rattle.std.proofs.Math.Seq.{take-append_seam, drop-append-add}
use Rattle.tt_text.specs.Braces.{matching_brace, IsBalanced, IsClosedAt}
use Rattle.tt_text.specs.Characters.{is_white_space}
use Rattle.tt_text.proofs.BraceLemmas.{matching_brace_law}
use Rattle.tt_lists.specs.ListText.{IsRun, IsSeparated, IsItem, IsListText, IsFollowed, IsFaulty, is_quote, is_no_white_space}
use Rattle.tt_lists.specs.ListText.IsRun.{stopped, letter, escape}
use Rattle.tt_lists.specs.ListText.IsSeparated.{at_end, white}
use Rattle.tt_lists.specs.ListText.IsItem.{braced, quoted, bare}
use Rattle.tt_lists.specs.ListText.IsListText.{none, space, first}
use Rattle.tt_lists.specs.ListText.IsFollowed.{by}
use Rattle.tt_lists.specs.ListText.IsFaulty.{space as space_before, later, open_brace, after_brace, open_quote, after_quote}
use Rattle.tt_lists.specs.Reading.{front_run, split_of, split_after, with_item, item_at, in_braces, in_quotes, in_bare, closed_item, is_separated, IsSplit, SplitLaw}
use Rattle.tt_lists.specs.declared.items.Split.{Split}
use Rattle.tt_lists.specs.declared.items.Split.TheVariants.{Items, Bad}
use Rattle.tt_lists.specs.declared.items.ListFault.{ListFault}
use Rattle.tt_lists.specs.declared.items.ListFault.TheVariants.{OpenBrace, OpenQuote, AfterBrace, AfterQuote}
use Rattle.tt_lists.specs.declared.splitting.Reading.{Reading}
use Rattle.tt_lists.specs.declared.splitting.Reading.TheVariants.{Item, Wrong}
use Rattle.tt_lists.proofs.RunLaw.{run_sound, run_complete, drop_next}
use Rattle.tt_lists.proofs.Splits.{item-brace, item-quote, item-bare, item_takes, split-white, split-item, split-item_kept, split-wrong}

-- ---- separators

separated_from : (after : List ℕ) → is_separated after ≡ true → IsSeparated after
separated_from [] h = at_end
separated_from (b ∷ after) h = white h

separated_to : {after : List ℕ} → IsSeparated after → is_separated after ≡ true
separated_to at_end = refl
separated_to (white h) = h

followed_from : (after : List ℕ) → is_separated after ≡ false → IsFollowed after (take 20 (take_while is_no_white_space after))
followed_from [] h = absurd (both_ways true h refl)
followed_from (b ∷ after) h = by h

followed_to : {after follower : List ℕ} → IsFollowed after follower → (is_separated after ≡ false) × (follower ≡ take 20 (take_while is_no_white_space after))
followed_to (by h) = (h, refl)

ended_item : (fault : List ℕ → ListFault) (value item : List ℕ) (n takes : ℕ) (after : List ℕ) → closed_item fault value n after ≡ Item item takes →
    (is_separated after ≡ true) × (value ≡ item) × (n ≡ takes)
ended_item fault value item n takes after h =
    elim (cases_Bool (is_separated after)) [
      | inl p ↦ (let e : Item value n ≡ Item item takes = rw (p, closed_item) at h in (p, cc, cc))
      | inr p ↦ (let e : Wrong (fault (take 20 (take_while is_no_white_space after))) ≡ Item item takes = rw (p, closed_item) at h in absurd (cc))
    ]

ended_wrong : (fault : List ℕ → ListFault) (value : List ℕ) (n : ℕ) (after : List ℕ) (follower : ListFault) → closed_item fault value n after ≡ Wrong follower →
    (is_separated after ≡ false) × (fault (take 20 (take_while is_no_white_space after)) ≡ follower)
ended_wrong fault value n after follower h =
    elim (cases_Bool (is_separated after)) [
      | inl p ↦ (let e : Item value n ≡ Wrong follower = rw (p, closed_item) at h in absurd (cc))
      | inr p ↦ (let e : Wrong (fault (take 20 (take_while is_no_white_space after))) ≡ Wrong follower = rw (p, closed_item) at h in (p, cc))
    ]

ended_yes : (fault : List ℕ → ListFault) (value : List ℕ) (n : ℕ) (after : List ℕ) → is_separated after ≡ true → closed_item fault value n after ≡ Item value n
ended_yes fault value n after p = rw (p, closed_item) refl

ended_no : (fault : List ℕ → ListFault) (value : List ℕ) (n : ℕ) (after : List ℕ) → is_separated after ≡ false →
    closed_item fault value n after ≡ Wrong (fault (take 20 (take_while is_no_white_space after)))
ended_no fault value n after p = rw (p, closed_item) refl

-- ---- braces

-- if a text is cut at the brace that closes
record IsCut (text : List ℕ) (place : ℕ) : Type 0 where
  spelled : text ≡ take place text ++ (125 ∷ drop (place + 1) text)
  balanced : IsBalanced (take place text)

cut_at : (text : List ℕ) (place : ℕ) → matching_brace text ≡ Some place → IsCut text place
cut_at text place h =
    let c = (matching_brace_law text place).0 h in
    let front : take place text ≡ c.inner =
    ap (λ t. take place t) c.cut ∙ ap (λ n. take n (c.inner ++ (125 ∷ c.rest))) (sym c.place) ∙ take-append_seam c.inner (125 ∷ c.rest) in
    let back : drop (place + 1) text ≡ c.rest =
    ap (λ t. drop (place + 1) t) c.cut ∙ ap (λ n. drop (n + 1) (c.inner ++ (125 ∷ c.rest))) (sym c.place) ∙ drop-append-add c.inner (125 ∷ c.rest) 1 in
    record { spelled = c.cut ∙ sym (rw (front, back) refl); balanced = subst IsBalanced (sym front) c.balanced }

matches : (item rest : List ℕ) → IsBalanced item → matching_brace (item ++ (125 ∷ rest)) ≡ Some (length item)
matches item rest b = (matching_brace_law (item ++ (125 ∷ rest)) (length item)).1 (record { inner = item; rest = rest; cut = refl; place = refl; balanced = b })

after_two : (place b : ℕ) (text : List ℕ) → drop (place + 2) (b ∷ text) ≡ drop (place + 1) text
after_two place b text = let e : place + 2 ≡ 1 + (place + 1) = omega arith in ap (λ k. drop k (b ∷ text)) e ∙ drop_next (place + 1) b text

-- ---- what the function reads is so by the grammar

braces_item : (b : ℕ) (text item : List ℕ) (takes : ℕ) → b ≡ 123 → in_braces text (matching_brace text) ≡ Item item takes →
    IsItem (b ∷ text) item (drop takes (b ∷ text))
braces_item b text item takes e h = go (matching_brace text) refl h
  where
    go : (o : Option ℕ) → matching_brace text ≡ o → in_braces text o ≡ Item item takes → IsItem (b ∷ text) item (drop takes (b ∷ text))
    go None m h = absurd (cc h)
    go (Some place) m h =
        let c = cut_at text place m in
        let r = ended_item AfterBrace (take place text) item (place + 2) takes (drop (place + 1) text) h in
        let rest : drop (place + 1) text ≡ drop takes (b ∷ text) = sym (after_two place b text) ∙ ap (λ n. drop n (b ∷ text)) r.2 in
        let written : b ∷ text ≡ 123 ∷ (item ++ (125 ∷ drop takes (b ∷ text))) = rw (← rest, ← r.1, e) (ap (λ t. 123 ∷ t) c.spelled) in
        braced written (subst IsBalanced r.1 c.balanced) (subst IsSeparated rest (separated_from (drop (place + 1) text) r.0))

braces_wrong : (b : ℕ) (text : List ℕ) (fault : ListFault) → b ≡ 123 → in_braces text (matching_brace text) ≡ Wrong fault → IsFaulty (b ∷ text) fault
braces_wrong b text fault e h = go (matching_brace text) refl h
  where
    go : (o : Option ℕ) → matching_brace text ≡ o → in_braces text o ≡ Wrong fault → IsFaulty (b ∷ text) fault
    go None m h =
        let is : OpenBrace ≡ fault = cc in
        subst (IsFaulty (b ∷ text)) is (rw e (open_brace (λ n closed. let found = (matching_brace_law text n).1 closed in cc (sym m ∙ found))))
    go (Some place) m h =
        let c = cut_at text place m in
        let r = ended_wrong AfterBrace (take place text) (place + 2) (drop (place + 1) text) fault h in
        let written : b ∷ text ≡ 123 ∷ (take place text ++ (125 ∷ drop (place + 1) text)) = rw e (ap (λ t. 123 ∷ t) c.spelled) in
        subst (IsFaulty (b ∷ text)) r.1 (after_brace written c.balanced (followed_from (drop (place + 1) text) r.0))

-- a run stops at a byte that stops it
run_stops : {stops : ℕ → Bool} {text value rest : List ℕ} {q : ℕ} → IsRun stops text value (q ∷ rest) → stops q ≡ true
run_stops (stopped h) = h
run_stops (letter h e r) = run_stops r
run_stops (escape h e r w) = run_stops r

-- a quote ends a run that ends before the text
quote_found : (text : List ℕ) (n : ℕ) (value : List ℕ) → n < length text → IsRun is_quote text value (drop n text) → (quote : ℕ) × (is_quote quote ≡ true)
    × (drop n text ≡ quote ∷ drop (n + 1) text)
quote_found text n value h r = go (drop n text) refl r
  where
    go : (rest : List ℕ) → drop n text ≡ rest → IsRun is_quote text value rest → (quote : ℕ) × (is_quote quote ≡ true)
        × (drop n text ≡ quote ∷ drop (n + 1) text)
    go [] e r = absurd (omega (arith, length-drop n text, ap length e))
    go (q ∷ rest) e r = (q, run_stops r, e ∙ ap (λ t. q ∷ t) (sym (ap (λ t. drop 1 t) e) ∙ drop-drop 1 n text))

quotes_item : (b : ℕ) (text item : List ℕ) (takes : ℕ) → b ≡ 34 → in_quotes text (front_run is_quote 0 text) ≡ Item item takes →
    IsItem (b ∷ text) item (drop takes (b ∷ text))
quotes_item b text item takes e h =
    let r = front_run is_quote 0 text in
    let sound = run_sound is_quote 0 text (omega arith) in
    elim (cases_lt r.takes (length text)) [
      | inl p ↦ (
          let q = quote_found text r.takes r.value p sound in
          let i = ended_item AfterQuote r.value item (r.takes + 2) takes (drop (r.takes + 1) text) (rw (lt-ltb r.takes (length text) p, in_quotes) at h) in
          let rest : drop (r.takes + 1) text ≡ drop takes (b ∷ text) = sym (after_two r.takes b text) ∙ ap (λ n. drop n (b ∷ text)) i.2 in
          subst (λ c. IsItem (c ∷ text) item (drop takes (b ∷ text))) (sym e)
          (quoted q.1 (subst (λ v. IsRun is_quote text v (q.0 ∷ drop takes (b ∷ text))) i.1
          (subst (IsRun is_quote text r.value) (q.2 ∙ ap (λ t. q.0 ∷ t) rest) sound))
          (subst IsSeparated rest (separated_from (drop (r.takes + 1) text) i.0))))
      | inr p ↦ absurd (cc (rw (le-ltb r.takes (length text) p, in_quotes) at h))
    ]

quotes_wrong : (b : ℕ) (text : List ℕ) (fault : ListFault) → b ≡ 34 → in_quotes text (front_run is_quote 0 text) ≡ Wrong fault → IsFaulty (b ∷ text) fault
quotes_wrong b text fault e h =
    let r = front_run is_quote 0 text in
    let sound = run_sound is_quote 0 text (omega arith) in
    elim (cases_lt r.takes (length text)) [
      | inl p ↦ (
          let q = quote_found text r.takes r.value p sound in
          let i = ended_wrong AfterQuote r.value (r.takes + 2) (drop (r.takes + 1) text) fault (rw (lt-ltb r.takes (length text) p, in_quotes) at h) in
          subst (IsFaulty (b ∷ text)) i.1
          (rw e (after_quote q.1 (subst (IsRun is_quote text r.value) q.2 sound) (followed_from (drop (r.takes + 1) text) i.0))))
      | inr p ↦ (
          let is : OpenQuote ≡ fault = cc (rw (le-ltb r.takes (length text) p, in_quotes) at h) in
          let all : drop r.takes text ≡ [] = drop_all r.takes text p in
          subst (IsFaulty (b ∷ text)) is (rw e (open_quote (subst (IsRun is_quote text r.value) all sound))))
    ]

item_sound : (b : ℕ) (text item : List ℕ) (takes : ℕ) → is_white_space b ≡ false → item_at (b ∷ text) ≡ Item item takes →
    IsItem (b ∷ text) item (drop takes (b ∷ text))
item_sound b text item takes w h =
    elim (cases_eq b 123) [
      | inl p ↦ braces_item b text item takes p (sym (item-brace b text p) ∙ h)
      | inr p ↦ elim (cases_eq b 34) [
        | inl q ↦ quotes_item b text item takes q (sym (item-quote b text q) ∙ h)
        | inr q ↦ (
            let r = front_run is_white_space 0 (b ∷ text) in
            let e : Item r.value r.takes ≡ Item item takes = sym (item-bare b text p q) ∙ h in
            let value : r.value ≡ item = cc in
            let place : r.takes ≡ takes = cc in
            bare w p q (subst (λ v. IsRun is_white_space (b ∷ text) v (drop takes (b ∷ text))) value
            (subst (λ n. IsRun is_white_space (b ∷ text) r.value (drop n (b ∷ text))) place (run_sound is_white_space 0 (b ∷ text) (omega arith)))))
      ]
    ]

fault_sound : (b : ℕ) (text : List ℕ) (fault : ListFault) → item_at (b ∷ text) ≡ Wrong fault → IsFaulty (b ∷ text) fault
fault_sound b text fault h =
    elim (cases_eq b 123) [
      | inl p ↦ braces_wrong b text fault p (sym (item-brace b text p) ∙ h)
      | inr p ↦ elim (cases_eq b 34) [
        | inl q ↦ quotes_wrong b text fault q (sym (item-quote b text q) ∙ h)
        | inr q ↦ absurd (cc (sym (item-bare b text p q) ∙ h))
      ]
    ]

after_space : (b : ℕ) (text : List ℕ) (split : Split) → is_white_space b ≡ true → IsSplit text split → IsSplit (b ∷ text) split
after_space b text (Items items) w h = space w h
after_space b text (Bad fault) w h = space_before w h

after_item : (text item rest : List ℕ) (split : Split) → IsItem text item rest → IsSplit rest split → IsSplit text (with_item item split)
after_item text item rest (Items items) i h = first i h
after_item text item rest (Bad fault) i h = later i h

sound : (passed : ℕ) (text : List ℕ) → passed ≤ length text → IsSplit (drop passed text) (split_after passed text)
unfolding split_after
sound zero [] h = none
sound (suc passed) [] h = absurd (omega arith)
sound (suc passed) (b ∷ text) h = sound passed text (omega arith)
sound zero (b ∷ text) h =
    elim (cases_Bool (is_white_space b)) [
      | inl w ↦ subst (IsSplit (b ∷ text)) (sym (split-white b text w)) (after_space b text (split_of text) w (sound zero text (omega arith)))
      | inr w ↦ go w (λ k bound. sound k text bound) (item_at (b ∷ text)) refl
    ]
  where
    go : is_white_space b ≡ false → ((k : ℕ) → k ≤ length text → IsSplit (drop k text) (split_after k text)) → (reading : Reading) →
        item_at (b ∷ text) ≡ reading → IsSplit (b ∷ text) (split_of (b ∷ text))
    go w rest_is (Wrong fault) e = subst (IsSplit (b ∷ text)) (sym (split-wrong b text fault w e)) (fault_sound b text fault e)
    go w rest_is (Item item takes) e =
        let bounds = item_takes b text item takes w e in
        let rest : drop (takes - 1) text ≡ drop takes (b ∷ text) = sym (drop_next (takes - 1) b text) ∙ ap (λ n. drop n (b ∷ text)) (omega (arith, bounds.0)) in
        subst (IsSplit (b ∷ text)) (sym (split-item_kept b text item takes w e))
        (after_item (b ∷ text) item (drop takes (b ∷ text)) (split_after (takes - 1) text) (item_sound b text item takes w e)
        (subst (λ t. IsSplit t (split_after (takes - 1) text)) rest (rest_is (takes - 1) (omega (arith, bounds.1)))))

-- ---- what the grammar says is read so

-- an item by the grammar, as the function reads it
record ReadsItemAt (text item rest : List ℕ) : Type 0 where
  first_byte : ℕ
  others : List ℕ
  takes : ℕ
  begins : text ≡ first_byte ∷ others
  no_white : is_white_space first_byte ≡ false
  is : item_at text ≡ Item item takes
  cut : drop takes text ≡ rest

-- quotes in which a run ends at a quote
in_quotes_yes : (text item rest : List ℕ) (quote : ℕ) → IsRun is_quote text item (quote ∷ rest) → (takes : ℕ)
    × (in_quotes text (front_run is_quote 0 text) ≡ closed_item AfterQuote item (takes + 2) rest) × (drop (takes + 1) text ≡ rest)
in_quotes_yes text item rest quote r =
    let q = run_complete r in
    let within : q.takes < length text = omega (arith, q.size) in
    let back : drop (q.takes + 1) text ≡ rest = sym (drop-drop 1 q.takes text) ∙ ap (λ t. drop 1 t) q.cut in
    (q.takes, ap (in_quotes text) q.is ∙ rw (lt-ltb q.takes (length text) within, in_quotes) (ap (λ t. closed_item AfterQuote item (q.takes + 2) t) back), back)

complete_item : {text item rest : List ℕ} → IsItem text item rest → ReadsItemAt text item rest
complete_item (braced {text} {item} {rest} e b s) =
    let n : ℕ = length item + 2 in
    let found = matches item rest b in
    let front : take (length item) (item ++ (125 ∷ rest)) ≡ item = take-append_seam item (125 ∷ rest) in
    let back : drop (length item + 1) (item ++ (125 ∷ rest)) ≡ rest = drop-append-add item (125 ∷ rest) 1 in
    let is : item_at (123 ∷ (item ++ (125 ∷ rest))) ≡ Item item (length item + 2) =
    item-brace 123 (item ++ (125 ∷ rest)) refl ∙ ap (in_braces (item ++ (125 ∷ rest))) found
    ∙ rw (front, back) (ended_yes AfterBrace item (length item + 2) rest (separated_to s)) in
    record {
      first_byte =
          123;
      others =
          item ++ (125 ∷ rest);
      takes =
          length item + 2;
      begins =
          e;
      no_white = refl;
      is = ap item_at e ∙ is;
      cut = ap (λ t. drop (length item + 2) t) e ∙ after_two (length item) 123 (item ++ (125 ∷ rest)) ∙ back;
    }
complete_item (quoted {text} {item} {rest} {quote} h r s) =
    let q = in_quotes_yes text item rest quote r in
    record {
      first_byte =
          34;
      others =
          text;
      takes =
          q.0 + 2;
      begins =
          refl;
      no_white =
          refl;
      is = item-quote 34 text refl ∙ q.1 ∙ ended_yes AfterQuote item (q.0 + 2) rest (separated_to s);
      cut = after_two q.0 34 text ∙ q.2;
    }
complete_item (bare {b} {text} {item} {rest} w e f r) =
    let q = run_complete r in
    record { first_byte = b; others = text; takes = q.takes; begins = refl; no_white = w; is = item-bare b text e f ∙ ap in_bare q.is; cut = q.cut }

item_then : (text item rest : List ℕ) (split : Split) → IsItem text item rest → split_of rest ≡ split → split_of text ≡ with_item item split
item_then text item rest split i h =
    let r = complete_item i in
    let is : item_at (r.first_byte ∷ r.others) ≡ Item item r.takes = ap item_at (sym r.begins) ∙ r.is in
    let cut : drop r.takes (r.first_byte ∷ r.others) ≡ rest = ap (λ t. drop r.takes t) (sym r.begins) ∙ r.cut in
    ap split_of r.begins ∙ split-item r.first_byte r.others item r.takes r.no_white is ∙ ap (λ t. with_item item (split_of t)) cut ∙ ap (with_item item) h

pub complete_items : {text : List ℕ} {items : List (List ℕ)} → IsListText text items → split_of text ≡ Items items
unfolding split_after
complete_items none = refl
complete_items (space {b} {text} w h) = split-white b text w ∙ complete_items h
complete_items (first {text} {item} {rest} {items} i h) = item_then text item rest (Items items) i (complete_items h)

no_match : (text : List ℕ) → ((n : ℕ) → ¬ IsClosedAt text n) → (o : Option ℕ) → matching_brace text ≡ o → o ≡ None
no_match text h None e = refl
no_match text h (Some n) e = absurd (h n ((matching_brace_law text n).0 e))

complete_fault : {text : List ℕ} {fault : ListFault} → IsFaulty text fault → split_of text ≡ Bad fault
complete_fault (space_before {b} {text} w h) = split-white b text w ∙ complete_fault h
complete_fault (later {text} {item} {rest} {fault} i h) = item_then text item rest (Bad fault) i (complete_fault h)
complete_fault (open_brace {text} h) =
    split-wrong 123 text OpenBrace refl (item-brace 123 text refl ∙ ap (in_braces text) (no_match text h (matching_brace text) refl))
complete_fault (after_brace {text} {item} {rest} {follower} e b f) =
    let front : take (length item) (item ++ (125 ∷ rest)) ≡ item = take-append_seam item (125 ∷ rest) in
    let back : drop (length item + 1) (item ++ (125 ∷ rest)) ≡ rest = drop-append-add item (125 ∷ rest) 1 in
    let said = followed_to f in
    let is : item_at (123 ∷ (item ++ (125 ∷ rest))) ≡ Wrong (AfterBrace follower) =
    item-brace 123 (item ++ (125 ∷ rest)) refl ∙ ap (in_braces (item ++ (125 ∷ rest))) (matches item rest b)
    ∙ rw (front, back) (ended_no AfterBrace item (length item + 2) rest said.0 ∙ ap (λ t. Wrong (AfterBrace t)) (sym said.1)) in
    ap split_of e ∙ split-wrong 123 (item ++ (125 ∷ rest)) (AfterBrace follower) refl is
complete_fault (open_quote {text} {item} r) =
    let q = run_complete r in
    split-wrong 34 text OpenQuote refl
    (item-quote 34 text refl ∙ ap (in_quotes text) q.is ∙ rw (le-ltb q.takes (length text) (omega (arith, q.size)), in_quotes) refl)
complete_fault (after_quote {text} {item} {rest} {follower} {quote} h r f) =
    let q = in_quotes_yes text item rest quote r in
    let said = followed_to f in
    split-wrong 34 text (AfterQuote follower) refl
    (item-quote 34 text refl ∙ q.1 ∙ ended_no AfterQuote item (q.0 + 2) rest said.0 ∙ ap (λ t. Wrong (AfterQuote t)) (sym said.1))

complete : (text : List ℕ) (split : Split) → IsSplit text split → split_of text ≡ split
complete text (Items items) h = complete_items h
complete text (Bad fault) h = complete_fault h

pub split_sound : (text : List ℕ) → IsSplit text (split_of text)
split_sound text = sound 0 text (omega arith)

pub split_law : SplitLaw
split_law text split = (λ e. subst (IsSplit text) e (split_sound text), complete text split)

pub split_by : (text : List ℕ) (split : Split) → split ≡ split_of text → IsSplit text split
split_by text split e = subst (IsSplit text) (sym e) (split_sound text)
