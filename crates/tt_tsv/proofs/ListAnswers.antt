-- What a value is read as as a list is what the commands on lists answer.
use Rattle.std.proofs.Common.{◌≡◌, ℕ, List, [], ◌∷◌, length, Result, Ok, Err, ap, refl, sym}
use Rattle.std.specs.Prelude.{decimal}
use Rattle.tt_lists.specs.Commands.{count_answer, for_items, for_made, item_answer, item_of}
use Rattle.tt_lists.specs.Messages.{list_message}
use Rattle.tt_lists.specs.Reading.{split_of}
use Rattle.tt_lists.specs.declared.answer.ListAnswer.{ListAnswer}
use Rattle.tt_lists.specs.declared.answer.ListAnswer.TheVariants as answer
use Rattle.tt_lists.specs.declared.items.ListFault.{ListFault}
use Rattle.tt_lists.specs.declared.items.Split.{Split}
use Rattle.tt_lists.specs.declared.items.Split.TheVariants as split
use Rattle.tt_value.specs.Reading.{count_by, count_of, items_by, items_of, text_or_message}

err_is_ok : {X E : Type 0} {e : E} {x : X} → ◌≡◌ {A = Result X E} (Err e) (Ok x) → ⊥
err_is_ok h = cc

same_ok : {X E : Type 0} {x y : X} → ◌≡◌ {A = Result X E} (Ok x) (Ok y) → x ≡ y
same_ok h = cc

same_err : {X E : Type 0} {x y : E} → ◌≡◌ {A = Result X E} (Err x) (Err y) → x ≡ y
same_err h = cc

by_items : (s : Split) (items : List (List ℕ)) → items_by s ≡ Ok items → s ≡ split.Items items
by_items (split.Items others) items e = ap split.Items (same_ok e)
by_items (split.Bad fault) items e = absurd (err_is_ok e)

by_fault : (s : Split) (fault : ListFault) → items_by s ≡ Err fault → s ≡ split.Bad fault
by_fault (split.Items items) fault e = absurd (err_is_ok (sym e))
by_fault (split.Bad other) fault e = ap split.Bad (same_err e)

pub is_split : (text : List ℕ) (items : List (List ℕ)) → items_of text ≡ Ok items → split_of text ≡ split.Items items
is_split text items e = by_items (split_of text) items e

pub is_no_list : (text : List ℕ) (fault : ListFault) → items_of text ≡ Err fault → split_of text ≡ split.Bad fault
is_no_list text fault e = by_fault (split_of text) fault e

by_count : (s : Split) (n : ℕ) → count_by (items_by s) ≡ Ok n → for_items (λ items. answer.Made (decimal (length items))) s ≡ answer.Made (decimal n)
by_count (split.Items items) n e = ap (λ k. answer.Made (decimal k)) (same_ok e)
by_count (split.Bad fault) n e = absurd (err_is_ok e)

by_no_count : (s : Split) (fault : ListFault) → count_by (items_by s) ≡ Err fault
    → for_items (λ items. answer.Made (decimal (length items))) s ≡ answer.Bad (list_message fault)
by_no_count (split.Items items) fault e = absurd (err_is_ok (sym e))
by_no_count (split.Bad other) fault e = ap (λ f. answer.Bad (list_message f)) (same_err e)

pub is_count : (text : List ℕ) (n : ℕ) → count_of text ≡ Ok n → count_answer text ≡ answer.Made (decimal n)
is_count text n e = by_count (split_of text) n e

pub is_no_count : (text : List ℕ) (fault : ListFault) → count_of text ≡ Err fault → count_answer text ≡ answer.Bad (list_message fault)
is_no_count text fault e = by_no_count (split_of text) fault e

for_itself : (a : ListAnswer) → for_made (λ item. item_answer item []) a ≡ a
for_itself (answer.Made text) = refl
for_itself (answer.Bad message) = refl

pub one_item : (text word : List ℕ) → item_answer text (word ∷ []) ≡ item_of text word
one_item text word = for_itself (item_of text word)

pub is_made : (a : ListAnswer) (text : List ℕ) → text_or_message a ≡ Ok text → a ≡ answer.Made text
is_made (answer.Made other) text e = ap answer.Made (same_ok e)
is_made (answer.Bad message) text e = absurd (err_is_ok e)

pub is_refused : (a : ListAnswer) (message : List ℕ) → text_or_message a ≡ Err message → a ≡ answer.Bad message
is_refused (answer.Made text) message e = absurd (err_is_ok (sym e))
is_refused (answer.Bad other) message e = ap answer.Bad (same_err e)
