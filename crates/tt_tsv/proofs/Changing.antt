-- A value that was changed where it stands was put there.
use Rattle.std.proofs.Common.{◌≡◌, ◌∙◌, ℕ, Bool, true, false, cond, List, [], ◌∷◌, Option, Some, None, bytes_eq, refl, ap, sym}
use Rattle.std.proofs.Common.{is_some, true≢false, unwrap_or}
use Rattle.std.specs.Map.{lookup, set_value}
use Rattle.std.proofs.lemmas.Map.Steps.{set_value_same}
use Rattle.std.specs.Option.{option_map}
use Rattle.indexmap.specs.IndexMap.{insert_entry}
use Rattle.tt_tsv.specs.Arrays.{Pairs, Table, array_of, element_of, elements_in, makes_in, with_element, with_elements}
use Rattle.tt_calls.specs.declared.reply.Reply.{Reply}
use Rattle.tt_tsv.specs.Calls.{changes, changes_by}
use Rattle.tt_tsv.specs.Elements.{change_if, change_of, change_of_missing, missing_as}
use Rattle.tt_tsv.specs.declared.usage.ElementUsage.{ElementUsage}
use Rattle.tt_tsv.specs.declared.array.Array.{Array}
use Rattle.tt_tsv.specs.declared.change.Change.{Change}
use Rattle.tt_tsv.specs.declared.change.Change.TheVariants.{Kept, Put, Removed}
use Rattle.tt_tsv.specs.inside.Changed.{elements_left, value_left, reply_of, table_ended, table_left}

none_is_some : {A : Type 0} {x : A} → None ≡ Some x → ⊥
none_is_some e = true≢false (sym (ap is_some e))

same_some : {A : Type 0} {x y : A} → Some x ≡ Some y → x ≡ y
same_some {A} {x} e = ap (λ r. unwrap_or r x) e

-- a key that is there takes the value in its place
set_value-insert : {X : Type 0} (es : List (List ℕ × X)) (key : List ℕ) (v w : X) → lookup (bytes_eq key) es ≡ Some v →
    set_value (bytes_eq key) es w ≡ insert_entry bytes_eq es key w
set_value-insert [] key v w at = absurd (none_is_some at)
set_value-insert {X} (e ∷ es) key v w at = by (bytes_eq key e.0) at (set_value-insert es key v w)
  where
    by : (b : Bool) → cond b (Some e.1) (lookup (bytes_eq key) es) ≡ Some v
        → (lookup (bytes_eq key) es ≡ Some v → set_value (bytes_eq key) es w ≡ insert_entry bytes_eq es key w)
        → cond b ((e.0, w) ∷ es) (e ∷ set_value (bytes_eq key) es w) ≡ cond b ((e.0, w) ∷ es) (e ∷ insert_entry bytes_eq es key w)
    by true at rest = refl
    by false at rest = ap (λ l. e ∷ l) (rest at)

pub in_elements : (elements : Pairs) (key v w : List ℕ) (change : Change) → lookup (bytes_eq key) elements ≡ Some v → w ≡ value_left change v →
    set_value (bytes_eq key) elements w ≡ elements_left key (Some change) elements
in_elements elements key v w (Kept answer) at is = ap (set_value (bytes_eq key) elements) is ∙ set_value_same (bytes_eq key) elements v at
in_elements elements key v w (Put value answer) at is = ap (set_value (bytes_eq key) elements) is ∙ set_value-insert elements key v value at
in_elements elements key v w (Removed answer) at is = ap (set_value (bytes_eq key) elements) is ∙ set_value_same (bytes_eq key) elements v at

pub in_table : (table : Table) (name key : List ℕ) (old new : Array) (change : Option Change) → array_of table name ≡ Some old →
    new ≡ with_elements old (elements_left key change old.elements) → set_value (bytes_eq name) table new ≡ table_left table name key change
in_table table name key old new None at is = ap (set_value (bytes_eq name) table) is ∙ set_value_same (bytes_eq name) table old at
in_table table name key old new (Some (Kept answer)) at is = ap (set_value (bytes_eq name) table) is ∙ set_value_same (bytes_eq name) table old at
in_table table name key old new (Some (Put value answer)) at is =
    ap (set_value (bytes_eq name) table) is ∙ ap (makes_in (with_element key value) table name) (sym at)
in_table table name key old new (Some (Removed answer)) at is = ap (set_value (bytes_eq name) table) is ∙ set_value_same (bytes_eq name) table old at

-- the value of an element of an array that is there, and of one that is missing
pub of_array : {X : Type 0} (of : List ℕ → X) (table : Table) (name key : List ℕ) (old : Array) → array_of table name ≡ Some old →
    option_map of (lookup (bytes_eq key) old.elements) ≡ option_map of (element_of table name key)
of_array of table name key old at = ap (λ array. option_map of (lookup (bytes_eq key) (elements_in array))) (sym at)

pub of_none : {X : Type 0} (of : List ℕ → X) (table : Table) (name key : List ℕ) → array_of table name ≡ None → None ≡ option_map of (element_of table name key)
of_none of table name key at = ap (λ array. option_map of (lookup (bytes_eq key) (elements_in array))) (sym at)

-- what is left then is what the table has for the element's value
module _ (table : Table) (name key : List ℕ) (asked : ElementUsage) (words : List (List ℕ)) where
  ended : (change : Change) → table_ended (table_left table name key (Some change)) name key change ≡ (changes table name key change).table
  ended (Kept answer) = refl
  ended (Put value answer) = refl
  ended (Removed answer) = refl

  replied : (change : Change) → reply_of change ≡ (changes table name key change).reply
  replied (Kept answer) = refl
  replied (Put value answer) = refl
  replied (Removed answer) = refl

  there : (value : Option (List ℕ)) (change : Change) → Some change ≡ option_map (λ value. change_of asked value words) value →
      change_if name key asked words value ≡ change
  there None change is = absurd (none_is_some (sym is))
  there (Some value) change is = sym (same_some is)

  gone : (value : Option (List ℕ)) → None ≡ option_map (λ value. change_of asked value words) value → value ≡ None
  gone None is = refl
  gone (Some value) is = absurd (none_is_some is)

  pub table_there : (left new : Table) (change : Change) → Some change ≡ option_map (λ value. change_of asked value words) (element_of table name key)
      → left ≡ table_left table name key (Some change)
      → new ≡ table_ended left name key change
      → new ≡ (changes_by table asked name key words).table
  table_there left new change is left_is new_is =
      new_is ∙ ap (λ t. table_ended t name key change) left_is ∙ ended change
      ∙ ap (λ c. (changes table name key c).table) (sym (there (element_of table name key) change is))

  pub reply_there : (reply : Reply) (change : Change) → Some change ≡ option_map (λ value. change_of asked value words) (element_of table name key)
      → reply ≡ reply_of change
      → reply ≡ (changes_by table asked name key words).reply
  reply_there reply change is told =
      told ∙ replied change ∙ ap (λ c. (changes table name key c).reply) (sym (there (element_of table name key) change is))

  pub missing_there : None ≡ option_map (λ value. change_of asked value words) (element_of table name key) →
      changes_by table asked name key words ≡ changes table name key (change_of_missing name key asked words (missing_as asked))
  missing_there is = ap (λ value. changes table name key (change_if name key asked words value)) (gone (element_of table name key) is)
