-- A held array is safe from other threads: their calls on it wait, and those on other arrays leave it.
use Rattle.std.proofs.Common.{◌≡◌, ◌∙◌, ℕ, ◌%◌, ◌==◌, Bool, true, false, cond, if◌then◌else◌, List, [], ◌∷◌, length}
use Rattle.std.proofs.Common.{codes, Option, Some, None, is_some, refl, ap, sym, subst, bytes_eq}
use Rattle.std.proofs.lemmas.Slice.Eq.{bytes_eq-Decides}
use Rattle.std.specs.Map.{set_value}
use Rattle.indexmap.specs.IndexMap.{insert_entry}
use Rattle.tt_calls.specs.declared.reply.Reply.TheVariants.{Go}
use Rattle.tt_calls.specs.declared.reply.Step.TheVariants.{Wait, Reply}
use Rattle.tt_calls.specs.declared.tsv_call.TsvCall.{TsvCall}
use Rattle.tt_calls.specs.declared.tsv_call.TsvCall.TheVariants.{Hold, Unhold, Run}
use Rattle.tt_lists.specs.Reading.{split_of}
use Rattle.tt_lists.specs.declared.items.Split.{Split}
use Rattle.tt_lists.specs.declared.items.Split.TheVariants as split
use Rattle.tt_calls.specs.Replies.{answers, refuses}
use Rattle.tt_tsv.specs.Calls.{act, array_act, array_asked, changes, empty_answer, exists_message, fills, holds}
use Rattle.tt_tsv.specs.Calls.{is_held_by_other, is_own, moves_of, refills, usage_answer, asked_answer, step_after, table_after}
use Rattle.tt_tsv.specs.Calls.{unholds, unsets, waits_for}
use Rattle.tt_tsv.specs.Arrays.{Table, array_with_items, array_of, table_with_change, changes_in, element_of, array_without_elements, array_with_hold, is_held, array_without_hold}
use Rattle.tt_tsv.specs.Arrays.{with_array, makes_in, with_element, without_array, without_element}
use Rattle.tt_tsv.specs.Elements.{change_if}
use Rattle.tt_tsv.specs.Words.{Asked, array_among, array_in, usage_of_words}
use Rattle.tt_tsv.specs.declared.array.Array.{Array}
use Rattle.tt_tsv.specs.declared.change.Change.{Change}
use Rattle.tt_tsv.specs.declared.change.Change.TheVariants.{Kept, Put, Removed}
use Rattle.tt_tsv.specs.declared.usage.ArrayUsage.{ArrayUsage}
use Rattle.tt_tsv.specs.declared.usage.ArrayUsage.TheVariants as array
use Rattle.tt_tsv.specs.declared.usage.Usage.{Usage}
use Rattle.tt_tsv.specs.declared.usage.Usage.TheVariants as usage

-- what is done to one array leaves another
module _ (name other : List ℕ) (apart : bytes_eq name other ≡ false) where
  other_key : (key : List ℕ) → bytes_eq other key ≡ true → bytes_eq name key ≡ false
  other_key key at = subst (λ k. bytes_eq name k ≡ false) ((bytes_eq-Decides other key).0 at) apart

  by_set : (table : Table) (w : Array) → array_of (set_value (bytes_eq other) table w) name ≡ array_of table name
  by_set [] w = refl
  by_set (e ∷ es) w = go (bytes_eq other e.0) (other_key e.0) (by_set es w)
    where
      go : (b : Bool) → (b ≡ true → bytes_eq name e.0 ≡ false) → array_of (set_value (bytes_eq other) es w) name ≡ array_of es name
          → array_of (cond b ((e.0, w) ∷ es) (e ∷ set_value (bytes_eq other) es w)) name ≡ array_of (e ∷ es) name
      go true at later = ap (λ c. cond c (Some w) (array_of es name)) (at refl) ∙ sym (ap (λ c. cond c (Some e.1) (array_of es name)) (at refl))
      go false at later = ap (λ l. cond (bytes_eq name e.0) (Some e.1) l) later

  by_insert : (table : Table) (w : Array) → array_of (insert_entry bytes_eq table other w) name ≡ array_of table name
  by_insert [] w = ap (λ c. cond c (Some w) None) apart
  by_insert (e ∷ es) w = go (bytes_eq other e.0) (other_key e.0) (by_insert es w)
    where
      go : (b : Bool) → (b ≡ true → bytes_eq name e.0 ≡ false) → array_of (insert_entry bytes_eq es other w) name ≡ array_of es name
          → array_of (if b then (e.0, w) ∷ es else e ∷ insert_entry bytes_eq es other w) name ≡ array_of (e ∷ es) name
      go true at later = ap (λ c. cond c (Some w) (array_of es name)) (at refl) ∙ sym (ap (λ c. cond c (Some e.1) (array_of es name)) (at refl))
      go false at later = ap (λ l. cond (bytes_eq name e.0) (Some e.1) l) later

  by_remove : (table : Table) → array_of (without_array table other) name ≡ array_of table name
  by_remove [] = refl
  by_remove (e ∷ es) = go (bytes_eq other e.0) (other_key e.0) (by_remove es)
    where
      go : (b : Bool) → (b ≡ true → bytes_eq name e.0 ≡ false) → array_of (without_array es other) name ≡ array_of es name
          → array_of (cond b es (e ∷ without_array es other)) name ≡ array_of (e ∷ es) name
      go true at later = sym (ap (λ c. cond c (Some e.1) (array_of es name)) (at refl))
      go false at later = ap (λ l. cond (bytes_eq name e.0) (Some e.1) l) later

  by_changed : (change : Array → Array) (table : Table) (found : Option Array) → array_of (changes_in change table other found) name ≡ array_of table name
  by_changed change table None = refl
  by_changed change table (Some array) = by_set table (change array)

  by_made : (change : Array → Array) (table : Table) (found : Option Array) → array_of (makes_in change table other found) name ≡ array_of table name
  by_made change table None = by_insert table _
  by_made change table (Some array) = by_set table (change array)

  by_change : (table : Table) (key : List ℕ) (change : Change) → array_of (changes table other key change).table name ≡ array_of table name
  by_change table key (Kept answer) = refl
  by_change table key (Put value answer) = by_made (with_element key value) table (array_of table other)
  by_change table key (Removed answer) = by_changed (without_element key) table (array_of table other)

  by_move : (table : Table) (key new : List ℕ) (found : Option (List ℕ)) → array_of (moves_of table other key new found).table name ≡ array_of table name
  by_move table key new None = refl
  by_move table key new (Some value) = go (is_some (element_of table other new))
    where
      without : Table
      without = table_with_change (without_element key) table other

      go : (b : Bool) →
          array_of (if b then refuses table (exists_message new) else empty_answer
          (with_array (with_element new value) without other)).table name ≡ array_of table name
      go true = refl
      go false = by_made (with_element new value) without (array_of without other) ∙ by_changed (without_element key) table (array_of table other)

  by_unset : (table : Table) (found : Option Array) → array_of (unsets table other found) name ≡ array_of table name
  by_unset table None = refl
  by_unset table (Some array) = go (is_held array)
    where
      go : (b : Bool) → array_of (if b then table_with_change array_without_elements table other else without_array table other) name ≡ array_of table name
      go true = by_changed array_without_elements table (array_of table other)
      go false = by_remove table

  by_fill : (table : Table) (list : Split) → array_of (fills table other list).table name ≡ array_of table name
  by_fill table (split.Bad fault) = refl
  by_fill table (split.Items items) = go (length items % 2 == 0)
    where
      go : (b : Bool) → array_of (if b then empty_answer (with_array (array_with_items items) table other) else refuses table (codes "list must have an even number of elements")).table name ≡ array_of table name
      go true = by_made (array_with_items items) table (array_of table other)
      go false = refl

  by_refill : (table : Table) (list : Split) → array_of (refills table other list).table name ≡ array_of table name
  by_refill table (split.Bad fault) = refl
  by_refill table (split.Items items) = go (length items % 2 == 0)
    where
      without : Table
      without = table_with_change array_without_elements table other

      go : (b : Bool) → array_of (if b then empty_answer (with_array (array_with_items items) without other) else refuses table (codes "list must have an even number of elements")).table name ≡ array_of table name
      go true = by_made (array_with_items items) without (array_of without other) ∙ by_changed array_without_elements table (array_of table other)
      go false = refl

  by_array : (table : Table) (asked : ArrayUsage) (words : List (List ℕ)) → array_of (array_act table asked other words).table name ≡ array_of table name
  by_array table array.Unset words = by_unset table (array_of table other)
  by_array table array.Exists words = refl
  by_array table array.Set [] = refl
  by_array table array.Set (list ∷ []) = by_fill table (split_of list)
  by_array table array.Set (list ∷ word ∷ words) = refl
  by_array table array.Get words = refl
  by_array table array.Names words = refl
  by_array table array.Size words = refl
  by_array table array.Reset [] = refl
  by_array table array.Reset (list ∷ []) = by_refill table (split_of list)
  by_array table array.Reset (list ∷ word ∷ words) = refl

  by_run : (table : Table) (asked : Usage) (words : List (List ℕ)) → array_of (usage_answer table asked (other ∷ words)).table name ≡ array_of table name
  by_run table usage.Names words = refl
  by_run table usage.Find [] = refl
  by_run table usage.Find (key ∷ words) = refl
  by_run table usage.Exists [] = refl
  by_run table usage.Exists (key ∷ words) = refl
  by_run table usage.Move [] = refl
  by_run table usage.Move (key ∷ []) = refl
  by_run table usage.Move (key ∷ new ∷ words) = by_move table key new (element_of table other key)
  by_run table (usage.Array asked) words = by_array table asked words
  by_run table (usage.Element asked) [] = refl
  by_run table (usage.Element asked) (key ∷ words) = by_change table key (change_if other key asked words (element_of table other key))

  by_unhold : (table : Table) (t : ℕ) → array_of (unholds table t other).table name ≡ array_of table name
  by_unhold table t = go (is_own t (array_of table other))
    where
      go : (b : Bool) → array_of (if b then answers (table_with_change array_without_hold table other) Go else refuses table []).table name ≡ array_of table name
      go true = by_changed array_without_hold table (array_of table other)
      go false = refl

module _ (table : Table) (name : List ℕ) (t : ℕ) (is_other : is_held_by_other t (array_of table name) ≡ true) where
  -- a call on one array waits, or is done
  if_waits : (other : List ℕ) (after : Table) → (bytes_eq name other ≡ false → array_of after name ≡ array_of table name)
      → array_of (if is_held_by_other t (array_of table other) then table else after) name ≡ array_of table name
  if_waits other after leaves = go (bytes_eq name other) refl
    where
      either : (b : Bool) → array_of after name ≡ array_of table name → array_of (if b then table else after) name ≡ array_of table name
      either true left = refl
      either false left = left

      go : (b : Bool) → bytes_eq name other ≡ b → array_of (if is_held_by_other t (array_of table other) then table else after) name ≡ array_of table name
      go true same =
          ap (λ b. array_of (if b then table else after) name)
          (subst (λ k. is_held_by_other t (array_of table k) ≡ true) ((bytes_eq-Decides name other).0 same) is_other)
      go false apart = either (is_held_by_other t (array_of table other)) (leaves apart)

  on_usage : (asked : Usage) (words : List (List ℕ)) →
      array_of (if waits_for table t (array_among asked words) then table else (usage_answer table asked words).table) name ≡ array_of table name
  on_usage usage.Names words = refl
  on_usage usage.Find [] = refl
  on_usage usage.Find (other ∷ words) = if_waits other (usage_answer table usage.Find (other ∷ words)).table (λ apart. by_run name other apart table usage.Find words)
  on_usage usage.Exists [] = refl
  on_usage usage.Exists (other ∷ words) =
      if_waits other (usage_answer table usage.Exists (other ∷ words)).table (λ apart. by_run name other apart table usage.Exists words)
  on_usage usage.Move [] = refl
  on_usage usage.Move (other ∷ words) = if_waits other (usage_answer table usage.Move (other ∷ words)).table (λ apart. by_run name other apart table usage.Move words)
  on_usage (usage.Array asked) [] = refl
  on_usage (usage.Array asked) (other ∷ words) =
      if_waits other (usage_answer table (usage.Array asked) (other ∷ words)).table (λ apart. by_run name other apart table (usage.Array asked) words)
  on_usage (usage.Element asked) [] = refl
  on_usage (usage.Element asked) (other ∷ words) =
      if_waits other (usage_answer table (usage.Element asked) (other ∷ words)).table (λ apart. by_run name other apart table (usage.Element asked) words)

  on_asked : (asked : Option Asked) → array_of (if waits_for table t (array_in asked) then table else (asked_answer table asked).table) name ≡ array_of table name
  on_asked None = refl
  on_asked (Some asked) = on_usage asked.0 asked.1

  on_call : (call : TsvCall) → array_of (table_after table t call) name ≡ array_of table name
  on_call (Hold other) = if_waits other (holds table t other).table (λ apart. by_made name other apart (array_with_hold t) table (array_of table other))
  on_call (Unhold other) = if_waits other (unholds table t other).table (λ apart. by_unhold name other apart table t)
  on_call (Run words) = on_asked (usage_of_words words)

pub closed_to_others : (table : Table) (name : List ℕ) (t : ℕ) (call : TsvCall) → is_held_by_other t (array_of table name) ≡ true →
    array_of (table_after table t call) name ≡ array_of table name
closed_to_others table name t call is_other = on_call table name t is_other call

pub answers_nobody_else : (table : Table) (name : List ℕ) (t : ℕ) (call : TsvCall) → is_held_by_other t (array_of table name) ≡ true →
    array_asked call ≡ Some name → step_after table t call ≡ Wait
answers_nobody_else table name t call is_other asks =
    ap (λ b. if b then Wait else Reply (act table t call).reply) (ap (waits_for table t) asks ∙ is_other)
