-- An array that a thread holds stays held by it, whatever call the thread makes itself, but for the end of its last hold.
use Rattle.std.proofs.Common.{◌≡◌, ◌∙◌, ◌≤◌, ℕ, ◌%◌, ◌==◌, Bool, true, false, cond, if◌then◌else◌, nat_le, List, []}
use Rattle.std.proofs.Common.{◌∷◌, length, codes, Option, Some, None, is_some, refl, ap, sym, subst, bytes_eq, arith}
use Rattle.std.proofs.lemmas.Bool.Decides.{nat_tests}
use Rattle.std.specs.Map.{set_value}
use Rattle.indexmap.specs.IndexMap.{insert_entry}
use Rattle.tt_calls.specs.declared.reply.Reply.TheVariants.{Go}
use Rattle.tt_calls.specs.declared.tsv_call.TsvCall.{TsvCall}
use Rattle.tt_calls.specs.declared.tsv_call.TsvCall.TheVariants.{Hold, Unhold, Run}
use Rattle.tt_lists.specs.declared.items.Split.{Split}
use Rattle.tt_lists.specs.declared.items.Split.TheVariants as split
use Rattle.laws_shared.proofs.Deciding as deciding
use Rattle.tt_calls.specs.Replies.{answers, refuses}
use Rattle.tt_tsv.specs.Calls.{act, array_act, changes, empty_answer, exists_message, fills, is_own, moves_of, refills}
use Rattle.tt_tsv.specs.Calls.{usage_answer, asked_answer, table_after, unsets, waits}
use Rattle.tt_tsv.specs.Arrays.{Table, array_with_items, array_of, table_with_change, changes_in, element_of, array_without_elements, array_with_hold, is_held}
use Rattle.tt_tsv.specs.Arrays.{is_held_by, array_without_hold, with_array, makes_in, with_element, without_array, without_element}
use Rattle.tt_tsv.specs.Words.{Asked, usage_of_words}
use Rattle.tt_tsv.specs.declared.array.Array.{Array}

both : (name other key : List ℕ) → bytes_eq other key ≡ true → bytes_eq name key ≡ true → name ≡ other
both name other key here there = deciding.same_text name key there ∙ sym (deciding.same_text other key here)

unheld : (t : ℕ) (array : Array) → is_held array ≡ false → is_held_by t array ≡ true → ⊥
unheld t array none is = go array.holder none is
  where
    go : (holder : Option ℕ) → elim holder [ None ↦ false | Some one ↦ true ] ≡ false → elim holder [ None ↦ false | Some one ↦ one == t ] ≡ true → ⊥
    go None none is = cc is
    go (Some one) none is = cc none

own-hold : (t : ℕ) (array : Array) → is_held_by t (array_with_hold t array) ≡ true
own-hold t array = deciding.itself t

-- a hold of several
still : (t : ℕ) (array : Array) → (array.depth ≤ 1 → ⊥) → is_held_by t array ≡ true → is_held_by t (array_without_hold array) ≡ true
still t array deep is = go (nat_le array.depth 1) refl
  where
    go : (b : Bool) → nat_le array.depth 1 ≡ b → is_held_by t (array_without_hold array) ≡ true
    go true few = let least : array.depth ≤ 1 = grind (arith, nat_tests, few) in absurd (deep least)
    go false few = rw few is

-- a thread that held the array of the name before holds it after
abbrev Stays : (t : ℕ) (name : List ℕ) → Table → Table → Type 0
Stays t name old new = is_own t (array_of old name) ≡ true → is_own t (array_of new name) ≡ true

module _ (t : ℕ) (name other : List ℕ) where
  -- where it held the other array, and that is the one, it holds what was put there
  abbrev Holding : Option Array → Array → Type 0
  Holding found w = name ≡ other → is_own t found ≡ true → is_held_by t w ≡ true

  by_set : (table : Table) (w : Array) → Holding (array_of table other) w → Stays t name table (set_value (bytes_eq other) table w)
  by_set [] w holding own = own
  by_set (e ∷ es) w holding own = go (bytes_eq other e.0) (bytes_eq name e.0) refl refl own holding (by_set es w)
    where
      go : (here there : Bool) → bytes_eq other e.0 ≡ here → bytes_eq name e.0 ≡ there
          → is_own t (cond there (Some e.1) (array_of es name)) ≡ true
          → Holding (cond here (Some e.1) (array_of es other)) w
          → (Holding (array_of es other) w → Stays t name es (set_value (bytes_eq other) es w))
          → is_own t (array_of (cond here ((e.0, w) ∷ es) (e ∷ set_value (bytes_eq other) es w)) name) ≡ true
      go true true here there own holding later = rw there (holding (both name other e.0 here there) own)
      go true false here there own holding later = rw there own
      go false true here there own holding later = rw there own
      go false false here there own holding later = rw there (later holding own)

  by_insert : (table : Table) (w : Array) → Holding (array_of table other) w → Stays t name table (insert_entry bytes_eq table other w)
  by_insert [] w holding own = absurd (cc own)
  by_insert (e ∷ es) w holding own = go (bytes_eq other e.0) (bytes_eq name e.0) refl refl own holding (by_insert es w)
    where
      go : (here there : Bool) → bytes_eq other e.0 ≡ here → bytes_eq name e.0 ≡ there
          → is_own t (cond there (Some e.1) (array_of es name)) ≡ true
          → Holding (cond here (Some e.1) (array_of es other)) w
          → (Holding (array_of es other) w → Stays t name es (insert_entry bytes_eq es other w))
          → is_own t (array_of (if here then (e.0, w) ∷ es else e ∷ insert_entry bytes_eq es other w) name) ≡ true
      go true true here there own holding later = rw there (holding (both name other e.0 here there) own)
      go true false here there own holding later = rw there own
      go false true here there own holding later = rw there own
      go false false here there own holding later = rw there (later holding own)

  -- an array that nobody holds is removed
  by_remove : (table : Table) (array : Array) → array_of table other ≡ Some array → is_held array ≡ false → Stays t name table (without_array table other)
  by_remove [] array found none own = own
  by_remove (e ∷ es) array found none own = go (bytes_eq other e.0) (bytes_eq name e.0) refl refl own found (by_remove es array)
    where
      go : (here there : Bool) → bytes_eq other e.0 ≡ here → bytes_eq name e.0 ≡ there
          → is_own t (cond there (Some e.1) (array_of es name)) ≡ true
          → cond here (Some e.1) (array_of es other) ≡ Some array
          → (array_of es other ≡ Some array → is_held array ≡ false → Stays t name es (without_array es other))
          → is_own t (array_of (cond here es (e ∷ without_array es other)) name) ≡ true
      go true true here there own found later =
          let same : e.1 ≡ array = cc found in
          absurd (unheld t array none (subst (λ one. is_held_by t one ≡ true) same own))
      go true false here there own found later = own
      go false true here there own found later = rw there own
      go false false here there own found later = rw there (later found none own)

  -- a change that leaves who holds it
  abbrev Keeps : (Array → Array) → Type 0
  Keeps change = (array : Array) → is_held_by t array ≡ true → is_held_by t (change array) ≡ true

  by_changed : (change : Array → Array) → Keeps change → (table : Table) (found : Option Array) → array_of table other ≡ found →
      Stays t name table (changes_in change table other found)
  by_changed change keeps table None is own = own
  by_changed change keeps table (Some array) is own =
      by_set table (change array) (λ same array_with_hold. keeps array (subst (λ found. is_own t found ≡ true) is array_with_hold)) own

  by_made : (change : Array → Array) → Keeps change → (table : Table) (found : Option Array) → array_of table other ≡ found →
      Stays t name table (makes_in change table other found)
  by_made change keeps table None is own =
      by_insert table _ (λ same array_with_hold. let nobody : is_own t None ≡ true = subst (λ found. is_own t found ≡ true) is array_with_hold in absurd (cc nobody)) own
  by_made change keeps table (Some array) is own =
      by_set table (change array) (λ same array_with_hold. keeps array (subst (λ found. is_own t found ≡ true) is array_with_hold)) own

  by_put : (table : Table) (key value : List ℕ) → Stays t name table (with_array (with_element key value) table other)
  by_put table key value own = by_made (with_element key value) (λ array is. is) table (array_of table other) refl own

  by_removed : (table : Table) (key : List ℕ) → Stays t name table (table_with_change (without_element key) table other)
  by_removed table key own = by_changed (without_element key) (λ array is. is) table (array_of table other) refl own

  by_change : (table : Table) (key : List ℕ) (change : _) → Stays t name table (changes table other key change).table
  by_change table key change own = grind (arith, own, by_put, by_removed)

  by_move : (table : Table) (key new : List ℕ) (found : Option (List ℕ)) → Stays t name table (moves_of table other key new found).table
  by_move table key new None own = own
  by_move table key new (Some value) own = go (is_some (element_of table other new))
    where
      without : Table
      without = table_with_change (without_element key) table other

      go : (b : Bool) →
          is_own t (array_of
          (if b then refuses table (exists_message new) else empty_answer (with_array (with_element new value) without other)).table name) ≡ true
      go true = own
      go false =
          by_made (with_element new value) (λ array is. is) without (array_of without other) refl
          (by_changed (without_element key) (λ array is. is) table (array_of table other) refl own)

  by_unset : (table : Table) (found : Option Array) → array_of table other ≡ found → Stays t name table (unsets table other found)
  by_unset table None is own = own
  by_unset table (Some array) is own = go (is_held array) refl
    where
      go : (b : Bool) → is_held array ≡ b → is_own t (array_of (if b then table_with_change array_without_elements table other else without_array table other) name) ≡ true
      go true any = by_changed array_without_elements (λ array is. is) table (array_of table other) refl own
      go false none = by_remove table array is none own

  by_fill : (table : Table) (list : Split) → Stays t name table (fills table other list).table
  by_fill table (split.Bad fault) own = own
  by_fill table (split.Items items) own = go (length items % 2 == 0)
    where
      go : (b : Bool) → is_own t (array_of (if b then empty_answer (with_array (array_with_items items) table other) else refuses table (codes "list must have an even number of elements")).table name) ≡ true
      go true = by_made (array_with_items items) (λ array is. is) table (array_of table other) refl own
      go false = own

  by_refill : (table : Table) (list : Split) → Stays t name table (refills table other list).table
  by_refill table (split.Bad fault) own = own
  by_refill table (split.Items items) own = go (length items % 2 == 0)
    where
      without : Table
      without = table_with_change array_without_elements table other

      go : (b : Bool) → is_own t (array_of (if b then empty_answer (with_array (array_with_items items) without other) else refuses table (codes "list must have an even number of elements")).table name) ≡ true
      go true =
          by_made (array_with_items items) (λ array is. is) without (array_of without other) refl
          (by_changed array_without_elements (λ array is. is) table (array_of table other) refl own)
      go false = own

  by_unset_here : (table : Table) → Stays t name table (unsets table other (array_of table other))
  by_unset_here table own = by_unset table (array_of table other) refl own

  by_array : (table : Table) (asked : _) (words : List (List ℕ)) → Stays t name table (array_act table asked other words).table
  by_array table asked words own = grind (arith, own, by_unset_here table own, by_fill table, by_refill table)

  by_run : (table : Table) (asked : _) (words : List (List ℕ)) → Stays t name table (usage_answer table asked (other ∷ words)).table
  by_run table asked words own = grind (arith, own, by_move, by_array, by_change)

  by_unhold : (table : Table) (found : Option Array) → array_of table other ≡ found
      → (name ≡ other → (array : Array) → found ≡ Some array → array.depth ≤ 1 → ⊥)
      → Stays t name table (changes_in array_without_hold table other found)
  by_unhold table None is deep own = own
  by_unhold table (Some array) is deep own =
      by_set table (array_without_hold array) (λ same array_with_hold. still t array (deep same array refl) (subst (λ found. is_own t found ≡ true) is array_with_hold)) own

by_asked : (t : ℕ) (name : List ℕ) (table : Table) (asked : Option Asked) → Stays t name table (asked_answer table asked).table
by_asked t name table None own = own
by_asked t name table (Some asked) own = go asked.0 asked.1
  where
    go : (which : _) (words : List (List ℕ)) → is_own t (array_of (usage_answer table which words).table name) ≡ true
    go which [] = grind (arith, own)
    go which (other ∷ words) = by_run t name other table which words own

-- the depth of what an array is held by
abbrev pub IsDeep : Table → (name : List ℕ) → Type 0
IsDeep table name = (array : Array) → array_of table name ≡ Some array → array.depth ≤ 1 → ⊥

by_call : (t : ℕ) (name : List ℕ) (table : Table) (call : TsvCall) → (call ≡ Unhold name → IsDeep table name) → Stays t name table (act table t call).table
by_call t name table (Hold other) deep own = by_made t name other (array_with_hold t) (λ array is. own-hold t array) table (array_of table other) refl own
by_call t name table (Unhold other) deep own = go (is_own t (array_of table other))
  where
    go : (b : Bool) → is_own t (array_of (if b then answers (table_with_change array_without_hold table other) Go else refuses table []).table name) ≡ true
    go true = by_unhold t name other table (array_of table other) refl (λ same. subst (λ one. IsDeep table one) same (deep (ap Unhold (sym same)))) own
    go false = own
by_call t name table (Run words) deep own = by_asked t name table (usage_of_words words) own

-- so it is after a call of its own
pub own_call : (t : ℕ) (name : List ℕ) (table : Table) (call : TsvCall) → (call ≡ Unhold name → IsDeep table name) →
    Stays t name table (table_after table t call)
own_call t name table call deep own = go (waits table t call)
  where
    go : (b : Bool) → is_own t (array_of (if b then table else (act table t call).table) name) ≡ true
    go true = own
    go false = by_call t name table call deep own
