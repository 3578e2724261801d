-- Texts are given to variables one after the other.
use Rattle.std.proofs.Common.{◌≡◌, ℕ, ◌+◌, ◌<◌, ◌≤◌, List, Option, Some, None, length, get_or, drop, sym, subst}
use Rattle.std.proofs.lemmas.List.{drop_all}
use Rattle.tt_store.specs.Held.{Held}
use Rattle.tt_store.specs.Listed.{Assigns, AssignsOne, first_of, names_with_items, none, more, fails}
use Rattle.tt_store.proofs.Unsetting.{next-left}

abbrev pub GoesOn : List (List ℕ) → List (List ℕ) → Held → List (List ℕ) → List (List ℕ) → Held → Type 0
GoesOn left items held names all start =
    (message : Option (List ℕ)) (new : Held) → Assigns (names_with_items left items) held message new → Assigns (names_with_items names all) start message new

pub one_more : (names : List (List ℕ)) (i : ℕ) (name item : List ℕ) (items rest all : List (List ℕ)) (start held next : Held)
    → i < length names → name ≡ get_or names i name
    → item ≡ first_of items → rest ≡ drop 1 items
    → GoesOn (drop i names) items held names all start
    → AssignsOne name item held None next
    → GoesOn (drop (i + 1) names) rest next names all start
one_more names i name item items rest all start held next within is first later goes gives message new done =
    goes message new (subst (λ left. Assigns (names_with_items left items) held message new) (sym (next-left names i name within is))
    (more (subst (λ text. AssignsOne name text held None next) first gives)
    (subst (λ texts. Assigns (names_with_items (drop (i + 1) names) texts) next message new) later done)))

pub one_fails : (names : List (List ℕ)) (i : ℕ) (name item : List ℕ) (items all : List (List ℕ)) (told : List ℕ) (start held next : Held)
    → i < length names → name ≡ get_or names i name
    → item ≡ first_of items
    → GoesOn (drop i names) items held names all start
    → AssignsOne name item held (Some told) next
    → Assigns (names_with_items names all) start (Some told) next
one_fails names i name item items all told start held next within is first goes gives =
    goes (Some told) next (subst (λ left. Assigns (names_with_items left items) held (Some told) next) (sym (next-left names i name within is))
    (fails (subst (λ text. AssignsOne name text held (Some told) next) first gives)))

pub all_done : (names : List (List ℕ)) (i : ℕ) (items all : List (List ℕ)) (start held : Held)
    → length names ≤ i
    → GoesOn (drop i names) items held names all start
    → Assigns (names_with_items names all) start None held
all_done names i items all start held past goes =
    goes None held (subst (λ left. Assigns (names_with_items left items) held None held) (sym (drop_all i names past)) none)
