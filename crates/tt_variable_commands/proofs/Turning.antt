-- Links are made one after the other.
use Rattle.std.proofs.Common.{◌≡◌, ℕ, ◌-◌, ◌<◌, ◌≤◌, List, [], ◌∷◌, Option, Some, None, length, get_or, take, drop, refl, sym, subst, rules, arith}
use Rattle.std.proofs.lemmas.Grind.{common_steps}
use Rattle.tt_vars.specs.Variables.{Name}
use Rattle.tt_store.specs.Held.{Held}
use Rattle.tt_variable_commands.specs.Linking.{Each, none, more, fails, pairs_of}

-- linking those that are left from here comes to the same as linking all
abbrev pub GoesOn : {X : Type 0} → (X → Held → Option (List ℕ) → Held → Type 0) → (left : List X) → Held → (all : List X) → (start : Held) → Type 0
GoesOn Links left held all start =
    (message : Option (List ℕ)) (new : Held) → Each Links left held message new → Each Links all start message new

pub one_more : {X : Type 0} (Links : X → Held → Option (List ℕ) → Held → Type 0) (left rest all : List X) (x : X) (start held next : Held)
    → left ≡ x ∷ rest
    → GoesOn Links left held all start
    → Links x held None next
    → GoesOn Links rest next all start
one_more Links left rest all x start held next is goes links message new later =
    goes message new (subst (λ some. Each Links some held message new) (sym is) (more links later))

pub one_fails : {X : Type 0} (Links : X → Held → Option (List ℕ) → Held → Type 0) (left rest all : List X) (x : X) (told : List ℕ) (start held next : Held)
    → left ≡ x ∷ rest
    → GoesOn Links left held all start
    → Links x held (Some told) next
    → Each Links all start (Some told) next
one_fails Links left rest all x told start held next is goes links =
    goes (Some told) next (subst (λ some. Each Links some held (Some told) next) (sym is) (fails links))

pub all_done : {X : Type 0} (Links : X → Held → Option (List ℕ) → Held → Type 0) (left all : List X) (start held : Held)
    → left ≡ []
    → GoesOn Links left held all start
    → Each Links all start None held
all_done Links left all start held is goes =
    goes None held (subst (λ some. Each Links some held None held) (sym is) none)

-- the first pair, and those after it
pub next_pair : (other local : Name) (names : List Name) →
    2 ≤ length names →
    other ≡ get_or names 0 other →
    local ≡ get_or names 1 local →
    pairs_of names ≡ (other, local) ∷ pairs_of (take (length names - 2) (drop 2 names))
next_pair other local [] long first second = search (rules, long)
next_pair other local (a ∷ []) long first second = search (rules, long)
next_pair other local (a ∷ b ∷ later) long first second = grind (arith, common_steps)

pub no_pair : (names : List Name) → length names < 2 → pairs_of names ≡ []
no_pair [] short = refl
no_pair (a ∷ []) short = refl
no_pair (a ∷ b ∷ later) short = search (rules, short)
