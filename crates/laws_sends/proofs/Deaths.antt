-- What the end of a thread leaves of the posts that it owes.
use Rattle.std.proofs.Common.{◌≡◌, ◌+◌, ◌≤◌, ◌==◌, ◌&&◌, ℕ, Bool, true, false, not, cond, List, [], ◌∷◌, ◌++◌, map, filter, flat_map, if◌then◌else◌}
use Rattle.std.proofs.Common.{refl, arith}
use Rattle.laws_sends.proofs.Numbers.{none_if}
use Rattle.laws_sends.proofs.Totals.{total, total-append, total-le, total-none}
use Rattle.laws_sends.proofs.Views.{answered, ended, filled_at, one_if, one_of, variable_at, waits_at}
use Rattle.laws_sends.proofs.Weights.{total-flat}
use Rattle.laws_shared.specs.Happenings.{Happening, Died, Set, deaths, post_died, post_set, slot_died}
use Rattle.tt_shared.specs.Ends.{hears}
use Rattle.tt_shared.specs.Mail.{is_owed}
use Rattle.tt_shared.specs.Sends.{is_due}
use Rattle.tt_shared.specs.State.{State}
use Rattle.tt_shared.specs.declared.posts.VariablePost.{VariablePost}
use Rattle.tt_slots.specs.Waiting.{is_waiting, put_state, slot_after_end}
use Rattle.tt_slots.specs.declared.slot.Slot.{Slot}
use Rattle.tt_slots.specs.declared.slot.SlotState.TheVariants as slot
use Rattle.tt_threads.specs.declared.row.Row.{Row}

-- ---- weights of what is owed ----

abbrev pub due_at : (t n : ℕ) → ℕ × Slot → ℕ
due_at t n entry = one_of (is_due t entry.1) (entry.0 == n)

abbrev pub owed_at : (t n : ℕ) → ℕ × VariablePost → ℕ
owed_at t n entry = one_of (is_owed t entry.1) (entry.0 == n)

abbrev pub hears_at : List Row → (t n : ℕ) → ℕ × VariablePost → ℕ
hears_at rows t n entry = one_of (hears rows t entry.1) (entry.0 == n)

-- ---- slots ----

abbrev pub after_end_at : ℕ → ℕ × Slot → ℕ × Slot
after_end_at t entry = (entry.0, slot_after_end t entry.1)

one_slot : (t n : ℕ) (entry : ℕ × Slot) → (waits_at n (after_end_at t entry) + due_at t n entry ≡ waits_at n entry)
    × (filled_at n (after_end_at t entry) ≡ filled_at n entry + due_at t n entry)
one_slot t n entry = go (entry.1.target == t) (is_waiting entry.1.state) refl
  where
    changed : Bool → Slot
    changed b = if b then put_state slot.Died entry.1 else entry.1

    go : (mine waits : Bool) → is_waiting entry.1.state ≡ waits
        → (one_of (is_waiting (changed (mine && waits)).state) (entry.0 == n) + one_of (mine && waits) (entry.0 == n) ≡ one_of waits (entry.0 == n))
        × (one_of (not (is_waiting (changed (mine && waits)).state)) (entry.0 == n) ≡ one_of (not waits) (entry.0 == n) + one_of (mine && waits) (entry.0 == n))
    go true true is = (omega arith, omega arith)
    go true false is = (rw is (omega arith), rw is (omega arith))
    go false true is = (rw is (omega arith), rw is (omega arith))
    go false false is = (rw is (omega arith), rw is (omega arith))

pub slots_after : (t n : ℕ) (es : List (ℕ × Slot)) → (total (waits_at n) (map (after_end_at t) es) + total (due_at t n) es ≡ total (waits_at n) es)
    × (total (filled_at n) (map (after_end_at t) es) ≡ total (filled_at n) es + total (due_at t n) es)
slots_after t n [] = (omega arith, omega arith)
slots_after t n (entry ∷ es) =
    let first = one_slot t n entry in
    let later = slots_after t n es in
    (omega (arith, first.0, later.0), omega (arith, first.1, later.1))

-- ---- variables ----

pub variables_after : (t n : ℕ) (es : List (ℕ × VariablePost)) →
    total (variable_at n) (filter (λ entry. not (is_owed t entry.1)) es) + total (owed_at t n) es ≡ total (variable_at n) es
variables_after t n [] = omega arith
variables_after t n (entry ∷ es) = go (is_owed t entry.1) (variables_after t n es)
  where
    rest : List (ℕ × VariablePost)
    rest = filter (λ one. not (is_owed t one.1)) es

    go : (b : Bool) → total (variable_at n) rest + total (owed_at t n) es ≡ total (variable_at n) es
        → total (variable_at n) (cond (not b) (entry ∷ rest) rest) + (one_of b (entry.0 == n) + total (owed_at t n) es) ≡ variable_at n entry + total
        (variable_at n) es
    go true later = omega (arith, later)
    go false later = omega (arith, later)

hears_least : (rows : List Row) (t n : ℕ) (entry : ℕ × VariablePost) → hears_at rows t n entry ≤ owed_at t n entry
hears_least rows t n entry = go (is_owed t entry.1) _
  where
    go : (a b : Bool) → one_of (a && b) (entry.0 == n) ≤ one_of a (entry.0 == n)
    go true true = omega arith
    go true false = omega arith
    go false b = omega arith

-- ---- what happens ----

one_if_weighs : (w : Happening → ℕ) (b c : Bool) (one : Happening) → w one ≡ one_if c → total w (if b then one ∷ [] else []) ≡ one_of b c
one_if_weighs w true c one is = omega (arith, is)
one_if_weighs w false c one is = refl

module _ (state : State) (t n : ℕ) where
  slots : List (ℕ × Slot)
  slots = state.posts.slots.open_slots

  variables : List (ℕ × VariablePost)
  variables = state.posts.variables

  parts : (w : Happening → ℕ) → total w (deaths state t)
      ≡ total w (flat_map (slot_died t) state.posts.slots.open_slots)
      + (total w (flat_map (post_died t) state.posts.variables) + total w (flat_map (post_set state.rows t) state.posts.variables))
  parts w =
      omega (
        arith,
        total-append w (flat_map (slot_died t) state.posts.slots.open_slots)
            (flat_map (post_died t) state.posts.variables ++ flat_map (post_set state.rows t) state.posts.variables),
        total-append w (flat_map (post_died t) state.posts.variables) (flat_map (post_set state.rows t) state.posts.variables),
      )

  pub ended_by : total (ended n) (deaths state t) ≡ total (due_at t n) state.posts.slots.open_slots + total (owed_at t n) state.posts.variables
  ended_by =
      let first = total-flat (ended n) (slot_died t) (due_at t n) (λ entry. one_if_weighs (ended n) (is_due t entry.1) (entry.0 == n) (Died entry.0) refl)
      state.posts.slots.open_slots in
      let second = total-flat (ended n) (post_died t) (owed_at t n) (λ entry. one_if_weighs (ended n) (is_owed t entry.1) (entry.0 == n) (Died entry.0) refl)
      state.posts.variables in
      let third =
      total-flat (ended n) (post_set state.rows t) (λ entry. 0) (λ entry. none_if (ended n) (hears state.rows t entry.1) _ refl) state.posts.variables in
      omega (arith, parts (ended n), first, second, third, total-none (λ entry. 0) (λ entry. refl) state.posts.variables)

  pub answered_by : total (answered n) (deaths state t) ≤ total (owed_at t n) state.posts.variables
  answered_by =
      let first = total-flat (answered n) (slot_died t) (λ entry. 0) (λ entry. none_if (answered n) (is_due t entry.1) _ refl) state.posts.slots.open_slots in
      let second = total-flat (answered n) (post_died t) (λ entry. 0) (λ entry. none_if (answered n) (is_owed t entry.1) _ refl) state.posts.variables in
      let third = total-flat (answered n) (post_set state.rows t) (hears_at state.rows t n)
      (λ entry. one_if_weighs (answered n) (hears state.rows t entry.1) (entry.0 == n) (Set entry.0 entry.1.sender _) refl) state.posts.variables in
      omega (
        arith,
        parts (answered n),
        first,
        second,
        third,
        total-none (λ entry. 0) (λ entry. refl) state.posts.slots.open_slots,
        total-none (λ entry. 0) (λ entry. refl) state.posts.variables,
        total-le (hears_at state.rows t n) (owed_at t n) (hears_least state.rows t n) state.posts.variables,
      )
