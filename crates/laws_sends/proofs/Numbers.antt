-- Posts draw numbers: each once, and none yet that is to be drawn.
use Rattle.std.proofs.Common.{◌≡◌, ◌+◌, ◌≤◌, ◌==◌, ℕ, Bool, true, false, List, [], ◌∷◌, ◌++◌, if◌then◌else◌, flat_map, ap, refl, sym, subst, arith}
use Rattle.laws_sends.proofs.Moves.{AreWithPost, Move, begins, ends, fills, gets, quiet, sent, sets}
use Rattle.laws_sends.proofs.Totals.{total, total-append, total-none}
use Rattle.laws_sends.proofs.Views.{one_if, posted}
use Rattle.laws_sends.proofs.Weights.{one_most, one_other, others_none, total-flat}
use Rattle.laws_shared.proofs.Deciding.{same}
use Rattle.laws_shared.specs.Happenings.{Happening, Nobody, Posted, Died, Recipient, Set, Variable, Waiting, deaths, post_died, post_set, slot_died}
use Rattle.tt_shared.specs.Ends.{hears}
use Rattle.tt_shared.specs.Mail.{Posts, is_owed}
use Rattle.tt_shared.specs.Sends.{is_due}
use Rattle.tt_shared.specs.State.{State}

pub record Numbers (hs : List Happening) (next : ℕ) : Type 0 where
  pub once : (n : ℕ) → total (posted n) hs ≤ 1
  pub later : (n : ℕ) → next ≤ n → total (posted n) hs ≡ 0

-- ---- what posts nothing ----

pub none_if : (w : Happening → ℕ) (b : Bool) (one : Happening) → w one ≡ 0 → total w (if b then one ∷ [] else []) ≡ 0
none_if w true one is = omega (arith, is)
none_if w false one is = refl

pub deaths_none : (w : Happening → ℕ) (state : State) (t : ℕ) → ((n : ℕ) → w (Died n) ≡ 0)
    → ((n u : ℕ) (value : List ℕ) → w (Set n u value) ≡ 0) → total w (deaths state t) ≡ 0
deaths_none w state t died set =
    let slots = total-flat w (slot_died t) (λ entry. 0) (λ entry. none_if w (is_due t entry.1) _ (died entry.0)) state.posts.slots.open_slots in
    let variables = total-flat w (post_died t) (λ entry. 0) (λ entry. none_if w (is_owed t entry.1) _ (died entry.0)) state.posts.variables in
    let told =
    total-flat w (post_set state.rows t) (λ entry. 0)
    (λ entry. none_if w (hears state.rows t entry.1) _ (set entry.0 entry.1.sender _)) state.posts.variables in
    omega (
      arith,
      total-append w (flat_map (slot_died t) state.posts.slots.open_slots)
          (flat_map (post_died t) state.posts.variables ++ flat_map (post_set state.rows t) state.posts.variables),
      total-append w (flat_map (post_died t) state.posts.variables) (flat_map (post_set state.rows t) state.posts.variables),
      slots,
      variables,
      told,
      total-none (λ entry. 0) (λ entry. refl) state.posts.slots.open_slots,
      total-none (λ entry. 0) (λ entry. refl) state.posts.variables,
    )

-- ---- moves ----

pub next_after : (recipient : Recipient) (old new : Posts) (from to : ℕ) → AreWithPost recipient old new from to → new.next ≡ old.next + 1
next_after Nobody old new from to is = ap (λ p. p.next) is
next_after Waiting old new from to is = ap (λ p. p.next) is
next_after Variable old new from to is = ap (λ p. p.next) is.1

silent : (hs happened : List Happening) (old new : ℕ) → ((n : ℕ) → total (posted n) happened ≡ 0) → new ≡ old → Numbers hs old → Numbers (hs ++ happened) new
silent hs happened old new none is numbers = record {
  once = λ n. omega (arith, total-append (posted n) hs happened, none n, numbers.once n);
  later = λ n above. omega (arith, total-append (posted n) hs happened, none n, numbers.later n (omega (arith, above, is)));
}

drawn : (hs : List Happening) (next : ℕ) (one : Happening) → ((n : ℕ) → posted n one ≡ one_if (next == n)) → Numbers hs next
    → Numbers (hs ++ one ∷ []) (next + 1)
drawn hs next one is numbers = record {
  once = λ n. go n (next == n) refl;
  later = λ n above.
      let other : one_if (next == n) ≡ 0 = one_other next n (λ alike. omega (arith, alike, above)) in
      omega (arith, total-append (posted n) hs (one ∷ []), is n, other, numbers.later n (omega (arith, above)));
}
  where
    go : (n : ℕ) (b : Bool) → (next == n) ≡ b → total (posted n) (hs ++ one ∷ []) ≤ 1
    go n true here =
        let none : total (posted n) hs ≡ 0 = numbers.later n (omega (arith, same next n here)) in
        omega (arith, total-append (posted n) hs (one ∷ []), is n, none, one_most (next == n))
    go n false here =
        let not_it : one_if (next == n) ≡ 0 = ap one_if here in
        omega (arith, total-append (posted n) hs (one ∷ []), is n, not_it, numbers.once n)

pub numbers_on : (hs : List Happening) (old new : State) (happened : List Happening) → Move old new happened → Numbers hs old.posts.next
    → Numbers (hs ++ happened) new.posts.next
numbers_on hs old new _ (quiet happened others scripts is rows) numbers =
    silent hs happened old.posts.next new.posts.next (λ n. others_none (posted n) (λ lock u. refl) (λ lock u. refl) (λ channel owner. refl) happened others)
    (ap (λ p. p.next) is) numbers
numbers_on hs old new _ (sent from to recipient head but is rows) numbers =
    subst (λ next. Numbers (hs ++ Posted old.posts.next from to recipient head ∷ []) next) (sym (next_after recipient old.posts new.posts from to is))
    (drawn hs old.posts.next (Posted old.posts.next from to recipient head) (λ n. refl) numbers)
numbers_on hs old new _ (begins n t rest there but lives is rows) numbers =
    silent hs _ old.posts.next new.posts.next (λ k. omega arith) (ap (λ p. p.next) is) numbers
numbers_on hs old new _ (fills n outcome slot there waits queues is rows) numbers =
    silent hs _ old.posts.next new.posts.next (λ k. omega arith) (ap (λ p. p.next) is) numbers
numbers_on hs old new _ (sets n outcome post told there scripts is rows) numbers =
    silent hs _ old.posts.next new.posts.next (λ k. omega (arith, none_if (posted k) told (Set n post.sender outcome.value) refl)) (ap (λ p. p.next) is) numbers
numbers_on hs old new _ (gets n t slot told there mine fits queues is rows) numbers =
    silent hs _ old.posts.next new.posts.next (λ k. omega arith) (ap (λ p. p.next) is) numbers
numbers_on hs old new _ (ends t but is has_ended rows) numbers =
    silent hs _ old.posts.next new.posts.next (λ k. deaths_none (posted k) old t (λ m. refl) (λ m u value. refl)) (ap (λ p. p.next) is) numbers
