-- Which thread stands under a number after a step.
use Rattle.std.proofs.Common.{◌≡◌, ◌≢◌, ◌∙◌, ◌-◌, ◌==◌, ◌⊎◌, ℕ, zero, suc, Bool, true, false, List, [], ◌∷◌, ◌++◌, length, drop, map}
use Rattle.std.proofs.Common.{slice_get, slice_set, Option, Some, None, if◌then◌else◌, refl, sym, subst, inl, inr}
use Rattle.laws_shared.proofs.Deciding.{differs, same}
use Rattle.laws_shared.proofs.Numbered.{by_number, put_here}
use Rattle.tt_calls.specs.Numbers.{at_number}
use Rattle.tt_calls.specs.declared.reply.Reply.{Reply}
use Rattle.tt_machine.specs.Machine.{Thread, new_thread, thread_with_reply, with_new_threads, with_reply}
use Rattle.tt_threads.specs.declared.row.Row.{Row}

-- ---- lists that are put together ----

-- what stands in the second list
record IsNew {X : Type 0} (ys : List X) (x : X) : Type 0 where
  place : ℕ
  there : slice_get ys place ≡ Some x

in_place : {X : Type 0} (xs ys : List X) (i : ℕ) (x : X) → slice_get (xs ++ ys) i ≡ Some x
    → (slice_get xs i ≡ Some x) ⊎ ((slice_get xs i ≡ None) × IsNew ys x)
in_place [] ys i x there = inr (refl, record { place = i; there = there })
in_place (y ∷ xs) ys zero x there = inl there
in_place (y ∷ xs) ys (suc i) x there = in_place xs ys i x there

none_before : {X : Type 0} (xs ys : List X) (i : ℕ) → slice_get (xs ++ ys) i ≡ None → slice_get xs i ≡ None
none_before [] ys i none = refl
none_before (y ∷ xs) ys zero none = none
none_before (y ∷ xs) ys (suc i) none = none_before xs ys i none

in_number : {X : Type 0} (xs ys : List X) (n : ℕ) (x : X) → at_number (xs ++ ys) n ≡ Some x
    → (at_number xs n ≡ Some x) ⊎ ((at_number xs n ≡ None) × IsNew ys x)
in_number {X = X} xs ys n x = go (n == 0)
  where
    go : (b : Bool) → (if b then None else slice_get (xs ++ ys) (n - 1)) ≡ Some x
        → ((if b then None else slice_get xs (n - 1)) ≡ Some x)
        ⊎ (((if b then None else slice_get xs (n - 1)) ≡ None) × IsNew ys x)
    go true there = absurd (cc there)
    go false there = in_place xs ys (n - 1) x there

none_at : {X : Type 0} (xs ys : List X) (n : ℕ) → at_number (xs ++ ys) n ≡ None → at_number xs n ≡ None
none_at xs ys n = go (n == 0)
  where
    go : (b : Bool) → (if b then None else slice_get (xs ++ ys) (n - 1)) ≡ None → (if b then None else slice_get xs (n - 1)) ≡ None
    go true none = none
    go false none = none_before xs ys (n - 1) none

made_by : (rows : List Row) (i : ℕ) (thread : Thread) → slice_get (map new_thread rows) i ≡ Some thread
    → (row : Row) × (thread ≡ new_thread row)
made_by [] i thread there = absurd (cc there)
made_by (row ∷ rows) zero thread there = let is : new_thread row ≡ thread = cc there in (row, sym is)
made_by (row ∷ rows) (suc i) thread there = made_by rows i thread there

-- ---- a reply ----

module _ (threads : List Thread) (number : ℕ) (reply : Reply) (asking : Thread) (made : at_number threads number ≡ Some asking) where
  replied : List Thread
  replied = with_reply threads number reply

  replied_is : with_reply threads number reply ≡ slice_set threads (number - 1) (thread_with_reply reply asking)
  replied_is = rw made refl

  of_others : (t : ℕ) (thread : Thread) → t ≢ number → at_number (with_reply threads number reply) t ≡ Some thread → at_number threads t ≡ Some thread
  of_others t thread other is =
      by_number (λ (found : Option Thread). found ≡ Some thread → at_number threads t ≡ Some thread) threads number t
      (thread_with_reply reply asking) asking made (λ one. absurd (other one)) (λ there. there)
      (subst (λ (list : List Thread). at_number list t ≡ Some thread) replied_is is)

  of_itself : (thread : Thread) → at_number (with_reply threads number reply) number ≡ Some thread → thread ≡ thread_with_reply reply asking
  of_itself thread is =
      let here = put_here threads number (thread_with_reply reply asking) asking made in
      let there = subst (λ (list : List Thread). at_number list number ≡ Some thread) replied_is is in
      let both : Some thread ≡ Some (thread_with_reply reply asking) = sym there ∙ here in
      cc both

  of_none : (t : ℕ) → at_number (with_reply threads number reply) t ≡ None → at_number threads t ≡ None
  of_none t none =
      by_number (λ (found : Option Thread). found ≡ None → at_number threads t ≡ None) threads number t
      (thread_with_reply reply asking) asking made (λ one is. absurd (cc is)) (λ there. there)
      (subst (λ (list : List Thread). at_number list t ≡ None) replied_is none)

  -- a thread after the step: the one that asked, another one, or a new one
  pub data IsAfter (t : ℕ) : Thread → Type 0 where
    answered : t ≡ number → IsAfter t (thread_with_reply reply asking)
    other : {thread : Thread} → t ≢ number → at_number threads t ≡ Some thread → IsAfter t thread
    begun : (row : Row) → at_number threads t ≡ None → IsAfter t (new_thread row)

  pub after_step : (rows : List Row) (t : ℕ) (thread : Thread)
      → at_number (with_new_threads (with_reply threads number reply) rows) t ≡ Some thread → IsAfter t thread
  after_step rows t thread there = go (in_number (with_reply threads number reply) _ t thread there)
    where
      old : (b : Bool) → (t == number) ≡ b → at_number (with_reply threads number reply) t ≡ Some thread → IsAfter t thread
      old true is found =
          let one = same t number is in
          subst (IsAfter t) (sym (of_itself thread (subst (λ (n : ℕ). at_number (with_reply threads number reply) n ≡ Some thread) one found))) (answered one)
      old false is found = let apart = differs t number is in other apart (of_others t thread apart found)

      go : (at_number (with_reply threads number reply) t ≡ Some thread)
          ⊎ ((at_number (with_reply threads number reply) t ≡ None)
          × IsNew (map new_thread (drop (length (with_reply threads number reply)) rows)) thread)
          → IsAfter t thread
      go (inl found) = old (t == number) refl found
      go (inr new) =
          let row = made_by _ new.1.place thread new.1.there in
          subst (IsAfter t) (sym row.1) (begun row.0 (of_none t new.0))

  pub none_after : (rows : List Row) (t : ℕ) → at_number (with_new_threads (with_reply threads number reply) rows) t ≡ None → at_number threads t ≡ None
  none_after rows t none = of_none t (none_at (with_reply threads number reply) _ t none)
