-- A thread that was made begins as its row says.
use Rattle.std.proofs.Common.{◌≡◌, ◌∙◌, ◌-◌, ◌==◌, ℕ, zero, suc, Bool, true, false, List, [], ◌∷◌, ◌++◌, length, drop, map, slice_get, Option, Some, None}
use Rattle.std.proofs.Common.{if◌then◌else◌, append-nil, ap, refl, sym, subst}
use Rattle.laws_shared.proofs.Numbered.{by_number}
use Rattle.tt_calls.specs.Numbers.{at_number}
use Rattle.tt_calls.specs.declared.reply.Reply.{Reply}
use Rattle.tt_machine.specs.Machine.{Thread, new_thread, thread_with_reply, with_new_threads, with_reply}
use Rattle.tt_threads.specs.declared.row.Row.{Row}

-- the row of a thread
pub record HasRow (found : Option Row) (thread : Thread) : Type 0 where
  pub row : Row
  pub is : found ≡ Some row
  pub begins : thread ≡ new_thread row

made_by : (rows : List Row) (i : ℕ) (thread : Thread) → slice_get (map new_thread rows) i ≡ Some thread → HasRow (slice_get rows i) thread
made_by [] i thread there = absurd (cc there)
made_by (row ∷ rows) zero thread there = record { row = row; is = refl; begins = (let is : new_thread row ≡ thread = cc there in sym is) }
made_by (row ∷ rows) (suc i) thread there = made_by rows i thread there

in_place : (threads : List Thread) (rows : List Row) (i : ℕ) (thread : Thread)
    → slice_get (threads ++ map new_thread (drop (length threads) rows)) i ≡ Some thread → slice_get threads i ≡ None
    → HasRow (slice_get rows i) thread
in_place [] rows i thread there none = made_by rows i thread there
in_place (one ∷ threads) rows zero thread there none = absurd (cc none)
in_place (one ∷ threads) [] (suc i) thread there none =
    let both : None ≡ Some thread = sym none ∙ ap (λ (list : List Thread). slice_get list i) (sym (append-nil threads)) ∙ there in
    absurd (cc both)
in_place (one ∷ threads) (row ∷ rows) (suc i) thread there none = in_place threads rows i thread there none

at_new : (threads : List Thread) (rows : List Row) (n : ℕ) (thread : Thread) → at_number (with_new_threads threads rows) n ≡ Some thread
    → at_number threads n ≡ None → HasRow (at_number rows n) thread
at_new threads rows n thread = go (n == 0)
  where
    go : (b : Bool) → (if b then None else slice_get (threads ++ map new_thread (drop (length threads) rows)) (n - 1)) ≡ Some thread
        → (if b then None else slice_get threads (n - 1)) ≡ None → HasRow (if b then None else slice_get rows (n - 1)) thread
    go true there none = absurd (cc there)
    go false there none = in_place threads rows (n - 1) thread there none

module _ (threads : List Thread) (number : ℕ) (reply : Reply) (asking : Thread) (made : at_number threads number ≡ Some asking) where
  none_replied : (t : ℕ) → at_number threads t ≡ None → at_number (with_reply threads number reply) t ≡ None
  none_replied t none =
      rw made
      (by_number (λ (found : Option Thread). found ≡ None) threads number t (thread_with_reply reply asking) asking made
      (λ alike. let both : None ≡ Some asking = sym (subst (λ (n : ℕ). at_number threads n ≡ None) alike none) ∙ made in absurd (cc both)) none)

  -- one that was not there before a step
  pub new_has_row : (rows : List Row) (t : ℕ) (thread : Thread) → at_number (with_new_threads (with_reply threads number reply) rows) t ≡ Some thread
      → at_number threads t ≡ None → HasRow (at_number rows t) thread
  new_has_row rows t thread there none = at_new (with_reply threads number reply) rows t thread there (none_replied t none)
