-- A post comes to its end once, and is answered once after that.
use Rattle.std.proofs.Common.{◌≡◌, ◌+◌, ◌≤◌, ◌==◌, ℕ, Bool, true, false, not, List, [], ◌∷◌, ◌++◌, Some, if◌then◌else◌, ap, refl, arith}
use Rattle.std.specs.BTreeMap.{is_at}
use Rattle.std.specs.Map.{remove_entry}
use Rattle.std.specs.Ordering.{nat_cmp}
use Rattle.laws_sends.proofs.Deaths.{answered_by, ended_by, slots_after, variables_after}
use Rattle.laws_sends.proofs.Entries.{total-insert, total-remove, total-set}
use Rattle.laws_sends.proofs.Moves.{Answers, AreWithPost, Move, begins, died, ends, fills, gets, quiet, result, sent, sets}
use Rattle.laws_sends.proofs.Totals.{total, total-append}
use Rattle.laws_sends.proofs.Views.{answered, ended, filled_at, one_if, one_of, posted, variable_at, waits_at}
use Rattle.laws_sends.proofs.Weights.{others_none}
use Rattle.laws_shared.specs.Happenings.{Finished, Got, Happening, Nobody, Posted, Recipient, Set, Variable, Waiting, deaths}
use Rattle.tt_calls.specs.declared.outcome.Outcome.{Outcome}
use Rattle.tt_calls.specs.declared.reply.Reply.{Reply}
use Rattle.tt_shared.specs.Mail.{Posts, posts_after, variable_post, without_variable}
use Rattle.tt_shared.specs.State.{State}
use Rattle.tt_shared.specs.declared.posts.VariablePost.{VariablePost}
use Rattle.tt_slots.specs.Waiting.{after_take, is_waiting, new_slot, put_state, slot_of, with_state, with_state_at}
use Rattle.tt_slots.specs.declared.slot.Slot.{Slot}
use Rattle.tt_slots.specs.declared.slot.SlotState.{SlotState}
use Rattle.tt_slots.specs.declared.slot.SlotState.TheVariants as slot

-- who waits for the end of a post, and what is filled and was not got
abbrev pub unended : ℕ → Posts → ℕ
unended n posts = total (waits_at n) posts.slots.open_slots + total (variable_at n) posts.variables

abbrev pub filled : ℕ → Posts → ℕ
filled n posts = total (filled_at n) posts.slots.open_slots

pub record Once (hs : List Happening) (posts : Posts) : Type 0 where
  pub ends_once : (n : ℕ) → total (ended n) hs + unended n posts ≤ total (posted n) hs
  pub answers_once : (n : ℕ) → total (answered n) hs + filled n posts ≤ total (ended n) hs

-- what a move adds
record Adds (old new : Posts) (happened : List Happening) : Type 0 where
  ending : (n : ℕ) → total (ended n) happened + unended n new ≤ unended n old + total (posted n) happened
  answering : (n : ℕ) → total (answered n) happened + filled n new ≤ filled n old + total (ended n) happened

-- ---- moves ----

same_posts : (old new : Posts) (happened : List Happening) → new ≡ old → ((n : ℕ) → total (ended n) happened ≡ 0) → ((n : ℕ) → total (answered n) happened ≡ 0)
    → Adds old new happened
same_posts old new happened is none nobody = record {
  ending = λ n. omega (arith, none n, ap (unended n) is);
  answering = λ n. omega (arith, nobody n, none n, ap (filled n) is);
}

by_post : (recipient : Recipient) (old new : Posts) (from to : ℕ) (head : Bool) → AreWithPost recipient old new from to →
    Adds old new (Posted old.next from to recipient head ∷ [])
by_post Nobody old new from to head is = record {
  ending = λ n. omega (arith, ap (unended n) is);
  answering = λ n. omega (arith, ap (filled n) is);
}
by_post Waiting old new from to head is = record {
  ending = λ n. omega (arith, ap (unended n) is, total-insert (waits_at n) old.slots.open_slots old.next (new_slot from to));
  answering = λ n. omega (arith, ap (filled n) is, total-insert (filled_at n) old.slots.open_slots old.next (new_slot from to));
}
by_post Variable old new from to head (name, is) = record {
  ending = λ n.
      omega (arith, ap (unended n) is, total-insert (variable_at n) old.variables old.next (record { sender = from; target = to; name = name }));
  answering = λ n. omega (arith, ap (filled n) is);
}

by_fill : (old new : Posts) (n : ℕ) (outcome : Outcome) (found : Slot) → slot_of old.slots n ≡ Some found → is_waiting found.state ≡ true
    → new ≡ record old { slots = with_state old.slots n (slot.Result outcome) }
    → Adds old new (Finished n outcome ∷ [])
by_fill old new n outcome found there waits is = record {
  ending = λ k.
      let put = total-set (waits_at k) n old.slots.open_slots found filling there in
      omega (arith, ap (unended k) is, slots (waits_at k), ap (λ b. one_of b (n == k)) waits, put);
  answering = λ k.
      let put = total-set (filled_at k) n old.slots.open_slots found filling there in
      omega (arith, ap (filled k) is, slots (filled_at k), ap (λ b. one_of (not b) (n == k)) waits, put);
}
  where
    filling : Slot
    filling = put_state (slot.Result outcome) found

    slots : (w : ℕ × Slot → ℕ) → total w (with_state old.slots n (slot.Result outcome)).open_slots
        ≡ total w (with_state_at old.slots n (slot.Result outcome) (Some found)).open_slots
    slots w = ap (λ one. total w (with_state_at old.slots n (slot.Result outcome) one).open_slots) there

told_once : (n k t : ℕ) (outcome : Outcome) (value : List ℕ) (b : Bool) →
    (total (ended k) (Finished n outcome ∷ (if b then Set n t value ∷ [] else [])) ≡ one_if (n == k))
    × (total (answered k) (Finished n outcome ∷ (if b then Set n t value ∷ [] else [])) ≤ one_if (n == k))
    × (total (posted k) (Finished n outcome ∷ (if b then Set n t value ∷ [] else [])) ≡ 0)
told_once n k t outcome value true = (omega arith, omega arith, omega arith)
told_once n k t outcome value false = (omega arith, omega arith, omega arith)

by_set : (old new : Posts) (n : ℕ) (outcome : Outcome) (post : VariablePost) (hears : Bool) → variable_post old n ≡ Some post → new ≡ without_variable old n
    → Adds old new (Finished n outcome ∷ (if hears then Set n post.sender outcome.value ∷ [] else []))
by_set old new n outcome post hears there is = record {
  ending = λ k.
      let once = told_once n k post.sender outcome outcome.value hears in
      omega (arith, ap (unended k) is, once.0, once.2, total-remove (variable_at k) n old.variables post there);
  answering = λ k.
      let once = told_once n k post.sender outcome outcome.value hears in
      omega (arith, ap (filled k) is, once.0, once.1);
}

by_get : (old new : Posts) (n t : ℕ) (found : Slot) (told : Reply) → slot_of old.slots n ≡ Some found → Answers found.state told
    → new ≡ record old { slots = after_take old.slots n found.state } → Adds old new (Got n t told ∷ [])
by_get old new n t found told there fits is = go found.state refl told fits
  where
    closed : ((w : ℕ × Slot → ℕ) → total w (after_take old.slots n found.state).open_slots ≡ total w (remove_entry (is_at (nat_cmp n)) old.slots.open_slots))
        → is_waiting found.state ≡ false → (said : Reply) → Adds old new (Got n t said ∷ [])
    closed left filling said = record {
      ending = λ k. omega (arith, ap (unended k) is, left (waits_at k), total-remove (waits_at k) n old.slots.open_slots found there);
      answering = λ k.
          let not_waiting = ap (λ b. one_of (not b) (n == k)) filling in
          omega (arith, ap (filled k) is, left (filled_at k), total-remove (filled_at k) n old.slots.open_slots found there, not_waiting);
    }

    go : (state : SlotState) → found.state ≡ state → (said : Reply) → Answers state said → Adds old new (Got n t said ∷ [])
    go slot.Waiting at said is = elim is [ ]
    go (slot.Result outcome) at said (result _) = closed (λ w. ap (λ one. total w (after_take old.slots n one).open_slots) at) (ap is_waiting at) said
    go slot.Died at said died = closed (λ w. ap (λ one. total w (after_take old.slots n one).open_slots) at) (ap is_waiting at) said

by_end : (old new : State) (t : ℕ) → new.posts ≡ posts_after old.posts t → Adds old.posts new.posts (deaths old t)
by_end old new t is = record {
  ending = λ n.
      omega (
        arith,
        ap (unended n) is,
        ended_by old t n,
        (slots_after t n old.posts.slots.open_slots).0,
        variables_after t n old.posts.variables,
      );
  answering = λ n.
      omega (arith, ap (filled n) is, ended_by old t n, answered_by old t n, (slots_after t n old.posts.slots.open_slots).1);
}

adds : (old new : State) (happened : List Happening) → Move old new happened → Adds old.posts new.posts happened
adds old new _ (quiet happened others scripts is rows) =
    same_posts old.posts new.posts happened is (λ n. others_none (ended n) (λ lock u. refl) (λ lock u. refl) (λ channel owner. refl) happened others)
    (λ n. others_none (answered n) (λ lock u. refl) (λ lock u. refl) (λ channel owner. refl) happened others)
adds old new _ (sent from to recipient head but is rows) = by_post recipient old.posts new.posts from to head is
adds old new _ (begins n t rest there but lives is rows) = same_posts old.posts new.posts _ is (λ k. omega arith) (λ k. omega arith)
adds old new _ (fills n outcome found there waits queues is rows) = by_fill old.posts new.posts n outcome found there waits is
adds old new _ (sets n outcome post told there scripts is rows) = by_set old.posts new.posts n outcome post told there is
adds old new _ (gets n t found told there mine fits queues is rows) = by_get old.posts new.posts n t found told there fits is
adds old new _ (ends t but is ended rows) = by_end old new t is

pub once_on : (hs : List Happening) (old new : State) (happened : List Happening) → Move old new happened → Once hs old.posts → Once (hs ++ happened) new.posts
once_on hs old new happened move once =
    let more = adds old new happened move in
    record {
      ends_once = λ n.
          omega (arith, total-append (ended n) hs happened, total-append (posted n) hs happened, once.ends_once n, more.ending n);
      answers_once = λ n.
          omega (arith, total-append (answered n) hs happened, total-append (ended n) hs happened, once.answers_once n, more.answering n);
    }
