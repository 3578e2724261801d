-- Who waits for the answer to a send waits on until the thread that is to answer does so, or ends.
use Rattle.std.proofs.Common.{◌≡◌, ◌≢◌, ◌∙◌, ◌+◌, ◌<◌, ◌==◌, ◌&&◌, ℕ, suc, Bool, true, false, not, cond, if◌then◌else◌, List, [], ◌∷◌}
use Rattle.std.proofs.Common.{map, Option, Some, None, option_map, option_to_list, refl, ap, sym, subst, arith}
use Rattle.std.proofs.lemmas.Bool.Decides.{nat_tests}
use Rattle.std.specs.List.{Contains}
use Rattle.std.specs.Map.{remove_entry}
use Rattle.laws_caught.proofs.Arrays.{in_none}
use Rattle.laws_caught.proofs.Ended.{lives_on, one_of}
use Rattle.laws_caught.proofs.Numbers.{is_number, at_insert, at_map, at_remove, at_set}
use Rattle.laws_caught.proofs.Posts.{by_posts}
use Rattle.laws_caught.specs.WaitLaws.{AnswerWaitLaw}
use Rattle.laws_sends.proofs.Cuts.{Every, every-on}
use Rattle.laws_sends.proofs.Entries.{every-at, every-insert, every-remove, every-set}
use Rattle.laws_shared.proofs.Deciding as deciding
use Rattle.laws_shared.specs.Actions.{Action, Acts, Reached, after, more, none}
use Rattle.laws_shared.specs.Orderly.{later}
use Rattle.tt_calls.specs.declared.outcome.Outcome.{Outcome}
use Rattle.tt_calls.specs.declared.request.Mode.{Mode}
use Rattle.tt_calls.specs.declared.request.Mode.TheVariants.{Waits, Later}
use Rattle.tt_shared.specs.Blocking.{target_in}
use Rattle.tt_shared.specs.Enabled.{is_own_waiting}
use Rattle.tt_shared.specs.Mail.{Posts, posts_after, posts_with_next, with_plain, without_variable}
use Rattle.tt_shared.specs.Sends.{is_due}
use Rattle.tt_shared.specs.State.{State, start_state}
use Rattle.tt_slots.specs.Waiting.{after_take, is_waiting, new_slot, put_state, slot_after_end, slot_of, with_state, with_state_at}
use Rattle.tt_slots.specs.declared.slot.Slot.{Slot}
use Rattle.tt_slots.specs.declared.slot.SlotState.{SlotState}
use Rattle.tt_slots.specs.declared.slot.SlotState.TheVariants as slot

-- ---- the numbers of slots are below the next one ----

abbrev IsBelow : ℕ → ℕ × Slot → Type 0
IsBelow next entry = entry.0 < next

abbrev AreBelow : Posts → Type 0
AreBelow posts = Every (IsBelow posts.next) posts.slots.open_slots

up_one : (next : ℕ) (es : List (ℕ × Slot)) → Every (IsBelow next) es → Every (IsBelow (next + 1)) es
up_one next es every = every-on (IsBelow next) (IsBelow (next + 1)) (λ entry is. omega (arith, is)) es every

below_more : (posts : Posts) (t target : ℕ) (mode : Mode) (variable : Option (List ℕ)) → AreBelow posts → AreBelow (posts_with_next posts t target mode variable)
below_more posts t target Waits variable below =
    every-insert (IsBelow (posts.next + 1)) posts.slots.open_slots posts.next (new_slot t target) (up_one posts.next posts.slots.open_slots below) (omega arith)
below_more posts t target Later None below = up_one posts.next posts.slots.open_slots below
below_more posts t target Later (Some name) below = up_one posts.next posts.slots.open_slots below

below_taken : (posts : Posts) (n : ℕ) (state : SlotState) → AreBelow posts → AreBelow (record posts { slots = after_take posts.slots n state })
below_taken posts n slot.Waiting below = below
below_taken posts n (slot.Result outcome) below = every-remove (IsBelow posts.next) n posts.slots.open_slots below
below_taken posts n slot.Died below = every-remove (IsBelow posts.next) n posts.slots.open_slots below

below_filled : (posts : Posts) (n : ℕ) (outcome : Outcome) (found : Slot) → slot_of posts.slots n ≡ Some found → AreBelow posts →
    AreBelow (record posts { slots = with_state posts.slots n (slot.Result outcome) })
below_filled posts n outcome found there below =
    let low : n < posts.next = every-at (IsBelow posts.next) n posts.slots.open_slots found below there in
    subst (λ one. Every (IsBelow posts.next) (with_state_at posts.slots n (slot.Result outcome) one).open_slots) (sym there)
    (every-set (IsBelow posts.next) n posts.slots.open_slots (put_state (slot.Result outcome) found) below low)

below_ended : (next t : ℕ) (es : List (ℕ × Slot)) → Every (IsBelow next) es → Every (IsBelow next) (map (λ entry. (entry.0, slot_after_end t entry.1)) es)
below_ended next t [] below = tt
below_ended next t (e ∷ es) below = (below.0, below_ended next t es below.1)

below_after : (state : State) (action : Action) → AreBelow state.posts → AreBelow (after state action).posts
below_after state action below =
    by_posts AreBelow state action.thread below (λ target mode variable. below_more state.posts action.thread target mode variable below)
    (λ posts is. up_one posts.next posts.slots.open_slots is) (λ n found there own. below_taken state.posts n found.state below)
    (λ n outcome found there due. below_filled state.posts n outcome found there below) (λ n. below)
    (below_ended state.posts.next action.thread state.posts.slots.open_slots below) action.request action.line

below_along : (old new : State) (actions : List Action) → AreBelow old.posts → Acts old actions new → AreBelow new.posts
below_along old new [] below none = below
below_along old new (action ∷ actions) below (more can rest) = below_along (after old action) new actions (below_after old action below) rest

reached_below : (state : State) → Reached state → AreBelow state.posts
reached_below state reached = below_along (start_state reached.main) state reached.actions tt reached.acts

-- ---- a slot stays ----

record Stays (n : ℕ) (found : Slot) (posts : Posts) : Type 0 where
  low : n < posts.next
  there : slot_of posts.slots n ≡ Some found

both_true : (a b : Bool) → (a && b) ≡ true → (a ≡ true) × (b ≡ true)
both_true true b is = (refl, is)
both_true false b is = absurd (cc is)

module _ (n t u other : ℕ) (found : Slot) (mine : found.sender ≡ t) (theirs : found.target ≡ u) (not_t : other ≢ t) (not_u : other ≢ u) where
  stays_more : (posts : Posts) (target : ℕ) (mode : Mode) (variable : Option (List ℕ)) → Stays n found posts →
      Stays n found (posts_with_next posts other target mode variable)
  stays_more posts target Waits variable is = record {
    low = let low = is.low in omega (arith, low);
    there = at_insert n posts.next posts.slots.open_slots (new_slot other target) (λ same. let low = is.low in omega (arith, low, same)) ∙ is.there;
  }
  stays_more posts target Later None is = record { low = let low = is.low in omega (arith, low); there = is.there }
  stays_more posts target Later (Some name) is = record { low = let low = is.low in omega (arith, low); there = is.there }

  stays_plain : (posts : Posts) → Stays n found posts → Stays n found (with_plain posts)
  stays_plain posts is = record { low = let low = is.low in omega (arith, low); there = is.there }

  -- another thread gets the answer of another slot
  stays_taken : (posts : Posts) (m : ℕ) (one : Slot) → slot_of posts.slots m ≡ Some one → (one.sender == other) ≡ true → Stays n found posts →
      Stays n found (record posts { slots = after_take posts.slots m one.state })
  stays_taken posts m one there own is = go one.state
    where
      apart : m ≢ n
      apart same =
          let alike : Some one ≡ Some found = sym there ∙ ap (slot_of posts.slots) same ∙ is.there in
          let slots : one ≡ found = cc alike in
          not_t (sym (deciding.same one.sender other own) ∙ ap (λ (s : Slot). s.sender) slots ∙ mine)

      removed : Stays n found (record posts { slots = record posts.slots { open_slots = remove_entry (is_number m) posts.slots.open_slots } })
      removed = record { low = is.low; there = at_remove n m posts.slots.open_slots apart ∙ is.there }

      go : (state : SlotState) → Stays n found (record posts { slots = after_take posts.slots m state })
      go slot.Waiting = is
      go (slot.Result outcome) = removed
      go slot.Died = removed

  -- another thread answers another slot
  stays_filled : (posts : Posts) (m : ℕ) (outcome : Outcome) (one : Slot) → slot_of posts.slots m ≡ Some one → is_due other one ≡ true → Stays n found posts →
      Stays n found (record posts { slots = with_state posts.slots m (slot.Result outcome) })
  stays_filled posts m outcome one there due is = record {
    low = is.low;
    there =
        subst (λ old. slot_of (with_state_at posts.slots m (slot.Result outcome) old) n ≡ Some found) (sym there)
        (at_set n m posts.slots.open_slots (put_state (slot.Result outcome) one) apart ∙ is.there);
  }
    where
      apart : m ≢ n
      apart same =
          let alike : Some one ≡ Some found = sym there ∙ ap (slot_of posts.slots) same ∙ is.there in
          let slots : one ≡ found = cc alike in
          not_u (sym (deciding.same one.target other (both_true _ _ due).0) ∙ ap (λ (s : Slot). s.target) slots ∙ theirs)

  -- another thread ends
  stays_ended : (posts : Posts) → Stays n found posts → Stays n found (posts_after posts other)
  stays_ended posts is = record {
    low = is.low;
    there = at_map n (slot_after_end other) posts.slots.open_slots ∙ ap (option_map (slot_after_end other)) is.there ∙ ap Some same;
  }
    where
      not_theirs : (found.target == other) ≡ false
      not_theirs = deciding.apart found.target other (λ is. not_u (sym is ∙ theirs))

      same : slot_after_end other found ≡ found
      same = ap (λ b. if b && is_waiting found.state then put_state slot.Died found else found) not_theirs

-- ---- the wait for it ----

record IsAwaited (t u : ℕ) (found : Option Slot) : Type 0 where
  one : Slot
  there : found ≡ Some one
  mine : one.sender ≡ t
  theirs : one.target ≡ u
  waits : is_own_waiting t (Some one) ≡ true

unwaited : (b : Bool) → not b ≡ false → b ≡ true
unwaited true is = refl
unwaited false is = absurd (cc is)

awaited : (t u : ℕ) (found : Option Slot) → is_own_waiting t found ≡ true → Contains (option_to_list (target_in found)) u → IsAwaited t u found
awaited t u None waits named = absurd (cc waits)
awaited t u (Some one) waits named = record {
  one = one;
  there = refl;
  mine = deciding.same one.sender t (both_true (one.sender == t) (is_waiting one.state) waits).0;
  theirs = one_of one.target u named;
  waits = waits;
}

pub answer_wait : AnswerWaitLaw
answer_wait n moment t u reached can small not_t not_u waits = record {
  lives = lives_on moment t not_t waits.lives;
  not_enabled = ap (λ found. not (is_own_waiting t found)) still.there ∙ ap not was.waits;
  other_lives = lives_on moment u not_u waits.other_lives;
  named =
      subst (λ found. Contains (option_to_list (target_in found)) u) (sym still.there)
      (subst (λ one. Contains (one ∷ []) u) (sym was.theirs) (0, omega arith, refl));
}
  where
    was : IsAwaited t u (slot_of moment.before.posts.slots n)
    was = awaited t u (slot_of moment.before.posts.slots n) (unwaited _ waits.not_enabled) waits.named

    low : n < moment.before.posts.next
    low = every-at (IsBelow moment.before.posts.next) n moment.before.posts.slots.open_slots was.one (reached_below moment.before reached) was.there

    before : Stays n was.one moment.before.posts
    before = record { low = low; there = was.there }

    still : Stays n was.one (later moment).posts
    still =
        by_posts (Stays n was.one) moment.before moment.action.thread before
        (λ target mode variable. stays_more n t u moment.action.thread was.one was.mine was.theirs not_t not_u moment.before.posts target mode variable before)
        (λ posts is. stays_plain n t u moment.action.thread was.one was.mine was.theirs not_t not_u posts is)
        (λ m one there own. stays_taken n t u moment.action.thread was.one was.mine was.theirs not_t not_u moment.before.posts m one there own before)
        (λ m outcome one there due.
        stays_filled n t u moment.action.thread was.one was.mine was.theirs not_t not_u moment.before.posts m outcome one there due before)
        (λ m. record { low = low; there = was.there })
        (stays_ended n t u moment.action.thread was.one was.mine was.theirs not_t not_u moment.before.posts before) moment.action.request moment.action.line
