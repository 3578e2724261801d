-- What a move makes happen comes after what it must.
use Rattle.std.proofs.Common.{◌≡◌, ◌∙◌, ◌+◌, ◌<◌, ◌==◌, ◌&&◌, ℕ, zero, suc, Bool, true, false, List, [], ◌∷◌, ◌++◌, Contains}
use Rattle.std.proofs.Common.{codes, flat_map, if◌then◌else◌, ap, refl, sym, subst, append_assoc, append-nil, arith}
use Rattle.std.proofs.lemmas.List.Elements.{Contains-append_left, Contains-append_right, Contains-push}
use Rattle.laws_sends.proofs.Begins.{Counted}
use Rattle.laws_sends.proofs.Cuts.{Along, Every, along-append, every-append}
use Rattle.laws_sends.proofs.Entries.{every-at}
use Rattle.laws_sends.proofs.Moves.{Answers, Move, begins, died, ends, fills, gets, quiet, result, sent, sets}
use Rattle.laws_sends.proofs.Order.{InOrder, Ordered}
use Rattle.laws_sends.proofs.Slots.{HasCome, SlotTrue, VariableTrue, Waits, asked_on, variable_dies}
use Rattle.laws_sends.proofs.Totals.{total}
use Rattle.laws_sends.proofs.Views.{OfOthers, at_tail, begun_by, has_ended, is_number, one_if, one_of, posted_to, scripts_at, times}
use Rattle.laws_sends.proofs.Weights.{counts, has_begun, is_posted, one_other, one_same, first_of, later_of}
use Rattle.laws_shared.proofs.Deciding.{itself}
use Rattle.laws_sends.specs.Sends as spec
use Rattle.laws_sends.specs.Sends.{AnswersVariable, AnswersWaiting, BeginsInTurn, ComesAfter, IsAskedBy, IsAtTail, IsReply, IsValue}
use Rattle.laws_shared.specs.Happenings.{Began, Died, Finished, Frees, GetsHold, Got, Happening, Owner, Posted, Set, Variable, Waiting, deaths, post_died}
use Rattle.laws_shared.specs.Happenings.{post_set, slot_died}
use Rattle.tt_calls.specs.declared.reply.Reply.{Reply}
use Rattle.tt_shared.specs.Ends.{hears}
use Rattle.tt_shared.specs.Mail.{is_owed}
use Rattle.tt_shared.specs.Sends.{is_due}
use Rattle.tt_shared.specs.State.{State}
use Rattle.tt_shared.specs.declared.posts.VariablePost.{VariablePost}
use Rattle.tt_slots.specs.declared.slot.Slot.{Slot}
use Rattle.tt_slots.specs.declared.slot.SlotState.{SlotState}
use Rattle.tt_slots.specs.declared.slot.SlotState.TheVariants as slot
use Rattle.tt_threads.specs.declared.row.Row.{Row}

-- what comes after these, whatever else has happened
abbrev pub Whenever : List Happening → Happening → Type 0
Whenever seen one = (more : List Happening) → ComesAfter (seen ++ more) one

whenever : (seen xs : List Happening) → Every (Whenever seen) xs → Along ComesAfter seen xs
whenever seen [] every = tt
whenever seen (x ∷ xs) every =
    (subst (λ s. ComesAfter s x) (append-nil seen) (every.0 []), whenever (seen ++ x ∷ []) xs (on xs every.1))
  where
    on : (ys : List Happening) → Every (Whenever seen) ys → Every (Whenever (seen ++ x ∷ [])) ys
    on [] every = tt
    on (y ∷ ys) every = (λ more. subst (λ s. ComesAfter s y) (sym (append_assoc seen (x ∷ []) more)) (every.0 (x ∷ more)), on ys every.1)

-- ---- a script that begins ----

tail_counts : (hs : List Happening) (n t : ℕ) → IsAtTail hs n t → (0 < total (at_tail n) hs) × (0 < total (posted_to n t) hs)
tail_counts hs n t is =
    let tail = counts (at_tail n) hs _ is.posted in
    let to = counts (posted_to n t) hs _ is.posted in
    let one : one_if (n == n) ≡ 1 = one_same n n refl in
    let mine : one_of (t == t) (n == n) ≡ 1 = ap (λ b. one_of b (n == n)) (itself t) ∙ one in
    (omega (arith, tail, one), omega (arith, to, mine))

pub begins_after : (hs : List Happening) (state : State) (n t : ℕ) (rest : List ℕ) → Counted hs state → Ordered hs state →
    scripts_at state.queues t ≡ n ∷ rest
    → has_ended state.rows t ≡ false → BeginsInTurn hs n t
begins_after hs state n t rest counted ordered there lives = record {
  posted = is_posted n t hs (omega (arith, counted.most n t, ap (times n) there, one_same n n refl));
  in_order = λ k first second less. go k first second less (total (begun_by k t) hs) refl;
}
  where
    order : InOrder hs (n ∷ rest)
    order = subst (InOrder hs) there (ordered t)

    go : (k : ℕ) → IsAtTail hs n t → IsAtTail hs k t → k < n → (b : ℕ) → total (begun_by k t) hs ≡ b → Contains hs (Began k t)
    go k first second less (suc b) is = has_begun k t hs (omega (arith, is))
    go k first second less zero is =
        let queue : times k (scripts_at state.queues t) ≡ is_number k n + times k rest = ap (times k) there in
        let not_it : one_if (n == k) ≡ 0 = one_other n k (λ same. omega (arith, same, less)) in
        let in_rest : 0 < times k rest = omega (arith, counted.all k t lives, (tail_counts hs k t second).1, is, queue, not_it) in
        let above : n < k = order.0 k in_rest (tail_counts hs n t first).0 (tail_counts hs k t second).0 in
        let no : ⊥ = omega (arith, above, less) in
        absurd no

-- ---- answers ----

gets_after : (hs : List Happening) (n t : ℕ) (found : Slot) (told : Reply) → SlotTrue hs (n, found) → found.sender ≡ t → Answers found.state told
    → AnswersWaiting hs n t told
gets_after hs n t found told is mine fits = record {
  asked = subst (λ u. IsAskedBy hs n u Waiting) mine is.asked;
  is = go found.state told fits is.come;
}
  where
    go : (state : SlotState) (said : Reply) → Answers state said → HasCome hs n state → IsReply hs n said
    go slot.Waiting said fits come = elim fits [ ]
    go (slot.Result outcome) _ (result _) come = spec.IsReply.finished outcome come
    go slot.Died _ died come = spec.IsReply.died come

set_after : (hs : List Happening) (n : ℕ) (outcome : _) (post : VariablePost) (told : Bool) → VariableTrue hs (n, post)
    → Along ComesAfter hs (Finished n outcome ∷ (if told then Set n post.sender outcome.value ∷ [] else []))
set_after hs n outcome post true is = (
  tt,
  (
    record {
      asked = asked_on hs (Finished n outcome ∷ []) n post.sender Variable is;
      is = spec.IsValue.finished outcome (Contains-push hs (Finished n outcome));
    },
    tt,
  ),
)
set_after hs n outcome post false is = (tt, tt)

-- ---- the end of a thread ----

every-flat : {X Y : Type 0} (P : Y → Type 0) (f : X → List Y) (xs : List X) → ((x : X) → Contains xs x → Every P (f x)) → Every P (flat_map f xs)
every-flat P f [] each = tt
every-flat P f (x ∷ xs) each =
    every-append P (f x) (flat_map f xs) (each x (first_of x xs)) (every-flat P f xs (λ y there. each y (later_of x xs y there)))

every-contains : {X : Type 0} (P : X → Type 0) (xs : List X) (x : X) → Every P xs → Contains xs x → P x
every-contains P [] x every there = absurd (let no : ⊥ = omega (arith, there.1) in no)
every-contains P (y ∷ ys) x every (zero, within, is) = subst P is every.0
every-contains P (y ∷ ys) x every (suc k, within, is) = every-contains P ys x every.1 (k, omega (arith, within), is)

one_died : (seen : List Happening) (b : Bool) (n : ℕ) → Every (Whenever seen) (if b then Died n ∷ [] else [])
one_died seen true n = (λ more. tt, tt)
one_died seen false n = tt

hears_owed : (rows : List Row) (t : ℕ) (post : VariablePost) → hears rows t post ≡ true → is_owed t post ≡ true
hears_owed rows t post is = go (is_owed t post) _ is
  where
    go : (a b : Bool) → a && b ≡ true → a ≡ true
    go true b both = refl
    go false b both = absurd (cc both)

module _ (hs : List Happening) (state : State) (t : ℕ) (waits : Waits hs state.posts) where
  one_set : (entry : ℕ × VariablePost) → Contains state.posts.variables entry →
      Every (Whenever ((hs ++ flat_map (slot_died t) state.posts.slots.open_slots) ++ flat_map (post_died t) state.posts.variables))
      (post_set state.rows t entry)
  one_set entry there = go (hears state.rows t entry.1) refl
    where
      go : (b : Bool) → hears state.rows t entry.1 ≡ b
          → Every (Whenever ((hs ++ flat_map (slot_died t) state.posts.slots.open_slots) ++ flat_map (post_died t) state.posts.variables))
          (if b then Set entry.0 entry.1.sender (codes "target thread died") ∷ [] else [])
      go true is =
          let asked : VariableTrue hs entry = every-contains (VariableTrue hs) state.posts.variables entry waits.variables there in
          let died = variable_dies state t entry there (hears_owed state.rows t entry.1 is) in (
            λ more. record {
              asked = asked_on _ more _ _ Variable (asked_on _ (flat_map (post_died t) state.posts.variables) _ _ Variable
                  (asked_on hs (flat_map (slot_died t) state.posts.slots.open_slots) entry.0 entry.1.sender Variable asked));
              is = spec.IsValue.died (Contains-append_left _ more _ (Contains-append_right (hs ++ flat_map (slot_died t) state.posts.slots.open_slots)
                  (flat_map (post_died t) state.posts.variables) (Died entry.0) died));
            },
            tt,
          )
      go false is = tt

  pub ends_after : Along ComesAfter hs (deaths state t)
  ends_after =
      along-append ComesAfter hs (flat_map (slot_died t) state.posts.slots.open_slots) _
      (whenever hs _ (every-flat (Whenever hs) (slot_died t) state.posts.slots.open_slots (λ entry there. one_died hs (is_due t entry.1) entry.0)))
      (along-append ComesAfter _ (flat_map (post_died t) state.posts.variables) _
      (whenever _ _ (every-flat (Whenever _) (post_died t) state.posts.variables (λ entry there. one_died _ (is_owed t entry.1) entry.0)))
      (whenever _ _ (every-flat (Whenever _) (post_set state.rows t) state.posts.variables one_set)))

-- ---- all moves ----

other_after : (seen hs : List Happening) → Every OfOthers hs → Every (Whenever seen) hs
other_after seen [] every = tt
other_after seen (one ∷ hs) every = (go one every.0, other_after seen hs every.1)
  where
    go : (what : Happening) → OfOthers what → Whenever seen what
    go (GetsHold lock t) is more = tt
    go (Frees lock t) is more = tt
    go (Owner channel owner) is more = tt
    go (Posted n from to recipient head) is more = absurd is
    go (Began n t) is more = absurd is
    go (Finished n outcome) is more = absurd is
    go (Died n) is more = absurd is
    go (Got n t told) is more = absurd is
    go (Set n t value) is more = absurd is

pub move_after : (hs : List Happening) (old new : State) (happened : List Happening) → Move old new happened → Counted hs old → Ordered hs old
    → Waits hs old.posts
    → Along ComesAfter hs happened
move_after hs old new _ (quiet happened others scripts is rows) counted ordered waits = whenever hs happened (other_after hs happened others)
move_after hs old new _ (sent from to recipient head but is rows) counted ordered waits = (tt, tt)
move_after hs old new _ (begins n t rest there but lives is rows) counted ordered waits = (begins_after hs old n t rest counted ordered there lives, tt)
move_after hs old new _ (fills n outcome found there still queues is rows) counted ordered waits = (tt, tt)
move_after hs old new _ (sets n outcome post told there scripts is rows) counted ordered waits =
    set_after hs n outcome post told (every-at (VariableTrue hs) n old.posts.variables post waits.variables there)
move_after hs old new _ (gets n t found told there mine fits queues is rows) counted ordered waits =
    (gets_after hs n t found told (every-at (SlotTrue hs) n old.posts.slots.open_slots found waits.slots there) mine fits, tt)
move_after hs old new _ (ends t but is ended rows) counted ordered waits = ends_after hs old t waits
