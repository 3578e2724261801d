-- What holds of the posts of a run: a variable stands under a number once, and below the next number.
use Rattle.std.proofs.Common.{◌≡◌, ◌≤◌, ◌<◌, ◌==◌, ℕ, nat_lt, Bool, true, false, cond, List, [], ◌∷◌, ◌++◌, Some, ap, refl, subst, append_assoc, arith}
use Rattle.std.specs.BTreeMap.{is_at}
use Rattle.std.specs.Ordering.{is_eq, nat_cmp}
use Rattle.std.specs.declared.cmp.Ordering.TheVariants.{Less, Equal, Greater}
use Rattle.std.proofs.lemmas.Bool.Decides.{nat_tests}
use Rattle.laws_sends.proofs.Actions.{by_action, many}
use Rattle.laws_sends.proofs.Cuts.{Every, every-on}
use Rattle.laws_sends.proofs.Ends.{Once, once_on}
use Rattle.laws_sends.proofs.Entries.{at, key_is, total-at}
use Rattle.laws_sends.proofs.Moves.{Moves, both, one}
use Rattle.laws_sends.proofs.Numbers.{Numbers, numbers_on}
use Rattle.laws_sends.proofs.Totals.{total}
use Rattle.laws_sends.proofs.Views.{variable_at}
use Rattle.laws_sends.proofs.Weights.{one_same}
use Rattle.laws_shared.proofs.Mild.{HaveQueues}
use Rattle.laws_shared.specs.Actions.{Action, Acts, Moment, Reached, after, more, none}
use Rattle.laws_shared.specs.Happenings.{Happening, happenings_by}
use Rattle.tt_shared.specs.Mail.{variable_post}
use Rattle.tt_shared.specs.State.{State, start_state}
use Rattle.tt_shared.specs.declared.posts.VariablePost.{VariablePost}

-- ---- runs ----

record Lines (hs : List Happening) (state : State) : Type 0 where
  numbers : Numbers hs state.posts.next
  once : Once hs state.posts

on_moves : (hs : List Happening) (old new : State) (happened : List Happening) → Moves old new happened → Lines hs old → Lines (hs ++ happened) new
on_moves hs old new happened (one move) lines = record {
  numbers = numbers_on hs old new happened move lines.numbers;
  once = once_on hs old new happened move lines.once;
}
on_moves hs old new _ (both {middle = middle} {first = first} {second = second} here there) lines =
    subst (λ all. Lines all new) (append_assoc hs first second)
    (on_moves (hs ++ first) middle new second there (on_moves hs old middle first here lines))

-- a variable stands under each number at most once, and none under one that is to be drawn
pub record Sound (state : State) : Type 0 where
  pub queues : HaveQueues state
  pub once : (n : ℕ) → total (variable_at n) state.posts.variables ≤ 1
  pub below : (n : ℕ) (post : VariablePost) → variable_post state.posts n ≡ Some post → n < state.posts.next

sound_of : (hs : List Happening) (state : State) → HaveQueues state → Lines hs state → Sound state
sound_of hs state have lines = record {
  queues = have;
  once = λ n. omega (arith, lines.once.ends_once n, lines.numbers.once n);
  below = λ n post there. below n post there (nat_lt n state.posts.next) refl;
}
  where
    below : (n : ℕ) (post : VariablePost) → variable_post state.posts n ≡ Some post → (b : Bool) → nat_lt n state.posts.next ≡ b → n < state.posts.next
    below n post there true is = grind (arith, nat_tests, is)
    below n post there false is =
        let above : state.posts.next ≤ n = grind (arith, nat_tests, is) in
        let counted = total-at (variable_at n) n state.posts.variables post there in
        omega (arith, lines.once.ends_once n, lines.numbers.later n above, counted, one_same n n refl)

along : (hs : List Happening) (old new : State) (actions : List Action) → Acts old actions new → HaveQueues old → Lines hs old → Sound new
along hs old new [] none have lines = sound_of hs old have lines
along hs old new (action ∷ actions) (more can rest) have lines =
    let moment : Moment = record { before = old; action = action } in
    along (hs ++ happenings_by moment) (after old action) new actions rest (many old action.thread action.request action.line have)
    (on_moves hs old (after old action) (happenings_by moment) (by_action moment have can.lives) lines)

pub reached_sound : (state : State) → Reached state → Sound state
reached_sound state reached =
    along [] (start_state reached.main) state reached.actions reached.acts refl record {
      numbers = record { once = λ n. omega arith; later = λ n above. refl };
      once = record { ends_once = λ n. omega arith; answers_once = λ n. omega arith };
    }

-- ---- entries ----

-- what stands in a list of entries is found under its number
abbrev pub Finds : List (ℕ × VariablePost) → ℕ × VariablePost → Type 0
Finds all entry = at entry.0 all ≡ Some entry.1

pub at_self : (n : ℕ) → is_at (nat_cmp n) n ≡ true
at_self n = go (nat_lt n n) (n == n) refl refl
  where
    go : (less alike : Bool) → nat_lt n n ≡ less → (n == n) ≡ alike → is_eq (cond less Less (cond alike Equal Greater)) ≡ true
    go false true less_is is = refl
    go true alike less_is is = absurd (grind (arith, nat_tests, less_is))
    go false false less_is is = absurd (grind (arith, nat_tests, is))

module _ (first : ℕ × VariablePost) (rest : List (ℕ × VariablePost)) where
  further : ((n : ℕ) → total (variable_at n) (first ∷ rest) ≤ 1) → (entry : ℕ × VariablePost) → Finds rest entry → Finds (first ∷ rest) entry
  further once entry there = go (is_at (nat_cmp entry.0) first.0) refl
    where
      go : (b : Bool) → is_at (nat_cmp entry.0) first.0 ≡ b → cond b (Some first.1) (at entry.0 rest) ≡ Some entry.1
      go false is = there
      go true is =
          let alike : first.0 ≡ entry.0 = key_is entry.0 first.0 is in
          let counted = total-at (variable_at entry.0) entry.0 rest entry.1 there in
          absurd (omega (arith, once entry.0, counted, one_same first.0 entry.0 alike, one_same entry.0 entry.0 refl))

pub each_found : (all : List (ℕ × VariablePost)) → ((n : ℕ) → total (variable_at n) all ≤ 1) → Every (Finds all) all
each_found [] once = tt
each_found (first ∷ rest) once =
    let later = each_found rest (λ n. omega (arith, once n)) in
    (here, every-on (Finds rest) (Finds (first ∷ rest)) (further first rest once) rest later)
  where
    here : cond (is_at (nat_cmp first.0) first.0) (Some first.1) (at first.0 rest) ≡ Some first.1
    here = ap (λ b. cond b (Some first.1) (at first.0 rest)) (at_self first.0)
