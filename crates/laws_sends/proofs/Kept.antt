-- The laws of sends, by all that holds of what has happened and of the state after it.
use Rattle.std.proofs.Common.{◌≡◌, ◌∙◌, ◌==◌, ℕ, Bool, true, false, None, if◌then◌else◌, List, [], ◌∷◌, ◌++◌, ap, refl, sym, subst, append_assoc, append-nil}
use Rattle.std.proofs.Common.{arith}
use Rattle.laws_sends.proofs.Actions.{by_action, many}
use Rattle.laws_sends.proofs.After.{move_after}
use Rattle.laws_sends.proofs.Begins.{Counted, counted_on}
use Rattle.laws_sends.proofs.Cuts.{Along, along-append, at_cut}
use Rattle.laws_sends.proofs.Ends.{Once, once_on}
use Rattle.laws_sends.proofs.Moves.{Move, Moves, both, one}
use Rattle.laws_sends.proofs.Numbers.{Numbers, numbers_on}
use Rattle.laws_sends.proofs.Often.{answers_total, begins_at_most, begins_total, ends_total}
use Rattle.laws_sends.proofs.Order.{InOrder, Ordered, ordered_on}
use Rattle.laws_sends.proofs.Queues.{new_queue}
use Rattle.laws_sends.proofs.Slots.{Waits, waits_after}
use Rattle.laws_sends.proofs.Totals.{total}
use Rattle.laws_sends.proofs.Views.{is_number, scripts_at, scripts_in}
use Rattle.laws_sends.specs.Sends.{ComesAfter, SendLaw}
use Rattle.laws_shared.proofs.Mild.{HaveQueues}
use Rattle.laws_shared.specs.Actions.{Action, Acts, Moment, after, more, none}
use Rattle.laws_shared.specs.Happenings.{Happening, happenings, happenings_by}
use Rattle.tt_calls.specs.declared.start.Start.{Start}
use Rattle.tt_shared.specs.State.{State, start_state}

record Lines (hs : List Happening) (state : State) : Type 0 where
  numbers : Numbers hs state.posts.next
  counted : Counted hs state
  ordered : Ordered hs state
  once : Once hs state.posts
  waits : Waits hs state.posts
  after : Along ComesAfter [] hs

on_move : (hs : List Happening) (old new : State) (happened : List Happening) → Move old new happened → Lines hs old → Lines (hs ++ happened) new
on_move hs old new happened move lines = record {
  numbers = numbers_on hs old new happened move lines.numbers;
  counted = counted_on hs old new happened move lines.counted;
  ordered = ordered_on hs old lines.numbers lines.counted lines.ordered new happened move;
  once = once_on hs old new happened move lines.once;
  waits = waits_after hs old new happened move lines.waits;
  after = along-append ComesAfter [] hs happened lines.after (move_after hs old new happened move lines.counted lines.ordered lines.waits);
}

on_moves : (hs : List Happening) (old new : State) (happened : List Happening) → Moves old new happened → Lines hs old → Lines (hs ++ happened) new
on_moves hs old new happened (one move) lines = on_move hs old new happened move lines
on_moves hs old new _ (both {middle = middle} {first = first} {second = second} here there) lines =
    subst (λ all. Lines all new) (append_assoc hs first second) (on_moves (hs ++ first) middle new second there (on_moves hs old middle first here lines))

along : (hs : List Happening) (old new : State) (actions : List Action) → Acts old actions new → HaveQueues old → Lines hs old
    → Lines (hs ++ happenings old actions) new
along hs old new [] none have lines = subst (λ all. Lines all new) (sym (append-nil hs)) lines
along hs old new (action ∷ actions) (more can rest) have lines =
    let moment : Moment = record { before = old; action = action } in
    let next = on_moves hs old (after old action) (happenings_by moment) (by_action moment have can.lives) lines in
    subst (λ all. Lines all new) (append_assoc hs (happenings_by moment) (happenings (after old action) actions))
    (along (hs ++ happenings_by moment) (after old action) new actions rest (many old action.thread action.request action.line have) next)

at_start : (main : Start) → Lines [] (start_state main)
at_start main = record {
  numbers = record { once = λ n. omega arith; later = λ n above. refl };
  counted = record {
    most = λ n t. omega (arith, ap (λ numbers. total (is_number n) numbers) (none_queued t));
    all = λ n t lives. omega arith;
  };
  ordered = λ t. subst (InOrder []) (sym (none_queued t)) tt;
  once = record { ends_once = λ n. omega arith; answers_once = λ n. omega arith };
  waits = record { slots = tt; variables = tt };
  after = tt;
}
  where
    none_queued : (t : ℕ) → scripts_at ([] ∷ []) t ≡ []
    none_queued t = new_queue [] t ∙ nobody (t == 0)
      where
        nobody : (b : Bool) → scripts_in (if b then None else None) ≡ []
        nobody true = refl
        nobody false = refl

pub sends_kept : SendLaw
sends_kept main actions state acts =
    let lines = along [] (start_state main) state actions acts refl (at_start main) in
    let hs = happenings (start_state main) actions in
    record {
      once = record {
        begins_once = λ n.
            omega (arith, begins_total n hs, begins_at_most n hs (λ t. omega (arith, lines.counted.most n t)) (lines.numbers.once n));
        ends_once = λ n. omega (arith, ends_total n hs, lines.once.ends_once n, lines.numbers.once n);
        answered_once = λ n. omega (arith, answers_total n hs, lines.once.answers_once n, lines.once.ends_once n, lines.numbers.once n);
      };
      after = λ before rest what is. at_cut ComesAfter [] hs before rest what lines.after is;
    }
