-- How many threads there are after a list of actions.
use Rattle.std.proofs.Common.{◌≡◌, ◌≤◌, ◌+◌, ◌*◌, ◌-◌, ◌==◌, ◌<◌, ℕ, Bool, true, false, if◌then◌else◌, List, [], ◌∷◌, length, slice_get, None}
use Rattle.std.proofs.Common.{Some, refl, arith}
use Rattle.std.proofs.lemmas.Bool.Decides.{nat_tests}
use Rattle.std.proofs.lemmas.Option.{slice_get_within}
use Rattle.laws_shared.specs.Actions.{Action, Acts, more, none, after}
use Rattle.laws_threads.proofs.Numbers.{Bounded}
use Rattle.laws_threads.proofs.Requests.{by_request}
use Rattle.laws_threads.specs.ThreadCount.{ThreadCountLaw}
use Rattle.tt_ids.specs.ThreadNumbers.{IsInRange, greatest_number}
use Rattle.tt_shared.specs.State.{State}
use Rattle.tt_threads.specs.Rows.{living, most_living, row_of}
use Rattle.tt_threads.specs.declared.row.Row.{Row}

-- all that were made, less those that live still
record Lines (rows : List Row) (actions : ℕ) : Type 0 where
  all : 901 * length rows ≤ 1 + (900 * actions + 900 * living rows)
  room : living rows ≤ most_living

on_action : (old new : List Row) (actions : ℕ) → Bounded old new → Lines old actions → Lines new (actions + 1)
on_action old new actions by lines = record { all = omega (arith, by.all, lines.all); room = by.room lines.room }

along : (old new : State) (actions : List Action) (before : ℕ) → Acts old actions new → Lines old.rows before → Lines new.rows (before + length actions)
along old new [] before none lines = record { all = omega (arith, lines.all); room = lines.room }
along old new (action ∷ actions) before (more can rest) lines =
    let next = on_action old.rows (after old action).rows before (by_request old action.thread action.request action.line) lines in
    let last = along (after old action) new actions (before + 1) rest next in
    record { all = omega (arith, last.all); room = last.room }

in_range : (rows : List Row) (number : ℕ) (row : Row) → length rows ≤ greatest_number → row_of rows number ≡ Some row → IsInRange number
in_range rows number row few there = go (number == 0) refl there
  where
    go : (b : Bool) → (number == 0) ≡ b → (if b then None else slice_get rows (number - 1)) ≡ Some row → IsInRange number
    go true is there = absurd (cc there)
    go false is there =
        let within : number - 1 < length rows = slice_get_within rows (number - 1) row there in
        let low : 1 ≤ number = grind (arith, nat_tests, is) in
        (low, omega (arith, few, within, low))

pub threads_bounded : ThreadCountLaw
threads_bounded main actions state acts =
    let lines = along _ state actions 0 acts (record { all = omega arith; room = omega arith }) in
    let all : 901 * length state.rows ≤ 900 * length actions + 900001 = omega (arith, lines.all, lines.room) in
    record {
      few_live = lines.room;
      few_made = all;
      few_more = omega (arith, all);
      numbered = λ number row few there. in_range state.rows number row (omega (arith, all, few)) there;
    }
