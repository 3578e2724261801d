-- How many threads there are, and how many of them live, after a change of the table of threads.
use Rattle.std.proofs.Common.{◌≡◌, ◌≤◌, ◌+◌, ◌*◌, ℕ, suc, cond, nat_lt, Bool, true, List, [], ◌∷◌, ◌++◌, length, refl, arith}
use Rattle.std.proofs.lemmas.Bool.{ltb-true}
use Rattle.std.proofs.lemmas.List.Sums.{sum_by_push}
use Rattle.tt_calls.specs.declared.start.Start.{Start}
use Rattle.tt_threads.specs.Rows.{lives, living, most_living, new_row}
use Rattle.tt_threads.specs.declared.row.Row.{Row}

-- as many, and as many of them live
pub record Same (old new : List Row) : Type 0 where
  pub many : length new ≡ length old
  pub live : living new ≡ living old

pub same : (rows : List Row) → Same rows rows
same rows = record { many = refl; live = refl }

-- no more than so many are made, all of which live, and no more live than may
pub record Makes (most : ℕ) (old new : List Row) : Type 0 where
  pub made : ℕ
  pub few : made ≤ most
  pub many : length new ≡ length old + made
  pub live : living new ≡ living old + made
  pub room : living old ≤ most_living → living new ≤ most_living

pub makes_none : (most : ℕ) (rows : List Row) → Makes most rows rows
makes_none most rows = record { made = 0; few = omega arith; many = omega arith; live = omega arith; room = λ few. few }

-- one more at most
pub makes_more : (most : ℕ) (old next new : List Row) → Makes most old next → Makes 1 next new → Makes (suc most) old new
makes_more most old next new first second = record {
  made = first.made + second.made;
  few = omega (arith, first.few, second.few);
  many = omega (arith, first.many, second.many);
  live = omega (arith, first.live, second.live);
  room = λ few. second.room (first.room few);
}

length-more : {X : Type 0} (xs : List X) (x : X) → length (xs ++ x ∷ []) ≡ length xs + 1
length-more [] x = refl
length-more (y ∷ ys) x = omega (arith, length-more ys x)

-- a new thread, while there is room
pub makes_one : (rows : List Row) (start : Start) (joinable preserved : Bool) → nat_lt (living rows) most_living ≡ true →
    Makes 1 rows (rows ++ new_row start joinable preserved ∷ [])
makes_one rows start joinable preserved room =
    let more : living (rows ++ new_row start joinable preserved ∷ []) ≡ living rows + 1 =
    sum_by_push (λ row. cond (lives row.life) 1 0) rows (new_row start joinable preserved) in
    record {
      made = 1;
      few = omega arith;
      many = length-more rows (new_row start joinable preserved);
      live = more;
      room = λ few. omega (arith, more, ltb-true (living rows) most_living room);
    }

-- What an action does: it makes 900 at most, or ends one at most.
pub record Bounded (old new : List Row) : Type 0 where
  pub all : 901 * length new + 900 * living old ≤ 900 + (901 * length old + 900 * living new)
  pub room : living old ≤ most_living → living new ≤ most_living

pub by_same : (old new : List Row) → Same old new → Bounded old new
by_same old new is = record { all = omega (arith, is.many, is.live); room = λ few. omega (arith, few, is.live) }

pub by_makes : (most : ℕ) (old new : List Row) → most ≤ 900 → Makes most old new → Bounded old new
by_makes most old new few is = record { all = omega (arith, few, is.few, is.many, is.live); room = is.room }

pub by_one_less : (old new : List Row) → length new ≡ length old → living new + 1 ≡ living old → Bounded old new
by_one_less old new many live = record { all = omega (arith, many, live); room = λ few. omega (arith, few, live) }
