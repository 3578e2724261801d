-- The laws of jobs, by all that holds of what has happened in a pool and of the table after it.
use Rattle.std.proofs.Common.{◌⊎◌, inl, inr, ◌<◌}
use Rattle.std.proofs.Common.{◌≡◌, ◌∙◌, ◌≤◌, ℕ, Bool, false, cond, List, [], ◌∷◌, ◌++◌, Option, Some, None, refl, sym, subst, append_assoc, append-nil, arith}
use Rattle.laws_pools.proofs.Actions.{by_action}
use Rattle.laws_pools.proofs.After.{After, Open, is_open, move_after, move_on}
use Rattle.laws_pools.proofs.Counts.{Bounded, bounds}
use Rattle.laws_pools.proofs.Moves.{Moves, Single, TableMove, TableStep, both, changed, closes, made, one, same}
use Rattle.laws_pools.proofs.Views.{closed, ended, got, left, numbered, posted}
use Rattle.laws_pools.specs.PoolHappenings.{PoolHappening, Posted, Cancelled, Began, Done, Lost, Got, Suspended, Closed, happenings, happenings_by}
use Rattle.laws_pools.specs.PoolJobs.{JobLaw, ends, gets, leaves, posts}
use Rattle.laws_sends.proofs.Cuts.{Along, along-append, at_cut}
use Rattle.laws_sends.proofs.Entries.{total-at}
use Rattle.laws_sends.proofs.Totals.{total, total-append, total-count}
use Rattle.laws_sends.proofs.Weights.{one_same}
use Rattle.laws_shared.specs.Actions.{Action, Acts, Moment, after, more, none}
use Rattle.tt_calls.specs.declared.start.Start.{Start}
use Rattle.tt_pools.specs.Jobs.{JobTable, no_jobs}
use Rattle.tt_pools.specs.Pools.{PoolTable, at_number}
use Rattle.tt_pools.specs.declared.pool.Pool.{Pool}
use Rattle.tt_shared.specs.State.{State, start_state}

-- ---- the pool of a number ----

-- of a pool that is not open, how often things happened; if it is still to be made nothing did, and else it was closed
pub record Gone (hs : List PoolHappening) (next p : ℕ) : Type 0 where
  pub bounded : Bounded hs
  pub nothing : next ≤ p → hs ≡ []
  pub closes : 0 < total closed hs ⊎ (hs ≡ [])

abbrev pub Holds : List PoolHappening → (next p : ℕ) → Option Pool → Type 0
Holds hs next p None = Gone hs next p
Holds hs next p (Some pool) = Open hs pool.suspended pool.jobs

pub record Lines (p : ℕ) (hs : List PoolHappening) (table : PoolTable) : Type 0 where
  pub holds : Holds hs table.next p (at_number table p)
  pub single : Single p table
  pub after : Along After [] hs

-- ---- moves ----

on_moves : (hs : List PoolHappening) (on now : Bool) (old new : JobTable) (happened : List PoolHappening) → Moves on old now new happened → Open hs on old
    → Open (hs ++ happened) now new × Along After hs happened
on_moves hs on now old new happened (one move) kept = (move_on hs on now old new happened move kept, move_after hs on now old new happened move kept)
on_moves hs on now old new _ (both {then = then} {middle = middle} {first = first} {second = second} plain others here there) kept =
    let begun = on_moves hs on then old middle first here kept in
    let rest = on_moves (hs ++ first) then now middle new second there begun.0 in (
      subst (λ all. Open all now new) (append_assoc hs first second) rest.0,
      along-append After hs first second begun.1 rest.1,
    )

new_open : (pool : Pool) → pool.suspended ≡ false → pool.jobs ≡ no_jobs → Open [] pool.suspended pool.jobs
new_open pool goes_on jobs =
    rw jobs (record {
      counted = record {
        once = λ n. omega arith;
        later = λ n past. refl;
        queued = λ n. refl;
        begun = λ n. omega arith;
        done = λ n. omega arith;
      };
      rising = tt;
      truths = record { queued = tt; begun = tt; done = tt };
      suspended = goes_on;
      ready = λ n mine. let no : ⊥ = omega (arith, mine) in absurd no;
      unclosed = refl;
    })

closed_bounds : (hs : List PoolHappening) → Bounded hs → Bounded (hs ++ Closed ∷ [])
closed_bounds hs bounded = record {
  posted_once = λ n. omega (arith, total-append (posted n) hs (Closed ∷ []), bounded.posted_once n);
  left_once = λ n. omega (arith, total-append (left n) hs (Closed ∷ []), bounded.left_once n);
  ended_once = λ n. omega (arith, total-append (ended n) hs (Closed ∷ []), bounded.ended_once n);
  got_once = λ n. omega (arith, total-append (got n) hs (Closed ∷ []), bounded.got_once n);
}

module _ (p : ℕ) (hs : List PoolHappening) (old new : PoolTable) (lines : Lines p hs old) where
  found : (pool : Pool) → at_number old p ≡ Some pool → Open hs pool.suspended pool.jobs
  found pool is = subst (Holds hs old.next p) is lines.holds

  absent : at_number old p ≡ None → Gone hs old.next p
  absent is = subst (Holds hs old.next p) is lines.holds

  -- a pool that is open has drawn its number
  not_new : (pool : Pool) → at_number old p ≡ Some pool → ¬ (old.next ≤ p)
  not_new pool is past =
      let no : ⊥ = omega (arith, lines.single.later past, total-at (numbered p) p old.pools pool is, one_same p p refl) in no

  holds_still : (now : Option Pool) → at_number old p ≡ now → old.next ≤ new.next → Holds (hs ++ []) new.next p now
  holds_still None is grows =
      let gone = absent is in
      record {
        bounded = subst Bounded (sym (append-nil hs)) gone.bounded;
        nothing = λ past. append-nil hs ∙ gone.nothing (omega (arith, past, grows));
        closes = subst (λ all. 0 < total closed all ⊎ (all ≡ [])) (sym (append-nil hs)) gone.closes;
      }
  holds_still (Some pool) is grows = subst (λ all. Open all pool.suspended pool.jobs) (sym (append-nil hs)) (found pool is)

  holds_on : (happened : List PoolHappening) → TableMove p old new happened → Holds (hs ++ happened) new.next p (at_number new p) × Along After hs happened
  holds_on _ (same is grows) = (subst (Holds (hs ++ []) new.next p) (sym is) (holds_still (at_number old p) refl grows), tt)
  holds_on _ (made pool missing past there goes_on jobs) =
      let nothing : hs ≡ [] = (absent missing).nothing past in (
        subst (Holds (hs ++ []) new.next p) (sym there)
            (subst (λ all. Open all pool.suspended pool.jobs) (sym (append-nil hs ∙ nothing)) (new_open pool goes_on jobs)),
        tt,
      )
  holds_on _ (changed pool now happened is there moves) =
      let on = on_moves hs pool.suspended now.suspended pool.jobs now.jobs happened moves (found pool is) in
      (subst (Holds (hs ++ happened) new.next p) (sym there) on.0, on.1)
  holds_on _ (closes pool is there next) =
      let kept = found pool is in (
        subst (Holds (hs ++ Closed ∷ []) new.next p) (sym there) (record {
          bounded = closed_bounds hs (bounds hs pool.jobs kept.counted);
          nothing = λ past. absurd (not_new pool is (omega (arith, past, next)));
          closes = inl (omega (arith, total-append closed hs (Closed ∷ [])));
        }),
        ((tt, is_open hs kept.unclosed), tt),
      )

  on_step : (happened : List PoolHappening) → TableStep p old new happened → Lines p (hs ++ happened) new
  on_step happened step =
      let on = holds_on happened step.move in
      record { holds = on.0; single = step.single; after = along-append After [] hs happened lines.after on.1 }

-- ---- lists of actions ----

along : (p : ℕ) (hs : List PoolHappening) (old new : State) (actions : List Action) → Acts old actions new → Lines p hs old.pools
    → Lines p (hs ++ happenings p old actions) new.pools
along p hs old new [] none lines = subst (λ all. Lines p all new.pools) (sym (append-nil hs)) lines
along p hs old new (action ∷ actions) (more can rest) lines =
    let moment : Moment = record { before = old; action = action } in
    let next = on_step p hs old.pools (after old action).pools lines (happenings_by p moment) (by_action p moment can lines.single) in
    subst (λ all. Lines p all new.pools) (append_assoc hs (happenings_by p moment) (happenings p (after old action) actions))
    (along p (hs ++ happenings_by p moment) (after old action) new actions rest next)

at_start : (p : ℕ) (main : Start) → Lines p [] (start_state main).pools
at_start p main = record {
  holds = record {
    bounded = record { posted_once = λ n. omega arith; left_once = λ n. omega arith; ended_once = λ n. omega arith; got_once = λ n. omega arith };
    nothing = λ past. refl;
    closes = inr refl;
  };
  single = record { one = omega arith; later = λ past. refl };
  after = tt;
}

-- ---- as they are counted ----

posts_weigh : (n : ℕ) (one : PoolHappening) → cond (posts n one) 1 0 ≡ posted n one
posts_weigh n (Posted m from detached) = refl
posts_weigh n (Cancelled m) = refl
posts_weigh n (Began m t) = refl
posts_weigh n (Done m t outcome) = refl
posts_weigh n (Lost m t) = refl
posts_weigh n (Got m t outcome) = refl
posts_weigh n (Suspended on) = refl
posts_weigh n Closed = refl

leaves_weigh : (n : ℕ) (one : PoolHappening) → cond (leaves n one) 1 0 ≡ left n one
leaves_weigh n (Posted m from detached) = refl
leaves_weigh n (Cancelled m) = refl
leaves_weigh n (Began m t) = refl
leaves_weigh n (Done m t outcome) = refl
leaves_weigh n (Lost m t) = refl
leaves_weigh n (Got m t outcome) = refl
leaves_weigh n (Suspended on) = refl
leaves_weigh n Closed = refl

ends_weigh : (n : ℕ) (one : PoolHappening) → cond (ends n one) 1 0 ≡ ended n one
ends_weigh n (Posted m from detached) = refl
ends_weigh n (Cancelled m) = refl
ends_weigh n (Began m t) = refl
ends_weigh n (Done m t outcome) = refl
ends_weigh n (Lost m t) = refl
ends_weigh n (Got m t outcome) = refl
ends_weigh n (Suspended on) = refl
ends_weigh n Closed = refl

gets_weigh : (n : ℕ) (one : PoolHappening) → cond (gets n one) 1 0 ≡ got n one
gets_weigh n (Posted m from detached) = refl
gets_weigh n (Cancelled m) = refl
gets_weigh n (Began m t) = refl
gets_weigh n (Done m t outcome) = refl
gets_weigh n (Lost m t) = refl
gets_weigh n (Got m t outcome) = refl
gets_weigh n (Suspended on) = refl
gets_weigh n Closed = refl

-- ---- the law ----

bounded : (p : ℕ) (hs : List PoolHappening) (table : PoolTable) → Lines p hs table → Bounded hs
bounded p hs table lines = go (at_number table p) lines.holds
  where
    go : (found : Option Pool) → Holds hs table.next p found → Bounded hs
    go None gone = gone.bounded
    go (Some pool) kept = bounds hs pool.jobs kept.counted

pub lines_of : (main : Start) (actions : List Action) (state : State) (p : ℕ) → Acts (start_state main) actions state
    → Lines p (happenings p (start_state main) actions) state.pools
lines_of main actions state p acts = along p [] (start_state main) state actions acts (at_start p main)

pub jobs_kept : JobLaw
jobs_kept main actions state p acts =
    let hs = happenings p (start_state main) actions in
    let lines = lines_of main actions state p acts in
    let most = bounded p hs state.pools lines in
    record {
      once = record {
        posted_once = λ n. omega (arith, total-count (posts n) (posted n) (posts_weigh n) hs, most.posted_once n);
        leaves_once = λ n. omega (arith, total-count (leaves n) (left n) (leaves_weigh n) hs, most.left_once n);
        ends_once = λ n. omega (arith, total-count (ends n) (ended n) (ends_weigh n) hs, most.ended_once n);
        got_once = λ n. omega (arith, total-count (gets n) (got n) (gets_weigh n) hs, most.got_once n);
      };
      after = λ before rest what is. (at_cut After [] hs before rest what lines.after is).0;
      before_close = λ before rest what is. (at_cut After [] hs before rest what lines.after is).1;
    }
