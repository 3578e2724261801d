-- Runs that make many threads, as examples (tpool(n), tpool::create).
use Rattle.std.specs.Prelude.{◌≡◌, ◌+◌, ◌*◌, ℕ, List, [], ◌∷◌, ◌++◌, length, map, pos}
use Rattle.std.specs.List.{fold, range_with_len}
use Rattle.laws_shared.specs.Actions.{Action, Acts, after}
use Rattle.laws_shared.specs.Example.{by, creation, main}
use Rattle.tt_calls.specs.declared.pool_call.PoolCall.TheVariants as pool
use Rattle.tt_calls.specs.declared.request.Request.TheVariants as ask
use Rattle.tt_shared.specs.State.{State}

-- main makes a pool with so many workers
abbrev pub pool_with : ℕ → Action
pool_with n = by 1 (ask.Pool (pool.Create n n [] []))

-- two pools fill the room
abbrev pub full : List Action
full = pool_with 900 ∷ pool_with 99 ∷ []

-- then a thread more is refused
abbrev pub crowd : List Action
crowd = full ++ creation ∷ []

-- a pool with more workers than a pool may have is refused, and so is one for whose workers there is no room
abbrev pub refused : List Action
refused = pool_with 901 ∷ pool_with 900 ∷ pool_with 100 ∷ []

-- a pool with 900 workers; threads 2 to 802 end; and a pool with 900 workers more
abbrev pub most : List Action
most = pool_with 900 ∷ map (λ t. by t (ask.End (pos 0))) (range_with_len 2 801) ++ pool_with 900 ∷ []

abbrev pub state_after : List Action → State
state_after actions = fold after main actions

-- how many threads were made then
abbrev pub threads_after : List Action → ℕ
threads_after actions = length (state_after actions).rows

pub record WorkedThreads : Type 0 where
  pub filled : threads_after full ≡ length full + 998
  pub crowded : threads_after crowd ≡ 1000
  pub too_many : threads_after refused ≡ 901
  -- each of these actions can happen, and they make as many threads as can be made
  pub acts : Acts main most (state_after most)
  pub met : 901 * threads_after most ≡ 900 * length most + 900001
