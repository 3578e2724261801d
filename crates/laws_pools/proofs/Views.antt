-- What the laws of jobs look at: how often something happened, and how often a number stands in a list.
use Rattle.std.proofs.Common.{◌==◌, ℕ}
use Rattle.laws_sends.proofs.Views.{one_if}
use Rattle.laws_pools.specs.PoolHappenings.{PoolHappening, Posted, Cancelled, Began, Done, Lost, Got, Closed}
use Rattle.tt_pools.specs.declared.jobs.Begun.{Begun}

abbrev pub posted : ℕ → PoolHappening → ℕ
posted n (Posted m from detached) = one_if (m == n)
posted n other = 0

abbrev pub left : ℕ → PoolHappening → ℕ
left n (Cancelled m) = one_if (m == n)
left n (Began m t) = one_if (m == n)
left n other = 0

abbrev pub began : ℕ → PoolHappening → ℕ
began n (Began m t) = one_if (m == n)
began n other = 0

abbrev pub ended : ℕ → PoolHappening → ℕ
ended n (Done m t outcome) = one_if (m == n)
ended n (Lost m t) = one_if (m == n)
ended n other = 0

abbrev pub got : ℕ → PoolHappening → ℕ
got n (Got m t outcome) = one_if (m == n)
got n other = 0

abbrev pub closed : PoolHappening → ℕ
closed Closed = 1
closed other = 0

-- a number is that of an entry; it is that of a job that was begun
abbrev pub numbered : {X : Type 0} → ℕ → ℕ × X → ℕ
numbered n entry = one_if (entry.0 == n)

abbrev pub taken : ℕ → ℕ × Begun → ℕ
taken n entry = one_if (entry.1.job == n)
