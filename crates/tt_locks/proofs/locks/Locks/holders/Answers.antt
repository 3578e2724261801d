use Rattle.std.proofs.Common.{rules, ◌≡◌, ◌↔◌, ℕ, IfOk, subst}
use Rattle.std.specs.List.{Contains}
use Rattle.tt_locks.specs.Blocking.{holders}
use Rattle.tt_locks.proofs.locks.Locks.holders.Goals as goal

pub returns-in-Some-clause-exactly : goal.returns-in-Some-clause-exactly
returns-in-Some-clause-exactly c =
    subst (λ held. IfOk c.different.result (λ threads. (u : ℕ) → Contains threads.items u ↔ Contains held u)) found c.different.ensures.exactly
  where
    found : c.in-Some.lock.now.holders ≡ holders c.args.self.now c.args.call.now
    found = search rules
