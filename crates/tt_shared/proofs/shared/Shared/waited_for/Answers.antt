use Rattle.std.proofs.Common.{rules, ◌≡◌, ◌↔◌, ℕ, ◌∷◌, [], IfOk, option_to_list, subst}
use Rattle.std.specs.List.{Contains}
use Rattle.tt_locks.specs.Blocking.{holders}
use Rattle.tt_shared.specs.Blocking.{waited_for}
use Rattle.tt_shared.proofs.shared.Shared.waited_for.Goals as goal

pub returns-in-AwaitEnd-clause-exactly : goal.returns-in-AwaitEnd-clause-exactly
returns-in-AwaitEnd-clause-exactly c =
    subst (λ named. IfOk c.at_most_one.result (λ threads. (u : ℕ) → Contains threads.items u ↔ Contains named u)) named c.at_most_one.ensures.exactly
  where
    named : c.in-AwaitEnd.thread ∷ [] ≡ waited_for c.args.self.now c.args.thread c.args.request.now
    named = search rules

pub returns-in-Await-clause-exactly : goal.returns-in-Await-clause-exactly
returns-in-Await-clause-exactly c =
    subst (λ named. IfOk c.at_most_one-in-Await.result (λ threads. (u : ℕ) → Contains threads.items u ↔ Contains named u)) named
    c.at_most_one-in-Await.ensures.exactly
  where
    named : option_to_list c.target.result ≡ waited_for c.args.self.now c.args.thread c.args.request.now
    named = search rules

pub returns-in-Tsv-clause-exactly : goal.returns-in-Tsv-clause-exactly
returns-in-Tsv-clause-exactly c =
    subst (λ named. IfOk c.at_most_one-in-Tsv.result (λ threads. (u : ℕ) → Contains threads.items u ↔ Contains named u)) named
    c.at_most_one-in-Tsv.ensures.exactly
  where
    named : option_to_list c.holder.result ≡ waited_for c.args.self.now c.args.thread c.args.request.now
    named = search rules

pub returns-in-Lock-clause-exactly : goal.returns-in-Lock-clause-exactly
returns-in-Lock-clause-exactly c =
    subst (λ named. IfOk c.holders.result (λ threads. (u : ℕ) → Contains threads.items u ↔ Contains named u)) named c.holders.ensures.exactly
  where
    named : holders c.self.inside.locks c.get-in-Lock.result.now ≡ waited_for c.args.self.now c.args.thread c.args.request.now
    named = search rules

pub returns-in-Chan-clause-exactly : goal.returns-in-Chan-clause-exactly
returns-in-Chan-clause-exactly c =
    subst (λ named. IfOk c.at_most_one-in-Chan.result (λ threads. (u : ℕ) → Contains threads.items u ↔ Contains named u)) named
    c.at_most_one-in-Chan.ensures.exactly
  where
    named : option_to_list c.blocker.result ≡ waited_for c.args.self.now c.args.thread c.args.request.now
    named = search rules
