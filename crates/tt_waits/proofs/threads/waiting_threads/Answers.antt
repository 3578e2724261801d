use Rattle.std.proofs.Common.{eqb, sym, subst, get_or, ℕ}
use Rattle.std.specs.List.{Contains}
use Rattle.std.specs.List.Sorted.{IsStrictlyIncreasing}
use Rattle.std.proofs.lemmas.List.Filters.{dedup_is}
use Rattle.std.proofs.lemmas.List.Kept.{Contains-dedup_nat}
use Rattle.std.proofs.lemmas.List.Sorted.{Contains-permutation}
use Rattle.std.proofs.lemmas.Map.Keys.{IsStrictlyIncreasing-dedup}
use Rattle.tt_waits.proofs.Standing.{from_contained}
use Rattle.tt_waits.proofs.threads.waiting_threads.Goals as goal

pub returns-clause-ascending : goal.returns-clause-ascending
returns-clause-ascending c =
    subst IsStrictlyIncreasing (sym (dedup_is eqb _ _ c.dedup.ensures.filtered))
    (IsStrictlyIncreasing-dedup c.sort_unstable.new.self.items c.sort_unstable.ensures.sorted)

pub returns-clause-all : goal.returns-clause-all
returns-clause-all c k d within =
    let thread : ℕ = (get_or c.args.edges.now k d).from in
    subst (λ xs. Contains xs thread) (sym (dedup_is eqb c.sort_unstable.new.self.items c.dedup.new.self.items c.dedup.ensures.filtered))
    (Contains-dedup_nat c.sort_unstable.new.self.items thread
    (Contains-permutation c.in_ok-threads.threads.items c.sort_unstable.new.self.items thread c.sort_unstable.ensures.permutation
    (subst (λ xs. Contains xs thread) (sym c.in_ok-threads.ensures) (from_contained c.args.edges.now d k within))))
