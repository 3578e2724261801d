use Rattle.std.proofs.Common.{◌≡◌, ◌∙◌, eqb, sym, subst, ℕ, List}
use Rattle.std.proofs.Common.{IsPermutation}
use Rattle.std.specs.List.{Contains, dedup}
use Rattle.std.specs.List.Sorted.{IsStrictlyIncreasing}
use Rattle.std.proofs.lemmas.List.Elements.{same_from_all_zip}
use Rattle.std.proofs.lemmas.List.Filters.{dedup_is}
use Rattle.std.proofs.lemmas.List.Kept.{Contains-dedup_nat, Contains-from_dedup}
use Rattle.std.proofs.lemmas.List.Sorted.{Contains-permutation, IsPermutation-sym}
use Rattle.std.proofs.lemmas.Map.Keys.{IsStrictlyIncreasing-dedup}
use Rattle.tt_locks.proofs.holders.Holders.different.Goals as goal

pub returns-clause-by_number : goal.returns-clause-by_number
returns-clause-by_number c =
    subst IsStrictlyIncreasing (sym (dedup_is eqb _ _ c.dedup.ensures.filtered))
    (IsStrictlyIncreasing-dedup c.sort_unstable.new.self.items c.sort_unstable.ensures.sorted)

pub returns-clause-exactly : goal.returns-clause-exactly
returns-clause-exactly c u = (back, there)
  where
    given : List ℕ
    given = c.args.self.now

    sorted : List ℕ
    sorted = c.sort_unstable.new.self.items

    copied : c.in_ok-threads.threads.items ≡ given
    copied = same_from_all_zip _ c.self.inside.threads.items c.in_ok-threads.threads.items c.in_ok-threads.ensures.cases.0 (λ x y is. is) ∙ c.self.view_is

    moved : IsPermutation given sorted
    moved = subst (λ xs. IsPermutation xs sorted) copied c.sort_unstable.ensures.permutation

    left : c.dedup.new.self.items ≡ dedup eqb sorted
    left = dedup_is eqb _ _ c.dedup.ensures.filtered

    back : Contains c.dedup.new.self.items u → Contains given u
    back has =
        Contains-permutation sorted given u (IsPermutation-sym given sorted moved)
        (Contains-from_dedup eqb sorted u (subst (λ xs. Contains xs u) left has))

    there : Contains given u → Contains c.dedup.new.self.items u
    there has = subst (λ xs. Contains xs u) (sym left) (Contains-dedup_nat sorted u (Contains-permutation given sorted u moved has))
