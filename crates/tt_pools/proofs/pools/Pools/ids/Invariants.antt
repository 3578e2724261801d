use Rattle.std.proofs.Common.{◌≡◌, map}
use Rattle.tt_ids.specs.Ids.{id}
use Rattle.tt_ids.specs.declared.id.IdKind.TheVariants as kind
use Rattle.tt_pools.proofs.pools.Pools.ids.Given as goal

abbrev pub invariant-loop-number : goal.invariant-loop-number
invariant-loop-number l = l.ids ≡ map (λ item. id kind.Pool item.0.now) l.yielded
