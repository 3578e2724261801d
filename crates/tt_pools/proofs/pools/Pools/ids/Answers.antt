use Rattle.std.proofs.Common.{◌≡◌, ◌∙◌, ap, sym, map, rules}
use Rattle.std.proofs.lemmas.Map.Iter.{iter_end}
use Rattle.std.specs.Map.Iter.{deref_pair}
use Rattle.tt_ids.specs.Ids.{id}
use Rattle.tt_ids.specs.declared.id.IdKind.TheVariants as kind
use Rattle.std.proofs.lemmas.Simd.{map-map}
use Rattle.tt_pools.proofs.pools.Pools.ids.Goals as goal

pub returns : goal.returns
returns c =
    let e : map deref_pair c.loop-number.yielded ≡ c.args.self.now.pools = search (rules, iter_end) in
    c.loop-number.invariant ∙ sym (map-map (λ entry. id kind.Pool entry.0) deref_pair c.loop-number.yielded)
    ∙ ap (λ entries. map (λ entry. id kind.Pool entry.0) entries) e
