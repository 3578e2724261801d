use Rattle.std.proofs.Common.{◌≡◌, ◌∙◌, ap, sym, bytes_eq, hash_map_len, rules}
use Rattle.std.specs.HashMap.{get}
use Rattle.std.specs.Map.{lookup}
use Rattle.indexmap.specs.IndexMap.{insert_entry}
use Rattle.tt_vars.specs.inside.Slots.{elements_in}
use Rattle.tt_vars.proofs.SlotLemmas.{insert-at, kept-put, lookup-none}
use Rattle.tt_vars.proofs.elements.Elements.put.Goals as goal
use Rattle.tt_vars.proofs.elements.Elements.put.Goals.{in-Long-1, in-Short-1}

pub invariant_of-self : goal.invariant_of-self
invariant_of-self c =
    kept-put (get bytes_eq c.self.inside.places) (hash_map_len c.self.inside.places) c.self.inside.slots.items c.put_at.new.slots.items
    c.in-Some.place.now c.args.value c.self.invariant c.put_at.ensures.put

pub invariant_of-self-in-Some-2 : goal.invariant_of-self-in-Some-2
invariant_of-self-in-Some-2 c =
    kept-put (get bytes_eq c.self.inside.places) (hash_map_len c.self.inside.places) c.self.inside.slots.items c.put_at.new.slots.items
    c.in-Some.place.now c.args.value c.self.invariant c.put_at.ensures.put

pub push-requires : goal.push-requires
push-requires c = record {
  new =
      ap (lookup (bytes_eq c.args.index)) (sym c.self.view_is)
      ∙ lookup-none (get bytes_eq c.self.inside.places) c.self.inside.slots.items c.self.invariant.0 c.args.index (search rules);
}

pub returns-in-Some-clause-put : goal.returns-in-Some-clause-put
returns-in-Some-clause-put c =
    let written : elements_in c.put_at.new.slots.items ≡ insert_entry bytes_eq c.args.self.now c.args.index c.args.value =
    ap elements_in c.put_at.ensures.put
    ∙ sym (insert-at (get bytes_eq c.self.inside.places) c.self.inside.slots.items c.self.invariant.0 c.args.index c.in-Some.place.now (search rules) c.args.value)
    ∙ ap (λ l. insert_entry bytes_eq l c.args.index c.args.value) c.self.view_is in
    elim c.match-index.branch [ in-Long-1 w ↦ w.self-is ∙ written | in-Short-1 w ↦ w.self-is ∙ written ]
