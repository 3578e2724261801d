use Rattle.std.proofs.Common.{◌∙◌, ap, sym, bytes_eq, rules}
use Rattle.std.specs.HashMap.{get}
use Rattle.std.specs.Map.{lookup}
use Rattle.tt_vars.proofs.SlotLemmas.{lookup-at, lookup-none}
use Rattle.tt_vars.proofs.elements.Elements.get.Goals as goal

pub returns-in-Some : goal.returns-in-Some
returns-in-Some c = record {
  found =
      c.value_at.ensures
      ∙ sym (lookup-at (get bytes_eq c.self.inside.places) c.self.inside.slots.items c.self.invariant.0 c.args.index.now c.in-Some.place.now (search rules))
      ∙ ap (lookup (bytes_eq c.args.index.now)) c.self.view_is;
}

pub returns-in-None : goal.returns-in-None
returns-in-None c = record {
  found = sym (ap (lookup (bytes_eq c.args.index.now)) (sym c.self.view_is)
      ∙ lookup-none (get bytes_eq c.self.inside.places) c.self.inside.slots.items c.self.invariant.0 c.args.index.now (search rules));
}
