use Rattle.std.proofs.Common.{◌∙◌, ap, sym, bytes_eq, hash_map_len, rules}
use Rattle.std.specs.HashMap.{get}
use Rattle.std.specs.Map.{remove_entry}
use Rattle.tt_vars.specs.inside.Slots.{elements_in}
use Rattle.tt_vars.proofs.SlotLemmas.{kept-gap, remove-at, remove-none}
use Rattle.tt_vars.proofs.elements.Elements.leave_gap.Goals as goal

pub invariant_of-self : goal.invariant_of-self
invariant_of-self c =
    kept-gap (get bytes_eq c.self.inside.places) (get bytes_eq c.remove.new.self) (hash_map_len c.self.inside.places) (hash_map_len c.remove.new.self)
    c.self.inside.slots.items c.clear_at.new.slots.items c.args.index.now c.in-Some.place c.self.invariant (search rules)
    c.remove.ensures.updates.0 (search rules) c.clear_at.ensures.gap

pub returns-in-Some : goal.returns-in-Some
returns-in-Some c = record {
  removed =
      ap elements_in c.clear_at.ensures.gap
      ∙ sym (remove-at (get bytes_eq c.self.inside.places) c.self.inside.slots.items c.self.invariant.0 c.args.index.now c.in-Some.place (search rules))
      ∙ ap (remove_entry (bytes_eq c.args.index.now)) c.self.view_is;
}

pub returns-in-None : goal.returns-in-None
returns-in-None c = record {
  removed =
      sym (remove-none (get bytes_eq c.self.inside.places) c.self.inside.slots.items c.self.invariant.0 c.args.index.now (search rules))
      ∙ ap (remove_entry (bytes_eq c.args.index.now)) c.self.view_is;
}
