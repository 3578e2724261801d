use Rattle.std.specs.HashMap.{get}
use Rattle.std.proofs.Common.{bytes_eq, subst, rules}
use Rattle.tt_vars.specs.inside.Slots.{Differ}
use Rattle.tt_vars.proofs.SlotLemmas.{differ}
use Rattle.tt_vars.proofs.elements.Elements.close_gaps.Goals as goal

pub copied-requires : goal.copied-requires
copied-requires c = subst Differ (search rules) (differ (get bytes_eq c.self.inside.places) c.self.inside.slots.items c.self.invariant.0)
