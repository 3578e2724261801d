use Rattle.std.proofs.Common.{◌≡◌, ◌∙◌, ap, sym, subst, bytes_eq, hash_map_len, rules}
use Rattle.std.specs.HashMap.{get}
use Rattle.std.specs.Map.{lookup}
use Rattle.std.specs.Option.{option_map}
use Rattle.std.specs.Prelude.{IfOk}
use Rattle.tt_vars.proofs.SlotLemmas.{changed, kept-set, lookup-at, lookup-none}
use Rattle.tt_vars.proofs.elements.Elements.change.Goals as goal

pub invariant_of-self : goal.invariant_of-self
invariant_of-self g c =
    let there = c.change_at.ensures.there in
    kept-set (get bytes_eq c.self.inside.places) (hash_map_len c.self.inside.places) c.self.inside.slots.items c.change_at.new.slots.items
    c.in-Some.place.now there.0 c.self.invariant there.1 there.2

pub returns-in-Some-clause-answer : goal.returns-in-Some-clause-answer
returns-in-Some-clause-answer g c =
    subst (λ text. IfOk c.change_at.result (λ answer. answer ≡ option_map (g.C.Changing.meaning c.args.changing.now) text))
    (sym (lookup-at (get bytes_eq c.self.inside.places) c.self.inside.slots.items c.self.invariant.0 c.args.index.now c.in-Some.place.now (search rules))
    ∙ ap (lookup (bytes_eq c.args.index.now)) c.self.view_is)
    c.change_at.ensures.answer

pub returns-in-Some-clause-changed : goal.returns-in-Some-clause-changed
returns-in-Some-clause-changed g c =
    changed (get bytes_eq c.self.inside.places) c.self.inside.slots.items c.change_at.new.slots.items c.args.self.now c.args.index.now
    c.in-Some.place.now c.self.invariant.0 (search rules) c.self.view_is c.change_at.result c.change_at.ensures.changed

pub returns-in-None-clause-answer : goal.returns-in-None-clause-answer
returns-in-None-clause-answer g c =
    sym (ap (option_map (g.C.Changing.meaning c.args.changing.now)) (ap (lookup (bytes_eq c.args.index.now)) (sym c.self.view_is)
    ∙ lookup-none (get bytes_eq c.self.inside.places) c.self.inside.slots.items c.self.invariant.0 c.args.index.now (search rules)))
