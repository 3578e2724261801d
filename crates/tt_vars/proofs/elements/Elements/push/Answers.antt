use Rattle.std.proofs.Common.{◌≡◌, ◌∙◌, ap, sym, bytes_eq, hash_map_len, Some, [], ◌∷◌, ◌++◌, None, rules}
use Rattle.std.specs.HashMap.{get}
use Rattle.std.specs.Map.{lookup}
use Rattle.indexmap.specs.IndexMap.{insert_entry}
use Rattle.tt_vars.specs.inside.Slots.{elements_in}
use Rattle.tt_vars.proofs.SlotLemmas.{insert-none, kept-last}
use Rattle.tt_vars.proofs.elements.Elements.push.Goals as goal

pub invariant_of-self-2 : goal.invariant_of-self-2
invariant_of-self-2 c =
    let none : lookup (bytes_eq c.args.index) (elements_in c.self.inside.slots.items) ≡ None =
    ap (lookup (bytes_eq c.args.index)) c.self.view_is ∙ c.requires.new in
    kept-last (get bytes_eq c.self.inside.places) (get bytes_eq c.insert.new.self) (hash_map_len c.self.inside.places) (hash_map_len c.insert.new.self)
    c.self.inside.slots.items c.push_reserved.new.self.items c.args.index c.in_ok-name.name c.args.value c.len.result c.in_ok-insert.field-0
    c.self.invariant none (search rules) (search rules) c.in_ok-insert.ensures.updates.0 (search rules) c.in_ok-insert.ensures.len (search rules)

pub returns-clause-put : goal.returns-clause-put
returns-clause-put c =
    let none : lookup (bytes_eq c.args.index) (elements_in c.self.inside.slots.items) ≡ None =
    ap (lookup (bytes_eq c.args.index)) c.self.view_is ∙ c.requires.new in
    let is : c.push_reserved.new.self.items ≡ c.self.inside.slots.items ++ Some (c.args.index, c.args.value) ∷ [] = search rules in
    ap elements_in is
    ∙ sym (insert-none (get bytes_eq c.self.inside.places) c.self.inside.slots.items c.self.invariant.0 c.args.index none c.args.value)
    ∙ ap (λ l. insert_entry bytes_eq l c.args.index c.args.value) c.self.view_is
