use Rattle.std.proofs.Common.{◌≡◌, ◌∙◌, ap, sym, subst, bytes_eq, rules}
use Rattle.std.specs.HashMap.{get}
use Rattle.std.specs.Map.{lookup}
use Rattle.std.specs.Option.{option_map}
use Rattle.std.specs.Prelude.{IfOk}
use Rattle.tt_vars.proofs.SlotLemmas.{lookup-at, lookup-none}
use Rattle.tt_vars.proofs.elements.Elements.read_as.Goals as goal

pub returns-in-Some-clause-answer : goal.returns-in-Some-clause-answer
returns-in-Some-clause-answer g c =
    subst (λ text. IfOk c.read_at.result (λ answer. answer ≡ option_map (g.R.Reading.meaning c.args.reading.now) text))
    (sym (lookup-at (get bytes_eq c.self.inside.places) c.self.inside.slots.items c.self.invariant.0 c.args.index.now c.in-Some.place.now (search rules))
    ∙ ap (lookup (bytes_eq c.args.index.now)) c.self.view_is)
    c.read_at.ensures.answer

pub returns-in-None-clause-answer : goal.returns-in-None-clause-answer
returns-in-None-clause-answer g c =
    sym (ap (option_map (g.R.Reading.meaning c.args.reading.now)) (ap (lookup (bytes_eq c.args.index.now)) (sym c.self.view_is)
    ∙ lookup-none (get bytes_eq c.self.inside.places) c.self.inside.slots.items c.self.invariant.0 c.args.index.now (search rules)))
