use Rattle.std.proofs.Common.{rules, ◌∙◌, ◌<◌, Ok, length, subst}
use Rattle.std.proofs.lemmas.List.{get_or_default}
use Rattle.std.specs.Option.{option_copied}
use Rattle.tt_vars.specs.Links.{Changes, place_of, with_frame}
use Rattle.tt_vars.proofs.HereLemmas.{changed-here}
use Rattle.tt_vars.proofs.vars.Vars.change.Goals as goal

pub returns-in-Some-clause-changed : goal.returns-in-Some-clause-changed
returns-in-Some-clause-changed g c =
    let within : c.args.frame < length c.self.inside.frames.items = search rules in
    let place = place_of c.args.frame c.args.name.now (option_copied c.args.index) in
    subst (λ old. Changes (g.C.Changing.meaning c.args.changing.now) old place
    (with_frame c.self.inside.frames.items c.args.frame c.change.new.self) (Ok c.in-Some.made)) c.self.view_is
    (changed-here c.self.inside.frames.items c.args.frame c.args.name.now c.index_mut.result.now (c.index_mut.ensures.value ∙ get_or_default _ _ _ _ within)
    (g.C.Changing.meaning c.args.changing.now) c.change.new.self c.in-Some.made (option_copied c.args.index) (search rules) (search rules))
