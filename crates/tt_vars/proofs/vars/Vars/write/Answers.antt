use Rattle.std.proofs.Common.{rules, ◌∙◌, ◌<◌, length, subst}
use Rattle.std.proofs.lemmas.List.{get_or_default}
use Rattle.std.specs.Option.{option_copied}
use Rattle.tt_vars.specs.declared.answers.Written.TheVariants.{Yes}
use Rattle.tt_vars.specs.Links.{Writes, place_of, with_frame}
use Rattle.tt_vars.proofs.HereLemmas.{written-here}
use Rattle.tt_vars.proofs.vars.Vars.write.Goals as goal

pub returns-then-exchange-clause-written : goal.returns-then-exchange-clause-written
returns-then-exchange-clause-written c =
    let within : c.args.frame < length c.self.inside.frames.items = search rules in
    let place = place_of c.args.frame c.args.name.now (option_copied c.args.index) in
    subst (λ old. Writes old place c.args.value (with_frame c.self.inside.frames.items c.args.frame c.exchange.new.self) Yes) c.self.view_is
    (written-here c.self.inside.frames.items c.args.frame c.args.name.now c.index_mut.result.now (c.index_mut.ensures.value ∙ get_or_default _ _ _ _ within)
    c.exchange.new.self c.args.value (option_copied c.args.index) (search rules) (search rules) (search rules))
