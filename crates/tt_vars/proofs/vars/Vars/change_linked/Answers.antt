use Rattle.std.proofs.Common.{◌<◌, ◌∙◌, Ok, length, rules, subst, sym}
use Rattle.std.proofs.lemmas.List.{get_or_default}
use Rattle.std.specs.Option.{option_copied}
use Rattle.tt_vars.specs.inside.Found.{FindsAt}
use Rattle.tt_vars.specs.Links.{Changes, place_of, with_frame}
use Rattle.tt_vars.proofs.EndLemmas.{ends-kept}
use Rattle.tt_vars.proofs.ChangeLemmas.{changes}
use Rattle.tt_vars.proofs.vars.Vars.change_linked.Goals as goal

pub returns-clause-changed : goal.returns-clause-changed
returns-clause-changed g c =
    let within : c.in-Ok.found.0 < length c.self.inside.frames.items = search rules in
    let place = place_of c.args.frame c.args.name.now (option_copied c.args.index) in
    subst (λ old. Changes (g.C.Changing.meaning c.args.changing.now) old place
    (with_frame c.self.inside.frames.items c.in-Ok.found.0 c.change_at.new.self) c.ok_or.result) c.self.view_is
    (changes (g.C.Changing.meaning c.args.changing.now) c.self.inside.frames.items place c.in-Ok.found.0 c.in-Ok.found.1
    (subst (λ old. FindsAt old place (Ok c.in-Ok.found)) (sym c.self.view_is) (search rules))
    c.index_mut.result.now c.change_at.new.self c.in_ok-answer.answer c.ok_or.result
    (c.index_mut.ensures.value ∙ get_or_default _ _ _ _ within) c.ok_or.ensures.value c.in_ok-answer.ensures.answer c.in_ok-answer.ensures.changed)

pub invariant_of-self-2 : goal.invariant_of-self-2
invariant_of-self-2 g c =
    let within : c.in-Ok.found.0 < length c.self.inside.frames.items = search rules in (
      search rules,
      ends-kept c.self.inside.frames.items c.in-Ok.found.0 _ c.change_at.new.self c.self.invariant.1 within c.change_at.ensures.links
          (c.index_mut.ensures.value ∙ get_or_default _ _ _ _ within),
      search rules,
    )
