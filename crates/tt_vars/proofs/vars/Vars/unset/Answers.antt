use Rattle.std.proofs.Common.{◌<◌, ◌∙◌, length, rules}
use Rattle.std.proofs.lemmas.List.{get_or_default}
use Rattle.tt_vars.proofs.EndLemmas.{ends-kept}
use Rattle.tt_vars.proofs.vars.Vars.unset.Goals as goal

pub invariant_of-self : goal.invariant_of-self
invariant_of-self c =
    let within : c.in-Ok.found.0 < length c.self.inside.frames.items = search rules in (
      search rules,
      ends-kept c.self.inside.frames.items c.in-Ok.found.0 _ c.remove_at.new.self c.self.invariant.1 within c.remove_at.ensures.links
          (c.index_mut.ensures.value ∙ get_or_default _ _ _ _ within),
      search rules,
    )
