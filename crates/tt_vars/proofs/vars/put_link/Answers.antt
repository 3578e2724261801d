use Rattle.std.proofs.lemmas.List.{get_or_default}
use Rattle.tt_vars.proofs.EndLemmas.{ends-after}
use Rattle.tt_vars.proofs.vars.put_link.Goals as goal

pub returns-clause-ends : goal.returns-clause-ends
returns-clause-ends c =
    let put = c.put_link.ensures in
    ends-after c.args.frames.now c.args.frame c.args.name c.args.to _ c.put_link.new.self c.put_link.result c.requires.ends c.requires.free c.requires.there
    put.put put.named put.unchanged (get_or_default _ _ _ _ c.requires.there)
