use Rattle.std.proofs.Common.{rules}
use Rattle.std.specs.Option.{option_copied, option_map}
use Rattle.tt_vars.specs.inside.Found.{place_at}
use Rattle.tt_vars.specs.Links.{place_of}
use Rattle.tt_vars.proofs.StandsLemmas.{can-link}
use Rattle.tt_vars.proofs.vars.Vars.link.Goals as goal

pub put_link-requires-clause-free : goal.put_link-requires-clause-free
put_link-requires-clause-free c =
    can-link c.as_mut_slice.result.now c.args.frame c.in_ok-name.name (place_of c.args.other c.args.other_name.now (option_copied c.args.other_index))
    (option_map place_at c.follow-whole.result) c.in_ok-to.to (search rules) c.requires.lower (search rules) (search rules) (search rules)
