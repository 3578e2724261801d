use Rattle.std.proofs.Common.{rules}
use Rattle.std.specs.Option.{option_copied}
use Rattle.tt_vars.proofs.FoundLemmas.{find-removed, find-text, find-written}
use Rattle.tt_vars.proofs.frame.Frame.place.Goals as goal

pub returns-clause-removed : goal.returns-clause-removed
returns-clause-removed c =
    find-removed c.args.missing c.args.self.now c.args.name.now c.in_ok-place.named.now (option_copied c.args.index) (search rules)
    c.in_ok-place.place (search rules) (search rules)

pub returns-clause-text : goal.returns-clause-text
returns-clause-text c =
    find-text c.args.missing c.args.self.now c.args.name.now c.in_ok-place.named.now (option_copied c.args.index) (search rules)
    c.in_ok-place.place (search rules) (search rules)

pub returns-clause-written : goal.returns-clause-written
returns-clause-written c =
    find-written c.args.missing c.args.self.now c.args.name.now c.in_ok-place.named.now (option_copied c.args.index) (search rules)
    c.in_ok-place.place (search rules) (search rules)
