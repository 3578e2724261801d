use Rattle.std.specs.Option.{option_copied}
use Rattle.tt_vars.proofs.FoundLemmas.{written-copy}
use Rattle.tt_vars.proofs.frame.Frame.find.Goals as goal

pub returns-clause-written : goal.returns-clause-written
returns-clause-written c =
    written-copy c.args.self.now c.args.name.now (option_copied c.args.index) c.in_ok-element.element c.in-Ok.variable c.in_ok-element.ensures.owned
    c.in-Ok.ensures.written
