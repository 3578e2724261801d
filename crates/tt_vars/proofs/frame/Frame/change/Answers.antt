use Rattle.std.proofs.Common.{rules}
use Rattle.tt_vars.proofs.HereLemmas.{changed-ok, none-ok}
use Rattle.tt_vars.proofs.LinkLemmas.{keeps-through}
use Rattle.tt_vars.proofs.frame.Frame.change.Goals as goal

pub returns-in-Some-clause-scalar : goal.returns-in-Some-clause-scalar
returns-in-Some-clause-scalar g c =
    changed-ok (g.C.Changing.meaning c.args.changing.now) c.args.self.now c.args.name.now c.self.inside.names c.in-Some.variable.now c.change_in.new.variable c.change_in.result
    c.self.view_is (search rules) (search rules) (search rules)

pub returns-in-Some-clause-none : goal.returns-in-Some-clause-none
returns-in-Some-clause-none g c =
    none-ok (g.C.Changing.meaning c.args.changing.now) c.args.self.now c.args.name.now c.self.inside.names c.in-Some.variable.now c.change_in.new.variable c.change_in.result
    c.self.view_is (search rules) (search rules)

pub returns-in-Some-clause-links : goal.returns-in-Some-clause-links
returns-in-Some-clause-links g c = search (keeps-through, rules)
