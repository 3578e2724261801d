use Rattle.std.proofs.Common.{rules}
use Rattle.tt_interp.proofs.Following.{stands}
use Rattle.tt_interp.proofs.interp.Interp.new.Goals as goal

pub returns-clause-stands : goal.returns-clause-stands
returns-clause-stands c =
    stands c.args.setup.now c.args.me c.args.start.now c.in_ok-start.start c.in_ok-kept.kept (search rules) (search rules)
