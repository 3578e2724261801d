use Rattle.std.proofs.Common.{rules}
use Rattle.tt_interp.specs.Interps.{coming}
use Rattle.tt_interp.proofs.Following.{replied_on, stood}
use Rattle.tt_interp.proofs.settling.after_reply.Goals as goal

pub returns-clause-leads : goal.returns-clause-leads
returns-clause-leads c =
    replied_on c.args.stack c.args.request c.args.reply c.args.kept.now c.turn.new.kept (coming c.standing_of.result)
    c.requires.goes_on
    (stood c.standing_of.result c.in_ok-reached.reached c.turn.new.self (search rules) c.in_ok-reached.ensures.leads)
