use Rattle.tt_debug.proofs.CommandLemmas.{behind-none, behind-some}
use Rattle.tt_debug.proofs.command.behind.Goals as goal

pub returns-in-Some : goal.returns-in-Some
returns-in-Some c =
    record { behind = behind-some c.args.word.now c.args.line.now c.in-Some.rest.now c.in-Some.ensures.some }

pub returns-in-None : goal.returns-in-None
returns-in-None c = record { behind = behind-none c.args.word.now c.args.line.now c.in-None.ensures.none }
