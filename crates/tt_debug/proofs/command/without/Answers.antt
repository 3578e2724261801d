use Rattle.std.proofs.Common.{None, Some}
use Rattle.std.proofs.lemmas.Bool.Decides.{Decides-eqb}
use Rattle.std.proofs.lemmas.Slice.Eq.{strip_prefix_is}
use Rattle.tt_debug.proofs.command.without.Goals as goal

pub returns-in_err-rest-clause-none : goal.returns-in_err-rest-clause-none
returns-in_err-rest-clause-none c =
    rw c.from_residual.ensures (strip_prefix_is Decides-eqb c.args.line.now c.args.word.now None c.in_err-rest.ensures.cases)

pub returns-clause-some : goal.returns-clause-some
returns-clause-some c =
    strip_prefix_is Decides-eqb c.args.line.now c.args.word.now (Some c.in_ok-rest.rest) c.in_ok-rest.ensures.cases
