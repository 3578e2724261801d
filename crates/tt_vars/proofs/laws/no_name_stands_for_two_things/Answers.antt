use Rattle.tt_vars.proofs.StandsLemmas.{stands-once}
use Rattle.tt_vars.proofs.laws.no_name_stands_for_two_things.Goals as goal

pub returns : goal.returns
returns c frames place one two s r = stands-once frames s r
