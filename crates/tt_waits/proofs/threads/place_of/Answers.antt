use Rattle.tt_waits.proofs.Standing.{not_found}
use Rattle.tt_waits.proofs.threads.place_of.Goals as goal

pub returns-clause-none : goal.returns-clause-none
returns-clause-none c =
    not_found c.args.threads.now c.args.thread c.binary_search.result c.ok.result c.requires c.binary_search.ensures.position c.ok.ensures.value
