use Rattle.tt_threads.proofs.Found.{made_is}
use Rattle.tt_threads.proofs.find.thread_of_id.Goals as goal

pub returns : goal.returns
returns c =
    let given = c.number_within-number.ensures in
    made_is c.args.rows.now c.args.id.now c.number_within-number.result c.requires given.found given.none
