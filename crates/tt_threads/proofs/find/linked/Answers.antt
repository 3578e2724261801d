use Rattle.std.proofs.Common.{rules}
use Rattle.tt_threads.proofs.Found.{not_numbered, numbered}
use Rattle.tt_threads.specs.Rows.{is_linked}
use Rattle.tt_threads.proofs.find.linked.Goals as goal

pub returns-in-Some : goal.returns-in-Some
returns-in-Some c =
    let there = numbered is_linked c.in-Some.number _ c.index-rows-number.result _ c.requires c.in-Some.ensures.found c.index-rows-number.is in
    search (rules, there)

pub returns-in_default : goal.returns-in_default
returns-in_default c =
    let there = numbered is_linked c.in-Some.number _ c.index-rows-number.result _ c.requires c.in-Some.ensures.found c.index-rows-number.is in
    search (rules, there)

pub returns-in_default-2 : goal.returns-in_default-2
returns-in_default-2 c = cc (not_numbered is_linked c.args.rows.now c.args.id.now c.in_default.ensures.none)
