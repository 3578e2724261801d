use Rattle.std.proofs.Common.{rules}
use Rattle.std.proofs.lemmas.Option.{slice_get-get_or}
use Rattle.tt_shared.proofs.queues.Queues.clear.Goals as goal

pub returns-in-Some : goal.returns-in-Some
returns-in-Some c =
    let there = slice_get-get_or c.args.self.now c.in-Some.place c.new.result c.in-Some.ensures.found.0 in
    record { cleared = search (rules, there) }
