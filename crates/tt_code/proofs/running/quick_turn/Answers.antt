use Rattle.std.proofs.Common.{◌≡◌, ◌+◌, rules}
use Rattle.tt_code.proofs.Stepping.{goes}
use Rattle.tt_code.proofs.running.quick_turn.Goals as goal

pub returns-in_ok-next-in-Some-clause-same : goal.returns-in_ok-next-in-Some-clause-same
returns-in_ok-next-in-Some-clause-same c =
    let place : c.in_ok-next-in-Some.next ≡ c.args.place + 1 + c.in-Some.count = search rules in
    goes c.args.instructions.now c.args.place c.in-Some.count c.in_ok-next-in-Some.next c.index-instructions-place.result c.args.values.now
    c.perform_quickly.new.values c.requires c.index-instructions-place.is place (search rules)
