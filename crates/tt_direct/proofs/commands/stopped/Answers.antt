use Rattle.std.proofs.Common.{rules, ap}
use Rattle.tt_frames.specs.Vocabulary.{same_ending}
use Rattle.tt_direct.proofs.Staying.{comes_now, done_as}
use Rattle.tt_direct.specs.inside.Commands.{then_done}
use Rattle.tt_direct.specs.declared.commands.Done.TheVariants as done
use Rattle.tt_direct.specs.declared.commands.Stop.TheVariants as stop
use Rattle.tt_direct.proofs.commands.stopped.Goals as goal

pub returns-in_ok-came-in-Ended : goal.returns-in_ok-came-in-Ended
returns-in_ok-came-in-Ended c =
    let stack = c.args.stack.now in
    let ended = done.Stops (stop.Ended c.in-Ended.ending) in
    record {
      stopped = λ kept held whole before here on.
          comes_now c.in_ok-came-in-Ended.came (same_ending c.in-Ended.ending stack.state) stack (search rules)
          (c.in_ok-came-in-Ended.ensures.ended stack.state)
          (done_as kept held whole stack before (done.Stops c.args.stop) ended c.args.frame (ap done.Stops c.in-Ended.is) on);
    }

pub returns-in_ok-came-in-Pauses : goal.returns-in_ok-came-in-Pauses
returns-in_ok-came-in-Pauses c =
    let stack = c.args.stack.now in
    let pauses = done.Stops stop.Pauses in
    record {
      stopped = λ kept held whole before here on.
          comes_now c.in_ok-came-in-Pauses.came (then_done pauses c.args.frame stack.state) stack (search rules)
          (search (c.in_ok-came-in-Pauses.ensures.moves stack.state, rules))
          (done_as kept held whole stack before (done.Stops c.args.stop) pauses c.args.frame (ap done.Stops c.in-Pauses.is) on);
    }

pub returns-in_ok-came-in-Needs : goal.returns-in_ok-came-in-Needs
returns-in_ok-came-in-Needs c =
    record {
      stopped = λ kept held whole before here on.
          c.in_ok-came-in-Needs.ensures.left kept held whole before here
          (done_as kept held whole c.args.stack.now before (done.Stops c.args.stop) (done.Stops (stop.Needs c.in-Needs.next)) c.args.frame
          (ap done.Stops c.in-Needs.is) on);
    }

pub returns-in_ok-came-in-Calls : goal.returns-in_ok-came-in-Calls
returns-in_ok-came-in-Calls c =
    record {
      stopped = λ kept held whole before here on.
          c.in_ok-came-in-Calls.ensures.left kept held whole before here
          (done_as kept held whole c.args.stack.now before (done.Stops c.args.stop) (done.Stops (stop.Calls c.in-Calls.next)) c.args.frame
          (ap done.Stops c.in-Calls.is) on);
    }
