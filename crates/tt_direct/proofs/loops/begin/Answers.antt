use Rattle.std.proofs.Common.{rules, refl}
use Rattle.std.specs.Arc.{arc_value}
use Rattle.std.specs.Option.{option_map}
use Rattle.tt_direct.proofs.Turning.{next_is, turn_begins, turn_past, turn_pauses}
use Rattle.tt_direct.specs.Leading.{TclStack}
use Rattle.tt_direct.specs.inside.Loops.{loop_of}
use Rattle.tt_direct.proofs.loops.begin.Goals as goal

pub returns-in_ok-came-in-Past : goal.returns-in_ok-came-in-Past
returns-in_ok-came-in-Past c =
    let parts = c.args.parts.now in
    let old = c.args.stack.now in
    let stack : TclStack = record old { state = c.spend.new.self } in
    let ended = c.in_ok-came-in-Past.ensures.ended stack.state in
    record {
      begun = λ kept. turn_past kept c.in_ok-came-in-Past.came (loop_of parts) stack old
          (next_is parts.test (arc_value parts.body) (option_map arc_value parts.next) old.state)
          (search rules) (search rules) refl refl (search rules) (search (ended, rules));
    }

pub returns-in_ok-came-in-Pauses : goal.returns-in_ok-came-in-Pauses
returns-in_ok-came-in-Pauses c =
    let parts = c.args.parts.now in
    let old = c.args.stack.now in
    let stack : TclStack = record old { state = c.spend.new.self } in
    let moves = c.in_ok-came-in-Pauses.ensures.moves stack.state in
    record {
      begun = λ kept. turn_pauses kept c.in_ok-came-in-Pauses.came (loop_of parts) stack old
          (next_is parts.test (arc_value parts.body) (option_map arc_value parts.next) old.state)
          (search rules) (search rules) refl refl (search rules) (search (moves, rules));
    }

pub returns-in_ok-stack-in-Spent : goal.returns-in_ok-stack-in-Spent
returns-in_ok-stack-in-Spent c =
    let parts = c.args.parts.now in
    let old = c.args.stack.now in
    let stack : TclStack = record old { state = c.spend.new.self; steps = c.in_ok-stack-in-Spent.field-0 } in
    record {
      begun = λ kept. turn_begins kept (loop_of parts) stack old
          (next_is parts.test (arc_value parts.body) (option_map arc_value parts.next) old.state)
          (search rules) (search rules) (search rules) refl;
    }
