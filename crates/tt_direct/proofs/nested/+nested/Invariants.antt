use Rattle.std.proofs.Common.{◌+◌, ◌*◌}
use Rattle.tt_code.specs.Running.{needs}
use Rattle.tt_evaluation.specs.Frames.{plan_of}
use Rattle.tt_frames.specs.Control.{clauses}
use Rattle.tt_frames.specs.Expressions.{needs_then}
use Rattle.tt_frames.specs.Frames.{after, command_needs, on_got}
use Rattle.tt_frames.specs.Loops.{looping}
use Rattle.tt_direct.specs.Leading.{Stays}
use Rattle.tt_direct.specs.inside.Commands.{begun_command}
use Rattle.tt_direct.specs.inside.Loops.{loop_of}
use Rattle.tt_direct.proofs.nested.+nested.Given as goal

abbrev pub decreases-go_over : goal.decreases-go_over
decreases-go_over l = 12 * l.depth

abbrev pub decreases-call : goal.decreases-call
decreases-call l = 12 * l.depth + 1

abbrev pub decreases-act : goal.decreases-act
decreases-act l = 12 * l.depth + 2

abbrev pub decreases-words : goal.decreases-words
decreases-words l = 12 * l.depth + 3

abbrev pub decreases-command : goal.decreases-command
decreases-command l = 12 * l.depth + 4

abbrev pub decreases-run : goal.decreases-run
decreases-run l = 12 * l.depth + 5

abbrev pub decreases-script : goal.decreases-script
decreases-script l = 12 * l.depth + 6

abbrev pub decreases-compute : goal.decreases-compute
decreases-compute l = 12 * l.depth + 1

abbrev pub decreases-choose : goal.decreases-choose
decreases-choose l = 12 * l.depth + 1

abbrev pub decreases-test : goal.decreases-test
decreases-test l = 12 * l.depth + 2

abbrev pub decreases-run_body : goal.decreases-run_body
decreases-run_body l = 12 * l.depth + 7

abbrev pub decreases-follow : goal.decreases-follow
decreases-follow l = 12 * l.depth + 7

abbrev pub decreases-turn : goal.decreases-turn
decreases-turn l = 12 * l.depth + 8

abbrev pub decreases-turns : goal.decreases-turns
decreases-turns l = 12 * l.depth + 9

abbrev pub decreases-advance : goal.decreases-advance
decreases-advance l = 12 * l.depth + 1

abbrev pub decreases-drive : goal.decreases-drive
decreases-drive l = 12 * l.depth + 2

abbrev pub decreases-evaluate : goal.decreases-evaluate
decreases-evaluate l = 12 * l.depth + 10

abbrev pub invariant-run-commands : goal.invariant-run-commands
invariant-run-commands l =
    Stays (begun_command l.frame l.stack.state) l.stack l.kept (begun_command l.fn.frame l.fn.stack.state) l.fn.stack l.fn.kept

abbrev pub invariant-words-words : goal.invariant-words-words
invariant-words-words l =
    Stays (command_needs l.frame l.stack.state) l.stack l.kept (command_needs l.fn.frame l.fn.stack.state) l.fn.stack l.fn.kept

abbrev pub invariant-compute-needs : goal.invariant-compute-needs
invariant-compute-needs l =
    Stays (needs_then l.purpose (needs l.code) l.stack.state) l.stack l.kept
    (needs_then l.fn.purpose (needs l.fn.code) l.fn.stack.state) l.fn.stack l.fn.kept

abbrev pub invariant-turns-turns : goal.invariant-turns-turns
invariant-turns-turns l =
    Stays (looping (loop_of l.parts) l.stack.state) l.stack l.kept
    (looping (loop_of l.parts) l.fn.stack.state) l.fn.stack l.fn.kept

abbrev pub invariant-drive-moves : goal.invariant-drive-moves
invariant-drive-moves l =
    Stays (plan_of after on_got l.step l.stack.state) l.stack l.kept
    (plan_of after on_got l.fn.first l.fn.stack.state) l.fn.stack l.fn.kept

abbrev pub invariant-choose-clauses : goal.invariant-choose-clauses
invariant-choose-clauses l =
    Stays (clauses l.left l.stack.state) l.stack l.kept (clauses l.fn.left l.fn.stack.state) l.fn.stack l.fn.kept
