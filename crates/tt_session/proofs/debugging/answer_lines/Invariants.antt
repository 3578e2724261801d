use Rattle.std.proofs.Common.{◌≡◌, length}
use Rattle.tt_session.proofs.DebugLemmas.{IsShownSoFar}
use Rattle.tt_session.specs.Debugging.{lines_of}
use Rattle.tt_session.proofs.debugging.answer_lines.Given as goal

abbrev pub invariant-loop-rest : goal.invariant-loop-rest
invariant-loop-rest g l =
    (l.debug.setup ≡ l.fn.debug.setup)
    × (l.debug.given ≡ l.fn.debug.given)
    × IsShownSoFar g.K.Sink l.fn.debug.setup l.fn.debug.given (lines_of l.commands) l.debug.place l.rest l.fn.output l.output

abbrev pub decreases-loop-rest : goal.decreases-loop-rest
decreases-loop-rest g l = length l.rest
