use Rattle.tt_debug.proofs.PlaceLemmas.{IsGoing}
use Rattle.tt_debug.proofs.walking.go_to.Given as goal

abbrev pub invariant-loop-place : goal.invariant-loop-place
invariant-loop-place g l =
    IsGoing g.S.Source.held g.K.Sink.got g.E.Sink.got l.given.threads l.place l.fn.system l.system
