use Rattle.tt_search.specs.Searched.{IsReported}
use Rattle.tt_search.proofs.searching.first_find.Given as goal

abbrev pub invariant-loop-tenth : goal.invariant-loop-tenth
invariant-loop-tenth g l = IsReported (g.E.Sink.got l.fn.errors) (g.E.Sink.got l.errors)
