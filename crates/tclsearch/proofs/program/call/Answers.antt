use Rattle.std.proofs.Common.{drop, map, string_bytes}
use Rattle.std.specs.Vec.Iter.{into_iter_items}
use Rattle.tt_search.specs.Searched.{IsSearched, no_memory}
use Rattle.tt_session.proofs.WordLemmas.{if-given, of-given}
use Rattle.tclsearch.proofs.program.call.Goals as goal

pub returns-in-Ok-clause-answer : goal.returns-in-Ok-clause-answer
returns-in-Ok-clause-answer g c =
    of-given c.args.all (λ all. drop 1 (into_iter_items all)) c.in-Ok.words.items c.as_slice.result.now
    (λ list. IsSearched g.F.Files g.S.Source g.K.Sink g.E.Sink (map string_bytes list) c.args.files.now c.search.new.files
    (record { input = c.args.input; output = c.args.output; errors = c.args.errors }) c.search.result)
    c.in-Ok.ensures.read c.as_slice.ensures.value c.search.ensures.answer
