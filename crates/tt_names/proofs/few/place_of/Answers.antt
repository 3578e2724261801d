use Rattle.std.proofs.Common.{◌∙◌, bytes_eq, rules, tests}
use Rattle.std.proofs.lemmas.Iterator.{YieldsList-from_slice}
use Rattle.std.proofs.lemmas.Iterator.Search.{position_from_yields_List}
use Rattle.tt_names.proofs.Places.{found_in_keys}
use Rattle.tt_names.proofs.few.place_of.Goals as goal

pub returns-clause-place : goal.returns-clause-place
returns-clause-place g c =
    position_from_yields_List (λ pair. bytes_eq c.args.name.now pair.0) _ _ _ c.position.ensures.ran
    (YieldsList-from_slice c.args.pairs.now cc) (λ pair is_it q called. search (rules, tests))
    ∙ found_in_keys (bytes_eq c.args.name.now) c.args.pairs.now
