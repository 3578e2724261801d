use Rattle.std.proofs.Common.{◌++◌, [], ap}
use Rattle.tt_text.specs.Characters.{characters}
use Rattle.tt_strings.specs.Mapping.{step}
use Rattle.tt_strings.proofs.Pairs.{mapped_more, mapped_all, nothing_mapped}
use Rattle.tt_strings.proofs.mapping.mapped.Goals as goal

pub places-preserved : goal.places-preserved
places-preserved c = λ more h.
    mapped_more _ _ _ _ _ _ c.in_ok-extend_from_slice.ensures.items (c.places.invariant (c.in-Some.part.now ++ more) (step c.in-Some.ensures.cases h))

pub returns : goal.returns
returns c = mapped_all _ _ _ _ c.in_ok-from_vec.ensures.made (c.places.invariant [] (nothing_mapped _ _ (ap characters c.in_default.ensures.cases)))
