use Rattle.std.proofs.Common.{◌<◌, length, Option}
use Rattle.tt_vars.specs.declared.variable.Place.{Place}
use Rattle.tt_vars.specs.Links.{StandsFor}
use Rattle.tt_vars.specs.inside.Found.{place_at}
use Rattle.tt_vars.proofs.FollowLemmas.{left}
use Rattle.tt_vars.proofs.links.follow.Given as goal

-- what the name that was reached stands for is what the first one stands for
abbrev pub invariant-loop-to : goal.invariant-loop-to
invariant-loop-to l =
    (l.here.frame < length l.frames)
    × ((stands : Option Place) → StandsFor l.frames (place_at l.here) stands → StandsFor l.frames (place_at l.fn.spot) stands)

abbrev pub decreases-loop-to : goal.decreases-loop-to
decreases-loop-to l = left l.frames l.here.frame l.here.name.now
