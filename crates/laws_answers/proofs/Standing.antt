-- Following links comes to an end.
use Rattle.std.proofs.Common.{◌≡◌, ℕ, zero, suc, ◌<◌, List, Option, Some, None, refl, arith}
use Rattle.tt_vars.proofs.FollowLemmas.{left, step-smaller}
use Rattle.tt_vars.specs.Links.{StandsFor, at, itself, linked, nothing, onward}
use Rattle.tt_vars.specs.Variables.{Frame, leads}
use Rattle.tt_vars.specs.declared.variable.Place.{Place}
use Rattle.tt_vars.specs.inside.Ending.{LinksEnd}

abbrev Stands : List Frame → Place → Type 0
Stands frames place = (stands : Option Place) × StandsFor frames place stands

-- with so many names left at most
follow : (frames : List Frame) → LinksEnd frames → (most : ℕ) (place : Place) → left frames place.frame place.name < most → Stands frames place
follow frames ends zero place less = absurd (omega (arith, less))
follow frames ends (suc most) place less = by (leads (at frames place)) refl (λ next smaller. follow frames ends most next smaller)
  where
    on : (to next : Option Place) → leads (at frames place) ≡ Some to → onward to place.index ≡ next
        → ((next : Place) → left frames next.frame next.name < most → Stands frames next) → Stands frames place
    on to None is goes rest = (None, nothing is goes)
    on to (Some next) is goes rest =
        let smaller = step-smaller frames place next to ends is goes in
        let found = rest next (omega (arith, smaller, less)) in
        (found.0, linked is goes found.1)

    by : (to : Option (Option Place)) → leads (at frames place) ≡ to
        → ((next : Place) → left frames next.frame next.name < most → Stands frames next) → Stands frames place
    by None is rest = (Some place, itself is)
    by (Some to) is rest = on to (onward to place.index) is refl rest

pub stands : (frames : List Frame) (place : Place) → LinksEnd frames → Stands frames place
stands frames place ends = follow frames ends (suc (left frames place.frame place.name)) place (omega arith)
