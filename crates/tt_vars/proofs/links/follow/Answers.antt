use Rattle.std.proofs.Common.{◌≡◌, Some, rules}
use Rattle.tt_vars.specs.Variables.{leads}
use Rattle.tt_vars.specs.Links.{at, onward, itself, nothing}
use Rattle.tt_vars.specs.inside.Found.{place_at}
use Rattle.tt_vars.proofs.FollowLemmas.{step-within, step-smaller, step-stands}
use Rattle.tt_vars.proofs.links.follow.Goals as goal

pub returns-in_default-onward-clause-stands : goal.returns-in_default-onward-clause-stands
returns-in_default-onward-clause-stands c = c.loop-to.invariant.1 _ (nothing {to = c.in-Some.to.now} (search rules) (search rules))

pub loop-to-smaller : goal.loop-to-smaller
loop-to-smaller c =
    step-smaller c.args.frames.now (place_at c.loop-to.here) (place_at c.in-Some-onward.next) c.in-Some.to.now c.requires.ends (search rules) (search rules)

pub loop-to-preserved : goal.loop-to-preserved
loop-to-preserved c =
    let leads_is : leads (at c.args.frames.now (place_at c.loop-to.here)) ≡ Some c.in-Some.to.now = search rules in
    let onward_is : onward c.in-Some.to.now (place_at c.loop-to.here).index ≡ Some (place_at c.in-Some-onward.next) = search rules in (
      step-within c.args.frames.now (place_at c.loop-to.here)
          (place_at c.in-Some-onward.next) c.in-Some.to.now c.requires.ends leads_is onward_is c.loop-to.invariant.0,
      λ stands s. c.loop-to.invariant.1 stands
          (step-stands c.args.frames.now (place_at c.loop-to.here)
          (place_at c.in-Some-onward.next) c.in-Some.to.now c.requires.ends leads_is onward_is stands s),
    )

pub returns-clause-stands : goal.returns-clause-stands
returns-clause-stands c = c.loop-to.invariant.1 (Some (place_at c.loop-to.here)) (itself (search rules))
