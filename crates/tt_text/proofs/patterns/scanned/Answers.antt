use Rattle.std.proofs.Common.{ap}
use Rattle.tt_text.specs.Characters.{characters}
use Rattle.tt_text.proofs.GlobLemmas.{at_once, no_later, go_later}
use Rattle.tt_text.proofs.patterns.scanned.Goals as goal

pub places-preserved-in-Run-scan_segment : goal.places-preserved-in-Run-scan_segment
places-preserved-in-Run-scan_segment c =
    let segment = c.in-Run-scan_segment.ensures.cases in (
      λ m. segment.1 (c.places.invariant.0 m),
      λ end. c.places.invariant.1 (at_once (characters c.places.left.now) (characters c.places.rest.now) (segment.0 end)),
    )

pub returns-in-None : goal.returns-in-None
returns-in-None c =
    let none = no_later (characters c.places.left.now) (characters c.places.rest.now)
    (ap characters c.in-None.ensures.cases) c.in-Fails-scan_segment.ensures.cases in
    (λ e. absurd (cc (e)), λ m. absurd (none (c.places.invariant.0 m)))

pub places-preserved : goal.places-preserved
places-preserved c =
    let go = go_later (characters c.places.left.now) (characters c.places.rest.now)
    (characters c.in-Some.later.now) c.in-Some.field-0-0.now c.in-Some.ensures.cases c.in-Fails-scan_segment.ensures.cases in
    (λ m. go.0 (c.places.invariant.0 m), λ end. c.places.invariant.1 (go.1 end))
