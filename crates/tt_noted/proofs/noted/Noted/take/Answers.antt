use Rattle.std.proofs.Common.{rules, slice_get, ap, ◌∙◌}
use Rattle.tt_noted.proofs.Keeps.{take_keeps}
use Rattle.tt_noted.proofs.Passes.{took_all}
use Rattle.tt_noted.proofs.noted.Noted.take.Goals as goal

pub compare_exchange-requires : goal.compare_exchange-requires
compare_exchange-requires g c = let note = c.requires.has_note in (
  search rules,
  search rules,
  take_keeps g.T.Tie.fits _ _ _ c.peek-seen.result c.loop.seat.me note.0 c.if-seen-eq0.true (ap (λ m. slice_get m.0.notes 0) c.loop.invariant.4 ∙ note.1),
)

pub returns-then-compare_exchange-seen-clause-took : goal.returns-then-compare_exchange-seen-clause-took
returns-then-compare_exchange-seen-clause-took g c = let did = c.compare_exchange.ensures.2.0 c.if-compare_exchange-seen.true in
    took_all g.T.Tie.fits _ _ _ did.0 c.loop.invariant.4 c.requires.no_slot did.1 did.2
