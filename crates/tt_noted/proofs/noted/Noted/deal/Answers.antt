use Rattle.std.proofs.Common.{rules, ◌+◌, [], length, length-append, drop, None, refl, ap, ◌∙◌}
use Rattle.tt_noted.specs.inside.Rule.{view, rest_of}
use Rattle.tt_noted.proofs.Keeps.{split_keeps}
use Rattle.tt_noted.proofs.Lists.{numbered_next}
use Rattle.tt_noted.proofs.Passes.{fresh_pass, one_more}
use Rattle.tt_noted.proofs.noted.Noted.deal.Goals as goal

pub split_seat-own-requires : goal.split_seat-own-requires
split_seat-own-requires g c =
    (search rules, search rules, split_keeps g.T.Tie.fits _ c.loop-k.seat.id c.loop-k.seat.me.0 (ap (λ m. m.0.turn) c.loop-k.invariant.1))

pub loop-k-preserved : goal.loop-k-preserved
loop-k-preserved g c = let was = c.loop-k.invariant in let did = c.split_seat-own.ensures in let n = c.args.n in let k = c.loop-k.k in let note = c.args.note.now in (
  did.0 ∙ was.0,
  did.2 ∙ ((λ i. (rest_of (was.1 i).0, (was.1 i).1)) ∙ (λ i. (view n (drop 1 (numbered_next n k note c.loop-k-test.true i)) None, []))),
  search rules,
  ap length c.push_reserved.ensures.items ∙ (length-append _ _ ∙ ap (λ m. m + 1) was.3),
  one_more c.args.self.now note k _ _ _ c.push_reserved.ensures.items was.3
      (fresh_pass c.args.self.now note k n _ c.loop-k.seat.me.0 refl (did.3 ∙ was.0) (ap (λ m. m.0) did.4)
      (ap (λ m. m.0) was.1) c.loop-k-test.true c.requires.seat.0) was.4,
)
