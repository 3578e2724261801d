use Rattle.std.proofs.Common.{◌≡◌, ◌∙◌, ◌<◌, arith, false, length}
use Rattle.tt_debug.proofs.PlaceLemmas.{come-less, kept-at}
use Rattle.tt_debug.proofs.walking.go_to.Goals as goal

pub returns-then-not-branch-clause-comes : goal.returns-then-not-branch-clause-comes
returns-then-not-branch-clause-comes g c =
    let test = c.if-not-branch.true in
    let not : c.in_ok-take_entry.field-0 ≡ false = cc in
    let stays = kept-at g.S.Source.held g.K.Sink.got g.E.Sink.got c.args.given.now.threads c.loop-place.place c.take_entry.new.system
    c.in_ok-take_entry.field-0 not c.in_ok-take_entry.ensures.goes in
    let less : c.loop-place.place < c.args.wanted = omega (arith, c.end_of-end.ensures.within.1) in
    let within : c.loop-place.place < length c.args.given.now.threads = omega (arith, c.end_of-end.ensures.within.0) in
    come-less g.S.Source.held g.K.Sink.got g.E.Sink.got c.args.given.now.threads c.args.wanted c.loop-place.place c.args.system.now.setup
    c.take_entry.new.system stays.0 (c.take_entry.ensures.same.setup ∙ c.loop-place.invariant.same.setup) less within stays.1
