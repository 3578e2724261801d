use Rattle.std.proofs.Common.{◌∙◌, ◌++◌, ap, refl, subst, slice_index}
use Rattle.tt_before.specs.Objects.{acquires}
use Rattle.tt_before.specs.Steps.{step}
use Rattle.tt_before.specs.inside.Clocks.{IsTold}
use Rattle.tt_before.specs.inside.Keeping.{touches_made}
use Rattle.tt_before.specs.inside.Kept.{clock_of}
use Rattle.tt_before.proofs.Telling.{order_step}
use Rattle.tt_before.proofs.order.Order.add.Goals as goal

pub returns-clause-added : goal.returns-clause-added
returns-clause-added c = λ entries is.
    order_step entries c.args.self.now _ (step c.args.thread c.args.request.now c.args.reply.now c.args.made) c.in_ok-told.told is
    (subst (λ gives. IsTold (clock_of c.args.self.now.clocks) (clock_of c.step.new.self) c.args.thread
    (acquires c.args.self.now.known (step c.args.thread c.args.request.now c.args.reply.now c.args.made)) gives
    c.in_ok-told.told.rank (slice_index c.in_ok-told.told.row.items)) (c.as_slice-2.ensures.value ∙ c.in_ok-gives.ensures)
    (subst (λ takes. IsTold (clock_of c.args.self.now.clocks) (clock_of c.step.new.self) c.args.thread takes c.as_slice-2.result.now
    c.in_ok-told.told.rank (slice_index c.in_ok-told.told.row.items)) (c.as_slice.ensures.value ∙ c.in_ok-takes.ensures) c.in_ok-told.ensures))
    refl c.in_ok-follow.ensures.followed
    (c.in_ok-keep.ensures
    ∙ ap (λ one. c.args.self.now.touches.items ++ touches_made c.args.self.now.count c.args.thread c.in_ok-told.told one) c.in_ok-touched.ensures)
