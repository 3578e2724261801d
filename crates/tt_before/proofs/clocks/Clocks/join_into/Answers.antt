use Rattle.std.proofs.Common.{◌∙◌, ap, subst, slice_index}
use Rattle.std.specs.Result.{OnOk}
use Rattle.tt_before.specs.inside.Clocks.{IsJoin}
use Rattle.tt_before.specs.inside.Kept.{row_in}
use Rattle.tt_before.proofs.clocks.Clocks.join_into.Goals as goal

pub returns-in-Some : goal.returns-in-Some
returns-in-Some c =
    subst (λ known. OnOk c.join.result (IsJoin (slice_index c.join.new.row.items) (slice_index c.args.row.now.items) known))
    (ap slice_index c.as_slice.ensures.value ∙ ap row_in c.in-Some.ensures.value) c.join.ensures
