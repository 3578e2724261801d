use Rattle.std.proofs.lemmas.Result.{IfOk-weaker}
use Rattle.tt_waits.proofs.Walking.{caught_is}
use Rattle.tt_waits.proofs.circles.caught.Goals as goal

pub returns : goal.returns
returns c =
    IfOk-weaker c.on_diagonal.result _ _
    (λ found diagonal.
    caught_is c.args.edges.now c.in_ok-threads.threads.items c.as_slice.result.now c.as_slice-2.result.now c.in_ok-rows.rows c.close.new.rows
    found.items c.as_slice.ensures.value c.as_slice-2.ensures.value c.in_ok-threads.ensures.all c.in_ok-rows.ensures.count
    c.in_ok-rows.ensures.marks c.close.ensures.marks diagonal)
    c.on_diagonal.ensures
