use Rattle.std.proofs.Common.{rules, slice_index}
use Rattle.tt_before.proofs.Joins.{joined_all, joined_from, joined_more, joined_none}
use Rattle.tt_before.proofs.rows.join.Goals as goal

pub loop-thread-init : goal.loop-thread-init
loop-thread-init c = record { long = c.in_ok-lengthen.ensures.long; done = joined_none c.lengthen.new.row.items c.args.other.now }

pub loop-thread-preserved : goal.loop-thread-preserved
loop-thread-preserved c = record {
  long = search rules;
  done =
      joined_more c.loop-thread.thread c.raise.new.row.items c.loop-thread.row.items c.lengthen.new.row.items c.args.other.now
      _ (search rules) c.loop-thread.invariant.done c.raise.ensures.raised;
}

pub returns : goal.returns
returns c =
    joined_from (slice_index c.loop-thread.row.items) (slice_index c.lengthen.new.row.items) (slice_index c.args.row.now.items) (slice_index c.args.other.now)
    c.lengthen.ensures.same (joined_all c.loop-thread.thread c.loop-thread.row.items c.lengthen.new.row.items c.args.other.now
    (search rules) c.loop-thread.invariant.done)
