use Rattle.std.proofs.Common.{length, ◌/◌, ap}
use Rattle.std.specs.Result.{is_ok}
use Rattle.tt_devices.specs.Memory.{Collected}
use Rattle.tt_devices.proofs.StreamLemmas.{grows-part}
use Rattle.tt_devices.proofs.memory_sink.MemorySinkSink.put.Goals as goal

pub returns-then-count_call-clause-part : goal.returns-then-count_call-clause-part
returns-then-count_call-clause-part c =
    let got = ap (λ (sink : Collected). sink.got) c.self.view_is in
    rw (← got) (grows-part c.self.inside.got.items c.extend_from_slice.new.self.items c.args.piece.now (length c.args.piece.now / 2)
    (is_ok c.extend_from_slice.result) (rw c.split_at.ensures.front at c.extend_from_slice.ensures.items))
