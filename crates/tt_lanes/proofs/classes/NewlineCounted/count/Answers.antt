use Rattle.std.proofs.Common.{refl, arith}
use Rattle.std.proofs.lemmas.Simd.{zip2_splat, length-chunk}
use lib.Lanes.{chunk}
use Rattle.tt_lanes.specs.Classes.{is_newline}
use Rattle.tt_lanes.proofs.LaneLemmas.{count_is}
use Rattle.tt_lanes.proofs.classes.NewlineCounted.count.Goals as goal

pub returns : goal.returns
returns c =
    let v = chunk c.args.at 64 c.args.bytes.now in
    let long = length-chunk c.args.at 64 c.args.bytes.now c.requires in
    count_is is_newline c.args.bytes.now c.args.at 64 c.requires (omega arith) c.type_inv.bytes _ (zip2_splat _ v 64 10 long) refl
