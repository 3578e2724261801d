use Rattle.std.proofs.Common.{refl, arith}
use Rattle.std.proofs.lemmas.Simd.{zip2_splat, zip2_of_maps, splat_is_map, length-chunk}
use lib.Lanes.{chunk}
use Rattle.tt_lanes.specs.Classes.{begins_character}
use Rattle.tt_lanes.proofs.LaneLemmas.{count_is}
use Rattle.tt_lanes.proofs.classes.FirstByteCounted.count.Goals as goal

pub returns : goal.returns
returns c =
    let v = chunk c.args.at 64 c.args.bytes.now in
    let long = length-chunk c.args.at 64 c.args.bytes.now c.requires in
    count_is begins_character c.args.bytes.now c.args.at 64 c.requires (omega arith) c.type_inv.bytes _
    (zip2_of_maps _ _ _ v (zip2_splat _ v 64 192 long) (splat_is_map v 64 128 long)) refl
