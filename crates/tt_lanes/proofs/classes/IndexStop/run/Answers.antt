use Rattle.std.proofs.Common.{ℕ, refl, arith}
use Rattle.std.proofs.lemmas.Simd.{zip2_splat, zip2_of_maps, length-chunk}
use lib.Lanes.{chunk}
use Rattle.tt_lanes.specs.Classes.{is_special_in_index}
use Rattle.tt_lanes.proofs.LaneLemmas.{run_is}
use Rattle.tt_lanes.proofs.classes.IndexStop.run.Goals as goal

pub returns : goal.returns
returns c =
    let v = chunk c.args.at 16 c.args.bytes.now in
    let long = length-chunk c.args.at 16 c.args.bytes.now c.requires in
    run_is is_special_in_index c.args.bytes.now c.args.at 16 c.requires (omega arith) c.type_inv.bytes _
    (zip2_of_maps _ _ _ v (zip2_of_maps _ _ _ v (zip2_splat {Y = ℕ} _ v 16 41 long) (zip2_splat {Y = ℕ} _ v 16 36 long))
    (zip2_of_maps _ _ _ v (zip2_splat {Y = ℕ} _ v 16 91 long) (zip2_splat {Y = ℕ} _ v 16 92 long))) refl _ c.first_set.ensures
