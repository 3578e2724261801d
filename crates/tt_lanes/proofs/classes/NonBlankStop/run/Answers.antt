use Rattle.std.proofs.Common.{ℕ, refl, arith, not, leb, cond}
use Rattle.std.proofs.lemmas.Simd.{zip2_splat, zip2_of_maps, splat_is_map, length-chunk}
use lib.Lanes.{chunk}
use Rattle.tt_lanes.specs.Classes.{is_blank}
use Rattle.tt_lanes.proofs.LaneLemmas.{run_is}
use Rattle.tt_lanes.proofs.classes.NonBlankStop.run.Goals as goal

pub returns : goal.returns
returns c =
    let v = chunk c.args.at 16 c.args.bytes.now in
    let long = length-chunk c.args.at 16 c.args.bytes.now c.requires in
    run_is (λ b. not (is_blank b)) c.args.bytes.now c.args.at 16 c.requires (omega arith) c.type_inv.bytes _
    (zip2_of_maps _ _ _ v
    (zip2_of_maps _ _ _ v (zip2_of_maps {X = ℕ} {Y = ℕ} (λ a b. cond (leb a b) 255 0) _ _ v (splat_is_map v 16 5 long) (zip2_splat {Y = ℕ} _ v 16 9 long))
    (zip2_splat {Y = ℕ} _ v 16 10 long))
    (zip2_splat {Y = ℕ} _ v 16 32 long)) refl _ c.first_set.ensures
