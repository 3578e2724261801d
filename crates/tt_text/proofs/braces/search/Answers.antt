use Rattle.std.proofs.Common.{◌≡◌, ◌<◌, ◌++◌, ◌∙◌, length, get_or, length-append, List, ℕ, sym, arith}
use Rattle.std.proofs.Math.ListN.{get_or-append}
use Rattle.tt_text.proofs.BraceSearch.{opens, closes_inner, escapes, letter, moved}
use Rattle.tt_text.proofs.braces.search.Goals as goal
use Rattle.tt_text.proofs.braces.search.Goals.{then-byte-eq92, else-byte-eq92+then-byte-eq123}
use Rattle.tt_text.proofs.braces.search.Goals.{else-byte-eq92+else-byte-eq123+then-byte-eq125+else-depth-eq0}
use Rattle.tt_text.proofs.braces.search.Goals.{else-byte-eq92+else-byte-eq123+else-byte-eq125}

pub loop-at-preserved : goal.loop-at-preserved
loop-at-preserved c =
    let text = c.args.text.now in
    let at = c.loop-at.at in
    let depth = c.loop-at.depth in
    let so_far = c.loop-at.invariant.place in
    let within : at < length text = c.loop-at-test.true in
    let far : (more : List ℕ) → at < length (text ++ more) = λ more. omega (arith, length-append text more) in
    let same : (more : List ℕ) → get_or (text ++ more) at 0 ≡ get_or text at 0 = λ more. get_or-append text more 0 at within in
    elim c.if-byte-eq92.branch [
      | then-byte-eq92 w ↦
          record {
            within =
                omega arith;
            depth =
                omega arith;
            place =
                λ more. so_far more ∙ escapes (text ++ more) at depth (far more) (same more ∙ w.if-byte-eq92.true)
                ∙ moved (text ++ more) _ _ _ _ w.at-is w.depth-is;
          }
      | else-byte-eq92+then-byte-eq123 w ↦
          record {
            within =
                omega arith;
            depth =
                omega arith;
            place =
                λ more. so_far more ∙ opens (text ++ more) at depth (far more) (same more ∙ w.if-byte-eq123.true)
                ∙ moved (text ++ more) _ _ _ _ w.at-is w.depth-is;
          }
      | else-byte-eq92+else-byte-eq123+then-byte-eq125+else-depth-eq0 w ↦
          record {
            within =
                omega arith;
            depth =
                omega arith;
            place =
                λ more. so_far more ∙ closes_inner (text ++ more) at depth (far more) (same more ∙ w.if-byte-eq125.true) w.if-depth-eq0.false
                ∙ moved (text ++ more) _ _ _ _ w.at-is w.depth-is;
          }
      | else-byte-eq92+else-byte-eq123+else-byte-eq125 w ↦
          record {
            within =
                omega arith;
            depth =
                omega arith;
            place =
                λ more. so_far more
                ∙ letter (text ++ more) at depth (far more) (λ e. w.if-byte-eq123.false (sym (same more) ∙ e))
                (λ e. w.if-byte-eq125.false (sym (same more) ∙ e)) (λ e. w.if-byte-eq92.false (sym (same more) ∙ e))
                ∙ moved (text ++ more) _ _ _ _ w.at-is w.depth-is;
          }
    ]

pub returns : goal.returns
returns c = let past = c.loop-at-test.false in (omega arith, c.loop-at.invariant.within, c.loop-at.invariant.place)
