use Rattle.std.proofs.Common.{sym, ◌∙◌, arith}
use Rattle.tt_text.specs.Characters.{characters}
use Rattle.tt_text.proofs.GlobLemmas.{step_here, step_later, run_takes, run_passes, whole_matches, end_needs_nothing, is_nothing, is_something}
use Rattle.tt_text.proofs.patterns.scan_segment.Goals as goal

pub returns-in-Some-clause-cases : goal.returns-in-Some-clause-cases
returns-in-Some-clause-cases c =
    let run = c.in-Some.ensures.cases in
    let left = characters c.pieces.left.now in
    let after = characters c.in-Some.after.now in
    let rest = characters c.pieces.rest.now in (
      λ end. c.pieces.invariant.here.1 (run_takes left after rest run end),
      λ end. run_passes left after rest run (c.pieces.invariant.later end),
    )

pub returns-then-is_empty-clause-cases : goal.returns-then-is_empty-clause-cases
returns-then-is_empty-clause-cases c =
    c.pieces.invariant.here.1
    (whole_matches c.pieces.left.now c.pieces.rest.now
    (is_nothing _ (sym c.is_empty.ensures ∙ c.if-is_empty.true)) c.in_default-split_character.ensures.cases)

pub returns-else-is_empty-clause-cases : goal.returns-else-is_empty-clause-cases
returns-else-is_empty-clause-cases c =
    λ m. end_needs_nothing c.pieces.left.now c.pieces.rest.now c.in_default-split_character.ensures.cases c.in_default.ensures.cases
    (is_something _ (sym c.is_empty.ensures ∙ c.if-is_empty.false)) (c.pieces.invariant.here.0 m)

pub pieces-preserved : goal.pieces-preserved
pieces-preserved c =
    let left = characters c.pieces.left.now in
    let rest = characters c.pieces.rest.now in
    let after = characters c.in-Some-after_character.after.now in
    let later = characters c.in-Some-split_character.later.now in
    let first = c.in-Some-split_character.character.now in
    let cut = c.in-Some-split_character.ensures.cases in
    let takes = c.in-Some-after_character.ensures.cases in
    let here = step_here left after rest later first cut takes in
    record {
      here = (λ m. here.0 (c.pieces.invariant.here.0 m), λ m. c.pieces.invariant.here.1 (here.1 m));
      later = λ end. step_later left after rest later first cut takes (c.pieces.invariant.later end);
      shorter = omega (arith, c.pieces.invariant.shorter, c.in-Some-after_character.ensures.shorter);
      within = omega (arith, c.pieces.invariant.within, c.in-Some-split_character.ensures.shorter);
    }
