use Rattle.std.proofs.Common.{rules, ◌≡◌, ◌∙◌, ℕ, Bool, List, [], if◌then◌else◌, sym, ap}
use Rattle.tt_evaluation.specs.Plans.{Ends}
use Rattle.tt_frames.specs.Frames.{after}
use Rattle.tt_frames.specs.Loops.{bodily, done}
use Rattle.tt_frames.specs.Vocabulary.{same_ending}
use Rattle.tt_frames.specs.declared.job.Frame.TheVariants as frames
use Rattle.tt_frames.specs.declared.job.Loop.{Loop}
use Rattle.tt_outcomes.specs.declared.ending.Ending.TheVariants.{Fine}
use Rattle.std.specs.Prelude.{bytes_eq, codes}
use Rattle.tt_direct.proofs.Staying.{called_ends, called_fine, called_moves_as, goes_out, stays_as}
use Rattle.tt_direct.specs.inside.Loops.{loop_of}
use Rattle.tt_direct.proofs.loops.after_test.Goals as goal

pub returns-then-holds : goal.returns-then-holds
returns-then-holds c =
    let loop = loop_of c.args.parts.now in
    let old = c.args.stack.now in
    record {
      tested = λ kept held whole before here on.
          stays_as (after (frames.Test loop) (Fine c.in-Fine.value) old.state) (bodily loop old.state) old
          (ap (λ (b : Bool). (if b then bodily loop else done) old.state) (sym c.in_ok-holds-in-Fine.ensures.holds ∙ c.if-holds.true))
          (called_fine kept held whole old before c.args.came (frames.Test loop) c.in-Fine.value c.in-Fine.is on);
    }

pub returns-in-Fine : goal.returns-in-Fine
returns-in-Fine c =
    let loop = loop_of c.args.parts.now in
    let empty : c.new.result ≡ [] = search rules in
    let old = c.args.stack.now in
    record {
      tested = λ kept held whole before here on.
          stays_as (after (frames.Test loop) (Fine c.in-Fine.value) old.state) (Ends (Fine c.new.result) old.state) old
          (ap (λ (b : Bool). (if b then bodily loop else done) old.state) (sym c.in_ok-holds-in-Fine.ensures.holds ∙ c.if-holds.false)
          ∙ ap (λ (v : List ℕ). Ends (Fine v) old.state) (sym empty))
          (called_fine kept held whole old before c.args.came (frames.Test loop) c.in-Fine.value c.in-Fine.is on);
    }

pub returns-in-Ends : goal.returns-in-Ends
returns-in-Ends c =
    let loop = loop_of c.args.parts.now in
    let old = c.args.stack.now in
    record {
      tested = λ kept held whole before here on.
          let out = called_ends kept held whole old before c.args.came (frames.Test loop) c.in-Ends.ending c.in-Ends.is on in (
            out.0,
            stays_as (after (frames.Test loop) c.in-Ends.ending old.state) (Ends c.in-Ends.ending old.state) old
                (goes_out c.in-Ends.ending (λ value st. (if bytes_eq value (codes "1") then bodily loop else done) st) same_ending old.state out.0) out.1,
          );
    }

pub returns : goal.returns
returns c =
    let loop = loop_of c.args.parts.now in
    let made : Loop = c.in_ok-whole-in-Moves.field-0 in
    let same : loop ≡ made = search rules in
    record {
      tested = λ kept held whole before here on.
          c.in_ok-came-in-Moves.ensures.left kept held whole before here
          (called_moves_as kept held whole c.args.stack.now before c.args.came (frames.Test loop) (frames.Test made) c.in-Moves.next
          (ap frames.Test same) c.in-Moves.is on);
    }
