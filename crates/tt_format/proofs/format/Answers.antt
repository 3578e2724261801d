use Rattle.std.proofs.Common.{subst}
use Rattle.tt_format.specs.Fields.{piece}
use Rattle.tt_format.specs.inside.Reading.{IsPart}
use Rattle.tt_format.specs.declared.fields.Part.{Part}
use Rattle.tt_format.proofs.Steps.{printed_on, printed_short, too_long_on, refused_on, ended_on}
use Rattle.tt_format.proofs.format.Goals as goal

pub returns-in-Refuses : goal.returns-in-Refuses
returns-in-Refuses c =
    let P : Part → Type 0 = λ part. IsPart part (piece c.pieces.left.now c.pieces.later.now) in
    c.pieces.invariant.goes_on _
    (refused_on c.pieces.made.items c.pieces.left.now c.in-Refuses.message c.pieces.later.now c.in-len1-up.len_at_least
    (subst P c.in-Refuses.is c.in_ok-message.ensures.part))

pub returns-then-not-branch : goal.returns-then-not-branch
returns-then-not-branch c =
    let P : Part → Type 0 = λ part. IsPart part (piece c.pieces.left.now c.pieces.later.now) in
    c.pieces.invariant.goes_on _
    (too_long_on c.pieces.made.items c.pieces.left.now c.print.new.made.items c.in_ok-too_long-in-Prints.field-0 c.pieces.later.now c.in-Prints.field c.in-Prints.rest c.in-Prints.values
    c.in_ok-print-in-Prints.field-0 c.in-len1-up.len_at_least
    (subst P c.in-Prints.is c.in_ok-message.ensures.part) c.if-not-branch.true c.in_ok-print-in-Prints.ensures.printed
    c.in_ok-too_long-in-Prints.ensures)

pub pieces-preserved : goal.pieces-preserved
pieces-preserved c =
    let P : Part → Type 0 = λ part. IsPart part (piece c.pieces.left.now c.pieces.later.now) in
    record {
      goes_on = λ answer more.
          c.pieces.invariant.goes_on answer
          (printed_on c.pieces.made.items c.pieces.left.now c.print.new.made.items c.pieces.later.now c.in-Prints.field c.in-Prints.rest c.in-Prints.values c.in_ok-print-in-Prints.field-0
          c.in-len1-up.len_at_least
          (subst P c.in-Prints.is c.in_ok-message.ensures.part) c.if-not-branch.false c.in_ok-print-in-Prints.ensures.printed answer more);
      short = printed_short c.pieces.made.items c.print.new.made.items c.in-Prints.field c.in_ok-print-in-Prints.field-0 c.if-not-branch.false c.in_ok-print-in-Prints.ensures.printed;
    }

pub returns : goal.returns
returns c =
    c.pieces.invariant.goes_on _
    (ended_on c.pieces.made.items c.pieces.left.now c.in_ok-from_vec.field-0 c.pieces.later.now c.in_default.len_below c.in_ok-from_vec.ensures.made)
