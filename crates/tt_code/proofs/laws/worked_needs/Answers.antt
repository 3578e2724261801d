use Rattle.std.proofs.Common.{refl}
use Rattle.std.specs.Fmt.{digits}
use Rattle.tt_lists.specs.Reading.{item_at, split_after}
use Rattle.tt_number.specs.Numerals.{is_float, trimmed, whole_of}
use Rattle.tt_number.specs.Operators.{binary_of}
use Rattle.tt_exprs.specs.Apply.{boolean_of, result_of, truth_of, whole_operand}
use Rattle.tt_code.proofs.laws.worked_needs.Goals as goal

-- they are computed
pub returns : goal.returns
unfolding binary_of boolean_of digits is_float item_at result_of split_after trimmed truth_of whole_of whole_operand
returns c =
    record {
      joined = refl;
      indexed = refl;
      bracketed = refl;
      expanded = refl;
      added = refl;
      passed_over = refl;
      both = refl;
      no_truth = refl;
      second = refl;
      third = refl;
    }
