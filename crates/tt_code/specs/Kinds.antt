-- How operators take their operands (expr(n), Operators).
use Rattle.tt_exprs.specs.declared.op.Op.{Op}
use Rattle.tt_exprs.specs.declared.op.Op.TheVariants.{And, Or, Choose}
use Rattle.tt_code.specs.declared.kind.Kind.{Kind}
use Rattle.tt_code.specs.declared.kind.Kind.TheVariants as kind

abbrev pub kind_of : Op → Kind
kind_of And = kind.Both
kind_of Or = kind.Either
kind_of Choose = kind.OneOf
kind_of op = kind.Eager
