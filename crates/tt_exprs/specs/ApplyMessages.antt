-- The messages of the errors of operators (expr(n), Operators).
use Rattle.std.specs.Prelude.{ℕ, List, [], ◌++◌, codes}
use Rattle.tt_lists.specs.Messages.{list_message}
use Rattle.tt_number.specs.Messages.{arith_message, number_message}
use Rattle.tt_number.specs.declared.numeral.NumberFault.TheVariants as number
use Rattle.tt_exprs.specs.Operators.{spelling}
use Rattle.tt_exprs.specs.declared.applying.refusal.Refusal.{Refusal}
use Rattle.tt_exprs.specs.declared.applying.refusal.Refusal.TheVariants.{NotNumeric, TooLarge, Float, Arith, NotBoolean}
use Rattle.tt_exprs.specs.declared.applying.refusal.Refusal.TheVariants.{NotList}

-- that a text is no boolean value
abbrev pub boolean_message : List ℕ → List ℕ
boolean_message text = codes "expected boolean value but got \"" ++ (text ++ codes "\"")

-- the message of an error
abbrev pub message_of : Refusal → List ℕ
message_of (NotNumeric op) = codes "can't use non-numeric string as operand of \"" ++ (spelling op ++ codes "\"")
message_of TooLarge = number_message number.TooLarge []
message_of Float = number_message number.Float []
message_of (Arith fault) = arith_message fault
message_of (NotBoolean text) = boolean_message text
message_of (NotList fault) = list_message fault
