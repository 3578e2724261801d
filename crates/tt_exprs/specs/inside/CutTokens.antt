-- The plain form of tokens as they are cut off a text.
use Rattle.std.specs.Prelude.{◌≤◌, ◌<◌, ℕ}
use Rattle.tt_exprs.specs.Plain.{plain_expr}
use Rattle.tt_exprs.specs.Tokens as tokens
use Rattle.tt_exprs.specs.declared.tokens.Token.{Token}
use Rattle.tt_exprs.specs.declared.tokens.Token.TheVariants as token
use Rattle.tt_exprs.specs.declared.tokens.Cut.{Cut}
use Rattle.tt_exprs.specs.declared.tokens.Cut.TheVariants as cut

abbrev pub plain_token : Token → tokens.PlainToken
plain_token (token.Operand expr) = tokens.operand (plain_expr expr)
plain_token (token.Operator op) = tokens.operator op
plain_token (token.Function op) = tokens.function op
plain_token token.Opening = tokens.opening
plain_token token.Closing = tokens.closing
plain_token token.Comma = tokens.comma
plain_token token.Colon = tokens.colon

abbrev pub plain_cut : Cut → tokens.Cut
plain_cut (cut.One first n) = tokens.one (plain_token first) n
plain_cut (cut.Refused word) = tokens.refused word
plain_cut cut.NoneHere = tokens.none_here

-- a token that is cut off takes a byte at least and is within a text of this length
abbrev pub TakesWithin : Cut → ℕ → Type 0
TakesWithin (cut.One first n) size = (0 < n) × (n ≤ size)
TakesWithin (cut.Refused word) size = Unit {0}
TakesWithin cut.NoneHere size = Unit {0}
