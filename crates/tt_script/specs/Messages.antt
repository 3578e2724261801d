-- How a command that can't be read is reported (Tcl(n)).
use Rattle.std.specs.Prelude.{ℕ, List, codes}
use Rattle.tt_script.specs.declared.command.ParseFault.{ParseFault}
use Rattle.tt_script.specs.declared.command.ParseFault.TheVariants.{CloseBrace, CloseBracket, CloseQuote, AfterBrace}
use Rattle.tt_script.specs.declared.command.ParseFault.TheVariants.{AfterQuote, CloseParen, VariableBrace, TooDeep}

-- the text of each fault
abbrev pub parse_message : ParseFault → List ℕ
parse_message CloseBrace = codes "missing close-brace"
parse_message CloseBracket = codes "missing close-bracket"
parse_message CloseQuote = codes "missing \""
parse_message AfterBrace = codes "extra characters after close-brace"
parse_message AfterQuote = codes "extra characters after close-quote"
parse_message CloseParen = codes "missing )"
parse_message VariableBrace = codes "missing close-brace for variable name"
parse_message TooDeep = codes "nested too deeply"
