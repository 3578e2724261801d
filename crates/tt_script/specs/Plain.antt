-- The plain form of what the parser answers: its trees with lists in place of vectors.
use Rattle.std.specs.Prelude.{List, [], ◌∷◌, map}
use Rattle.tt_script.specs.Words.{PlainPart, letters, variable, element, script, PlainParts, none, more, PlainWord}
use Rattle.tt_script.specs.Words.{PlainCommand, PlainFirst, nothing, bad, command}
use Rattle.tt_script.specs.declared.command.Part.{Part}
use Rattle.tt_script.specs.declared.command.Part.TheOpen.{Part-F}
use Rattle.tt_script.specs.declared.command.Part.TheFolds.{fold-Part}
use Rattle.tt_script.specs.declared.command.Word.{Word}
use Rattle.tt_script.specs.declared.command.Command.{Command}
use Rattle.tt_script.specs.declared.command.First.{First}
use Rattle.tt_script.specs.declared.command.First.TheVariants as firsts

-- parts in a row
abbrev pub in_a_row : List PlainPart → PlainParts
in_a_row [] = none
in_a_row (part ∷ parts) = more part (in_a_row parts)

-- one part, whose index is plain already
abbrev pub plain_step : Part-F PlainPart → PlainPart
plain_step (Part-F.Letters text) = letters text
plain_step (Part-F.Variable name) = variable name
plain_step (Part-F.Element name index) = element name (in_a_row index.items)
plain_step (Part-F.Script text) = script text

abbrev pub plain_part : Part → PlainPart
plain_part = fold-Part PlainPart plain_step

abbrev pub plain_parts : List Part → PlainParts
plain_parts parts = in_a_row (map plain_part parts)

abbrev pub plain_word : Word → PlainWord
plain_word word = record { expand = word.expand; parts = plain_parts word.parts.items }

abbrev pub plain_words : List Word → List PlainWord
plain_words words = map plain_word words

abbrev pub plain_command : Command → PlainCommand
plain_command c = record { words = plain_words c.words.items; start = c.start; text_end = c.text_end; next = c.next }

abbrev pub plain_first : First → PlainFirst
plain_first firsts.Nothing = nothing
plain_first (firsts.Bad fault place) = bad fault place
plain_first (firsts.Command c) = command (plain_command c)
