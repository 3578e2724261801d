-- The first fault of a text that is read from the left (Tcl(n)). Each relation says that `text` has this fault, and
-- that what stands before it is cut as the command grammar cuts it. If the text ends inside something, the fault
-- is that of the innermost. `depth` brackets and indices may still be opened.
use Rattle.std.specs.Prelude.{◌≡◌, ℕ, zero, suc, ◌+◌, true, false, ◌==◌, List, [], ◌∷◌, ◌++◌, length, drop}
use Rattle.std.specs.List.{position_or_len}
use Rattle.tt_text.specs.Braces.{IsBalanced}
use Rattle.tt_script.specs.Words.{PlainPart, PlainParts, PlainWord}
use Rattle.tt_script.specs.Reading.{most_open, begins, separates, ends_command, ends_parts, expands}
use Rattle.tt_script.specs.Grammar.{IsGap, IsSkipped, IsNamed, IsPart, IsParts, IsWord, IsWords}
use Rattle.tt_script.specs.declared.command.ParseFault.{ParseFault}
use Rattle.tt_script.specs.declared.command.ParseFault.TheVariants.{CloseBrace, CloseBracket, CloseQuote, AfterBrace}
use Rattle.tt_script.specs.declared.command.ParseFault.TheVariants.{AfterQuote, CloseParen, VariableBrace, TooDeep}
use Rattle.tt_script.specs.declared.command.Place.{Place}
use Rattle.tt_script.specs.declared.command.Place.TheVariants as places
use Rattle.tt_script.specs.declared.command.Ending.{Ending}
use Rattle.tt_script.specs.declared.command.Ending.TheVariants as endings

-- no brace closes the one before this text: it is balanced up to no closing brace (rule 6)
abbrev pub IsUnclosed : List ℕ → Type 0
IsUnclosed text = (inside rest : List ℕ) → text ≡ inside ++ (125 ∷ rest) → IsBalanced inside → ⊥

mutual
  -- a part that can't be read
  pub data IsPartFault : ℕ → List ℕ → ParseFault → Type 0 where
    -- a bracket if no more may be opened
    bracket_too_deep : {b : ℕ} {text : List ℕ} → b ≡ 91 → IsPartFault zero (b ∷ text) TooDeep
    -- the commands in a bracket (rule 7)
    bracket_fault : {depth b : ℕ} {text : List ℕ} {fault : ParseFault}
        → b ≡ 91
        → IsCommandsFault depth text fault
        → IsPartFault (suc depth) (b ∷ text) fault
    -- an index if no more may be opened
    index_too_deep : {b c : ℕ} {text name inner : List ℕ}
        → b ≡ 36
        → c ≡ 40
        → IsNamed text name (c ∷ inner)
        → IsPartFault zero (b ∷ text) TooDeep
    -- the parts of an index (rule 8)
    index_fault : {depth b c : ℕ} {text name inner : List ℕ} {fault : ParseFault}
        → b ≡ 36
        → c ≡ 40
        → IsNamed text name (c ∷ inner)
        → IsPartsFault depth endings.Parenthesis inner fault
        → IsPartFault (suc depth) (b ∷ text) fault
    -- ${ with no } after it (rule 8)
    name_unclosed : {depth b c : ℕ} {text : List ℕ}
        → b ≡ 36
        → c ≡ 123
        → position_or_len (λ x. x == 125) text ≡ length text
        → IsPartFault depth (b ∷ c ∷ text) VariableBrace

  -- the parts up to an ending, of which all before the faulty one are read (rule 11)
  pub data IsPartsFault : ℕ → Ending → List ℕ → ParseFault → Type 0 where
    -- the text ends in quotes (rule 4)
    quote_unclosed : {depth : ℕ} → IsPartsFault depth endings.Quote [] CloseQuote
    -- the text ends in an index (rule 8)
    index_unclosed : {depth : ℕ} → IsPartsFault depth endings.Parenthesis [] CloseParen
    this_part : {depth : ℕ} {ending : Ending} {text : List ℕ} {fault : ParseFault}
        → ends_parts ending text ≡ false
        → IsPartFault depth text fault
        → IsPartsFault depth ending text fault
    later_part : {depth : ℕ} {ending : Ending} {text middle : List ℕ} {first : PlainPart} {fault : ParseFault}
        → ends_parts ending text ≡ false
        → IsPart depth text first middle
        → IsPartsFault depth ending middle fault
        → IsPartsFault depth ending text fault

  -- the parts of a word
  pub data IsWordPartsFault : ℕ → Place → List ℕ → ParseFault → Type 0 where
    -- between the quotes (rule 4)
    quotes_fault : {depth b : ℕ} {place : Place} {text : List ℕ} {fault : ParseFault}
        → b ≡ 34
        → IsPartsFault depth endings.Quote text fault
        → IsWordPartsFault depth place (b ∷ text) fault
    -- after the quote that closes, if no separator stands (rule 4)
    after_quotes : {depth b c : ℕ} {place : Place} {text rest : List ℕ} {parts : PlainParts}
        → b ≡ 34
        → c ≡ 34
        → IsParts depth endings.Quote text parts (c ∷ rest)
        → separates place rest ≡ false
        → IsWordPartsFault depth place (b ∷ text) AfterQuote
    -- a brace that no other matches (rule 6)
    braces_unclosed : {depth b : ℕ} {place : Place} {text : List ℕ}
        → b ≡ 123
        → IsUnclosed text
        → IsWordPartsFault depth place (b ∷ text) CloseBrace
    -- after the brace that closes, if no separator stands (rule 6)
    after_braces : {depth b c : ℕ} {place : Place} {text : List ℕ} (inside rest : List ℕ)
        → b ≡ 123
        → c ≡ 125
        → text ≡ inside ++ (c ∷ rest)
        → IsBalanced inside
        → separates place rest ≡ false
        → IsWordPartsFault depth place (b ∷ text) AfterBrace
    -- in a bare word (rule 3)
    bare_fault : {depth : ℕ} {place : Place} {text : List ℕ} {fault : ParseFault}
        → begins 34 text ≡ false
        → begins 123 text ≡ false
        → IsPartsFault depth (endings.Word place) text fault
        → IsWordPartsFault depth place text fault

  -- a word, with {*} before it or without (rule 5)
  pub data IsWordFault : ℕ → Place → List ℕ → ParseFault → Type 0 where
    expanded_fault : {depth : ℕ} {place : Place} {text : List ℕ} {fault : ParseFault}
        → expands text ≡ true
        → IsWordPartsFault depth place (drop 3 text) fault
        → IsWordFault depth place text fault
    whole_fault : {depth : ℕ} {place : Place} {text : List ℕ} {fault : ParseFault}
        → separates place text ≡ false
        → expands text ≡ false
        → IsWordPartsFault depth place text fault
        → IsWordFault depth place text fault

  -- the words of a command, of which all before the faulty one are read (rules 1 and 3)
  pub data IsWordsFault : ℕ → Place → List ℕ → ParseFault → Type 0 where
    this_word : {depth : ℕ} {place : Place} {text : List ℕ} {fault : ParseFault}
        → IsWordFault depth place text fault
        → IsWordsFault depth place text fault
    later_word : {depth : ℕ} {place : Place} {text middle next : List ℕ} {word : PlainWord} {fault : ParseFault}
        → IsWord depth place text word middle
        → IsGap middle next
        → ends_command place next ≡ false
        → IsWordsFault depth place next fault
        → IsWordsFault depth place text fault

  -- the commands in a bracket, of which all before the faulty one are read (rules 1 and 7)
  pub data IsCommandsFault : ℕ → List ℕ → ParseFault → Type 0 where
    -- the text ends in the bracket, after whole commands
    bracket_unclosed : {depth : ℕ} {text : List ℕ} → IsSkipped text [] → IsCommandsFault depth text CloseBracket
    this_command : {depth : ℕ} {text start : List ℕ} {fault : ParseFault}
        → IsSkipped text start
        → begins 93 start ≡ false
        → IsWordsFault depth places.Brackets start fault
        → IsCommandsFault depth text fault
    later_command : {depth : ℕ} {text start after : List ℕ} {words : List PlainWord} {fault : ParseFault}
        → IsSkipped text start
        → begins 93 start ≡ false
        → IsWords depth places.Brackets start words after
        → IsCommandsFault depth after fault
        → IsCommandsFault depth text fault

-- the first command of the text has this fault: what is skipped, then words; the place is that of the command's first
-- byte
pub record IsFirstFault (text : List ℕ) (fault : ParseFault) (place : ℕ) : Type 0 where
  pub begun : List ℕ
  pub skipped : IsSkipped text begun
  pub words : IsWordsFault most_open places.Script begun fault
  pub start : place + length begun ≡ length text
