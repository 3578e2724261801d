-- How what is found at the front of a text stands to what the text reads as.
use Rattle.std.specs.Prelude.{◌≡◌, ℕ, List, ◌∷◌, Option, Some, None}
use Rattle.tt_script.specs.Words.{PlainPart, PlainParts}
use Rattle.tt_script.specs.Reading.{Read, takes, fails, part, parts, level, most_open}
use Rattle.tt_script.specs.Grammar.{IsPart, IsParts}
use Rattle.tt_script.specs.declared.command.Ending.TheVariants.{Quote}
use Rattle.tt_script.specs.declared.command.ParseFault.{ParseFault}

-- the parts of a text that follows a quote, up to the next quote (Tcl(n), rule 4)
abbrev pub quoted_text : List ℕ → Read PlainParts
quoted_text text = parts (level most_open) Quote 0 text

-- the part that this byte and the text after it begin with, as it stands in a word (Tcl(n), rules 7 to 9)
abbrev pub outer_part : ℕ → List ℕ → Read PlainPart
outer_part b text = part (level most_open) b text

-- the same by the command grammar: the parts up to the next quote, and what follows it (Tcl(n), rule 4)
abbrev pub IsQuotedText : List ℕ → PlainParts → List ℕ → Type 0
IsQuotedText text parts rest = IsParts most_open Quote text parts (34 ∷ rest)

-- the part that a text begins with, and what follows it (Tcl(n), rules 7 to 9)
abbrev pub IsOuterPart : List ℕ → PlainPart → List ℕ → Type 0
IsOuterPart text part rest = IsPart most_open text part rest

-- the value, seen as view shows it, and how many bytes it takes; or None if a fault is met
abbrev pub Finds : {X A : Type 0} → (X → A) → Option (X × ℕ) → Read A → Type 0
Finds view (Some x) read = read ≡ takes (view x.0) x.1
Finds view None read = (fault : ParseFault) × (read ≡ fails fault)
