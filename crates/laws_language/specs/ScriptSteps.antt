-- The commands of a script, one after another (Tcl(n), rules 1 and 2). What a text begins with (`first`) is what the
-- command grammar cuts off it (`grammar_law` of tt_script).
use Rattle.std.specs.Prelude.{◌≡◌, ℕ, ◌+◌, List, [], ◌∷◌, drop}
use Rattle.tt_code.specs.Substitution.{words_needs}
use Rattle.tt_script.specs.Reading.{first}
use Rattle.tt_script.specs.Words.{PlainCommand, nothing, bad, command}
use Rattle.tt_script.specs.declared.command.ParseFault.{ParseFault}
use Rattle.tt_frames.specs.Programs.{PlainStep, Wrong, Does, steps_of}

-- the commands of a text from a place on
pub data AreCommands (text : List ℕ) : (from : ℕ) → List PlainStep → Type 0 where
  -- none, if no command follows
  no_command : {from : ℕ} → first (drop from text) ≡ nothing → AreCommands text from []
  -- one that can't be read, and none after it
  unreadable : {from start : ℕ} {fault : ParseFault}
      → first (drop from text) ≡ bad fault start
      → AreCommands text from (Wrong fault (from + start) ∷ [])
  -- one that is read: its words, the places of its first byte and after its last word, and those after its terminator
  one_command : {from : ℕ} {c : PlainCommand} {later : List PlainStep}
      → first (drop from text) ≡ command c
      → AreCommands text (from + c.next) later
      → AreCommands text from (Does (words_needs c.words) (from + c.start) (from + c.text_end) ∷ later)

-- the steps of a script are the commands of its text
abbrev pub StepsLaw : Type 0
StepsLaw = (text : List ℕ) → AreCommands text 0 (steps_of text)

-- and no other list is
abbrev pub OneListLaw : Type 0
OneListLaw =
    (text : List ℕ) (from : ℕ) (one other : List PlainStep) →
    AreCommands text from one →
    AreCommands text from other →
    one ≡ other
