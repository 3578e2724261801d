-- Readings from the left come to the commands of the text: each takes a byte at least.
use Rattle.std.proofs.Common.{◌≡◌, ℕ, zero, suc, ◌+◌, ◌<◌, ◌≤◌, List, [], ◌∷◌, ◌++◌, length, drop, Option, Some, None}
use Rattle.std.proofs.Common.{refl, sym, subst, append-nil, append_assoc, length-drop, arith}
use Rattle.tt_code.specs.Substitution.{words_needs}
use Rattle.tt_script.specs.Reading.{first, first_after}
use Rattle.tt_script.specs.Words.{PlainCommand, PlainFirst, nothing, bad, command}
use Rattle.tt_script.proofs.Cuts.{gap_cut, skipped_cut}
use Rattle.tt_script.proofs.FirstLaw.{first_is}
use Rattle.tt_script.proofs.FromGrammar.{words_read}
use Rattle.tt_frames.specs.Programs.{PlainStep, Wrong, Does, program_of, program_from, steps_of, with_first}
use Rattle.laws_language.specs.ScriptSteps.{AreCommands, no_command, unreadable, one_command}

-- a command takes a byte at least, and no more than there are
command_takes : (text : List ℕ) (c : PlainCommand) → first text ≡ command c → (0 < c.next) × (c.next ≤ length text)
command_takes text c e =
    let h = first_is text c e in
    let skip = skipped_cut h.skipped in
    let ws = words_read h.words in
    let gaps = gap_cut h.gap in
    let last = length-drop 1 h.terminator in
    (omega (arith, skip.size, ws.0.cut.size, ws.1, gaps.size, last, h.next), omega (arith, h.next))

-- what so many readings come to: the commands of the text; or a place that is as far on, whose commands come after
-- those that were read
abbrev IsRead : (text : List ℕ) (count : ℕ) → List PlainStep → Option ℕ → Type 0
IsRead text count steps None = AreCommands text 0 steps
IsRead text count steps (Some from) =
    (count ≤ from) × (from ≤ length text)
    × ((later : List PlainStep) → AreCommands text from later → AreCommands text 0 (steps ++ later))

after_first : (text : List ℕ) (count : ℕ) (steps : List PlainStep) (from : ℕ) (found : PlainFirst)
    → first (drop from text) ≡ found
    → IsRead text count steps (Some from)
    → IsRead text (suc count) (with_first steps (first_after from found)).steps (with_first steps (first_after from found)).next
after_first text count steps from nothing e (_, _, joins) =
    subst (AreCommands text 0) (append-nil steps) (joins [] (no_command e))
after_first text count steps from (bad fault start) e (_, _, joins) =
    joins (Wrong fault (from + start) ∷ []) (unreadable e)
after_first text count steps from (command c) e (far, within, joins) =
    let takes = command_takes (drop from text) c e in
    let left = length-drop from text in
    let step : PlainStep = Does (words_needs c.words) (from + c.start) (from + c.text_end) in (
      omega (arith, far, takes.0),
      omega (arith, within, takes.1, left),
      λ later are. subst (AreCommands text 0) (sym (append_assoc steps (step ∷ []) later)) (joins (step ∷ later) (one_command e are)),
    )

after_reading : (text : List ℕ) (count : ℕ) (steps : List PlainStep) (next : Option ℕ)
    → IsRead text count steps next
    → IsRead text (suc count) (program_from text steps next).steps (program_from text steps next).next
after_reading text count steps None is = is
after_reading text count steps (Some from) is = after_first text count steps from (first (drop from text)) refl is

readings : (text : List ℕ) (count : ℕ) → IsRead text count (program_of text count).steps (program_of text count).next
readings text zero = (omega arith, omega arith, λ later are. are)
readings text (suc count) = after_reading text count (program_of text count).steps (program_of text count).next (readings text count)

-- more readings than there are bytes
all_read : (text : List ℕ) (steps : List PlainStep) (next : Option ℕ)
    → IsRead text (length text + 1) steps next → AreCommands text 0 steps
all_read text steps None is = is
all_read text steps (Some from) (far, within, _) = absurd (omega (arith, far, within))

pub steps-commands : (text : List ℕ) → AreCommands text 0 (steps_of text)
unfolding steps_of
steps-commands text =
    all_read text (program_of text (length text + 1)).steps (program_of text (length text + 1)).next (readings text (length text + 1))
