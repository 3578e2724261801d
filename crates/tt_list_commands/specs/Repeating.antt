-- A list that repeats items (lrepeat(n)).
use Rattle.std.specs.Prelude.{ℕ, nat_le, if◌then◌else◌, ℤ, pos, negsuc, List, ◌++◌, length, codes, Ok, Err}
use Rattle.std.specs.List.{repeat}
use Rattle.tt_lists.specs.Spelling.{list_of}
use Rattle.tt_lists.specs.declared.answer.ListAnswer.{ListAnswer}
use Rattle.tt_lists.specs.declared.answer.ListAnswer.TheVariants.{Made, Bad}
use Rattle.tt_number.specs.Messages.{number_message}
use Rattle.tt_number.specs.Numerals.{whole_of}
use Rattle.tt_list_commands.specs.declared.repeating.TheConstants.{LONGEST}

-- a list, if its text is not too long
abbrev pub unless_long : List (List ℕ) → ListAnswer
unless_long items =
    if nat_le (length (list_of items)) LONGEST then Made (list_of items) else Bad (codes "result too long")

-- the values so many times
abbrev pub times : ℤ → (count : List ℕ) → (values : List (List ℕ)) → ListAnswer
times (pos n) count values = unless_long (repeat n values)
times (negsuc n) count values = Bad (codes "bad count \"" ++ (count ++ codes "\""))

-- the values as many times as the count says
abbrev pub repeat_answer : (count : List ℕ) → (values : List (List ℕ)) → ListAnswer
repeat_answer count values =
    elim (whole_of count) [
      | Ok number ↦ times number count values
      | Err fault ↦ Bad (number_message fault count)
    ]
