-- What is passed over at once.
use Rattle.std.specs.Prelude.{ℕ, Bool, not}
use Rattle.tt_lanes.specs.Classes.{is_special, is_special_in_quotes, is_special_in_index}
use Rattle.tt_script.specs.declared.command.Ending.{Ending}
use Rattle.tt_script.specs.declared.command.Ending.TheVariants as endings

-- whether a byte may end a run of letters among parts that end so
abbrev pub ends_run : Ending → ℕ → Bool
ends_run (endings.Word place) b = is_special b
ends_run endings.Quote b = is_special_in_quotes b
ends_run endings.Parenthesis b = is_special_in_index b

-- whether a byte stands for itself there, whatever follows it
abbrev pub is_letter : Ending → ℕ → Bool
is_letter ending b = not (ends_run ending b)
