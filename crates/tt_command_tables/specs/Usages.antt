-- The errors of words that break a usage.
use Rattle.std.specs.Prelude.{ℕ, List}
use Rattle.tt_calls.specs.Usages as usages
use Rattle.tt_command_tables.specs.declared.call.Call.{Call}
use Rattle.tt_command_tables.specs.declared.call.Call.TheVariants.{Bad}

-- that words are too few or too many for a usage
abbrev pub wrong_number : (usage : List ℕ) → Call
wrong_number usage = Bad (usages.wrong_number usage)

-- that a word is no option, or no subcommand
abbrev pub bad_option : (word : List ℕ) → Call
bad_option word = Bad (usages.bad_option word)

-- that an option doesn't have such a value
abbrev pub bad_value : (word : List ℕ) → Call
bad_value word = Bad (usages.bad_value word)
