-- The commands of a debugging session, a line each, with one blank between their words.
use Rattle.std.specs.Prelude.{ℕ, Bool, false, ◌&&◌, ◌==◌, not, nat_le, length, List, [], ◌∷◌, codes, bytes_eq, Option}
use Rattle.std.specs.Prelude.{Some, None, option_and_then, option_map, if◌then◌else◌}
use Rattle.std.specs.Str.{all_ascii_digits}
use Rattle.tt_ids.specs.Digits.{number_after}
use Rattle.tt_ids.specs.Ids.{after_letters}
use Rattle.tt_debug.specs.declared.command.Command.{Command}
use Rattle.tt_debug.specs.declared.command.Command.TheVariants.{Step, Back, To, Threads, Queue, Array, Bytes, Unknown}

-- ---- numbers ----

abbrev pub is_small : (digits : List ℕ) → Bool
is_small digits = nat_le 1 (length digits) && nat_le (length digits) 8 && all_ascii_digits digits

-- a number in one to eight digits, which may begin with zeros
abbrev pub small_number : List ℕ → Option ℕ
small_number digits = if is_small digits then Some (number_after 0 digits) else None

abbrev pub has_zero_first : List ℕ → Bool
has_zero_first [] = false
has_zero_first (digit ∷ digits) = digit == 48

-- the number of an id, in decimal without leading zeros
abbrev pub is_of_id : (digits : List ℕ) → Bool
is_of_id digits = nat_le 1 (length digits) && not (has_zero_first digits) && all_ascii_digits digits

-- ---- commands ----

-- a word and a number
abbrev pub moves : (ℕ → Command) → (word line : List ℕ) → Option Command
moves command word line = option_map command (option_and_then small_number (after_letters word line))

-- a word alone
abbrev pub is_word : Command → (word line : List ℕ) → Option Command
is_word command word line = if bytes_eq line word then Some command else None

-- the number in a thread's id; none of more than eight digits is that of a thread
abbrev pub thread_in : (digits : List ℕ) → Option (Option ℕ)
thread_in digits = if is_of_id digits then Some (small_number digits) else None

-- the first of them
abbrev pub first_of : List (Option Command) → Command
first_of [] = Unknown
first_of (None ∷ commands) = first_of commands
first_of (Some command ∷ commands) = command

-- what a line says
abbrev pub command_of : (line : List ℕ) → Command
command_of line = first_of (
    moves Step (codes "step ") line
    ∷ moves Back (codes "back ") line
    ∷ moves To (codes "to ") line
    ∷ is_word Threads (codes "threads") line
    ∷ is_word Bytes (codes "bytes") line
    ∷ option_map Queue (option_and_then thread_in (after_letters (codes "queue tid") line))
    ∷ option_map Array (after_letters (codes "array ") line)
    ∷ [])
