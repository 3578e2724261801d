-- What the words of thread::configure mean (thread(n)).
use Rattle.std.specs.Prelude.{ℕ, ◌%◌, ◌==◌, Bool, true, false, ◌||◌, ℤ, pos, negsuc, bytes_eq, List, [], ◌∷◌, length}
use Rattle.std.specs.Prelude.{codes, Option, Some, None, Result, Ok, Err, if◌then◌else◌}
use Rattle.std.specs.Option.{is_some}
use Rattle.tt_calls.specs.declared.request.Request.TheVariants as ask
use Rattle.tt_command_tables.specs.Usages.{bad_option, bad_value}
use Rattle.tt_command_tables.specs.declared.call.Call.{Call}
use Rattle.tt_command_tables.specs.declared.call.Call.TheVariants.{Ask}
use Rattle.tt_command_tables.specs.declared.call.Then.TheVariants as after
use Rattle.tt_exprs.specs.Apply.{boolean_of}
use Rattle.tt_number.specs.Numerals.{whole_of}
use Rattle.tt_number.specs.declared.numeral.NumberFault.{NumberFault}

abbrev pub is_mark : (option : List ℕ) → Bool
is_mark option = bytes_eq option (codes "-eventmark")

abbrev pub is_unwinding : (option : List ℕ) → Bool
is_unwinding option = bytes_eq option (codes "-unwindonerror")

abbrev pub is_option : (option : List ℕ) → Bool
is_option option = is_mark option || is_unwinding option

-- options stand at every second word
abbrev pub unknown_alone : (words : List (List ℕ)) → Option (List ℕ)
unknown_alone [] = None
unknown_alone (option ∷ words) = if is_option option then None else Some option

abbrev pub first_unknown : (words : List (List ℕ)) → Option (List ℕ)
first_unknown [] = None
first_unknown (option ∷ []) = unknown_alone (option ∷ [])
first_unknown (option ∷ value ∷ words) = if is_option option then first_unknown words else Some option

-- none, one, or each with its value
abbrev pub is_number : (words : List (List ℕ)) → Bool
is_number (option ∷ []) = true
is_number words = length words % 2 == 0

-- a mark is a whole number that isn't negative, and whether to unwind a boolean
abbrev pub is_mark_value : Result ℤ NumberFault → Bool
is_mark_value (Ok (pos mark)) = true
is_mark_value (Ok (negsuc n)) = false
is_mark_value (Err fault) = false

abbrev pub is_value : (option value : List ℕ) → Bool
is_value option value = if is_mark option then is_mark_value (whole_of value) else is_some (boolean_of value)

abbrev pub first_bad : (words : List (List ℕ)) → Option (List ℕ)
first_bad [] = None
first_bad (option ∷ []) = None
first_bad (option ∷ value ∷ words) = if is_value option value then first_bad words else Some value

-- a boolean is written as 1 or 0
abbrev pub boolean_text : Option Bool → List ℕ
boolean_text (Some true) = codes "1"
boolean_text (Some false) = codes "0"
boolean_text None = codes "0"

abbrev pub setting_text : (option value : List ℕ) → List ℕ
setting_text option value = if is_mark option then value else boolean_text (boolean_of value)

abbrev pub last_option : (words : List (List ℕ)) → List (List ℕ)
last_option [] = []
last_option (option ∷ words) = option ∷ []

abbrev pub setting_words : (words : List (List ℕ)) → List (List ℕ)
setting_words [] = []
setting_words (option ∷ []) = last_option (option ∷ [])
setting_words (option ∷ value ∷ words) = option ∷ setting_text option value ∷ setting_words words

abbrev pub configures : (id : List ℕ) → (words : List (List ℕ)) → Call
configures id words =
    elim (first_bad words) [
      | Some value ↦ bad_value value
      | None ↦ Ask (ask.Configure id (setting_words words)) after.Value
    ]

abbrev pub configure_words : (wrong : Call) → (id : List ℕ) → (words : List (List ℕ)) → Call
configure_words wrong id words =
    elim (first_unknown words) [
      | Some option ↦ bad_option option
      | None ↦ if is_number words then configures id words else wrong
    ]

-- thread::configure
abbrev pub configure : (wrong : Call) → (words : List (List ℕ)) → Call
configure wrong [] = wrong
configure wrong (id ∷ words) = configure_words wrong id words
