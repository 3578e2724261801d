-- What the words of commands mean that end what is evaluated around them (break(n), continue(n), error(n), return(n)).
use Rattle.std.specs.Prelude.{ℕ, Bool, bytes_eq, List, [], ◌∷◌, codes, Option, Some, None, if◌then◌else◌}
use Rattle.std.specs.List.{find}
use Rattle.tt_calls.specs.declared.outcome.Code.{Code}
use Rattle.tt_calls.specs.declared.outcome.Code.TheVariants as code
use Rattle.tt_control.specs.Refusals.{Meaning, bad_option, bad_value, is_meant}
use Rattle.tt_control.specs.declared.control.Control.{Control}
use Rattle.tt_control.specs.declared.control.Control.TheVariants as control

-- break(n)
abbrev pub break_loop : Meaning
break_loop wrong [] = control.Break
break_loop wrong (word ∷ words) = wrong

-- continue(n)
abbrev pub continue_loop : Meaning
continue_loop wrong [] = control.Continue
continue_loop wrong (word ∷ words) = wrong

-- the info of error(n): an empty one counts as left out
abbrev pub info_of : (info : List ℕ) → Option (List ℕ)
info_of [] = None
info_of (b ∷ info) = Some (b ∷ info)

-- error(n)
abbrev pub error : Meaning
error wrong (message ∷ []) = control.Error message None
error wrong (message ∷ info ∷ []) = control.Error message (info_of info)
error wrong (message ∷ info ∷ code ∷ []) = control.Error message (info_of info)
error wrong words = wrong

-- return(n): the codes by their names. The options stand in pairs, so a last word without a partner is the value
abbrev pub spelling : Code → List ℕ
spelling code.Fine = codes "ok"
spelling code.Failed = codes "error"
spelling code.Returned = codes "return"
spelling code.Broke = codes "break"
spelling code.Continued = codes "continue"

abbrev pub code_named : (word : List ℕ) → Option Code
code_named word =
    find
    (λ code. bytes_eq word (spelling code))
    (code.Fine ∷ code.Failed ∷ code.Returned ∷ code.Broke ∷ code.Continued ∷ [])

abbrev pub is_code : (word : List ℕ) → Bool
is_code word = bytes_eq word (codes "-code")

-- the first word before the last that is meant as an option, and is none; the value of -code is passed over
abbrev pub first_unknown : (words : List (List ℕ)) → Option (List ℕ)
first_unknown [] = None
first_unknown (value ∷ []) = None
first_unknown (word ∷ next ∷ words) =
    if is_code word then first_unknown words else
    if is_meant word then Some word else first_unknown (next ∷ words)

-- a value is returned with the code of this name
abbrev pub returns : (name value : List ℕ) → Control
returns name value = elim (code_named name) [ Some kept ↦ control.Return kept value | None ↦ bad_value name ]

-- -code with its value stands in front any number of times: the last value, or else this one, and the words after them
abbrev pub last_code : (name : List ℕ) → (words : List (List ℕ)) → List ℕ
last_code name [] = name
last_code name (value ∷ []) = name
last_code name (option ∷ value ∷ words) = if is_code option then last_code value words else name

abbrev pub after_codes : (words : List (List ℕ)) → List (List ℕ)
after_codes [] = []
after_codes (value ∷ []) = value ∷ []
after_codes (option ∷ value ∷ words) = if is_code option then after_codes words else option ∷ value ∷ words

-- at most one word stands there
abbrev pub return_control : (wrong : Control) → (name : List ℕ) → (words : List (List ℕ)) → Control
return_control wrong name [] = returns name []
return_control wrong name (value ∷ []) = returns name value
return_control wrong name (value ∷ next ∷ words) = wrong

abbrev pub return_value : Meaning
return_value wrong words =
    elim (first_unknown words) [
      | Some word ↦ bad_option word
      | None ↦ return_control wrong (last_code (codes "ok") words) (after_codes words)
    ]
