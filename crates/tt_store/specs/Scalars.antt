-- Commands on one variable (set(n), unset(n), incr(n), append(n)).
use Rattle.std.specs.Prelude.{◌≡◌, ℕ, ℤ, Bool, false, ◌&&◌, not, ◌==◌, nat_lt, bytes_eq, List, [], ◌∷◌, length, drop}
use Rattle.std.specs.Prelude.{take_while, codes, Option, Some, None, Result, Ok, Err, if◌then◌else◌}
use Rattle.std.specs.Fmt.{signed_decimal}
use Rattle.std.specs.List.{find}
use Rattle.std.specs.Option.{option_map}
use Rattle.tt_calls.specs.declared.outcome.Outcome.{Outcome}
use Rattle.tt_calls.specs.Outcomes.{error_outcome, fine}
use Rattle.tt_lists.specs.declared.answer.ListAnswer.{ListAnswer}
use Rattle.tt_lists.specs.declared.answer.ListAnswer.TheVariants.{Made, Bad}
use Rattle.tt_number.specs.declared.numeral.NumberFault.{NumberFault}
use Rattle.tt_number.specs.declared.operators.ArithFault.{ArithFault}
use Rattle.tt_number.specs.declared.operators.NumOp.TheVariants.{Add}
use Rattle.tt_number.specs.Messages.{arith_message, number_message}
use Rattle.tt_number.specs.Numerals.{whole_of}
use Rattle.tt_number.specs.Operators.{binary_of}
use Rattle.tt_value.specs.Growing.{text_with_texts}
use Rattle.tt_vars.specs.declared.answers.VarFault.{VarFault}
use Rattle.tt_vars.specs.declared.answers.VarFault.TheVariants.{NoSuchVariable, NoSuchElement, IsArray, NotArray}
use Rattle.tt_store.specs.Held.{Drops, Fails, Finds, Gives, Held, Meaning, ReadsWord, Refuses}
use Rattle.tt_calls.specs.Usages.{bad_option}
use Rattle.tt_store.specs.Messages.{cannot_read, cannot_unset}
use Rattle.tt_store.specs.Spots.{spot_of}

-- set(n)
abbrev pub set_meaning : Meaning
set_meaning usage (name ∷ []) old outcome new = ReadsWord name old outcome × (new ≡ old)
set_meaning usage (name ∷ value ∷ []) old outcome new = Gives name value old outcome new
set_meaning usage words old outcome new = Refuses usage old outcome new

-- ---- a variable is read, and what is made of its value is written ----

-- a missing variable counts as this text
abbrev pub counting : (missing : List ℕ) → Result (List ℕ) VarFault → Result (List ℕ) VarFault
counting missing (Ok text) = Ok text
counting missing (Err NoSuchVariable) = Ok missing
counting missing (Err NoSuchElement) = Ok missing
counting missing (Err IsArray) = Err IsArray
counting missing (Err NotArray) = Err NotArray

-- what is made of the value that is found
abbrev pub answer_of_value : (word : List ℕ) → (List ℕ → ListAnswer) → Result (List ℕ) VarFault → ListAnswer
answer_of_value word change (Ok text) = change text
answer_of_value word change (Err fault) = Bad (cannot_read word fault)

-- it is written
abbrev pub GivesMade : (word : List ℕ) → ListAnswer → (old : Held) → Outcome → (new : Held) → Type 0
GivesMade word (Made text) old outcome new = Gives word text old outcome new
GivesMade word (Bad message) old outcome new = Fails message old outcome new

-- the value that is found, if a missing variable counts as a text
abbrev pub Counts : (word missing : List ℕ) → Held → Result (List ℕ) VarFault → Type 0
Counts word missing held found =
    (read : Result (List ℕ) VarFault)
    × Finds held (spot_of word) read
    × (found ≡ counting missing read)

abbrev pub Changes : (word missing : List ℕ) → (List ℕ → ListAnswer) → (old : Held) → Outcome → (new : Held) → Type 0
Changes word missing change old outcome new =
    (found : Result (List ℕ) VarFault)
    × Counts word missing old found
    × GivesMade word (answer_of_value word change found) old outcome new

-- incr(n): the value is read before the increment
abbrev pub sum_answer : Result ℤ ArithFault → ListAnswer
sum_answer (Ok sum) = Made (signed_decimal sum)
sum_answer (Err fault) = Bad (arith_message fault)

abbrev pub sum_with_step : ℤ → (step : List ℕ) → Result ℤ NumberFault → ListAnswer
sum_with_step number step (Ok more) = sum_answer (binary_of Add number more)
sum_with_step number step (Err fault) = Bad (number_message fault step)

abbrev pub increment_by : (step value : List ℕ) → Result ℤ NumberFault → ListAnswer
increment_by step value (Ok number) = sum_with_step number step (whole_of step)
increment_by step value (Err fault) = Bad (number_message fault value)

abbrev pub increment_of : (step value : List ℕ) → ListAnswer
increment_of step value = increment_by step value (whole_of value)

abbrev pub incr : Meaning
incr usage (name ∷ []) old outcome new = Changes name (codes "0") (increment_of (codes "1")) old outcome new
incr usage (name ∷ step ∷ []) old outcome new = Changes name (codes "0") (increment_of step) old outcome new
incr usage words old outcome new = Refuses usage old outcome new

-- append(n): without a value it reads
abbrev pub append : Meaning
append usage [] old outcome new = Refuses usage old outcome new
append usage (name ∷ []) old outcome new = ReadsWord name old outcome × (new ≡ old)
append usage (name ∷ value ∷ values) old outcome new =
    Changes name [] (text_with_texts (value ∷ values)) old outcome new

-- ---- unset(n) ----

-- a fault that -nocomplain skips
abbrev pub is_skipped : (nocomplain : Bool) → VarFault → Bool
is_skipped nocomplain NoSuchVariable = nocomplain
is_skipped nocomplain NoSuchElement = nocomplain
is_skipped nocomplain IsArray = false
is_skipped nocomplain NotArray = false

-- the fault that is reported, if there is one
abbrev pub report_of : (nocomplain : Bool) → Result Unit VarFault → Option VarFault
report_of nocomplain (Ok unit) = None
report_of nocomplain (Err fault) = if is_skipped nocomplain fault then None else Some fault

-- one variable is removed; the message, if it can't be
abbrev pub DropsOne : (nocomplain : Bool) → (word : List ℕ) → (old : Held) → Option (List ℕ) → (new : Held) → Type 0
DropsOne nocomplain word old message new =
    (removed : Result Unit VarFault)
    × Drops old (spot_of word) new removed
    × (message ≡ option_map (cannot_unset word) (report_of nocomplain removed))

-- variables are removed one after the other, up to the first that can't be; then its message is the answer
pub data Unsets (nocomplain : Bool) :
    (words : List (List ℕ)) → (old : Held) → Option (List ℕ) → (new : Held) → Type 0 where
  none : {held : Held} → Unsets nocomplain [] held None held
  more : {word : List ℕ} {words : List (List ℕ)} {old next new : Held} {message : Option (List ℕ)} →
      DropsOne nocomplain word old None next →
      Unsets nocomplain words next message new →
      Unsets nocomplain (word ∷ words) old message new
  fails : {word message : List ℕ} {words : List (List ℕ)} {old new : Held} →
      DropsOne nocomplain word old (Some message) new →
      Unsets nocomplain (word ∷ words) old (Some message) new

-- the empty result, or the error
abbrev pub outcome_by : (message : Option (List ℕ)) → Outcome
outcome_by None = fine []
outcome_by (Some message) = error_outcome message

abbrev pub UnsetsAll : (nocomplain : Bool) → (words : List (List ℕ)) → (old : Held) → Outcome → (new : Held) → Type 0
UnsetsAll nocomplain words old outcome new =
    (message : Option (List ℕ))
    × Unsets nocomplain words old message new
    × (outcome ≡ outcome_by message)

abbrev pub is_nocomplain : (word : List ℕ) → Bool
is_nocomplain word = bytes_eq word (codes "-nocomplain")

-- a word that is meant as an option: it begins with `-`, and is longer
abbrev pub is_meant : (word : List ℕ) → Bool
is_meant [] = false
is_meant (b ∷ []) = false
is_meant (b ∷ next ∷ word) = b == 45

abbrev pub first_unknown : (words : List (List ℕ)) → Option (List ℕ)
first_unknown words = find (λ word. is_meant word && not (is_nocomplain word)) words

-- how many options stand in front
abbrev pub front : (words : List (List ℕ)) → ℕ
front words = length (take_while is_nocomplain words)

abbrev pub UnsetsIf :
    (unknown : Option (List ℕ)) → (words : List (List ℕ)) → (old : Held) → Outcome → (new : Held) → Type 0
UnsetsIf (Some word) words old outcome new = Fails (bad_option word) old outcome new
UnsetsIf None words old outcome new = UnsetsAll (nat_lt 0 (front words)) (drop (front words) words) old outcome new

abbrev pub unset_meaning : Meaning
unset_meaning usage words old outcome new = UnsetsIf (first_unknown words) words old outcome new
