-- What the words of a command on shared variables are answered: a value, whether there is one, or a refusal.
use Rattle.std.proofs.Common.{◌≡◌, ℕ, Bool, true, false, List, [], ◌∷◌, Option, Some, None, refl, arith}
use Rattle.laws_tables.proofs.ArrayRows.{by_fills, by_moves, by_refills}
use Rattle.tt_calls.specs.declared.reply.Reply.{Reply}
use Rattle.tt_calls.specs.declared.reply.Reply.TheVariants as reply
use Rattle.tt_lists.specs.declared.answer.ListAnswer.{ListAnswer}
use Rattle.tt_lists.specs.declared.answer.ListAnswer.TheVariants.{Made, Bad}
use Rattle.tt_tsv.specs.Arrays.{Table}
use Rattle.tt_tsv.specs.Calls as arrays
use Rattle.tt_tsv.specs.Words.{Asked}

abbrev pub is_told : Reply → Bool
is_told (reply.Value text) = true
is_told (reply.Found there text) = true
is_told (reply.Refused text) = true
is_told other = false

listed : (answer : ListAnswer) → is_told (arrays.list_reply answer) ≡ true
listed (Made text) = refl
listed (Bad message) = refl

changed : (table : Table) (name key : List ℕ) (change : _) → is_told (arrays.changes table name key change).reply ≡ true
changed table name key change = grind (arith, listed)

found : (one : Option (List ℕ)) → is_told (arrays.found one) ≡ true
found None = refl
found (Some value) = refl

moved : (table : Table) (name key new : List ℕ) → is_told (arrays.moves table name key new).reply ≡ true
moved table name key new = by_moves (λ answered. is_told answered ≡ true) table (λ text. refl) (λ b text. refl) name key new

set : (table : Table) (name : List ℕ) (words : List (List ℕ)) → is_told (arrays.sets table name words).reply ≡ true
set table name [] = refl
set table name (list ∷ []) = by_fills (λ answered. is_told answered ≡ true) table (λ text. refl) (λ b text. refl) name list
set table name (list ∷ next ∷ words) = refl

reset : (table : Table) (name : List ℕ) (words : List (List ℕ)) → is_told (arrays.resets table name words).reply ≡ true
reset table name [] = refl
reset table name (list ∷ []) = by_refills (λ answered. is_told answered ≡ true) table (λ text. refl) (λ b text. refl) name list
reset table name (list ∷ next ∷ words) = refl

by_array : (table : Table) (asked : _) (name : List ℕ) (words : List (List ℕ)) → is_told (arrays.array_act table asked name words).reply ≡ true
by_array table asked name words = grind (arith, set table name words, reset table name words)

by_element : (table : Table) (asked : _) (name key : List ℕ) (words : List (List ℕ)) → is_told (arrays.changes_by table asked name key words).reply ≡ true
by_element table asked name key words = changed table name key _

none_told : (table : Table) (asked : _) → is_told (arrays.usage_answer table asked []).reply ≡ true
none_told table asked = grind arith

one_told : (table : Table) (asked : _) (name : List ℕ) → is_told (arrays.usage_answer table asked (name ∷ [])).reply ≡ true
one_told table asked name = grind (arith, by_array)

two_told : (table : Table) (asked : _) (name key : List ℕ) → is_told (arrays.usage_answer table asked (name ∷ key ∷ [])).reply ≡ true
two_told table asked name key = grind (arith, by_array, by_element, found)

more_told : (table : Table) (asked : _) (name key new : List ℕ) (words : List (List ℕ)) →
    is_told (arrays.usage_answer table asked (name ∷ key ∷ new ∷ words)).reply ≡ true
more_told table asked name key new words = grind (arith, changed, found, moved)

by_usage : (table : Table) (asked : _) (words : List (List ℕ)) → is_told (arrays.usage_answer table asked words).reply ≡ true
by_usage table asked [] = none_told table asked
by_usage table asked (name ∷ []) = one_told table asked name
by_usage table asked (name ∷ key ∷ []) = two_told table asked name key
by_usage table asked (name ∷ key ∷ new ∷ words) = more_told table asked name key new words

pub run_told : (table : Table) (asked : Option Asked) → is_told (arrays.asked_answer table asked).reply ≡ true
run_told table None = refl
run_told table (Some asked) = by_usage table asked.0 asked.1
