-- What the subcommands that change no variable answer (dict(n)): to what texts are read as, and never to the texts.
-- `wrong` is the answer to a wrong number of words.
use Rattle.std.specs.Prelude.{ℕ, Bool, List, [], ◌∷◌, codes, decimal, filter, fold, length, map, Option, Some, None}
use Rattle.std.specs.Prelude.{Result, Ok, Err, is_ok, if◌then◌else◌}
use Rattle.std.specs.Map.{keys_of, values_of}
use Rattle.tt_calls.specs.Outcomes.{error_outcome, fine}
use Rattle.tt_calls.specs.declared.outcome.Outcome.{Outcome}
use Rattle.tt_lists.specs.Spelling.{list_of}
use Rattle.tt_pairs.specs.Pairs.{Pairs, joined_pairs, text_of, without_key}
use Rattle.tt_pairs.specs.Reading.{Reading, pairs_of, reading_of}
use Rattle.tt_text.specs.Characters.{characters}
use Rattle.tt_text.specs.GlobFunction.{is_match}
use Rattle.tt_dict.specs.Paths.{for_pairs, value_at}

-- a text that is made of pairs
abbrev pub text_answer : (Pairs → List ℕ) → Reading → Outcome
text_answer make (Ok pairs) = fine (make pairs)
text_answer make (Err message) = error_outcome message

-- a text that is found, or the message
abbrev pub text_outcome : Result (List ℕ) (List ℕ) → Outcome
text_outcome (Ok text) = fine text
text_outcome (Err message) = error_outcome message

-- 1 for what is so, else 0
abbrev pub truth : Bool → List ℕ
truth is = if is then codes "1" else codes "0"

-- dict get: without keys the whole dictionary
abbrev pub get : (wrong : Outcome) → Reading → (keys : List (List ℕ)) → Outcome
get wrong reading [] = text_answer text_of reading
get wrong reading (key ∷ keys) = text_outcome (for_pairs (λ pairs. value_at pairs key keys) reading)

-- dict exists: no value is there either if one on the way is no dictionary
abbrev pub exists : (wrong : Outcome) → Reading → (keys : List (List ℕ)) → Outcome
exists wrong reading [] = wrong
exists wrong reading (key ∷ keys) = text_answer (λ pairs. truth (is_ok (value_at pairs key keys))) reading

-- dict size
abbrev pub size : (wrong : Outcome) → Reading → (words : List (List ℕ)) → Outcome
size wrong reading [] = text_answer (λ pairs. decimal (length pairs)) reading
size wrong reading (word ∷ words) = wrong

-- a list of those that match the pattern, if there is one (string(n), string match)
abbrev pub like : Option (List ℕ) → (texts : List (List ℕ)) → List ℕ
like None texts = list_of texts
like (Some pattern) texts = list_of (filter (λ text. is_match (characters pattern) (characters text)) texts)

-- dict keys
abbrev pub keys : (wrong : Outcome) → Reading → (words : List (List ℕ)) → Outcome
keys wrong reading [] = text_answer (λ pairs. like None (keys_of pairs)) reading
keys wrong reading (pattern ∷ []) = text_answer (λ pairs. like (Some pattern) (keys_of pairs)) reading
keys wrong reading words = wrong

-- dict values
abbrev pub values : (wrong : Outcome) → Reading → (words : List (List ℕ)) → Outcome
values wrong reading [] = text_answer (λ pairs. like None (values_of pairs)) reading
values wrong reading (pattern ∷ []) = text_answer (λ pairs. like (Some pattern) (values_of pairs)) reading
values wrong reading words = wrong

-- dict remove: keys that are not there are skipped
abbrev pub without_keys : Pairs → (keys : List (List ℕ)) → Pairs
without_keys pairs keys = fold without_key pairs keys

abbrev pub remove : (wrong : Outcome) → Reading → (keys : List (List ℕ)) → Outcome
remove wrong reading keys = text_answer (λ pairs. text_of (without_keys pairs keys)) reading

-- dict replace: the words are keys and values in turn
abbrev pub replace_by : (wrong : Outcome) → Reading → Option Pairs → Outcome
replace_by wrong reading (Some more) = text_answer (λ pairs. text_of (joined_pairs pairs more)) reading
replace_by wrong reading None = wrong

abbrev pub replace : (wrong : Outcome) → Reading → (words : List (List ℕ)) → Outcome
replace wrong reading words = replace_by wrong reading (pairs_of words)

-- dict create
abbrev pub create_by : (wrong : Outcome) → Option Pairs → Outcome
create_by wrong (Some pairs) = fine (text_of pairs)
create_by wrong None = wrong

abbrev pub create : (wrong : Outcome) → (words : List (List ℕ)) → Outcome
create wrong words = create_by wrong (pairs_of words)

-- dict merge: from the left, up to the first that is no dictionary
abbrev pub merge_of : Pairs → List Reading → Reading
merge_of pairs [] = Ok pairs
merge_of pairs (reading ∷ readings) = for_pairs (λ more. merge_of (joined_pairs pairs more) readings) reading

abbrev pub merge : (wrong : Outcome) → (words : List (List ℕ)) → Outcome
merge wrong words = text_answer text_of (merge_of [] (map reading_of words))
