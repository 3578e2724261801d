-- The grammar of words and the function that goes word by word are one.
use Rattle.std.proofs.Common.{◌≡◌, ℕ, Bool, true, false, List, [], ◌∷◌, ◌++◌, Option, Some, None, bytes_eq, cond}
use Rattle.std.proofs.Common.{if◌then◌else◌, refl, sym, ap, ◌∙◌, subst}
use Rattle.std.proofs.lemmas.Option.{none-some, same_Some}
use Rattle.std.proofs.lemmas.Slice.Eq.{bytes_eq-Decides}
use Rattle.std.specs.List.{find}
use Rattle.std.specs.Option.{option_map}
use Rattle.std.specs.Prelude.{⊤}
use Rattle.tt_words.specs.Splitting.{is_dashed, mark}
use Rattle.tt_search_words.specs.Parts.{BeginsWith, alone, next, same_word, Choice, name_of, takes_value}
use Rattle.tt_search_words.specs.Parts.{Splits, nothing, end_mark, ordinary, option}
use Rattle.tt_search_words.specs.inside.Places.{after_sign, before_sign, setting_named, settings}
use Rattle.tt_search_words.specs.inside.Places.{Step, plain, chooses, leads, fails, dashed_step, named_step, open_step}
use Rattle.tt_search_words.specs.inside.Places.{setting_step, value_step}
use Rattle.tt_search_words.specs.inside.Places.{Parts, no_parts, with_choice, with_word}
use Rattle.tt_search_words.specs.inside.Places.{parts_after_step, parts_from, parts_of}
use Rattle.tt_search_words.specs.declared.places.Place.{Place}
use Rattle.tt_search_words.specs.declared.places.Place.TheVariants.{Open, Value, Ordinary}
use Rattle.tt_search_words.specs.declared.setting.Setting.{Setting}
use Rattle.tt_search_words.specs.declared.setting.Setting.TheVariants.{Runs, Seed, Switches, Steps}
use Rattle.tt_search_words.specs.declared.setting.Setting.TheVariants.{Limit, Workers, Differ, Record}
use Rattle.tt_search_words.proofs.CutLemmas.{Joins, joins}

-- an option with its value
abbrev choice_of : Setting → List ℕ → Choice
choice_of setting value = record { setting = setting; value = value }

-- options and ordinary words
abbrev pub both : List Choice → List (List ℕ) → Parts
both options words = record { options = options; ordinary = words }

-- ---- what the words of the grammar do

mark_leads : (word : List ℕ) → word ≡ mark → open_step word ≡ leads Ordinary
mark_leads word is = ap open_step is

flat_plain : (word : List ℕ) → is_dashed word ≡ false → open_step word ≡ plain
flat_plain word flat = ap (λ (dashed : Bool). if dashed then dashed_step word else plain) flat

name_steps : (setting : Setting) → open_step (name_of setting) ≡ setting_step setting None
name_steps Runs = refl
name_steps Seed = refl
name_steps Switches = refl
name_steps Steps = refl
name_steps Limit = refl
name_steps Workers = refl
name_steps Differ = refl
name_steps Record = refl

joined_steps : (setting : Setting) (value : List ℕ) →
    open_step (name_of setting ++ (61 ∷ value)) ≡ setting_step setting (Some value)
joined_steps Runs value = refl
joined_steps Seed value = refl
joined_steps Switches value = refl
joined_steps Steps value = refl
joined_steps Limit value = refl
joined_steps Workers value = refl
joined_steps Differ value = refl
joined_steps Record value = refl

-- an option alone, by whether it has a value
abbrev alone_step : Setting → (takes : Bool) → Step
alone_step setting takes = if takes then leads (Value setting) else chooses (choice_of setting [])

-- an option and `=`, by whether it has a value
abbrev sign_step : Setting → (value : List ℕ) → (takes : Bool) → Step
sign_step setting value takes = if takes then chooses (choice_of setting value) else fails

-- a word after an option's name, by whether it is dashed
abbrev next_step : Setting → (value : List ℕ) → (dashed : Bool) → Step
next_step setting value dashed = if dashed then fails else chooses (choice_of setting value)

-- ---- the grammar's parts are the function's

-- the parts after one step
abbrev parts_after : Place → (word : List ℕ) → (words : List (List ℕ)) → Step → Option Parts
parts_after place word words step = parts_after_step step place word (λ later. parts_from later words)

front_parts : {words rest : List (List ℕ)} {choice : Choice} → BeginsWith words choice rest →
    parts_from Open words ≡ option_map (with_choice choice) (parts_from Open rest)
front_parts (alone setting {word} {rest} takes is) =
    ap (parts_after Open word rest) (ap open_step is ∙ name_steps setting ∙ ap (alone_step setting) takes)
front_parts (next setting {name} {value} {rest} takes is flat) =
    ap (parts_after Open name (value ∷ rest)) (ap open_step is ∙ name_steps setting ∙ ap (alone_step setting) takes)
    ∙ ap (parts_after (Value setting) value rest) (ap (next_step setting value) flat)
front_parts (same_word setting {word} {value} {rest} takes is) =
    ap (parts_after Open word rest) (ap open_step is ∙ joined_steps setting value ∙ ap (sign_step setting value) takes)

all_ordinary : (words : List (List ℕ)) → parts_from Ordinary words ≡ Some (both [] words)
all_ordinary [] = refl
all_ordinary (word ∷ words) = ap (option_map (with_word word)) (all_ordinary words)

pub parts_of-Splits : {all : List (List ℕ)} {options : List Choice} {words : List (List ℕ)} →
    Splits all options words → parts_of all ≡ Some (both options words)
parts_of-Splits nothing = refl
parts_of-Splits (end_mark {word} {rest} is) =
    ap (parts_after Open word rest) (mark_leads word is) ∙ all_ordinary rest
parts_of-Splits (ordinary {word} {rest} flat after) =
    ap (parts_after Open word rest) (flat_plain word flat) ∙ ap (option_map (with_word word)) (parts_of-Splits after)
parts_of-Splits (option {choice = choice} front after) =
    front_parts front ∙ ap (option_map (with_choice choice)) (parts_of-Splits after)

-- ---- what a word is, by what it does

abbrev IsStep : (word : List ℕ) → Step → Type 0
IsStep word plain = is_dashed word ≡ false
IsStep word (chooses choice) = (rest : List (List ℕ)) → BeginsWith (word ∷ rest) choice rest
IsStep word (leads Open) = ⊥
IsStep word (leads (Value setting)) = (takes_value setting ≡ true) × (word ≡ name_of setting)
IsStep word (leads Ordinary) = word ≡ mark
IsStep word fails = ⊤

alone_is : (setting : Setting) (word : List ℕ) (takes : Bool) → takes_value setting ≡ takes → word ≡ name_of setting →
    IsStep word (alone_step setting takes)
alone_is setting word true takes is = (takes, is)
alone_is setting word false takes is = λ rest. alone setting takes is

sign_is : (setting : Setting) (word value : List ℕ) (takes : Bool) → takes_value setting ≡ takes →
    word ≡ name_of setting ++ (61 ∷ value) → IsStep word (sign_step setting value takes)
sign_is setting word value true takes is = λ rest. same_word setting takes is
sign_is setting word value false takes is = tt

setting_is : (setting : Setting) (word : List ℕ) (value : Option (List ℕ)) → Joins word (name_of setting) value →
    IsStep word (setting_step setting value)
setting_is setting word None joined = alone_is setting word (takes_value setting) refl joined
setting_is setting word (Some value) joined = sign_is setting word value (takes_value setting) refl joined

same_bytes : (one other : List ℕ) → bytes_eq one other ≡ true → one ≡ other
same_bytes one other same = (bytes_eq-Decides one other).0 same

-- the first element that passes a test passes it
passes_first : {X : Type 0} (test : X → Bool) (x : X) (xs : List X) (y : X) (passes : Bool) → test x ≡ passes →
    (find test xs ≡ Some y → test y ≡ true) → cond passes (Some x) (find test xs) ≡ Some y → test y ≡ true
passes_first {X} test x xs y true passes later found =
    subst (λ (z : X). test z ≡ true) (same_Some x y found) passes
passes_first test x xs y false passes later found = later found

passes : {X : Type 0} (test : X → Bool) (xs : List X) (y : X) → find test xs ≡ Some y → test y ≡ true
passes test [] y found = absurd (none-some y found)
passes test (x ∷ xs) y found = passes_first test x xs y (test x) refl (passes test xs y) found

name_is : (name : List ℕ) (setting : Setting) → setting_named name ≡ Some setting → name ≡ name_of setting
name_is name setting found =
    same_bytes name (name_of setting) (passes (λ (s : Setting). bytes_eq name (name_of s)) settings setting found)

named_is : (word name : List ℕ) (value : Option (List ℕ)) (found : Option Setting) → setting_named name ≡ found →
    Joins word name value → IsStep word (named_step found value)
named_is word name value None found joined = tt
named_is word name value (Some setting) found joined =
    setting_is setting word value (subst (λ (n : List ℕ). Joins word n value) (name_is name setting found) joined)

marked_is : (word : List ℕ) (marks : Bool) → bytes_eq word mark ≡ marks →
    IsStep word (if marks then leads Ordinary else named_step (setting_named (before_sign word)) (after_sign word))
marked_is word true marks = same_bytes word mark marks
marked_is word false marks =
    named_is word (before_sign word) (after_sign word) (setting_named (before_sign word)) refl (joins word)

dashed_is : (word : List ℕ) (dashed : Bool) → is_dashed word ≡ dashed →
    IsStep word (if dashed then dashed_step word else plain)
dashed_is word true dashed = marked_is word (bytes_eq word mark) refl
dashed_is word false flat = flat

open_is : (word : List ℕ) → IsStep word (open_step word)
open_is word = dashed_is word (is_dashed word) refl

-- ---- the function's parts are the grammar's

-- parts that come from others
record ComesFrom (change : Parts → Parts) (found : Option Parts) (parts : Parts) : Type 0 where
  left : Parts
  is_found : found ≡ Some left
  is_changed : change left ≡ parts

comes_from : (change : Parts → Parts) (found : Option Parts) (parts : Parts) →
    option_map change found ≡ Some parts → ComesFrom change found parts
comes_from change None parts is = absurd (none-some parts is)
comes_from change (Some left) parts is =
    record { left = left; is_found = refl; is_changed = same_Some (change left) parts is }

-- the words after an option's name
record FollowsName (setting : Setting) (words : List (List ℕ)) (parts : Parts) : Type 0 where
  value : List ℕ
  rest : List (List ℕ)
  options : List Choice
  are_words : words ≡ value ∷ rest
  flat : is_dashed value ≡ false
  are_options : parts.options ≡ choice_of setting value ∷ options
  splits : Splits rest options parts.ordinary

-- what words are from a place on
abbrev AreFrom : Place → List (List ℕ) → Parts → Type 0
AreFrom Open words parts = Splits words parts.options parts.ordinary
AreFrom (Value setting) words parts = FollowsName setting words parts
AreFrom Ordinary words parts = (parts.options ≡ []) × (parts.ordinary ≡ words)

name_splits : (word : List ℕ) (words : List (List ℕ)) (parts : Parts) (setting : Setting) →
    takes_value setting ≡ true → word ≡ name_of setting → FollowsName setting words parts →
    Splits (word ∷ words) parts.options parts.ordinary
name_splits word words parts setting takes is after =
    subst (λ (w : List (List ℕ)). Splits (word ∷ w) parts.options parts.ordinary) (sym after.are_words)
    (subst (λ (o : List Choice). Splits (word ∷ after.value ∷ after.rest) o parts.ordinary) (sym after.are_options)
    (option (next setting takes is after.flat) after.splits))

-- words after which the same is known
module _ (word : List ℕ) (words : List (List ℕ))
    (later : (place : Place) (parts : Parts) → parts_from place words ≡ Some parts → AreFrom place words parts)
    (parts : Parts) where
  open_splits : (step : Step) → IsStep word step → parts_after Open word words step ≡ Some parts →
      Splits (word ∷ words) parts.options parts.ordinary
  open_splits plain flat is =
      let from = comes_from (with_word word) (parts_from Open words) parts is in
      subst (λ (p : Parts). Splits (word ∷ words) p.options p.ordinary) from.is_changed
      (ordinary flat (later Open from.left from.is_found))
  open_splits (chooses choice) begins is =
      let from = comes_from (with_choice choice) (parts_from Open words) parts is in
      subst (λ (p : Parts). Splits (word ∷ words) p.options p.ordinary) from.is_changed
      (option (begins words) (later Open from.left from.is_found))
  open_splits (leads Open) never is = absurd never
  open_splits (leads (Value setting)) named is =
      name_splits word words parts setting named.0 named.1 (later (Value setting) parts is)
  open_splits (leads Ordinary) marks is =
      let rest = later Ordinary parts is in
      subst (λ (o : List Choice). Splits (word ∷ words) o parts.ordinary) (sym rest.0)
      (subst (λ (w : List (List ℕ)). Splits (word ∷ words) [] w) (sym rest.1) (end_mark marks))
  open_splits fails any is = absurd (none-some parts is)

  value_splits : (setting : Setting) (dashed : Bool) → is_dashed word ≡ dashed →
      parts_after (Value setting) word words (next_step setting word dashed) ≡ Some parts →
      FollowsName setting (word ∷ words) parts
  value_splits setting true dashed is = absurd (none-some parts is)
  value_splits setting false flat is =
      let from = comes_from (with_choice (choice_of setting word)) (parts_from Open words) parts is in
      record {
        value = word;
        rest = words;
        options = from.left.options;
        are_words = refl;
        flat = flat;
        are_options = ap (λ (p : Parts). p.options) (sym from.is_changed);
        splits = subst (λ (w : List (List ℕ)). Splits words from.left.options w)
            (ap (λ (p : Parts). p.ordinary) from.is_changed) (later Open from.left from.is_found);
      }

  ordinary_splits : parts_after Ordinary word words plain ≡ Some parts →
      (parts.options ≡ []) × (parts.ordinary ≡ word ∷ words)
  ordinary_splits is =
      let from = comes_from (with_word word) (parts_from Ordinary words) parts is in
      let rest = later Ordinary from.left from.is_found in (
        ap (λ (p : Parts). p.options) (sym from.is_changed) ∙ rest.0,
        ap (λ (p : Parts). p.ordinary) (sym from.is_changed) ∙ ap (λ (w : List (List ℕ)). word ∷ w) rest.1,
      )

are_from : (words : List (List ℕ)) (place : Place) (parts : Parts) → parts_from place words ≡ Some parts →
    AreFrom place words parts
are_from [] Open parts is =
    subst (λ (p : Parts). Splits [] p.options p.ordinary) (same_Some no_parts parts is) nothing
are_from [] (Value setting) parts is = absurd (none-some parts is)
are_from [] Ordinary parts is = (
  ap (λ (p : Parts). p.options) (sym (same_Some no_parts parts is)),
  ap (λ (p : Parts). p.ordinary) (sym (same_Some no_parts parts is)),
)
are_from (word ∷ words) Open parts is = open_splits word words (are_from words) parts (open_step word) (open_is word) is
are_from (word ∷ words) (Value setting) parts is =
    value_splits word words (are_from words) parts setting (is_dashed word) refl is
are_from (word ∷ words) Ordinary parts is = ordinary_splits word words (are_from words) parts is

pub Splits-parts_of : (all : List (List ℕ)) (parts : Parts) → parts_of all ≡ Some parts →
    Splits all parts.options parts.ordinary
Splits-parts_of all parts is = are_from all Open parts is
