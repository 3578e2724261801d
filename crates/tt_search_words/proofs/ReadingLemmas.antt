-- What the parts of words say of what the words ask for.
use Rattle.std.proofs.Common.{◌≡◌, ◌≤◌, ◌<◌, ℕ, List, length, Option, Some, None, IfSome, IfNone}
use Rattle.std.proofs.Common.{sym, ◌∙◌, ap, map, subst, arith}
use Rattle.std.proofs.lemmas.Option.{none-some, same_Some}
use Rattle.std.specs.Option.{option_map}
use Rattle.tt_search_words.specs.Asked.{Search, Values, IsOnce, IsReading, IsSearch, WordsAskFor, values_in, values_of}
use Rattle.tt_words.specs.CodeValues.{text_of}
use Rattle.tt_search_words.specs.CodeValues.{choice_as_text, parts_as_text, search_as_text, values_as_text}
use Rattle.tt_search_words.specs.Parts.{Choice}
use Rattle.tt_search_words.specs.inside.Places.{Parts, parts_of}
use Rattle.tt_search_words.specs.declared.asked.Search.{Search as CodeSearch}
use Rattle.tt_search_words.specs.declared.parts.Parts.{Parts as CodeParts}
use Rattle.tt_search_words.specs.declared.places.Choice.{Choice as CodeChoice}
use Rattle.tt_search_words.specs.declared.setting.Setting.{Setting}
use Rattle.tt_search_words.specs.declared.setting.Setting.TheVariants as setting
use Rattle.tt_search_words.specs.declared.values.Values.{Values as CodeValues}
use Rattle.tt_search_words.proofs.GrammarLemmas.{Splits-parts_of, both, parts_of-Splits}

-- words have their parts in one way
one_way : (words : List (List ℕ)) (parts : Parts) (search : Search) → parts_of words ≡ Some parts →
    (asks : WordsAskFor words search) → both asks.options asks.ordinary ≡ parts
one_way words parts search is asks =
    same_Some (both asks.options asks.ordinary) parts (sym (parts_of-Splits asks.splits) ∙ is)

-- what words ask for, by their parts
pub once_of : (words : List (List ℕ)) (parts : Parts) (search : Search) → parts_of words ≡ Some parts →
    WordsAskFor words search → IsOnce parts.options
once_of words parts search is asks =
    subst (λ (p : Parts). IsOnce p.options) (one_way words parts search is asks) asks.once

pub asks_of : (words : List (List ℕ)) (parts : Parts) (search : Search) → parts_of words ≡ Some parts →
    WordsAskFor words search → IsSearch (values_in parts.options) parts.ordinary search
asks_of words parts search is asks =
    subst (λ (p : Parts). IsSearch (values_in p.options) p.ordinary search) (one_way words parts search is asks)
    asks.asks

-- words without parts ask for nothing
pub asks_nothing : (words : List (List ℕ)) → None ≡ parts_of words → (search : Search) → WordsAskFor words search → ⊥
asks_nothing words is search asks = none-some (both asks.options asks.ordinary) (is ∙ parts_of-Splits asks.splits)

-- what is answered to words with parts, if each option comes at most once
pub reading_is : (words : List (List ℕ)) (parts : Parts) → Some parts ≡ parts_of words → IsOnce parts.options →
    (asked : Option CodeSearch) →
    IfSome asked (λ s. IsSearch (values_in parts.options) parts.ordinary (search_as_text s)) →
    IfNone asked ((s : Search) → ¬ (IsSearch (values_in parts.options) parts.ordinary s)) →
    IsReading words (option_map search_as_text asked)
reading_is words parts is once (Some asked) found none = record {
  options = parts.options;
  ordinary = parts.ordinary;
  splits = Splits-parts_of words parts (sym is);
  once = once;
  asks = found;
}
reading_is words parts is once None found none = λ search asks. none search (asks_of words parts search (sym is) asks)

-- the same of the code's values
pub reading_found : (words : List (List ℕ)) (parts : CodeParts) → Some (parts_as_text parts) ≡ parts_of words →
    (slice : List CodeChoice) → slice ≡ parts.options.items →
    (values : CodeValues) → values_as_text values ≡ values_in (map choice_as_text slice) →
    IsOnce (map choice_as_text slice) → (asked : Option CodeSearch) →
    IfSome asked (λ s. IsSearch (values_as_text values) (map text_of parts.ordinary.items) (search_as_text s)) →
    IfNone asked ((s : Search) → ¬ (IsSearch (values_as_text values) (map text_of parts.ordinary.items) s)) →
    IsReading words (option_map search_as_text asked)
reading_found words parts is slice same values has once asked found none =
    let are : values_as_text values ≡ values_in (map choice_as_text parts.options.items) =
    has ∙ ap (λ (s : List CodeChoice). values_in (map choice_as_text s)) same in
    reading_is words (parts_as_text parts) is (subst (λ (s : List CodeChoice). IsOnce (map choice_as_text s)) same once) asked
    (subst (λ (v : Values). IfSome asked (λ s. IsSearch v (map text_of parts.ordinary.items) (search_as_text s))) are found)
    (subst (λ (v : Values). IfNone asked ((s : Search) → ¬ (IsSearch v (map text_of parts.ordinary.items) s))) are none)

-- words whose parts have an option twice ask for nothing
pub twice_nothing : (words : List (List ℕ)) (parts : CodeParts) → Some (parts_as_text parts) ≡ parts_of words →
    (slice : List CodeChoice) → slice ≡ parts.options.items → ¬ (IsOnce (map choice_as_text slice)) →
    (search : Search) → WordsAskFor words search → ⊥
twice_nothing words parts is slice same twice search asks =
    twice (subst (λ (s : List CodeChoice). IsOnce (map choice_as_text s)) (sym same)
    (once_of words (parts_as_text parts) search (sym is) asks))

-- ---- options that come once, or twice

pub each_once : (options : List Choice) →
    length (values_of setting.Runs options) ≤ 1 → length (values_of setting.Seed options) ≤ 1 →
    length (values_of setting.Switches options) ≤ 1 → length (values_of setting.Steps options) ≤ 1 →
    length (values_of setting.Limit options) ≤ 1 → length (values_of setting.Workers options) ≤ 1 →
    length (values_of setting.Differ options) ≤ 1 → length (values_of setting.Record options) ≤ 1 → IsOnce options
each_once options runs seed switches steps limit workers differ record_once setting.Runs = runs
each_once options runs seed switches steps limit workers differ record_once setting.Seed = seed
each_once options runs seed switches steps limit workers differ record_once setting.Switches = switches
each_once options runs seed switches steps limit workers differ record_once setting.Steps = steps
each_once options runs seed switches steps limit workers differ record_once setting.Limit = limit
each_once options runs seed switches steps limit workers differ record_once setting.Workers = workers
each_once options runs seed switches steps limit workers differ record_once setting.Differ = differ
each_once options runs seed switches steps limit workers differ record_once setting.Record = record_once

if_none : {X : Type 0} (o : Option X) (P : Type 0) → P → IfNone o P
if_none None P p = p
if_none (Some x) P p = tt

few_not_many : (n : ℕ) → n ≤ 1 → 1 < n → ⊥
few_not_many n few many = omega arith

pub not_once : {X : Type 0} (o : Option X) (options : List Choice) (setting : Setting) →
    1 < length (values_of setting options) → IfNone o (¬ (IsOnce options))
not_once o options setting many =
    if_none o (¬ (IsOnce options)) (λ once. few_not_many (length (values_of setting options)) (once setting) many)
