-- The values of one option.
use Rattle.std.proofs.Common.{◌≡◌, ◌<◌, ◌≤◌, ◌+◌, ℕ, Bool, true, false, List, [], ◌∷◌, ◌++◌, map, length, get_or, drop}
use Rattle.std.proofs.Common.{Option, Some, None, is_some, if◌then◌else◌, refl, sym, ap, ◌∙◌, subst, arith}
use Rattle.std.proofs.lemmas.List.{at_drop_all, at_drop_more}
use Rattle.std.specs.Borrow.{Bor}
use Rattle.std.specs.Option.{option_map, option_to_list}
use Rattle.tt_words.specs.Asked.{first}
use Rattle.tt_words.specs.CodeValues.{text_of}
use Rattle.tt_search_words.specs.Asked.{values_of}
use Rattle.tt_search_words.specs.CodeValues.{choice_as_text}
use Rattle.tt_search_words.specs.Parts.{is_same}
use Rattle.tt_search_words.specs.declared.places.Choice.{Choice as CodeChoice}
use Rattle.tt_search_words.specs.declared.setting.Setting.{Setting}

-- the value so far, and the values among the rest of the options
abbrev pub values_with : Setting → Option (Bor (List ℕ)) → List CodeChoice → List (List ℕ)
values_with setting found rest =
    option_to_list (option_map text_of found) ++ values_of setting (map choice_as_text rest)

-- the values among options, by whether the first is this one
abbrev values_by : Setting → Option (Bor (List ℕ)) → CodeChoice → List CodeChoice → Bool → List (List ℕ)
values_by setting found choice rest same =
    option_to_list (option_map text_of found)
    ++ (if same then text_of choice.value ∷ values_of setting (map choice_as_text rest)
    else values_of setting (map choice_as_text rest))

is_none : (found : Option (Bor (List ℕ))) → is_some found ≡ false → found ≡ None
is_none None is = refl
is_none (Some value) is = absurd (let bad : true ≡ false = is in cc)

-- one option, at a place in the list
module _ (setting : Setting) (options : List CodeChoice) (i : ℕ) (choice : CodeChoice) (within : i < length options)
    (is : choice ≡ get_or options i choice) (found : Option (Bor (List ℕ))) where
  first_value : (same : Bool) → is_same setting choice.setting ≡ same →
      values_with setting found (drop i options) ≡ values_by setting found choice (drop (i + 1) options) same
  first_value same by =
      at_drop_more (λ (rest : List CodeChoice). values_with setting found rest) options i choice within
      ∙ ap (λ (first : CodeChoice). values_with setting found (first ∷ drop (i + 1) options)) (sym is)
      ∙ ap (values_by setting found choice (drop (i + 1) options)) by

  -- it is another one
  pub value_left : is_same setting choice.setting ≡ false →
      values_with setting found (drop i options) ≡ values_with setting found (drop (i + 1) options)
  value_left other = first_value false other

  -- it is this one, for the first time
  pub value_taken : is_same setting choice.setting ≡ true → is_some found ≡ false →
      values_with setting found (drop i options) ≡ values_with setting (Some choice.value) (drop (i + 1) options)
  value_taken same none =
      first_value true same
      ∙ ap (λ (f : Option (Bor (List ℕ))). values_by setting f choice (drop (i + 1) options) true) (is_none found none)

two_values : (found : Option (Bor (List ℕ))) (value : List ℕ) (rest : List (List ℕ)) → is_some found ≡ true →
    1 < length (option_to_list (option_map text_of found) ++ (value ∷ rest))
two_values None value rest is = absurd (let bad : false ≡ true = is in cc)
two_values (Some one) value rest is = omega arith

-- it is this one, for the second time
pub value_twice : (setting : Setting) (options : List CodeChoice) (i : ℕ) (choice : CodeChoice) → i < length options →
    choice ≡ get_or options i choice → (found : Option (Bor (List ℕ))) → is_same setting choice.setting ≡ true →
    is_some found ≡ true → 1 < length (values_with setting found (drop i options))
value_twice setting options i choice within is found same some =
    subst (λ (v : List (List ℕ)). 1 < length v) (sym (first_value setting options i choice within is found true same))
    (two_values found (text_of choice.value) (values_of setting (map choice_as_text (drop (i + 1) options))) some)

-- ---- the end of the options

-- no value or one
pub record IsOnly (values : List (List ℕ)) (found : Option (List ℕ)) : Type 0 where
  pub is_first : found ≡ first values
  pub few : length values ≤ 1

only : (found : Option (Bor (List ℕ))) (values : List (List ℕ)) →
    values ≡ option_to_list (option_map text_of found) ++ [] → IsOnly values (option_map text_of found)
only None values are = record { is_first = rw are refl; few = rw are (omega arith) }
only (Some value) values are = record { is_first = rw are refl; few = rw are (omega arith) }

pub value_only : (setting : Setting) (options : List CodeChoice) (i : ℕ) (found : Option (Bor (List ℕ)))
    (values : List (List ℕ)) → length options ≤ i → values ≡ values_with setting found (drop i options) →
    IsOnly values (option_map text_of found)
value_only setting options i found values past are =
    only found values (are ∙ at_drop_all (λ (rest : List CodeChoice). values_with setting found rest) options i past)
