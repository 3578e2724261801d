-- What one word more does to the parts of words.
use Rattle.std.proofs.Common.{◌≡◌, ◌<◌, ◌≤◌, ◌+◌, ℕ, Bool, true, false, List, [], ◌∷◌, ◌++◌, map, length, get_or}
use Rattle.std.proofs.Common.{drop, Option, Some, None, if◌then◌else◌, refl, sym, ap, ◌∙◌}
use Rattle.std.proofs.lemmas.List.{append-nil, append_assoc, at_drop_all, at_drop_more, map-append}
use Rattle.std.specs.Borrow.{Bor}
use Rattle.std.specs.Option.{option_map}
use Rattle.std.specs.Prelude.{String, string_bytes}
use Rattle.tt_words.specs.CodeValues.{text_of}
use Rattle.tt_search_words.specs.CodeValues.{choice_as_text}
use Rattle.tt_search_words.specs.Parts.{Choice}
use Rattle.tt_search_words.specs.inside.Places.{Step, plain, chooses, leads, fails, step_at}
use Rattle.tt_search_words.specs.inside.Places.{Parts, may_end, no_parts, with_choice, with_word}
use Rattle.tt_search_words.specs.inside.Places.{parts_after_step, parts_from}
use Rattle.tt_search_words.specs.declared.places.Choice.{Choice as CodeChoice}
use Rattle.tt_search_words.specs.declared.places.Place.{Place}
use Rattle.tt_search_words.specs.declared.places.Place.TheVariants.{Open}
use Rattle.tt_search_words.proofs.GrammarLemmas.{both}

-- ---- parts with others before them

abbrev parts_behind : List Choice → List (List ℕ) → Parts → Parts
parts_behind options words parts = both (options ++ parts.options) (words ++ parts.ordinary)

word_behind : (options : List Choice) (words : List (List ℕ)) (word : List ℕ) (found : Option Parts) →
    option_map (parts_behind options words) (option_map (with_word word) found)
    ≡ option_map (parts_behind options (words ++ word ∷ [])) found
word_behind options words word None = refl
word_behind options words word (Some parts) =
    ap (λ (w : List (List ℕ)). Some (both (options ++ parts.options) w))
    (sym (append_assoc words (word ∷ []) parts.ordinary))

choice_behind : (options : List Choice) (words : List (List ℕ)) (choice : Choice) (found : Option Parts) →
    option_map (parts_behind options words) (option_map (with_choice choice) found)
    ≡ option_map (parts_behind (options ++ choice ∷ []) words) found
choice_behind options words choice None = refl
choice_behind options words choice (Some parts) =
    ap (λ (o : List Choice). Some (both o (words ++ parts.ordinary)))
    (sym (append_assoc options (choice ∷ []) parts.options))

nothing_behind : (options : List Choice) (words : List (List ℕ)) →
    option_map (parts_behind options words) (Some no_parts) ≡ Some (both options words)
nothing_behind options words =
    ap (λ (o : List Choice). Some (both o (words ++ []))) (append-nil options)
    ∙ ap (λ (w : List (List ℕ)). Some (both options w)) (append-nil words)

-- ---- the parts so far and those of the rest

-- parts with the options and the ordinary words of the code before them
abbrev with_found : List CodeChoice → List (Bor (List ℕ)) → Option Parts → Option Parts
with_found options words later = option_map (parts_behind (map choice_as_text options) (map text_of words)) later

abbrev pub parts_with : {Z : Type 0} → List CodeChoice → List (Bor (List ℕ)) → Place → List (String Z) → Option Parts
parts_with options words place rest = with_found options words (parts_from place (map string_bytes rest))

same_parts : {Z : Type 0} (o o' : List CodeChoice) (w w' : List (Bor (List ℕ))) (p p' : Place)
    (rest : List (String Z)) → o' ≡ o → w' ≡ w → p' ≡ p → parts_with o w p rest ≡ parts_with o' w' p' rest
same_parts o o' w w' p p' rest a b c =
    ap (λ (x : List CodeChoice). parts_with x w p rest) (sym a)
    ∙ ap (λ (x : List (Bor (List ℕ))). parts_with o' x p rest) (sym b)
    ∙ ap (λ (x : Place). parts_with o' w' x rest) (sym c)

-- one word, at a place in a list of words
module _ {Z : Type 0} (all : List (String Z)) (i : ℕ) (word : String Z) (within : i < length all)
    (is : word ≡ get_or all i word) (options : List CodeChoice) (words : List (Bor (List ℕ))) (place : Place)
    (text : Bor (List ℕ)) (is_text : text.now ≡ string_bytes word) where
  -- the parts by what the word does
  abbrev parts_by : Step → Option Parts
  parts_by step =
      with_found options words
      (parts_after_step step place text.now (λ later. parts_from later (map string_bytes (drop (i + 1) all))))

  by_step : (step : Step) → step ≡ step_at place text.now → parts_with options words place (drop i all) ≡ parts_by step
  by_step step does =
      at_drop_more (λ (rest : List (String Z)). parts_with options words place rest) all i word within
      ∙ ap (λ (first : String Z). parts_with options words place (first ∷ drop (i + 1) all)) (sym is)
      ∙ ap (λ (b : List ℕ). with_found options words (parts_from place (b ∷ map string_bytes (drop (i + 1) all))))
      (sym is_text)
      ∙ ap parts_by (sym does)

  pub after_plain : (o : List CodeChoice) (w : List (Bor (List ℕ))) (p : Place) → plain ≡ step_at place text.now →
      o ≡ options → w ≡ words ++ text ∷ [] → p ≡ place →
      parts_with options words place (drop i all) ≡ parts_with o w p (drop (i + 1) all)
  after_plain o w p does a b c =
      by_step plain does
      ∙ word_behind (map choice_as_text options) (map text_of words) text.now
      (parts_from place (map string_bytes (drop (i + 1) all)))
      ∙ ap (λ (ws : List (List ℕ)). option_map (parts_behind (map choice_as_text options) ws)
      (parts_from place (map string_bytes (drop (i + 1) all)))) (sym (map-append text_of words (text ∷ [])))
      ∙ same_parts options o (words ++ text ∷ []) w place p (drop (i + 1) all) a b c

  pub after_choice : (choice : CodeChoice) (o : List CodeChoice) (w : List (Bor (List ℕ))) (p : Place) →
      chooses (choice_as_text choice) ≡ step_at place text.now →
      o ≡ options ++ choice ∷ [] → w ≡ words → p ≡ Open →
      parts_with options words place (drop i all) ≡ parts_with o w p (drop (i + 1) all)
  after_choice choice o w p does a b c =
      by_step (chooses (choice_as_text choice)) does
      ∙ choice_behind (map choice_as_text options) (map text_of words) (choice_as_text choice)
      (parts_from Open (map string_bytes (drop (i + 1) all)))
      ∙ ap (λ (os : List Choice). option_map (parts_behind os (map text_of words))
      (parts_from Open (map string_bytes (drop (i + 1) all)))) (sym (map-append choice_as_text options (choice ∷ [])))
      ∙ same_parts (options ++ choice ∷ []) o words w Open p (drop (i + 1) all) a b c

  pub after_lead : (to : Place) (o : List CodeChoice) (w : List (Bor (List ℕ))) (p : Place) →
      leads to ≡ step_at place text.now →
      o ≡ options → w ≡ words → p ≡ to →
      parts_with options words place (drop i all) ≡ parts_with o w p (drop (i + 1) all)
  after_lead to o w p does a b c =
      by_step (leads to) does ∙ same_parts options o words w to p (drop (i + 1) all) a b c

  pub after_fail : fails ≡ step_at place text.now → parts_with options words place (drop i all) ≡ None
  after_fail does = by_step fails does

-- ---- the end of the words

module _ {Z : Type 0} (all : List (String Z)) (i : ℕ) (past : length all ≤ i) (options : List CodeChoice)
    (words : List (Bor (List ℕ))) (place : Place) where
  at_end : (ends : Bool) → may_end place ≡ ends →
      parts_with options words place (drop i all) ≡ with_found options words (if ends then Some no_parts else None)
  at_end ends is =
      at_drop_all (λ (rest : List (String Z)). parts_with options words place rest) all i past
      ∙ ap (λ (e : Bool). with_found options words (if e then Some no_parts else None)) is

  pub whole_end : may_end place ≡ true →
      parts_with options words place (drop i all) ≡ Some (both (map choice_as_text options) (map text_of words))
  whole_end is = at_end true is ∙ nothing_behind (map choice_as_text options) (map text_of words)

  pub cut_end : may_end place ≡ false → parts_with options words place (drop i all) ≡ None
  cut_end is = at_end false is
