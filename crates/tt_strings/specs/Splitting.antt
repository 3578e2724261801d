-- The fields of a text (split(n)).
use Rattle.std.specs.Prelude.{◌≡◌, ℕ, false, IsTrue, List, [], ◌∷◌, ◌++◌}
use Rattle.std.specs.List.{AllByRecursion}
use Rattle.tt_text.specs.Characters.{Character}
use Rattle.tt_strings.specs.Places.{bytes_of}
use Rattle.tt_strings.specs.Trimming.{is_among}

-- a text has none of these characters
abbrev pub HasNone : List Character → List Character → Type 0
HasNone splitting text = AllByRecursion (λ c. is_among splitting c ≡ false) text

-- a text is a field, one of the splitting characters, and the characters `rest`
pub record BeginsWithField (splitting text field rest : List Character) : Type 0 where
  pub splits : Character
  pub cut : text ≡ field ++ splits ∷ rest
  pub none : HasNone splitting field
  pub listed : IsTrue (is_among splitting splits)

-- the fields of a text lie between its splitting characters
pub data IsSplit (splitting : List Character) : (text : List Character) (fields : List (List ℕ)) → Type 0 where
  last : {text : List Character} →
      HasNone splitting text →
      IsSplit splitting text (bytes_of text ∷ [])
  field : {text first rest : List Character} {fields : List (List ℕ)} →
      BeginsWithField splitting text first rest →
      IsSplit splitting rest fields →
      IsSplit splitting text (bytes_of first ∷ fields)

-- what splitting a text comes to: an empty text has no fields, and without splitting characters each character is one
abbrev pub IsSplitInto : (splitting text : List Character) (fields : List (List ℕ)) → Type 0
IsSplitInto splitting [] fields = fields ≡ []
IsSplitInto [] (c ∷ text) fields = fields ≡ c ∷ text
IsSplitInto (s ∷ splitting) (c ∷ text) fields = IsSplit (s ∷ splitting) (c ∷ text) fields
