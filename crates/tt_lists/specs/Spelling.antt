-- The canonical spelling of list items (list(n), Tcl(n)): one text for each item, and one for each list.
use Rattle.std.specs.Prelude.{ℕ, Bool, true, false, not, ◌&&◌, ◌||◌, if◌then◌else◌, ◌==◌, List, [], ◌∷◌, ◌++◌}
use Rattle.std.specs.List.{list_any, flat_map}
use Rattle.tt_text.specs.Braces.{is_balanced}
use Rattle.tt_text.specs.Characters.{is_white_space}
use Rattle.tt_lists.specs.declared.spelling.Place.{Place}
use Rattle.tt_lists.specs.declared.spelling.Place.TheVariants.{First, Later}
use Rattle.tt_lists.specs.declared.spelling.Style.{Style}
use Rattle.tt_lists.specs.declared.spelling.Style.TheVariants.{Empty, Escaped, Braced, Bare}

-- a `#` that would begin a comment: at the front of a list's first item
abbrev pub is_comment_sign : Place → ℕ → Bool
is_comment_sign First b = b == 35
is_comment_sign Later b = false

-- a backslash, which no other escapes, with a newline after it
abbrev pub joins_lines : List ℕ → Bool
joins_lines [] = false
joins_lines (b ∷ []) = false
joins_lines (b ∷ next ∷ text) =
    elim (b == 92) [
      | true ↦ elim (next == 10) [ true ↦ true | false ↦ joins_lines text ]
      | false ↦ joins_lines (next ∷ text)
    ]

-- one of `; $ [ \`
abbrev pub is_substituted : ℕ → Bool
is_substituted b = b == 59 || b == 36 || b == 91 || b == 92

-- a byte that puts an item in braces, wherever it stands and at the front
abbrev pub wants_braces : ℕ → Bool
wants_braces b = is_white_space b || is_substituted b

abbrev pub wants_braces_first : Place → ℕ → Bool
wants_braces_first place b = b == 123 || b == 34 || is_comment_sign place b

-- braces can't hold a text whose braces don't match, that ends with a lone backslash or that joins lines
abbrev pub fits_braces : List ℕ → Bool
fits_braces item = is_balanced item && not (joins_lines item)

-- how an item is written at its place in a list
abbrev pub style_of : Place → List ℕ → Style
style_of place [] = Empty
style_of place (b ∷ item) =
    if not (fits_braces (b ∷ item)) then Escaped else
    if wants_braces_first place b || list_any wants_braces (b ∷ item) then Braced else Bare

-- the backslash sequence of a byte in an item that is written with them; another byte stands for itself
abbrev pub escape : ℕ → List ℕ
escape b =
    if b == 9 then 92 ∷ 116 ∷ [] else
    if b == 10 then 92 ∷ 110 ∷ [] else
    if b == 11 then 92 ∷ 118 ∷ [] else
    if b == 12 then 92 ∷ 102 ∷ [] else
    if b == 13 then 92 ∷ 114 ∷ [] else
    if b == 32 || is_substituted b || b == 93 || b == 123 || b == 125 || b == 34 then 92 ∷ b ∷ [] else b ∷ []

-- the front byte too, if it may be a comment's sign
abbrev pub escape_first : Place → ℕ → List ℕ
escape_first place b = if is_comment_sign place b then 92 ∷ b ∷ [] else escape b

-- in an item that stands bare a backslash goes before each `]` and `"`
abbrev pub escape_bare : ℕ → List ℕ
escape_bare b = if b == 93 || b == 34 then 92 ∷ b ∷ [] else b ∷ []

abbrev pub with_escapes : Place → List ℕ → List ℕ
with_escapes place [] = []
with_escapes place (b ∷ item) = escape_first place b ++ flat_map escape item

-- an item in a style
abbrev pub item_in_style : Style → Place → List ℕ → List ℕ
item_in_style Empty place item = 123 ∷ 125 ∷ []
item_in_style Escaped place item = with_escapes place item
item_in_style Braced place item = 123 ∷ (item ++ (125 ∷ []))
item_in_style Bare place item = flat_map escape_bare item

-- the one canonical spelling of an item at its place in a list
unfoldable pub spelling : Place → List ℕ → List ℕ
spelling place item = item_in_style (style_of place item) place item

-- an item after the first, with the space before it
abbrev pub later_item : List ℕ → List ℕ
later_item item = 32 ∷ spelling Later item

-- the one canonical text of a list
abbrev pub list_of : List (List ℕ) → List ℕ
list_of [] = []
list_of (item ∷ items) = spelling First item ++ flat_map later_item items
