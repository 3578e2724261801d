-- A list's text grows at its end.
use Rattle.std.proofs.Common.{◌≡◌, ◌≢◌, ℕ, List, [], ◌∷◌, ◌++◌, refl, sym, ap, ◌∙◌, append-nil, append_assoc}
use Rattle.std.proofs.lemmas.Grind.{flat_map-append}
use Rattle.std.proofs.lemmas.List.{flat_map_more}
use Rattle.std.specs.List.{flat_map}
use Rattle.tt_lists.specs.Reading.{split_of, split_after}
use Rattle.tt_lists.specs.Spelling.{spelling, later_item, list_of}
use Rattle.tt_lists.specs.declared.spelling.Place.TheVariants.{First}
use Rattle.tt_lists.specs.Growing.{piece_of, with_last, LastItemLaw}
use Rattle.tt_lists.proofs.Joining.{splits_back}

piece_later : (text item : List ℕ) → text ≢ [] → piece_of text item ≡ later_item item
piece_later [] item some = absurd (some refl)
piece_later (b ∷ text) item some = refl

-- the text of a list that has an item splits into one, so it is not empty
is_some : (first : List ℕ) (items : List (List ℕ)) → list_of (first ∷ items) ≢ []
unfolding split_after
is_some first items = λ e. let back = splits_back (first ∷ items) in let none = ap split_of e in cc

pub last_item_law : LastItemLaw
last_item_law [] item = sym (append-nil (spelling First item))
last_item_law (first ∷ items) item =
    ap (λ piece. list_of (first ∷ items) ++ piece) (piece_later (list_of (first ∷ items)) item (is_some first items))
    ∙ flat_map_more later_item (spelling First first) items item

pub grown : (items : List (List ℕ)) (text new item : List ℕ) → text ≡ list_of items → new ≡ with_last text item → new ≡ list_of (items ++ (item ∷ []))
grown items text new item is_list is_grown =
    is_grown ∙ ap (λ front. with_last front item) is_list ∙ last_item_law items item

-- the text of a list with more items after its own, of which it has one at least
pub list-append_later : (items more : List (List ℕ)) → items ≢ [] → list_of (items ++ more) ≡ list_of items ++ flat_map later_item more
list-append_later [] more some = absurd (some refl)
list-append_later (item ∷ items) more some =
    ap (λ t. spelling First item ++ t) (flat_map-append later_item items more)
    ∙ sym (append_assoc (spelling First item) (flat_map later_item items) (flat_map later_item more))
