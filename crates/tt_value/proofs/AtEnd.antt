-- Items go to the end of a list.
use Rattle.std.proofs.Common.{◌≡◌, ◌+◌, ℕ, List, [], ◌∷◌, ◌++◌, length, codes, refl, rules, arith, ap, append-nil, take, drop, pos}
use Rattle.tt_lists.specs.Commands.{insert_among, insert_answer}
use Rattle.tt_lists.specs.Indices.{index_of}
use Rattle.tt_lists.specs.Parts.{with_items}
use Rattle.tt_lists.specs.Places.{place_in}
use Rattle.tt_lists.specs.Reading.{split_of}
use Rattle.tt_lists.specs.Spelling.{list_of}
use Rattle.tt_lists.specs.declared.answer.ListAnswer.TheVariants.{Made}
use Rattle.tt_lists.specs.declared.items.Split.TheVariants.{Items}
use Rattle.tt_lists.specs.declared.place.Index.TheVariants.{FromEnd}
use Rattle.tt_lists.proofs.Joining.{splits_back}
use Rattle.tt_value.specs.declared.listing.Spelling.{Spelling}
use Rattle.tt_value.specs.declared.listing.Spelling.TheVariants.{Unmade, Canonical, Given}
use Rattle.tt_value.specs.inside.Listed.{Listed, canonical}
use Rattle.tt_value.specs.inside.Spellings.{IsSpelled, text_in}

-- the text of a list is split into its items
pub is_split : (spelling : Spelling) (items : List (List ℕ)) → IsSpelled spelling items → split_of (text_in spelling items) ≡ Items items
is_split Unmade items is = splits_back items
is_split (Canonical text) items is = rw is (splits_back items)
is_split (Given text) items is = is

end-place : (count : ℕ) → place_in (FromEnd (pos 0)) (count + 1) ≡ pos count
end-place count = search (rules, arith)

taken : (items : List (List ℕ)) → take (length items) items ≡ items
taken [] = refl
taken (item ∷ items) = ap (λ (rest : List (List ℕ)). item ∷ rest) (taken items)

dropped : (items : List (List ℕ)) → drop (length items) items ≡ []
dropped [] = refl
dropped (item ∷ items) = dropped items

last-place : (items others : List (List ℕ)) → with_items items (pos (length items)) others ≡ items ++ others
last-place items others = rw (taken items, dropped items, append-nil others) refl

at-end : (items others : List (List ℕ)) → insert_among items (codes "end") others ≡ Made (list_of (items ++ others))
unfolding index_of
at-end items others = rw (end-place (length items), last-place items others) refl

-- of a list, with others at its end
pub list_grows : (old new : Listed) (others : List (List ℕ)) → split_of old.text ≡ Items old.items
    → new ≡ canonical (old.items ++ others) → insert_answer old.text (codes "end") others ≡ Made new.text
list_grows old new others is grown = rw (is, grown) (at-end old.items others)
