-- Paths are gone key by key.
use Rattle.std.proofs.Common.{◌≡◌, ◌∙◌, ℕ, List, [], ◌∷◌, ◌++◌, Ok, Err, length, refl, sym, ap, rules}
use Rattle.tt_pairs.specs.Pairs.{Pairs, text_of, value_of, with_pair}
use Rattle.tt_pairs.specs.Reading.{Reading}
use Rattle.tt_dict.specs.Paths.{after_edit, after_edit_at, for_pairs, found_by, inner_by, put_back, value_at, way_by}
use Rattle.tt_dict.specs.declared.edit.Edit.{Edit}
use Rattle.tt_dict.specs.declared.edit.Level.{Level}
use Rattle.tt_dict.specs.inside.Levels.{around}

-- ---- reading ----

value_next : (pairs : Pairs) (key next : List ℕ) (rest keys : List (List ℕ)) (inner : Reading) →
    rest ≡ next ∷ keys →
    inner_by key (value_of pairs key) ≡ inner →
    value_at pairs key rest ≡ for_pairs (λ inner. value_at inner next keys) inner
value_next pairs key next rest keys inner is found =
    ap (value_at pairs key) is ∙ ap (for_pairs (λ inner. value_at inner next keys)) found

pub value_more : (pairs inner : Pairs) (key next : List ℕ) (rest keys : List (List ℕ)) →
    rest ≡ next ∷ keys →
    inner_by key (value_of pairs key) ≡ Ok inner →
    value_at pairs key rest ≡ value_at inner next keys
value_more pairs inner key next rest keys is found = value_next pairs key next rest keys (Ok inner) is found

pub value_stops : (pairs : Pairs) (key next message : List ℕ) (rest keys : List (List ℕ)) →
    rest ≡ next ∷ keys →
    inner_by key (value_of pairs key) ≡ Err message →
    value_at pairs key rest ≡ Err message
value_stops pairs key next message rest keys is found = value_next pairs key next rest keys (Err message) is found

pub value_last : (pairs : Pairs) (key : List ℕ) (rest : List (List ℕ)) →
    length rest ≡ 0 →
    value_at pairs key rest ≡ found_by key (value_of pairs key)
value_last pairs key [] none = refl
value_last pairs key (next ∷ keys) none = absurd (search (rules, none))

-- ---- changing ----

around_push : (levels : List Level) (level : Level) (inner : Reading) →
    around (levels ++ level ∷ []) inner ≡ around levels (put_back level.pairs level.key inner)
around_push [] level inner = refl
around_push (outer ∷ levels) level inner = ap (put_back outer.pairs outer.key) (around_push levels level inner)

around_stops : (levels : List Level) (message : List ℕ) → around levels (Err message) ≡ Err message
around_stops [] message = refl
around_stops (outer ∷ levels) message = ap (put_back outer.pairs outer.key) (around_stops levels message)

edit_next : (edit : Edit) (pairs : Pairs) (key next : List ℕ) (rest keys : List (List ℕ)) (inner : Reading) →
    rest ≡ next ∷ keys →
    way_by edit key (value_of pairs key) ≡ inner →
    after_edit_at edit pairs key rest ≡ put_back pairs key (for_pairs (λ inner. after_edit_at edit inner next keys) inner)
edit_next edit pairs key next rest keys inner is found =
    ap (after_edit_at edit pairs key) is
    ∙ ap (λ inner. put_back pairs key (for_pairs (λ inner. after_edit_at edit inner next keys) inner)) found

pub edit_more : (edit : Edit) (levels more : List Level) (pairs inner : Pairs) (key next : List ℕ)
    (rest keys : List (List ℕ)) →
    rest ≡ next ∷ keys →
    way_by edit key (value_of pairs key) ≡ Ok inner →
    more ≡ levels ++ record { pairs = pairs; key = key } ∷ [] →
    around levels (after_edit_at edit pairs key rest) ≡ around more (after_edit_at edit inner next keys)
edit_more edit levels more pairs inner key next rest keys is found pushed =
    ap (around levels) (edit_next edit pairs key next rest keys (Ok inner) is found)
    ∙ sym (around_push levels (record { pairs = pairs; key = key }) (after_edit_at edit inner next keys))
    ∙ ap (λ all. around all (after_edit_at edit inner next keys)) (sym pushed)

pub edit_stops : (edit : Edit) (levels : List Level) (pairs : Pairs) (key next message : List ℕ)
    (rest keys : List (List ℕ)) →
    rest ≡ next ∷ keys →
    way_by edit key (value_of pairs key) ≡ Err message →
    around levels (after_edit_at edit pairs key rest) ≡ Err message
edit_stops edit levels pairs key next message rest keys is found =
    ap (around levels) (edit_next edit pairs key next rest keys (Err message) is found) ∙ around_stops levels message

pub edit_last : (edit : Edit) (levels : List Level) (pairs made : Pairs) (key : List ℕ) (rest : List (List ℕ)) →
    length rest ≡ 0 →
    made ≡ after_edit edit pairs key →
    around levels (after_edit_at edit pairs key rest) ≡ around levels (Ok made)
edit_last edit levels pairs made key [] none is = ap (λ all. around levels (Ok all)) (sym is)
edit_last edit levels pairs made key (next ∷ keys) none is = absurd (search (rules, none))

-- ---- outwards ----

pub out_more : (levels rest : List Level) (level : Level) (inner made : Pairs) →
    levels ≡ rest ++ level ∷ [] →
    made ≡ with_pair level.pairs level.key (text_of inner) →
    around levels (Ok inner) ≡ around rest (Ok made)
out_more levels rest level inner made is put =
    ap (λ all. around all (Ok inner)) is
    ∙ around_push rest level (Ok inner)
    ∙ ap (λ all. around rest (Ok all)) (sym put)
