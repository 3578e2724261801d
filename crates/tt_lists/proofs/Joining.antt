-- A canonical text lists the items that it was made of.
use Rattle.std.proofs.Common.{◌≡◌, ◌≢◌, ℕ, Bool, true, false, not, ◌==◌, ◌||◌, cond, List, [], ◌∷◌, ◌++◌, drop, refl}
use Rattle.std.proofs.Common.{sym, ap, subst, ◌∙◌, inl, inr, append_assoc, arith}
use Rattle.std.specs.List.{list_any, flat_map}
use Rattle.std.proofs.lemmas.Bool.{cases_Bool, eqb-true, or_parts, and_parts, both_ways, cond-true, cond-false}
use Rattle.std.proofs.lemmas.Bool.Decides.{nat_tests}
use Rattle.tt_text.specs.Backslash.{backslash, sequence, kind_of, Itself, Control}
use Rattle.tt_text.specs.Braces.{is_balanced}
use Rattle.tt_text.specs.Braces.IsBalanced.{empty}
use Rattle.tt_text.specs.Characters.{is_white_space}
use Rattle.tt_text.proofs.BraceLemmas.{balanced_law}
use Rattle.tt_lists.specs.ListText.{IsRun, IsSeparated, IsItem, IsListText}
use Rattle.tt_lists.specs.ListText.IsRun.{at_end as run_end, stopped, letter, escape as escaped_run}
use Rattle.tt_lists.specs.ListText.IsSeparated.{at_end, white}
use Rattle.tt_lists.specs.ListText.IsItem.{braced, bare}
use Rattle.tt_lists.specs.ListText.IsListText.{none, space, first}
use Rattle.tt_lists.specs.Spelling.{is_comment_sign, joins_lines, is_substituted, wants_braces, wants_braces_first}
use Rattle.tt_lists.specs.Spelling.{fits_braces, style_of, escape, escape_first, escape_bare, with_escapes, item_in_style, spelling}
use Rattle.tt_lists.specs.Spelling.{later_item, list_of}
use Rattle.tt_lists.specs.Reading.{split_of}
use Rattle.tt_lists.proofs.SplitLaw.{complete_items}
use Rattle.tt_lists.specs.declared.items.Split.TheVariants.{Items}
use Rattle.tt_lists.specs.declared.spelling.Place.{Place}
use Rattle.tt_lists.specs.declared.spelling.Place.TheVariants.{First, Later}
use Rattle.tt_lists.specs.declared.spelling.Style.TheVariants.{Escaped, Braced, Bare}

-- a run of a bare item
abbrev Runs : List ℕ → List ℕ → List ℕ → Type 0
Runs text value rest = IsRun is_white_space text value rest

stops_here : (rest : List ℕ) → IsSeparated rest → Runs rest [] rest
stops_here [] at_end = run_end
stops_here (b ∷ rest) (white h) = stopped h

-- a backslash before a byte that stands for itself
itself : (b : ℕ) (text value rest : List ℕ) → kind_of b ≡ Itself → Runs text value rest → Runs (92 ∷ b ∷ text) (b ∷ value) rest
itself b text value rest k r =
    let is : backslash (b ∷ text) ≡ record { value = b ∷ []; takes = 1 } = ap (λ kind. sequence kind b text) k in
    escaped_run refl refl (subst (λ s. Runs (drop s.takes (b ∷ text)) value rest) (sym is) r) (ap (λ s. s.value ++ value) (sym is))

-- a byte that its sequence names
named : (sign b : ℕ) (text value rest : List ℕ) → kind_of sign ≡ Control b → Runs text value rest → Runs (92 ∷ sign ∷ text) (b ∷ value) rest
named sign b text value rest k r =
    let is : backslash (sign ∷ text) ≡ record { value = b ∷ []; takes = 1 } = ap (λ kind. sequence kind sign text) k in
    escaped_run refl refl (subst (λ s. Runs (drop s.takes (sign ∷ text)) value rest) (sym is) r) (ap (λ s. s.value ++ value) (sym is))

-- the bytes that get a backslash stand for themselves after it
abbrev gets_backslash : ℕ → Bool
gets_backslash b = b == 32 || is_substituted b || b == 93 || b == 123 || b == 125 || b == 34

plain_kind : (b : ℕ) → gets_backslash b ≡ true → kind_of b ≡ Itself
plain_kind b h = grind (arith, nat_tests)

-- a byte that an item may be written with as it is
record IsOrdinary (b : ℕ) : Type 0 where
  no_white : is_white_space b ≡ false
  no_backslash : b ≢ 92

ordinary : (b : ℕ) → (b == 9) ≡ false → (b == 10) ≡ false → (b == 11) ≡ false → (b == 12) ≡ false → (b == 13) ≡ false → gets_backslash b ≡ false → IsOrdinary b
ordinary b h9 h10 h11 h12 h13 h = record {
  no_white = grind (arith, nat_tests);
  no_backslash = λ e. both_ways (gets_backslash b) h (rw e refl);
}

-- what the escapes of a byte may be: the byte after a backslash, a letter after one, or the byte
data IsEscape (b : ℕ) : List ℕ → Type 0 where
  itself_after : kind_of b ≡ Itself → IsEscape b (92 ∷ b ∷ [])
  letter_after : {sign : ℕ} → kind_of sign ≡ Control b → IsEscape b (92 ∷ sign ∷ [])
  as_it_is : IsOrdinary b → IsEscape b (b ∷ [])

escape_is : (b : ℕ) → IsEscape b (escape b)
escape_is b =
    elim (cases_Bool (b == 9)) [
      | inl p ↦ rw (eqb-true b 9 p) (letter_after refl)
      | inr h9 ↦ elim (cases_Bool (b == 10)) [
        | inl p ↦ rw (eqb-true b 10 p) (letter_after refl)
        | inr h10 ↦ elim (cases_Bool (b == 11)) [
          | inl p ↦ rw (eqb-true b 11 p) (letter_after refl)
          | inr h11 ↦ elim (cases_Bool (b == 12)) [
            | inl p ↦ rw (eqb-true b 12 p) (letter_after refl)
            | inr h12 ↦ elim (cases_Bool (b == 13)) [
              | inl p ↦ rw (eqb-true b 13 p) (letter_after refl)
              | inr h13 ↦ elim (cases_Bool (gets_backslash b)) [
                | inl p ↦ subst (IsEscape b) (sym (rw (h9, h10, h11, h12, h13) (cond-true (gets_backslash b) (92 ∷ b ∷ []) (b ∷ []) p)))
                    (itself_after (plain_kind b p))
                | inr p ↦ subst (IsEscape b) (sym (rw (h9, h10, h11, h12, h13) (cond-false (gets_backslash b) (92 ∷ b ∷ []) (b ∷ []) p)))
                    (as_it_is (ordinary b h9 h10 h11 h12 h13 p))
              ]
            ]
          ]
        ]
      ]
    ]

escape_first_is : (place : Place) (b : ℕ) → IsEscape b (escape_first place b)
escape_first_is place b =
    elim (cases_Bool (is_comment_sign place b)) [
      | inl p ↦ rw p (itself_after (sign_kind place b p))
      | inr p ↦ rw p (escape_is b)
    ]
  where
    sign_kind : (place : Place) (b : ℕ) → is_comment_sign place b ≡ true → kind_of b ≡ Itself
    sign_kind First b p = rw (eqb-true b 35 p) refl
    sign_kind Later b p = cc

run_escape : (b : ℕ) (text value rest : List ℕ) (written : List ℕ) → IsEscape b written → Runs text value rest → Runs (written ++ text) (b ∷ value) rest
run_escape b text value rest _ (itself_after k) r = itself b text value rest k r
run_escape b text value rest _ (letter_after {sign} k) r = named sign b text value rest k r
run_escape b text value rest _ (as_it_is o) r = letter o.no_white o.no_backslash r

run_escapes : (f : ℕ → List ℕ) (p : ℕ → Bool) (item rest : List ℕ) → ((b : ℕ) → p b ≡ false → IsEscape b (f b)) → list_any p item ≡ false →
    IsSeparated rest → Runs (flat_map f item ++ rest) item rest
run_escapes f p [] rest each h s = stops_here rest s
run_escapes f p (b ∷ item) rest each h s =
    let q = or_parts (p b) (list_any p item) h in
    subst (λ t. Runs t (b ∷ item) rest) (sym (append_assoc (f b) (flat_map f item) rest))
    (run_escape b (flat_map f item ++ rest) item rest (f b) (each b q.0) (run_escapes f p item rest each q.1 s))

none_of : (item : List ℕ) → list_any (λ _. false) item ≡ false
none_of [] = refl
none_of (b ∷ item) = none_of item

-- what is escaped begins with a byte that begins a bare item
begins_bare : (b : ℕ) (written more item rest : List ℕ) → IsEscape b written → (written ≡ b ∷ [] → (b ≢ 123) × (b ≢ 34)) →
    Runs (written ++ more) item rest → IsItem (written ++ more) item rest
begins_bare b _ more item rest (itself_after k) alone r = bare refl (λ e. absurd (omega arith)) (λ e. absurd (omega arith)) r
begins_bare b _ more item rest (letter_after k) alone r = bare refl (λ e. absurd (omega arith)) (λ e. absurd (omega arith)) r
begins_bare b _ more item rest (as_it_is o) alone r = bare o.no_white (alone refl).0 (alone refl).1 r

brace_escape : (place : Place) → escape_first place 123 ≡ 123 ∷ [] → ⊥
brace_escape First e = cc
brace_escape Later e = cc

quote_escape : (place : Place) → escape_first place 34 ≡ 34 ∷ [] → ⊥
quote_escape First e = cc
quote_escape Later e = cc

escaped_item : (place : Place) (b : ℕ) (item rest : List ℕ) → IsSeparated rest → IsItem (with_escapes place (b ∷ item) ++ rest) (b ∷ item) rest
escaped_item place b item rest s =
    let more = flat_map escape item ++ rest in
    let runs = run_escape b more item rest (escape_first place b) (escape_first_is place b)
    (run_escapes escape (λ _. false) item rest (λ c h. escape_is c) (none_of item) s) in
    subst (λ t. IsItem t (b ∷ item) rest) (sym (append_assoc (escape_first place b) (flat_map escape item) rest))
    (begins_bare b (escape_first place b) more (b ∷ item) rest (escape_first_is place b)
    (λ e. (λ is. brace_escape place (rw is at e), λ is. quote_escape place (rw is at e))) runs)

bare_is : (b : ℕ) → wants_braces b ≡ false → IsEscape b (escape_bare b)
bare_is b h =
    elim (cases_Bool (b == 93 || b == 34)) [
      | inl p ↦ rw p (itself_after (grind (arith, nat_tests)))
      | inr p ↦ rw p
          (as_it_is (record {
            no_white =
                (or_parts (is_white_space b) (is_substituted b) h).0;
            no_backslash =
                λ e. both_ways (is_substituted b) (or_parts (is_white_space b) (is_substituted b) h).1 (rw e refl);
          }))
    ]

bare_item : (place : Place) (b : ℕ) (item rest : List ℕ) → wants_braces_first place b ≡ false → list_any wants_braces (b ∷ item) ≡ false →
    IsSeparated rest → IsItem (flat_map escape_bare (b ∷ item) ++ rest) (b ∷ item) rest
bare_item place b item rest f h s =
    let q = or_parts (wants_braces b) (list_any wants_braces item) h in
    let more = flat_map escape_bare item ++ rest in
    let runs = run_escape b more item rest (escape_bare b) (bare_is b q.0) (run_escapes escape_bare wants_braces item rest bare_is q.1 s) in
    subst (λ t. IsItem t (b ∷ item) rest) (sym (append_assoc (escape_bare b) (flat_map escape_bare item) rest))
    (begins_bare b (escape_bare b) more (b ∷ item) rest (bare_is b q.0)
    (λ e. (λ is. both_ways (wants_braces_first place b) f (rw is refl), λ is. both_ways (wants_braces_first place b) f (rw is refl))) runs)

braced_item : (item rest : List ℕ) → fits_braces item ≡ true → IsSeparated rest → IsItem ((123 ∷ (item ++ (125 ∷ []))) ++ rest) item rest
braced_item item rest h s =
    braced (ap (λ t. 123 ∷ t) (append_assoc item (125 ∷ []) rest)) ((balanced_law item).0 (and_parts (is_balanced item) (not (joins_lines item)) h).0) s

-- a spelling with a separator after it is an item
spelled : (place : Place) (item rest : List ℕ) → IsSeparated rest → IsItem (spelling place item ++ rest) item rest
unfolding spelling
spelled place [] rest s = braced refl empty s
spelled place (b ∷ item) rest s =
    let whole : List ℕ = b ∷ item in
    elim (cases_Bool (fits_braces whole)) [
      | inr p ↦ subst (λ t. IsItem (item_in_style t place whole ++ rest) whole rest) (sym (style_escaped p)) (escaped_item place b item rest s)
      | inl p ↦ elim (cases_Bool (wants_braces_first place b || list_any wants_braces whole)) [
        | inl q ↦ subst (λ t. IsItem (item_in_style t place whole ++ rest) whole rest) (sym (style_braced p q)) (braced_item whole rest p s)
        | inr q ↦ (let parts = or_parts (wants_braces_first place b) (list_any wants_braces whole) q in subst (λ t. IsItem (item_in_style t place whole ++ rest) whole rest) (sym (style_bare p q)) (bare_item place b item rest parts.0 parts.1 s))
      ]
    ]
  where
    style_escaped : fits_braces (b ∷ item) ≡ false → style_of place (b ∷ item) ≡ Escaped
    style_escaped p = ap (λ t. cond (not t) Escaped (cond (wants_braces_first place b || list_any wants_braces (b ∷ item)) Braced Bare)) p

    style_braced : fits_braces (b ∷ item) ≡ true → (wants_braces_first place b || list_any wants_braces (b ∷ item)) ≡ true → style_of place (b ∷ item) ≡ Braced
    style_braced p q =
        ap (λ t. cond (not t) Escaped (cond (wants_braces_first place b || list_any wants_braces (b ∷ item)) Braced Bare)) p ∙ ap (λ t. cond t Braced Bare) q

    style_bare : fits_braces (b ∷ item) ≡ true → (wants_braces_first place b || list_any wants_braces (b ∷ item)) ≡ false → style_of place (b ∷ item) ≡ Bare
    style_bare p q =
        ap (λ t. cond (not t) Escaped (cond (wants_braces_first place b || list_any wants_braces (b ∷ item)) Braced Bare)) p ∙ ap (λ t. cond t Braced Bare) q

separated_later : (items : List (List ℕ)) → IsSeparated (flat_map later_item items)
separated_later [] = at_end
separated_later (item ∷ items) = white refl

lists_later : (items : List (List ℕ)) → IsListText (flat_map later_item items) items
lists_later [] = none
lists_later (item ∷ items) = space refl (first (spelled Later item (flat_map later_item items) (separated_later items)) (lists_later items))

-- the canonical text of items lists them
pub lists_items : (items : List (List ℕ)) → IsListText (list_of items) items
lists_items [] = none
lists_items (item ∷ items) = first (spelled First item (flat_map later_item items) (separated_later items)) (lists_later items)

pub splits_back : (items : List (List ℕ)) → split_of (list_of items) ≡ Items items
splits_back items = complete_items (lists_items items)
