-- Tables in which no id stands twice, and what is found in them after a change.
use Rattle.std.proofs.Common.{◌≡◌, ◌≢◌, ◌∙◌, ℕ, Bool, true, false, cond, if◌then◌else◌, List, [], ◌∷◌, map, Option, Some, None, ap, refl, sym, subst}
use Rattle.std.specs.BTreeMap.{insert_entry}
use Rattle.std.specs.Bool.{⊤}
use Rattle.std.specs.Cmp.Lexicographic.{slice_cmp}
use Rattle.std.specs.List.{filter}
use Rattle.std.specs.Map.{remove_entry, set_value}
use Rattle.std.specs.Ordering.{is_eq, match_ordering, nat_cmp}
use Rattle.std.specs.declared.cmp.Ordering.{Ordering}
use Rattle.std.specs.declared.cmp.Ordering.TheVariants.{Less, Equal, Greater}
use Rattle.laws_shared.proofs.Tables.{Entries, at, by_insert, by_remove, by_set, is_key, own_key, same_key}

-- ---- no id twice ----

abbrev pub AreApart : {X : Type 0} → Entries X → Type 0
AreApart [] = ⊤
AreApart (e ∷ es) = (at e.0 es ≡ None) × AreApart es

pub other_key : (id : List ℕ) (key : List ℕ) → is_key id key ≡ false → key ≢ id
other_key id key other same = let own : true ≡ false = sym (own_key id) ∙ subst (λ one. is_key id one ≡ false) same other in cc own

module _ {X : Type 0} where
  missing-set : (text id : List ℕ) (entries : Entries X) (x : X) → text ≢ id → at text entries ≡ None → at text (set_value (is_key id) entries x) ≡ None
  missing-set text id entries x differs none = by_set (λ found. found ≡ None) text id entries x (λ same had. absurd (differs same)) none

  pub apart-set : (id : List ℕ) (entries : Entries X) (x : X) → AreApart entries → AreApart (set_value (is_key id) entries x)
  apart-set id [] x apart = apart
  apart-set id (e ∷ es) x apart = go (is_key id e.0) refl (apart-set id es x apart.1)
    where
      go : (here : Bool) → is_key id e.0 ≡ here → AreApart (set_value (is_key id) es x) → AreApart (cond here ((e.0, x) ∷ es) (e ∷ set_value (is_key id) es x))
      go true here later = apart
      go false here later = (missing-set e.0 id es x (other_key id e.0 here) apart.0, later)

  pub apart-remove : (id : List ℕ) (entries : Entries X) → AreApart entries → AreApart (remove_entry (is_key id) entries)
  apart-remove id [] apart = apart
  apart-remove id (e ∷ es) apart = go (is_key id e.0) refl (apart-remove id es apart.1)
    where
      go : (here : Bool) → is_key id e.0 ≡ here → AreApart (remove_entry (is_key id) es) → AreApart (cond here es (e ∷ remove_entry (is_key id) es))
      go true here later = apart.1
      go false here later = (by_remove (λ found. found ≡ None) e.0 id es (other_key id e.0 here) apart.0, later)

  pub remove_here : (id : List ℕ) (entries : Entries X) → AreApart entries → at id (remove_entry (is_key id) entries) ≡ None
  remove_here id [] apart = refl
  remove_here id (e ∷ es) apart = go (is_key id e.0) refl (remove_here id es apart.1)
    where
      go : (here : Bool) → is_key id e.0 ≡ here → at id (remove_entry (is_key id) es) ≡ None → at id (cond here es (e ∷ remove_entry (is_key id) es)) ≡ None
      go true here later = subst (λ text. at text es ≡ None) (sym (same_key id e.0 here)) apart.0
      go false here later = rw here later

  pub apart-insert : (id : List ℕ) (entries : Entries X) (x : X) → at id entries ≡ None → AreApart entries →
      AreApart (insert_entry (slice_cmp nat_cmp) entries id x)
  apart-insert id [] x none apart = (refl, apart)
  apart-insert id (e ∷ es) x none apart = go (slice_cmp nat_cmp id e.0) refl none (apart-insert id es x)
    where
      found-here : {one : X} → Some one ≡ None → ⊥
      found-here is = cc is

      go : (order : Ordering) → slice_cmp nat_cmp id e.0 ≡ order → cond (is_eq order) (Some e.1) (at id es) ≡ None
          → (at id es ≡ None → AreApart es → AreApart (insert_entry (slice_cmp nat_cmp) es id x))
          → AreApart (match_ordering order ((id, x) ∷ e ∷ es) ((e.0, x) ∷ es) (e ∷ insert_entry (slice_cmp nat_cmp) es id x))
      go Less is none' later = (none, apart)
      go Equal is none' later = absurd (found-here none')
      go Greater is none' later =
          let differs : e.0 ≢ id = other_key id e.0 (ap is_eq is) in
          (by_insert (λ found. found ≡ None) e.0 id es x (λ same. absurd (differs same)) apart.0, later none' apart.1)

-- ---- the end of a thread ----

-- what is found after some were taken out, and the others changed
abbrev pub left : {X : Type 0} → (X → Bool) → (X → X) → Option X → Option X
left stays change None = None
left stays change (Some x) = if stays x then Some (change x) else None

module _ {X : Type 0} (stays : X → Bool) (change : X → X) where
  abbrev pub ended : Entries X → Entries X
  ended entries = map (λ entry. (entry.0, change entry.1)) (filter (λ entry. stays entry.1) entries)

  pub left-is : (text : List ℕ) (entries : Entries X) → AreApart entries → at text (ended entries) ≡ left stays change (at text entries)
  left-is text [] apart = refl
  left-is text (e ∷ es) apart = go (stays e.1) (is_key text e.0) refl refl (left-is text es apart.1)
    where
      gone : (b : Bool) → b ≡ false → None ≡ (if b then Some (change e.1) else None)
      gone true is = absurd (cc is)
      gone false is = refl

      kept : (b : Bool) → b ≡ true → Some (change e.1) ≡ (if b then Some (change e.1) else None)
      kept true is = refl
      kept false is = absurd (cc is)

      go : (stay there : Bool) → stays e.1 ≡ stay → is_key text e.0 ≡ there → at text (ended es) ≡ left stays change (at text es)
          → at text (map (λ entry. (entry.0, change entry.1)) (cond stay (e ∷ filter (λ entry. stays entry.1) es) (filter (λ entry. stays entry.1) es)))
          ≡ left stays change (cond there (Some e.1) (at text es))
      go true true stay there later = rw there (kept (stays e.1) stay)
      go true false stay there later = rw there later
      go false true stay there later =
          let none : at text es ≡ None = subst (λ one. at one es ≡ None) (sym (same_key text e.0 there)) apart.0 in
          later ∙ ap (left stays change) none ∙ gone (stays e.1) stay
      go false false stay there later = later

  pub apart-ended : (entries : Entries X) → AreApart entries → AreApart (ended entries)
  apart-ended [] apart = apart
  apart-ended (e ∷ es) apart = go (stays e.1) (apart-ended es apart.1)
    where
      go : (stay : Bool) → AreApart (ended es) →
          AreApart (map (λ entry. (entry.0, change entry.1)) (cond stay (e ∷ filter (λ entry. stays entry.1) es) (filter (λ entry. stays entry.1) es)))
      go true later = (left-is e.0 es apart.1 ∙ ap (left stays change) apart.0, later)
      go false later = later
