-- What the parts of a pass say of its seat.
use Rattle.std.proofs.Common.{◌≡◌, ℕ, ◌+◌, ◌-◌, ◌<◌, ⊎_elim, List, [], ◌∷◌, ◌++◌, map, length, take, replicate, sym, ap}
use Rattle.std.proofs.Common.{◌∙◌, subst, Option, Some, None, slice_get}
use Rattle.std.specs.Option.{option_map}
use Rattle.std.specs.List.{enumerate_from}
use Rattle.tt_noted.specs.declared.tie.Tie.{Ghosts}
use Rattle.tt_noted.specs.declared.pass.Pass.{Pass}
use Rattle.tt_noted.specs.declared.pass.Turn.{Turn}
use Rattle.tt_noted.specs.declared.noted.Noted.{Noted}
use Rattle.tt_noted.specs.declared.table.View.{View}
use Rattle.tt_noted.specs.inside.Rule.{Sat, view, first_of, holding, leaving, FitsAll, LeavesFit}
use Rattle.tt_noted.specs.Passes.{count_of, turn_of, state_at_entry, IsPassOf, IsFresh, KeepsFit}
use Rattle.tt_noted.proofs.Lists.{get_end, numbered_next}

pub one_note : {N : Type 0} (xs : List (ℕ × N)) (place : ℕ) → map (λ c. c.0) xs ≡ place ∷ [] → (note : N) × (xs ≡ (place, note) ∷ [])
one_note [] place e = absurd (cc)
one_note (x ∷ []) place e = let same : x.0 ≡ place = cc in (x.1, λ i. (same i, x.1) ∷ [])
one_note (x ∷ y ∷ ys) place e = absurd (cc)

-- the first note of a view's notes
abbrev pub first : {N : Type 0} → List (ℕ × N) → Option N
first xs = option_map (λ c. c.1) (slice_get xs 0)

module _ {S N : Type 0} where
  pub first_note : (v : View S N) (place : ℕ) → map (λ c. c.0) v.notes ≡ place ∷ [] → (c : ℕ × N) × (slice_get v.notes 0 ≡ Some c)
  first_note v place e = let t = one_note v.notes place e in ((place, t.0), ap (λ (xs : List (ℕ × N)). slice_get xs 0) t.1)

  -- a take that began at a seat with no slot
  pub took_all : (fits : S → List N → Type 0) (m n after : Sat S N) (state : S) → n ≡ m → m.1 ≡ [] → after ≡ (holding n.0 state, (0, Some state) ∷ n.1) →
      FitsAll fits n.0 state
      → (x : S) × (after ≡ (holding m.0 x, (0, Some x) ∷ [])) × FitsAll fits m.0 x
  took_all fits m n after state same none now fit = (
    state,
    now ∙ (λ i. (holding (same i).0 state, (0, Some state) ∷ (ap (λ (x : Sat S N). x.1) same ∙ none) i)),
    subst (λ (x : Sat S N). FitsAll fits x.0 state) same fit,
  )

  -- the notes after a leave
  pub new_notes : (v w : View S N) (place : ℕ) (note : N) → map (λ c. c.0) v.notes ≡ place ∷ [] → w ≡ leaving v note → w.notes ≡ (place, note) ∷ []
  new_notes v w place note one now = let t = one_note v.notes place one in ap (λ (x : View S N). x.notes) now ∙ ap (map (λ (c : ℕ × N). (c.0, note))) t.1

  -- a state that fits all notes fits those of the pass with this number and these notes
  pub fits_notes : (fits : S → List N → Type 0) (v : View S N) (notes : List (ℕ × N)) (count number : ℕ) (state : S) → notes ≡ v.notes → v.count ≡ count →
      map (λ c. c.0) v.notes ≡ (number - 1) ∷ []
      → FitsAll fits v state → (all : List N) × (length all ≡ count) × (slice_get all (number - 1) ≡ first notes) × fits state all
  fits_notes fits v notes count number state same counted one fit = let t = one_note v.notes (number - 1) one in
      (fit.0, fit.1 ∙ counted, fit.2 0 (number - 1) t.0 (ap (λ (xs : List (ℕ × N)). slice_get xs 0) t.1) ∙ sym (ap first (same ∙ t.1)), fit.3)

module _ {T S N : Type 0} {tie : Ghosts T S N} (lock : Noted T S N) (note : N) where
  pub fresh_pass : (k n : ℕ) (pass : Pass T S N tie) (v : View S N) → pass.number ≡ k + 1 → pass.seat.table_id ≡ lock.table.shared.table_id →
      pass.seat.me.0 ≡ first_of v
      → v ≡ view n (enumerate_from k (replicate (n - k) note)) None → k < n → n ≡ count_of lock → IsFresh lock note k pass
  fresh_pass k n pass v number table now old inside count = record {
    of_lock = (table, ap (λ (w : View S N). w.count) (now ∙ ap first_of old) ∙ count);
    numbered = number;
    noted = ap (λ (w : View S N). first w.notes) (now ∙ ap first_of old) ∙ ap (λ (xs : List (ℕ × N)). first (take 1 xs)) (numbered_next n k note inside);
    no_turn = ap (λ (w : View S N). w.turn) now;
  }

  pub one_more : (k : ℕ) (passes after : List (Pass T S N tie)) (pass : Pass T S N tie) → after ≡ passes ++ pass ∷ [] → length passes ≡ k →
      IsFresh lock note k pass
      → ((i : ℕ) (p : Pass T S N tie) → slice_get passes i ≡ Some p → IsFresh lock note i p) → (i : ℕ) (p : Pass T S N tie) → slice_get after i ≡ Some p →
      IsFresh lock note i p
  one_more k passes after pass now long fresh before i p at = ⊎_elim (λ (old : slice_get passes i ≡ Some p). before i p old)
      (λ (last : (i ≡ length passes) × (p ≡ pass)). subst (λ (x : ℕ × Pass T S N tie). IsFresh lock note x.0 x.1)
      (λ j. (sym (last.0 ∙ long) j, sym last.1 j)) fresh)
      (get_end passes pass p i (ap (λ (xs : List (Pass T S N tie)). slice_get xs i) (sym now) ∙ at))

module _ {T S N : Type 0} {tie : Ghosts T S N} (fits : S → List N → Type 0) where
  pub leaves_fit : (lock : Noted T S N) (pass : Pass T S N tie) (turn : Turn T S N) (note : N) →
      map (λ c. c.0) pass.seat.me.0.notes ≡ (pass.number - 1) ∷ [] → IsPassOf lock pass
      → turn_of pass ≡ Some (state_at_entry turn) → KeepsFit fits lock pass turn note → LeavesFit fits pass.seat.me.0 turn.state note
  leaves_fit lock pass turn note one own entered keeps_fit = let t = one_note pass.seat.me.0.notes (pass.number - 1) one in (
    pass.number - 1,
    t.0,
    state_at_entry turn,
    t.1,
    entered,
    λ notes long at fit. keeps_fit notes (long ∙ own.1) (at ∙ sym (ap first t.1)) fit,
  )
