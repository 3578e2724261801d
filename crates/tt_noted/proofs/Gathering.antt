-- The notes of all passes, as their seats are joined into one.
use Rattle.std.proofs.Common.{◌≡◌, ℕ, zero, suc, ◌+◌, ◌-◌, ◌<◌, List, [], ◌∷◌, ◌++◌, length, get_or, sym, ap, ◌∙◌}
use Rattle.std.proofs.Common.{subst, arith, append_assoc, append-nil, Option, Some, None, slice_get}
use Rattle.std.specs.List.{All}
use Rattle.std.proofs.lemmas.List.Elements.{All-nil, All-cons, All-head, All-tail}
use mathlib.Core.Option.{some, some-injective}
use lib.ListN.{get_elem?}
use Rattle.atomic_table.specs.Table.{Final, Seen}
use Rattle.atomic_table.specs.declared.shared.Seat.{Seat}
use Rattle.tt_noted.specs.declared.tie.Tie.{Ghosts}
use Rattle.tt_noted.specs.declared.pass.Pass.{Pass}
use Rattle.tt_noted.specs.declared.noted.Noted.{Noted}
use Rattle.tt_noted.specs.declared.table.View.{View}
use Rattle.tt_noted.specs.inside.Rule.{IsKept, view, both_of, FitsAll}
use Rattle.tt_noted.specs.Passes.{count_of, turn_of, IsPassOf, AreAllPassesOf, FitsNotesOf, notes_in}
use Rattle.tt_noted.proofs.Keeps.{closed_fits}
use Rattle.tt_noted.proofs.Lists.{get_front, get_behind}
use Rattle.tt_noted.proofs.Passes.{one_note, first, first_note}

module _ {A : Type 0} (P : A → Type 0) where
  pub all_front : (xs : List A) (x : A) → All P (xs ++ x ∷ []) → All P xs
  all_front [] x a = All-nil P
  all_front (y ∷ ys) x a = All-cons P y ys (All-head P y (ys ++ x ∷ []) a) (all_front ys x (All-tail P y (ys ++ x ∷ []) a))

  pub all_last : (xs : List A) (x : A) → All P (xs ++ x ∷ []) → P x
  all_last [] x a = All-head P x [] a
  all_last (y ∷ ys) x a = all_last ys x (All-tail P y (ys ++ x ∷ []) a)

module _ {T S N : Type 0} {tie : Ghosts T S N} where
  notes_in-append : (ps : List (Pass T S N tie)) (p : Pass T S N tie) → notes_in (ps ++ p ∷ []) ≡ notes_in ps ++ p.seat.me.0.notes
  notes_in-append [] p = append-nil p.seat.me.0.notes
  notes_in-append (q ∷ qs) p =
      ap (λ (xs : List (ℕ × N)). q.seat.me.0.notes ++ xs) (notes_in-append qs p) ∙ sym (append_assoc q.seat.me.0.notes (notes_in qs) p.seat.me.0.notes)

  -- the seat has the notes of the passes that are no longer in the rest, and these are free passes of the lock
  pub record IsGathering (lock : Noted T S N) (every rest : List (Pass T S N tie)) (seat : Seat (Option S) (View S N)) : Type 0 where
    pub of_table : seat.table_id ≡ lock.table.shared.table_id
    pub no_turn : seat.me.0.turn ≡ None
    pub count : seat.me.0.count ≡ count_of lock
    pub some : (c : ℕ × N) × (slice_get seat.me.0.notes 0 ≡ Some c)
    pub of_lock : All (IsPassOf lock) rest
    pub free : All (λ p. turn_of p ≡ None) rest
    pub notes : notes_in rest ++ seat.me.0.notes ≡ notes_in every

  pub begins : (lock : Noted T S N) (every rest : List (Pass T S N tie)) (p : Pass T S N tie) → AreAllPassesOf lock every → every ≡ rest ++ p ∷ [] →
      IsGathering lock every rest p.seat
  begins lock every rest p are e = let of_lock = subst (All (IsPassOf lock)) e are.of_lock in let free = subst (All (λ (q : Pass T S N tie). turn_of q ≡ None)) e are.no_turn in record {
    of_table = (all_last (IsPassOf lock) rest p of_lock).0;
    no_turn = all_last (λ (q : Pass T S N tie). turn_of q ≡ None) rest p free;
    count = (all_last (IsPassOf lock) rest p of_lock).1;
    some = first_note p.seat.me.0 (p.number - 1) p.numbered.1;
    of_lock = all_front (IsPassOf lock) rest p of_lock;
    free = all_front (λ (q : Pass T S N tie). turn_of q ≡ None) rest p free;
    notes = sym (notes_in-append rest p) ∙ ap notes_in (sym e);
  }

  -- a pass of those that are left
  pub next_pass : (lock : Noted T S N) (every rest left : List (Pass T S N tie)) (p : Pass T S N tie) (seat : Seat (Option S) (View S N)) →
      IsGathering lock every rest seat → rest ≡ left ++ p ∷ []
      → IsPassOf lock p × (turn_of p ≡ None)
  next_pass lock every rest left p seat so e = (
    all_last (IsPassOf lock) left p (subst (All (IsPassOf lock)) e so.of_lock),
    all_last (λ (q : Pass T S N tie). turn_of q ≡ None) left p
        (subst (All (λ (q : Pass T S N tie). turn_of q ≡ None)) e so.free),
  )

  pub continues : (lock : Noted T S N) (every rest left : List (Pass T S N tie)) (p : Pass T S N tie) (seat after : Seat (Option S) (View S N)) →
      IsGathering lock every rest seat → rest ≡ left ++ p ∷ []
      → after.table_id ≡ seat.table_id → after.me.0 ≡ both_of seat.me.0 p.seat.me.0 → IsGathering lock every left after
  continues lock every rest left p seat after so e table now = let v : View S N = seat.me.0 in let own : List (ℕ × N) = p.seat.me.0.notes in let t = one_note own (p.number - 1) p.numbered.1 in record {
    of_table = table ∙ so.of_table;
    no_turn = ap (λ (w : View S N). w.turn) now ∙ so.no_turn;
    count = ap (λ (w : View S N). w.count) now ∙ so.count;
    some = ((p.number - 1, t.0), ap (λ (w : View S N). slice_get w.notes 0) now ∙ ap (λ (xs : List (ℕ × N)). slice_get (xs ++ v.notes) 0) t.1);
    of_lock = all_front (IsPassOf lock) left p (subst (All (IsPassOf lock)) e so.of_lock);
    free = all_front (λ (q : Pass T S N tie). turn_of q ≡ None) left p (subst (All (λ (q : Pass T S N tie). turn_of q ≡ None)) e so.free);
    notes = ap (λ (w : View S N). notes_in left ++ w.notes) now
        ∙ (sym (append_assoc (notes_in left) own v.notes)
        ∙ (ap (λ (xs : List (ℕ × N)). xs ++ v.notes) (sym (notes_in-append left p) ∙ ap notes_in (sym e)) ∙ so.notes));
  }

  in_notes : (ps : List (Pass T S N tie)) (k : ℕ) (d : Pass T S N tie) (c : ℕ × N) → k < length ps → slice_get (get_or ps k d).seat.me.0.notes 0 ≡ Some c →
      (j : ℕ) × (slice_get (notes_in ps) j ≡ Some c)
  in_notes [] k d c inside has = absurd (omega arith)
  in_notes (p ∷ ps) zero d c inside has = (0, get_front p.seat.me.0.notes (notes_in ps) 0 c has)
  in_notes (p ∷ ps) (suc k) d c inside has = let t = in_notes ps k d c (omega arith) has in (length p.seat.me.0.notes + t.0, get_behind p.seat.me.0.notes (notes_in ps) t.0 ∙ t.1)

  -- the seat that was gathered has a note for each place
  every_place : (lock : Noted T S N) (passes : List (Pass T S N tie)) (notes : List (ℕ × N)) → AreAllPassesOf lock passes → notes ≡ notes_in passes
      → (place : ℕ) → place < count_of lock → (k : ℕ) × (note : N) × (slice_get notes k ≡ Some (place, note))
  every_place lock passes notes are same place inside = let found = are.all (place + 1) (omega arith) (omega arith) in let p : Pass T S N tie = found.1 in
      let t = one_note p.seat.me.0.notes (p.number - 1) p.numbered.1 in let number : p.number ≡ place + 1 = found.4 in let at : p.number - 1 ≡ place = omega arith in
      let has : slice_get (get_or passes found.0 p).seat.me.0.notes 0 ≡ Some (place, t.0) =
      ap (λ (q : Pass T S N tie). slice_get q.seat.me.0.notes 0) found.3
      ∙ (ap (λ (xs : List (ℕ × N)). slice_get xs 0) t.1 ∙ ap (λ (i : ℕ). Some (i, t.0)) at) in
      let j = in_notes passes found.0 p (place, t.0) found.2 has in (j.0, t.0, ap (λ (xs : List (ℕ × N)). slice_get xs j.0) same ∙ j.1)

  -- what fits all notes that were gathered fits those of the passes
  fits_passes : (fits : S → List N → Type 0) (lock : Noted T S N) (passes : List (Pass T S N tie)) (notes : List (ℕ × N)) (state : S) → notes ≡ notes_in passes
      → FitsAll fits (view (count_of lock) notes None) state → FitsNotesOf fits lock passes state
  fits_passes fits lock passes notes state same fit = (
    fit.0,
    fit.1,
    (λ k d inside. let p : Pass T S N tie = get_or passes k d in let t = one_note p.seat.me.0.notes (p.number - 1) p.numbered.1 in let here = ap (λ (xs : List (ℕ × N)). slice_get xs 0) t.1 in
        let j = in_notes passes k d (p.number - 1, t.0) inside here in
        fit.2 j.0 (p.number - 1) t.0 (ap (λ (xs : List (ℕ × N)). slice_get xs j.0) same ∙ j.1) ∙ sym (ap first t.1)),
    fit.3,
  )

  -- what the slot of a closed lock has
  pub closed_state : (fits : S → List N → Type 0) (lock : Noted T S N) (passes : List (Pass T S N tie)) (id : ℕ) (v : View S N) (words : List ℕ)
      (slots : List (Option S)) (result : Option S)
      → 0 < count_of lock → v.turn ≡ None → AreAllPassesOf lock passes → v.notes ≡ notes_in passes →
      Final (Seen (IsKept fits (count_of lock)) id v) words slots → get_elem? slots 0 ≡ some result
      → (state : S) × (result ≡ Some state) × FitsNotesOf fits lock passes state
  closed_state fits lock passes id v words slots result one no_turn are same last at = let t = closed_fits fits (count_of lock) id v words slots one no_turn (every_place lock passes v.notes are same) last in
      (t.0, some-injective result (Some t.0) (sym at ∙ t.1), fits_passes fits lock passes v.notes t.0 same t.2)
