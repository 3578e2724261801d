-- What was posted to a thread is what it began and what is in its queue, until it ends.
use Rattle.std.proofs.Common.{◌≡◌, ◌≢◌, ◌∙◌, ◌+◌, ◌≤◌, ◌==◌, ℕ, Bool, true, false, List, [], ◌∷◌, ◌++◌, ap, refl, sym, subst, arith}
use Rattle.laws_sends.proofs.Moves.{Move, begins, ends, fills, gets, quiet, sent, sets}
use Rattle.laws_sends.proofs.Numbers.{deaths_none, none_if}
use Rattle.laws_sends.proofs.Totals.{total, total-append}
use Rattle.laws_sends.proofs.Views.{SameBut, SameScripts, StayEnded, begun_by, has_ended, is_number, one_if, one_of, placed, posted_to, scripts_at, times}
use Rattle.laws_sends.proofs.Weights.{others_none}
use Rattle.laws_shared.proofs.Deciding.{apart, differs, itself, same}
use Rattle.laws_shared.specs.Happenings.{Happening, Posted, Began, Set}
use Rattle.tt_shared.specs.Mail.{Queues}
use Rattle.tt_shared.specs.State.{State}
use Rattle.tt_threads.specs.declared.row.Row.{Row}

pub record Counted (hs : List Happening) (state : State) : Type 0 where
  pub most : (n t : ℕ) → total (begun_by n t) hs + times n (scripts_at state.queues t) ≤ total (posted_to n t) hs
  pub all : (n t : ℕ) → has_ended state.rows t ≡ false → total (posted_to n t) hs ≤ total (begun_by n t) hs + times n (scripts_at state.queues t)

-- what a move adds to both
record Flow (old new : State) (happened : List Happening) : Type 0 where
  most : (n t : ℕ) → total (begun_by n t) happened + times n (scripts_at new.queues t) ≤ times n (scripts_at old.queues t) + total (posted_to n t) happened
  all : (n t : ℕ) → has_ended new.rows t ≡ false →
      times n (scripts_at old.queues t) + total (posted_to n t) happened ≤ total (begun_by n t) happened + times n (scripts_at new.queues t)
  rows : StayEnded old.rows new.rows

pub not_yet : (old new : List Row) (t : ℕ) → StayEnded old new → has_ended new t ≡ false → has_ended old t ≡ false
not_yet old new t stay lives = go (has_ended old t) refl
  where
    go : (b : Bool) → has_ended old t ≡ b → has_ended old t ≡ false
    go true is = let both : true ≡ false = sym (stay t is) ∙ lives in absurd (cc both)
    go false is = is

pub rows_stay : (old new : List Row) → new ≡ old → StayEnded old new
rows_stay old new is u ended = ap (λ rows. has_ended rows u) is ∙ ended

-- ---- a queue that changed ----

pub by_thread : (P : List ℕ → Type 0) (old new : Queues) (to t : ℕ) (numbers : List ℕ) → SameBut old new to numbers → (t ≡ to → P numbers)
    → (t ≢ to → P (scripts_at old t)) → P (scripts_at new t)
by_thread P old new to t numbers but here others = go (t == to) refl
  where
    go : (b : Bool) → (t == to) ≡ b → P (scripts_at new t)
    go true is =
        let alike : t ≡ to = same t to is in
        subst (λ one. P (scripts_at new one)) (sym alike) (subst P (sym but.here) (here alike))
    go false is = let other : t ≢ to = differs t to is in subst P (sym (but.others t other)) (others other)

pub times_placed : (head : Bool) (n m : ℕ) (numbers : List ℕ) → times n (placed head m numbers) ≡ is_number n m + times n numbers
times_placed true n m numbers = refl
times_placed false n m numbers = omega (arith, total-append (is_number n) numbers (m ∷ []))

-- ---- moves ----

still : (old new : State) (happened : List Happening) → SameScripts old.queues new.queues → StayEnded old.rows new.rows →
    ((n t : ℕ) → total (begun_by n t) happened ≡ 0)
    → ((n t : ℕ) → total (posted_to n t) happened ≡ 0) → Flow old new happened
still old new happened scripts rows begun posted = record {
  most = λ n t. omega (arith, begun n t, posted n t, ap (times n) (scripts t));
  all = λ n t lives. omega (arith, begun n t, posted n t, ap (times n) (scripts t));
  rows = rows;
}

alike_queues : (old new : Queues) → new ≡ old → SameScripts old new
alike_queues old new is u = ap (λ queues. scripts_at queues u) is

by_post : (old new : State) (from to : ℕ) (recipient : _) (head : Bool)
    → SameBut old.queues new.queues to (placed head old.posts.next (scripts_at old.queues to))
    → StayEnded old.rows new.rows → Flow old new (Posted old.posts.next from to recipient head ∷ [])
by_post old new from to recipient head but rows = record {
  most = λ n t. omega (arith, equal n t);
  all = λ n t lives. omega (arith, equal n t);
  rows = rows;
}
  where
    equal : (n t : ℕ) → times n (scripts_at new.queues t) ≡ times n (scripts_at old.queues t) + one_of (to == t) (old.posts.next == n)
    equal n t =
        by_thread (λ numbers. times n numbers ≡ times n (scripts_at old.queues t) + one_of (to == t) (old.posts.next == n)) old.queues new.queues to t _ but
        (λ alike.
        let at : one_of (to == t) (old.posts.next == n) ≡ one_if (old.posts.next == n) =
        ap (λ u. one_of (to == u) (old.posts.next == n)) alike ∙ ap (λ b. one_of b (old.posts.next == n)) (itself to) in
        let queue : times n (scripts_at old.queues t) ≡ times n (scripts_at old.queues to) = ap (λ u. times n (scripts_at old.queues u)) alike in
        omega (arith, times_placed head n old.posts.next (scripts_at old.queues to), at, queue))
        (λ other.
        let not_it : one_of (to == t) (old.posts.next == n) ≡ 0 = ap (λ b. one_of b (old.posts.next == n)) (apart to t (λ is. other (sym is))) in
        omega (arith, not_it))

by_begin : (old new : State) (m u : ℕ) (rest : List ℕ) → scripts_at old.queues u ≡ m ∷ rest → SameBut old.queues new.queues u rest
    → StayEnded old.rows new.rows →
    Flow old new (Began m u ∷ [])
by_begin old new m u rest there but rows = record {
  most = λ n t. omega (arith, equal n t);
  all = λ n t lives. omega (arith, equal n t);
  rows = rows;
}
  where
    equal : (n t : ℕ) → one_of (u == t) (m == n) + times n (scripts_at new.queues t) ≡ times n (scripts_at old.queues t)
    equal n t =
        by_thread (λ numbers. one_of (u == t) (m == n) + times n numbers ≡ times n (scripts_at old.queues t)) old.queues new.queues u t _ but
        (λ alike.
        let at : one_of (u == t) (m == n) ≡ one_if (m == n) = ap (λ v. one_of (u == v) (m == n)) alike ∙ ap (λ b. one_of b (m == n)) (itself u) in
        let queue : times n (scripts_at old.queues t) ≡ times n (m ∷ rest) = ap (λ v. times n (scripts_at old.queues v)) alike ∙ ap (times n) there in
        omega (arith, at, queue))
        (λ other.
        let not_it : one_of (u == t) (m == n) ≡ 0 = ap (λ b. one_of b (m == n)) (apart u t (λ is. other (sym is))) in
        omega (arith, not_it))

by_end : (old new : State) (u : ℕ) (happened : List Happening) → SameBut old.queues new.queues u [] → has_ended new.rows u ≡ true → StayEnded old.rows new.rows
    → ((n t : ℕ) → total (begun_by n t) happened ≡ 0)
    → ((n t : ℕ) → total (posted_to n t) happened ≡ 0) → Flow old new happened
by_end old new u happened but ended rows begun posted = record {
  most = λ n t.
      by_thread (λ numbers. total (begun_by n t) happened + times n numbers ≤ times n (scripts_at old.queues t) + total (posted_to n t) happened)
      old.queues new.queues u t [] but (λ alike. omega (arith, begun n t)) (λ other. omega (arith, begun n t));
  all = λ n t lives.
      by_thread (λ numbers. times n (scripts_at old.queues t) + total (posted_to n t) happened ≤ total (begun_by n t) happened + times n numbers)
      old.queues new.queues u t [] but
      (λ alike. let both : true ≡ false = sym ended ∙ ap (has_ended new.rows) (sym alike) ∙ lives in absurd (cc both))
      (λ other. omega (arith, posted n t));
  rows = rows;
}

flow : (old new : State) (happened : List Happening) → Move old new happened → Flow old new happened
flow old new _ (quiet happened others scripts is rows) =
    still old new happened scripts rows (λ n t. others_none (begun_by n t) (λ lock u. refl) (λ lock u. refl) (λ channel owner. refl) happened others)
    (λ n t. others_none (posted_to n t) (λ lock u. refl) (λ lock u. refl) (λ channel owner. refl) happened others)
flow old new _ (sent from to recipient head but is rows) = by_post old new from to recipient head but (rows_stay old.rows new.rows rows)
flow old new _ (begins n t rest there but lives is rows) = by_begin old new n t rest there but (rows_stay old.rows new.rows rows)
flow old new _ (fills n outcome slot there waits queues is rows) =
    still old new _ (alike_queues old.queues new.queues queues) (rows_stay old.rows new.rows rows) (λ n t. omega arith) (λ n t. omega arith)
flow old new _ (sets n outcome post told there scripts is rows) =
    still old new _ scripts (rows_stay old.rows new.rows rows)
    (λ k t. omega (arith, none_if (begun_by k t) told (Set n post.sender outcome.value) refl))
    (λ k t. omega (arith, none_if (posted_to k t) told (Set n post.sender outcome.value) refl))
flow old new _ (gets n t slot told there mine fits queues is rows) =
    still old new _ (alike_queues old.queues new.queues queues) (rows_stay old.rows new.rows rows) (λ n t. omega arith) (λ n t. omega arith)
flow old new _ (ends t but is ended rows) =
    by_end old new t _ but ended rows (λ k u. deaths_none (begun_by k u) old t (λ m. refl) (λ m v value. refl))
    (λ k u. deaths_none (posted_to k u) old t (λ m. refl) (λ m v value. refl))

pub counted_on : (hs : List Happening) (old new : State) (happened : List Happening) → Move old new happened → Counted hs old → Counted (hs ++ happened) new
counted_on hs old new happened move counted =
    let flows = flow old new happened move in
    record {
      most = λ n t.
          omega (arith, total-append (begun_by n t) hs happened, total-append (posted_to n t) hs happened, counted.most n t, flows.most n t);
      all = λ n t lives.
          omega (
            arith,
            total-append (begun_by n t) hs happened,
            total-append (posted_to n t) hs happened,
            counted.all n t (not_yet old.rows new.rows t flows.rows lives),
            flows.all n t lives,
          );
    }
