-- A broadcast is a post to the tail of each linked thread but oneself, by number.
use Rattle.std.proofs.Common.{◌≡◌, ◌∙◌, ◌+◌, ◌==◌, ◌&&◌, ℕ, zero, suc, Bool, true, false, not, cond, if◌then◌else◌, List, [], ◌∷◌, ◌++◌, length}
use Rattle.std.proofs.Common.{filter, ap, refl, sym, subst, append-nil, length-append, arith}
use Rattle.std.proofs.lemmas.List.Elements.{filter-append}
use Rattle.std.specs.List.{range_with_len}
use Rattle.laws_sends.proofs.Moves.{Moves, both}
use Rattle.laws_sends.proofs.Requests.{by_tells, linked_row, still}
use Rattle.laws_shared.proofs.Arrivals.{many_mail}
use Rattle.laws_shared.proofs.Mild.{HaveQueues}
use Rattle.laws_shared.specs.Happenings.{Nobody, Posted, others, posts_from}
use Rattle.tt_calls.specs.declared.event.Event.TheVariants as event
use Rattle.tt_shared.specs.Sends.{broadcasts_to, is_linked_row, tells, tells_other}
use Rattle.tt_shared.specs.State.{State}
use Rattle.tt_threads.specs.Rows.{row_of}

range-push : (a n : ℕ) → range_with_len a (suc n) ≡ range_with_len a n ++ (a + n) ∷ []
range-push a zero = ap (λ k. k ∷ []) (omega arith)
range-push a (suc n) =
    ap (λ ks. a ∷ ks) (range-push (a + 1) n ∙ ap (λ k. range_with_len (a + 1) n ++ k ∷ []) (omega arith))

posts_from-append : (n t : ℕ) (xs ys : List ℕ) → posts_from n t (xs ++ ys) ≡ posts_from n t xs ++ posts_from (n + length xs) t ys
posts_from-append n t [] ys = ap (λ k. posts_from k t ys) (omega arith)
posts_from-append n t (x ∷ xs) ys =
    ap (λ ps. Posted n t x Nobody false ∷ ps)
    (posts_from-append (suc n) t xs ys ∙ ap (λ k. posts_from (suc n) t xs ++ posts_from k t ys) (omega arith))

module _ (t : ℕ) (script : List ℕ) (state : State) (have : HaveQueues state) where
  abbrev among : ℕ → List ℕ
  among n = filter (λ number. not (number == t) && is_linked_row (row_of state.rows number)) (range_with_len 1 n)

  record Told (n : ℕ) (new : State) : Type 0 where
    moves : Moves state new (posts_from state.posts.next t (among n))
    rows : new.rows ≡ state.rows
    next : new.posts.next ≡ state.posts.next + length (among n)
    queues : HaveQueues new

  more : (n : ℕ) → among (suc n) ≡ among n ++ cond (not (suc n == t) && is_linked_row (row_of state.rows (suc n))) (suc n ∷ []) []
  more n =
      ap (filter (λ number. not (number == t) && is_linked_row (row_of state.rows number)))
      (range-push 1 n ∙ ap (λ k. range_with_len 1 n ++ k ∷ []) (omega arith))
      ∙ filter-append (λ number. not (number == t) && is_linked_row (row_of state.rows number)) (range_with_len 1 n) (suc n ∷ [])

  still_told : (n : ℕ) (before : State) → Told n before → among (suc n) ≡ among n ++ [] → Told (suc n) before
  still_told n before told is =
      let numbers : among (suc n) ≡ among n = is ∙ append-nil (among n) in
      record {
        moves = subst (λ ks. Moves state before (posts_from state.posts.next t ks)) (sym numbers) told.moves;
        rows = told.rows;
        next = told.next ∙ ap (λ ks. state.posts.next + length ks) (sym numbers);
        queues = told.queues;
      }

  one_more : (n : ℕ) (before : State) → Told n before → Told (suc n) (tells_other t (suc n) script before)
  one_more n before told = go (suc n == t) (is_linked_row (row_of before.rows (suc n))) refl refl
    where
      same_row : row_of before.rows (suc n) ≡ row_of state.rows (suc n)
      same_row = ap (λ rows. row_of rows (suc n)) told.rows

      again : (b : Bool) → (not (suc n == t) && is_linked_row (row_of state.rows (suc n))) ≡ b → among (suc n) ≡ among n ++ cond b (suc n ∷ []) []
      again b is = more n ∙ ap (λ c. among n ++ cond c (suc n ∷ []) []) is

      go : (own linked : Bool) → (suc n == t) ≡ own → is_linked_row (row_of before.rows (suc n)) ≡ linked
          → Told (suc n) (if not own && linked then tells before (suc n) script false else before)
      go false true own linked =
          let tests : (not (suc n == t) && is_linked_row (row_of state.rows (suc n))) ≡ true =
          ap (λ b. not b && is_linked_row (row_of state.rows (suc n))) own ∙ ap is_linked_row (sym same_row) ∙ linked in
          let row = linked_row (row_of before.rows (suc n)) linked in
          let numbers : among (suc n) ≡ among n ++ suc n ∷ [] = again true tests in
          let posts : posts_from state.posts.next t (among (suc n)) ≡ posts_from state.posts.next t (among n) ++ Posted before.posts.next t
          (suc n) Nobody false ∷ [] =
          ap (posts_from state.posts.next t) numbers ∙ posts_from-append state.posts.next t (among n) (suc n ∷ [])
          ∙ ap (λ k. posts_from state.posts.next t (among n) ++ Posted k t (suc n) Nobody false ∷ []) (sym told.next) in
          record {
            moves =
                subst (Moves state (tells before (suc n) script false)) (sym posts)
                (both told.moves (by_tells before t (suc n) script false row.0 told.queues row.1));
            rows = told.rows;
            next =
                let long : length (among (suc n)) ≡ length (among n) + 1 = ap length numbers ∙ length-append (among n) (suc n ∷ []) in
                omega (arith, told.next, long);
            queues = many_mail before.queues (suc n) false (event.Script before.posts.next script false false) ∙ told.queues;
          }
      go false false own linked =
          still_told n before told (again false (ap (λ b. not b && is_linked_row (row_of state.rows (suc n))) own ∙ ap is_linked_row (sym same_row) ∙ linked))
      go true linked own is = still_told n before told (again false (ap (λ b. not b && is_linked_row (row_of state.rows (suc n))) own))

  told_to : (n : ℕ) → Told n (broadcasts_to n t script state)
  told_to zero = record { moves = still state; rows = refl; next = omega arith; queues = have }
  told_to (suc n) = one_more n (broadcasts_to n t script state) (told_to n)

  pub by_broadcasts : Moves state (broadcasts_to (length state.rows) t script state) (posts_from state.posts.next t (others state t))
  by_broadcasts = (told_to (length state.rows)).moves
