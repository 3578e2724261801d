-- The variable of a post is the one that its sender named, until the post is answered.
use Rattle.std.proofs.Common.{◌≡◌, ◌≢◌, ◌∙◌, ◌<◌, ℕ, Bool, true, false, not, cond, List, [], ◌∷◌, ◌++◌, filter, flat_map, Option, Some, None, if◌then◌else◌}
use Rattle.std.proofs.Common.{ap, refl, sym, subst, arith}
use Rattle.std.specs.BTreeMap.{insert_entry, is_at}
use Rattle.std.specs.Map.{remove_entry}
use Rattle.std.specs.Ordering.{is_eq, match_ordering, nat_cmp}
use Rattle.std.specs.declared.cmp.Ordering.{Ordering}
use Rattle.std.specs.declared.cmp.Ordering.TheVariants.{Less, Equal, Greater}
use Rattle.std.proofs.lemmas.Bool.Decides.{nat_tests}
use Rattle.laws_sends.proofs.Cuts.{Every}
use Rattle.laws_sends.proofs.Entries.{Entries, at, key_is}
use Rattle.laws_sends.proofs.Moves.{AreWithPost, Move, Moves, begins, both, ends, fills, gets, one, quiet, sent, sets}
use Rattle.laws_sends.specs.Sends.{ends as is_end}
use Rattle.laws_shared.specs.Happenings.{Died, Happening, Nobody, Recipient, Variable, Waiting, post_died, slot_died}
use Rattle.laws_variables.proofs.Runs.{at_self}
use Rattle.tt_calls.specs.declared.reply.Reply.TheVariants as reply
use Rattle.tt_calls.specs.declared.request.Mode.TheVariants.{Later}
use Rattle.tt_shared.specs.Mail.{Posts, is_owed, variable_of, variable_post, with_variable}
use Rattle.tt_shared.specs.Sends.{sends, sends_named}
use Rattle.tt_shared.specs.State.{State}
use Rattle.tt_shared.specs.declared.posts.VariablePost.{VariablePost}
use Rattle.tt_threads.specs.Rows.{linked_thread}

-- ---- entries ----

-- another key is not found
at_other : (n k : ℕ) → k ≢ n → is_at (nat_cmp n) k ≡ false
at_other n k other = go (is_at (nat_cmp n) k) refl
  where
    go : (b : Bool) → is_at (nat_cmp n) k ≡ b → b ≡ false
    go true is = absurd (other (key_is n k is))
    go false is = refl

module _ {X : Type 0} where
  pub at_insert : (es : Entries X) (k : ℕ) (v : X) → at k (insert_entry nat_cmp es k v) ≡ Some v
  at_insert [] k v = ap (λ b. cond b (Some v) None) (at_self k)
  at_insert (e ∷ es) k v = go (nat_cmp k e.0) refl (at_insert es k v)
    where
      go : (order : Ordering) → nat_cmp k e.0 ≡ order → at k (insert_entry nat_cmp es k v) ≡ Some v
          → at k (match_ordering order ((k, v) ∷ e ∷ es) ((e.0, v) ∷ es) (e ∷ insert_entry nat_cmp es k v)) ≡ Some v
      go Less is later = ap (λ b. cond b (Some v) (at k (e ∷ es))) (at_self k)
      go Equal is later = ap (λ b. cond b (Some v) (at k es)) (ap is_eq is)
      go Greater is later = ap (λ b. cond b (Some e.1) (at k (insert_entry nat_cmp es k v))) (ap is_eq is) ∙ later

  at_other_insert : (n : ℕ) (es : Entries X) (k : ℕ) (v : X) → k ≢ n → at n (insert_entry nat_cmp es k v) ≡ at n es
  at_other_insert n [] k v other = ap (λ b. cond b (Some v) None) (at_other n k other)
  at_other_insert n (e ∷ es) k v other = go (nat_cmp k e.0) refl (at_other_insert n es k v other)
    where
      go : (order : Ordering) → nat_cmp k e.0 ≡ order → at n (insert_entry nat_cmp es k v) ≡ at n es
          → at n (match_ordering order ((k, v) ∷ e ∷ es) ((e.0, v) ∷ es) (e ∷ insert_entry nat_cmp es k v)) ≡ at n (e ∷ es)
      go Less is later = ap (λ b. cond b (Some v) (at n (e ∷ es))) (at_other n k other)
      go Equal is later =
          let alike : e.0 ≡ k = key_is k e.0 (ap is_eq is) in
          let differs : is_at (nat_cmp n) e.0 ≡ false = at_other n e.0 (λ same. other (sym alike ∙ same)) in
          ap (λ b. cond b (Some v) (at n es)) differs ∙ sym (ap (λ b. cond b (Some e.1) (at n es)) differs)
      go Greater is later = ap (λ rest. cond (is_at (nat_cmp n) e.0) (Some e.1) rest) later

  at_other_remove : (n k : ℕ) (es : Entries X) → k ≢ n → at n (remove_entry (is_at (nat_cmp k)) es) ≡ at n es
  at_other_remove n k [] other = refl
  at_other_remove n k (e ∷ es) other = go (is_at (nat_cmp k) e.0) refl (at_other_remove n k es other)
    where
      go : (b : Bool) → is_at (nat_cmp k) e.0 ≡ b → at n (remove_entry (is_at (nat_cmp k)) es) ≡ at n es
          → at n (cond b es (e ∷ remove_entry (is_at (nat_cmp k)) es)) ≡ at n (e ∷ es)
      go true is later =
          let alike : e.0 ≡ k = key_is k e.0 is in
          sym (ap (λ b. cond b (Some e.1) (at n es)) (at_other n e.0 (λ same. other (sym alike ∙ same))))
      go false is later = ap (λ rest. cond (is_at (nat_cmp n) e.0) (Some e.1) rest) later

  at_filter : (n : ℕ) (p : ℕ × X → Bool) (es : Entries X) (v : X) → at n es ≡ Some v → ((m : ℕ) → p (m, v) ≡ true) → at n (filter p es) ≡ Some v
  at_filter n p [] v there stays = there
  at_filter n p (e ∷ es) v there stays = go (is_at (nat_cmp n) e.0) refl there (λ later. at_filter n p es v later stays)
    where
      out : (b : Bool) → is_at (nat_cmp n) e.0 ≡ false → at n (filter p es) ≡ Some v → at n (cond b (e ∷ filter p es) (filter p es)) ≡ Some v
      out true is later = ap (λ b. cond b (Some e.1) (at n (filter p es))) is ∙ later
      out false is later = later

      go : (b : Bool) → is_at (nat_cmp n) e.0 ≡ b → cond b (Some e.1) (at n es) ≡ Some v → (at n es ≡ Some v → at n (filter p es) ≡ Some v)
          → at n (cond (p e) (e ∷ filter p es) (filter p es)) ≡ Some v
      go true is there later =
          let found : e.1 ≡ v = cc there in
          let passes : p e ≡ true = ap (λ value. p (e.0, value)) found ∙ stays e.0 in
          ap (λ b. at n (cond b (e ∷ filter p es) (filter p es))) passes ∙ ap (λ b. cond b (Some e.1) (at n (filter p es))) is ∙ there
      go false is there later = out (p e) is (later there)

-- ---- a send ----

pub asked : (state : State) (t n target : ℕ) (text script name : List ℕ) (head : Bool) → linked_thread state.rows text ≡ Some target
    → (sends state t text script Later (Some name) head).gives.reply ≡ reply.Posted n
    → variable_post (sends state t text script Later (Some name) head).state.posts n ≡ Some (variable_of t target name)
asked state t n target text script name head linked posted = go (linked_thread state.rows text) linked posted
  where
    go : (found : Option ℕ) → found ≡ Some target → (sends_named state t text script Later (Some name) head found).gives.reply ≡ reply.Posted n
        → variable_post (sends_named state t text script Later (Some name) head found).state.posts n ≡ Some (variable_of t target name)
    go None is posted = absurd (cc is)
    go (Some to) is posted =
        let alike : to ≡ target = cc is in
        let number : state.posts.next ≡ n = cc posted in
        subst (λ k. variable_post (with_variable state.posts t to name) k ≡ Some (variable_of t target name)) number
        (at_insert state.posts.variables state.posts.next (variable_of t to name) ∙ ap (λ it. Some (variable_of t it name)) alike)

-- ---- moves ----

module _ {X : Type 0} (P : X → Type 0) where
  pub every-left : (xs ys : List X) → Every P (xs ++ ys) → Every P xs
  every-left [] ys every = tt
  every-left (x ∷ xs) ys every = (every.0, every-left xs ys every.1)

  pub every-right : (xs ys : List X) → Every P (xs ++ ys) → Every P ys
  every-right [] ys every = every
  every-right (x ∷ xs) ys every = every-right xs ys every.1

-- post n is not answered by it
abbrev pub Leaves : ℕ → Happening → Type 0
Leaves n happening = is_end n happening ≡ false

not_owed : (t n : ℕ) (es : List (ℕ × VariablePost)) (post : VariablePost) → at n es ≡ Some post → Every (Leaves n) (flat_map (post_died t) es)
    → is_owed t post ≡ false
not_owed t n [] post there leaves = absurd (cc there)
not_owed t n (e ∷ es) post there leaves =
    go (is_at (nat_cmp n) e.0) refl there
    (λ later. not_owed t n es post later (every-right (Leaves n) (post_died t e) (flat_map (post_died t) es) leaves))
    (every-left (Leaves n) (post_died t e) (flat_map (post_died t) es) leaves)
  where
    here : (b : Bool) → e.0 ≡ n → Every (Leaves n) (if b then Died e.0 ∷ [] else []) → b ≡ false
    here true alike leaves = absurd (grind (arith, nat_tests, alike, leaves.0))
    here false alike leaves = refl

    go : (b : Bool) → is_at (nat_cmp n) e.0 ≡ b → cond b (Some e.1) (at n es) ≡ Some post → (at n es ≡ Some post → is_owed t post ≡ false)
        → Every (Leaves n) (post_died t e) → is_owed t post ≡ false
    go true is there later leaves =
        let found : e.1 ≡ post = cc there in
        sym (ap (is_owed t) found) ∙ here (is_owed t e.1) (key_is n e.0 is) leaves
    go false is there later leaves = later there

record Stays (new : Posts) (n : ℕ) (post : VariablePost) : Type 0 where
  there : variable_post new n ≡ Some post
  below : n < new.next

module _ (n : ℕ) (post : VariablePost) where
  same_posts : (old new : Posts) → new.variables ≡ old.variables → new.next ≡ old.next → Stays old n post → Stays new n post
  same_posts old new variables next stays = record {
    there = ap (at n) variables ∙ stays.there;
    below = omega (arith, stays.below, next);
  }

  with_post : (recipient : Recipient) (old new : Posts) (from to : ℕ) → AreWithPost recipient old new from to → Stays old n post → Stays new n post
  with_post Nobody old new from to is stays = record {
    there = ap (λ p. variable_post p n) is ∙ stays.there;
    below = omega (arith, stays.below, ap (λ p. p.next) is);
  }
  with_post Waiting old new from to is stays = record {
    there = ap (λ p. variable_post p n) is ∙ stays.there;
    below = omega (arith, stays.below, ap (λ p. p.next) is);
  }
  with_post Variable old new from to (name, is) stays = record {
    there =
        ap (λ p. variable_post p n) is
        ∙ at_other_insert n old.variables old.next (variable_of from to name) (λ alike. omega (arith, alike, stays.below))
        ∙ stays.there;
    below = omega (arith, stays.below, ap (λ p. p.next) is);
  }

  on_move : (old new : State) (happened : List Happening) → Move old new happened → Stays old.posts n post → Every (Leaves n) happened → Stays new.posts n post
  on_move old new _ (quiet happened others scripts is rows) stays leaves = subst (λ p. Stays p n post) (sym is) stays
  on_move old new _ (sent from to recipient head but is rows) stays leaves = with_post recipient old.posts new.posts from to is stays
  on_move old new _ (begins m t rest there but lives is rows) stays leaves = subst (λ p. Stays p n post) (sym is) stays
  on_move old new _ (fills m outcome slot there waits queues is rows) stays leaves =
      same_posts old.posts new.posts (ap (λ p. p.variables) is) (ap (λ p. p.next) is) stays
  on_move old new _ (sets m outcome other told there scripts is rows) stays leaves =
      record {
        there =
            ap (λ p. variable_post p n) is
            ∙ at_other_remove n m old.posts.variables (λ alike. absurd (grind (arith, nat_tests, alike, leaves.0)))
            ∙ stays.there;
        below = omega (arith, stays.below, ap (λ p. p.next) is);
      }
  on_move old new _ (gets m t slot told there mine fits queues is rows) stays leaves =
      same_posts old.posts new.posts (ap (λ p. p.variables) is) (ap (λ p. p.next) is) stays
  on_move old new _ (ends t but is has_ended rows) stays leaves =
      let died = flat_map (post_died t) old.posts.variables in
      let later = every-right (Leaves n) (flat_map (slot_died t) old.posts.slots.open_slots) _ leaves in
      let owes = not_owed t n old.posts.variables post stays.there (every-left (Leaves n) died _ later) in
      record {
        there =
            ap (λ p. variable_post p n) is
            ∙ at_filter n (λ entry. not (is_owed t entry.1)) old.posts.variables post stays.there (λ m. ap not owes);
        below = omega (arith, stays.below, ap (λ p. p.next) is);
      }

  on_moves : (old new : State) (happened : List Happening) → Moves old new happened → Stays old.posts n post → Every (Leaves n) happened
      → Stays new.posts n post
  on_moves old new happened (one move) stays leaves = on_move old new happened move stays leaves
  on_moves old new _ (both {middle = middle} {first = first} {second = second} here there) stays leaves =
      on_moves middle new second there (on_moves old middle first here stays (every-left (Leaves n) first second leaves))
      (every-right (Leaves n) first second leaves)

  pub stays_by : (old new : State) (happened : List Happening) → Moves old new happened → variable_post old.posts n ≡ Some post → n < old.posts.next
      → Every (Leaves n) happened → variable_post new.posts n ≡ Some post
  stays_by old new happened moves there below leaves = (on_moves old new happened moves record { there = there; below = below } leaves).there
