-- What clocks tell after one entry more.
use Rattle.std.proofs.Common.{◌≡◌, ℕ, zero, suc, ◌+◌, ◌<◌, ◌≤◌, ◌⊎◌, ◌↔◌, [], ◌∷◌, ◌++◌, Option, Some, None, length, refl, sym, subst, inl, inr, arith}
use Rattle.std.specs.List.{Contains}
use Rattle.std.proofs.lemmas.Bool.{cases_order}
use Rattle.std.proofs.lemmas.Option.{none-some, slice_get_within}
use Rattle.tt_before.specs.Orders.{IsBefore, Link, LinkAt, same}
use Rattle.tt_before.specs.declared.object.Object.{Object}
use Rattle.tt_before.specs.declared.object.Object.TheVariants.{Line}
use Rattle.tt_before.specs.inside.Clocks.{AreClocks, AreJoined, AreLined, IsJoinOf, IsKnownTo, IsOneMore, IsRowOf, IsUpTo, Links, is_of, rank, steps_of}
use Rattle.tt_before.proofs.Hops.{before_less, before_more, earlier, hop_back, known_more, last_hop, up_to_less}
use Rattle.tt_before.proofs.Places.{at_cases, at_end, at_less, at_old, some_same}
use Rattle.tt_before.proofs.Ranks.{own_one, other_none, rank_end, rank_least, rank_most, rank_old, steps_more}

-- a row that was kept stays true with one entry more
pub row_more : (all : Links) (one : Option Link) (place : ℕ) (row : ℕ → ℕ) → place < length all → IsRowOf all place row → IsRowOf (all ++ one ∷ []) place row
row_more all one place row small is i link less at = (there, back)
  where
    was : LinkAt all i link
    was = at_less all one i (Some link) (omega (arith, less, small)) at

    ranks : rank link.thread (all ++ one ∷ []) i ≡ rank link.thread all i
    ranks = rank_old link.thread all one i (omega (arith, less, small))

    there : rank link.thread (all ++ one ∷ []) i ≤ row link.thread → IsBefore (all ++ one ∷ []) i place
    there known = before_more all one ((is i link less was).0 (omega (arith, ranks, known)))

    back : IsBefore (all ++ one ∷ []) i place → rank link.thread (all ++ one ∷ []) i ≤ row link.thread
    back before = let known = (is i link less was).1 (before_less all one before small) in omega (arith, ranks, known)

-- a step that is known to an object: with one entry more, it was known or the entry's step gives it
known_cases : (all : Links) (one : Option Link) (object : Object) (i : ℕ) → IsKnownTo (all ++ one ∷ []) object i →
    IsKnownTo all object i ⊎ ((link : Link) × (one ≡ Some link) × Contains link.gives object × IsUpTo (all ++ one ∷ []) i (length all))
known_cases all one object i known = by (at_cases all one known.by (Some known.link) known.stands)
  where
    by : LinkAt all known.by known.link ⊎ ((known.by ≡ length all) × (one ≡ Some known.link)) →
        IsKnownTo all object i ⊎ ((link : Link) × (one ≡ Some link) × Contains link.gives object × IsUpTo (all ++ one ∷ []) i (length all))
    by (inl before) = inl (record {
      by = known.by;
      link = known.link;
      stands = before;
      gives = known.gives;
      reaches = up_to_less all one known.reaches (slice_get_within all known.by (Some known.link) before);
    })
    by (inr last) = inr (known.link, last.1, known.gives, subst (λ k. IsUpTo (all ++ one ∷ []) i k) last.0 known.reaches)

-- a tick changes nothing
module _ (all : Links) (clock : Object → ℕ → ℕ) (clocks : AreClocks all clock) where
  pub clocks_tick : AreClocks (all ++ None ∷ []) clock
  clocks_tick = record {
    exact = λ object i link at. let was = old i link at in (
      (λ knows. known_more all None ((clocks.exact object i link was).0 (let ranks = same_rank i link was in omega (arith, ranks, knows)))),
      (λ known. let knows = (clocks.exact object i link was).1 (old_known object i known) in let ranks = same_rank i link was in omega (arith, ranks, knows)),
    );
    bounded = λ object thread. let bound = clocks.bounded object thread in let steps = steps_more thread all None in omega (arith, bound, steps);
    lines = λ thread. let line = clocks.lines thread in let steps = steps_more thread all None in omega (arith, line, steps);
  }
    where
      old : (i : ℕ) (link : Link) → LinkAt (all ++ None ∷ []) i link → LinkAt all i link
      old i link at = by (at_cases all None i (Some link) at)
        where
          by : LinkAt all i link ⊎ ((i ≡ length all) × (None ≡ Some link)) → LinkAt all i link
          by (inl before) = before
          by (inr last) = absurd (none-some _ last.1)

      same_rank : (i : ℕ) (link : Link) → LinkAt all i link → rank link.thread (all ++ None ∷ []) i ≡ rank link.thread all i
      same_rank i link was = rank_old link.thread all None i (slice_get_within all i (Some link) was)

      old_known : (object : Object) (i : ℕ) → IsKnownTo (all ++ None ∷ []) object i → IsKnownTo all object i
      old_known object i known = by (known_cases all None object i known)
        where
          by : IsKnownTo all object i ⊎ ((link : Link) × (None ≡ Some link) × Contains link.gives object × IsUpTo (all ++ None ∷ []) i (length all)) →
              IsKnownTo all object i
          by (inl before) = before
          by (inr last) = absurd (none-some _ last.1)

-- a step
module _ (all : Links) (new : Link) (lined : AreLined all) (takes_own : Contains new.takes (Line new.thread))
    (gives_own : Contains new.gives (Line new.thread)) (clock : Object → ℕ → ℕ) (clocks : AreClocks all clock)
    (joined row : ℕ → ℕ) (join : IsJoinOf joined clock new.takes) (more : IsOneMore new.thread joined row) where
  after : Links
  after = all ++ Some new ∷ []

  -- the row of what it acquires counts all its thread's steps
  joined_most : (t : ℕ) → joined t ≤ steps_of t all
  joined_most t = by (joined t) refl
    where
      by : (n : ℕ) → joined t ≡ n → joined t ≤ steps_of t all
      by zero is = omega (arith, is)
      by (suc n) is =
          let one = (join t (joined t) (omega (arith, is))).0 (omega arith) in
          let bound = clocks.bounded one.object t in
          let knows = one.knows in
          omega (arith, bound, knows)

  joined_own : joined new.thread ≡ steps_of new.thread all
  joined_own = by (steps_of new.thread all) refl
    where
      by : (n : ℕ) → steps_of new.thread all ≡ n → joined new.thread ≡ steps_of new.thread all
      by zero is = let most = joined_most new.thread in omega (arith, is, most)
      by (suc n) is =
          let most = joined_most new.thread in
          let line = clocks.lines new.thread in
          let least = (join new.thread (steps_of new.thread all) (omega (arith, is))).1 (record {
            object = Line new.thread;
            listed = takes_own;
            knows = omega (arith, line);
          }) in
          omega (arith, most, least)

  pub row_own : row new.thread ≡ steps_of new.thread all + 1
  row_own = let own = joined_own in let one = more.more in omega (arith, own, one)

  own_rank : rank new.thread (all ++ Some new ∷ []) (length all) ≡ steps_of new.thread all + 1
  own_rank = let end = rank_end new.thread all (Some new) in let one = own_one new.thread new refl in omega (arith, end, one)

  -- what the joined row has is known to something that is acquired
  joined_known : (i : ℕ) (link : Link) → LinkAt all i link → rank link.thread all i ≤ joined link.thread ↔ IsBefore (all ++ Some new ∷ []) i (length all)
  joined_known i link at = (there, back)
    where
      some : 0 < rank link.thread all i
      some = rank_least all i link at

      there : rank link.thread all i ≤ joined link.thread → IsBefore (all ++ Some new ∷ []) i (length all)
      there knows =
          let one = (join link.thread (rank link.thread all i) some).0 knows in
          hop_back all new lined takes_own (record { object = one.object; listed = one.listed; known = (clocks.exact one.object i link at).0 one.knows })

      back : IsBefore (all ++ Some new ∷ []) i (length all) → rank link.thread all i ≤ joined link.thread
      back before =
          let taken = last_hop all new lined takes_own before refl in
          (join link.thread (rank link.thread all i) some).1
          (record { object = taken.object; listed = taken.listed; knows = (clocks.exact taken.object i link at).1 taken.known })

  -- the row of the step has what is before it
  row_known : (i : ℕ) (link : Link) → LinkAt all i link → rank link.thread all i ≤ row link.thread ↔ IsBefore (all ++ Some new ∷ []) i (length all)
  row_known i link at = by (cases_order link.thread new.thread)
    where
      ordered : link.thread ≡ new.thread → IsBefore (all ++ Some new ∷ []) i (length all)
      ordered eq = same (slice_get_within all i (Some link) at) (at_old all (Some new) i (Some link) at) (at_end all (Some new)) eq

      counted : link.thread ≡ new.thread → rank link.thread all i ≤ row link.thread
      counted eq =
          let most = rank_most new.thread all i in
          let own = row_own in
          subst (λ t. rank t all i ≤ row t) (sym eq) (omega (arith, most, own))

      other : (link.thread ≡ new.thread → ⊥) → rank link.thread all i ≤ row link.thread ↔ IsBefore (all ++ Some new ∷ []) i (length all)
      other differ = subst (λ n. rank link.thread all i ≤ n ↔ IsBefore (all ++ Some new ∷ []) i (length all)) (sym (more.others link.thread differ))
          (joined_known i link at)

      by : (link.thread ≡ new.thread) ⊎ ((link.thread < new.thread) ⊎ (new.thread < link.thread)) →
          rank link.thread all i ≤ row link.thread ↔ IsBefore (all ++ Some new ∷ []) i (length all)
      by (inl eq) = ((λ knows. ordered eq), (λ before. counted eq))
      by (inr (inl less)) = other (λ eq. omega (arith, less, eq))
      by (inr (inr greater)) = other (λ eq. omega (arith, greater, eq))

  pub row_is : IsRowOf (all ++ Some new ∷ []) (length all) row
  row_is i link less at = (
    (λ knows. (row_known i link was).0 (omega (arith, ranks, knows))),
    (λ before. let knows =
        (row_known i link was).1 before in omega (arith, ranks, knows)),
  )
    where
      was : LinkAt all i link
      was = at_less all (Some new) i (Some link) less at

      ranks : rank link.thread (all ++ Some new ∷ []) i ≡ rank link.thread all i
      ranks = rank_old link.thread all (Some new) i less

  -- the row has exactly the steps up to the new one
  row_up_to : (i : ℕ) (link : Link) → LinkAt (all ++ Some new ∷ []) i link →
      rank link.thread (all ++ Some new ∷ []) i ≤ row link.thread ↔ IsUpTo (all ++ Some new ∷ []) i (length all)
  row_up_to i link at = by (at_cases all (Some new) i (Some link) at)
    where
      last : i ≡ length all → rank link.thread (all ++ Some new ∷ []) i ≤ row link.thread → IsUpTo (all ++ Some new ∷ []) i (length all)
      last eq knows = inl eq

      counted : i ≡ length all → new ≡ link → rank link.thread (all ++ Some new ∷ []) i ≤ row link.thread
      counted eq link_is =
          let end = own_rank in
          let own = row_own in
          subst (λ l. rank l.thread (all ++ Some new ∷ []) i ≤ row l.thread) link_is
          (subst (λ k. rank new.thread (all ++ Some new ∷ []) k ≤ row new.thread) (sym eq) (omega (arith, end, own)))

      before : LinkAt all i link → IsUpTo (all ++ Some new ∷ []) i (length all) → IsBefore (all ++ Some new ∷ []) i (length all)
      before was (inl eq) = absurd (let small = slice_get_within all i (Some link) was in omega (arith, small, eq))
      before was (inr less) = less

      by : LinkAt all i link ⊎ ((i ≡ length all) × (Some new ≡ Some link)) →
          rank link.thread (all ++ Some new ∷ []) i ≤ row link.thread ↔ IsUpTo (all ++ Some new ∷ []) i (length all)
      by (inl was) =
          let small = slice_get_within all i (Some link) was in
          ((λ knows. inr ((row_is i link small at).0 knows)), (λ up_to. (row_is i link small at).1 (before was up_to)))
      by (inr end) = (last end.0, (λ up_to. counted end.0 (some_same end.1)))

  row_most : (t : ℕ) → row t ≤ steps_of t (all ++ Some new ∷ [])
  row_most t = by (cases_order t new.thread)
    where
      steps : steps_of t (all ++ Some new ∷ []) ≡ steps_of t all + is_of t (Some new)
      steps = steps_more t all (Some new)

      most : joined t ≤ steps_of t all
      most = joined_most t

      other : (t ≡ new.thread → ⊥) → row t ≤ steps_of t (all ++ Some new ∷ [])
      other differ = let others = more.others t differ in omega (arith, others, most, steps)

      by : (t ≡ new.thread) ⊎ ((t < new.thread) ⊎ (new.thread < t)) → row t ≤ steps_of t (all ++ Some new ∷ [])
      by (inl eq) =
          let own = row_own in
          let end = steps_more new.thread all (Some new) in
          let one = own_one new.thread new refl in
          subst (λ s. row s ≤ steps_of s (all ++ Some new ∷ [])) (sym eq) (omega (arith, own, end, one))
      by (inr (inl less)) = other (λ eq. omega (arith, less, eq))
      by (inr (inr greater)) = other (λ eq. omega (arith, greater, eq))

  module _ (later : Object → ℕ → ℕ) (gave : AreJoined later clock new.gives row) where
    exact_after : (object : Object) (i : ℕ) (link : Link) → LinkAt (all ++ Some new ∷ []) i link →
        rank link.thread (all ++ Some new ∷ []) i ≤ later object link.thread ↔ IsKnownTo (all ++ Some new ∷ []) object i
    exact_after object i link at = (
      (λ knows. there ((gave object link.thread (rank link.thread (all ++ Some new ∷ []) i)).0 knows)),
      (λ known. (gave object link.thread (rank link.thread (all ++ Some new ∷ []) i)).1 (back (known_cases all (Some new) object i known))),
    )
      where
        -- a step that the clock knew stood there before
        was : rank link.thread (all ++ Some new ∷ []) i ≤ clock object link.thread → LinkAt all i link
        was knows = by (at_cases all (Some new) i (Some link) at)
          where
            by : LinkAt all i link ⊎ ((i ≡ length all) × (Some new ≡ Some link)) → LinkAt all i link
            by (inl before) = before
            by (inr end) =
                let bound = clocks.bounded object new.thread in
                let own = own_rank in
                let knows_end = subst (λ k. rank new.thread (all ++ Some new ∷ []) k ≤ clock object new.thread) end.0
                (subst (λ l. rank l.thread (all ++ Some new ∷ []) i ≤ clock object l.thread) (sym (some_same end.1)) knows) in
                absurd (omega (arith, bound, own, knows_end))

        there : (rank link.thread (all ++ Some new ∷ []) i ≤ clock object link.thread) ⊎ (Contains new.gives object × (rank link.thread
            (all ++ Some new ∷ []) i ≤ row link.thread)) →
            IsKnownTo (all ++ Some new ∷ []) object i
        there (inl knows) =
            let before = was knows in
            let ranks = rank_old link.thread all (Some new) i (slice_get_within all i (Some link) before) in
            known_more all (Some new) ((clocks.exact object i link before).0 (omega (arith, ranks, knows)))
        there (inr both) = record { by = length all; link = new; stands = at_end all (Some new); gives = both.0; reaches = (row_up_to i link at).0 both.1 }

        small_of : (k : ℕ) → k < length all → IsUpTo all i k → i < length all
        small_of k small (inl eq) = omega (arith, small, eq)
        small_of k small (inr before) = let less = earlier before in omega (arith, small, less)

        known_small : IsKnownTo all object i → i < length all
        known_small known = small_of known.by (slice_get_within all known.by (Some known.link) known.stands) known.reaches

        back : IsKnownTo all object i ⊎ ((other : Link) × (Some new ≡ Some other) × Contains other.gives object × IsUpTo (all ++ Some new ∷ []) i
            (length all)) →
            (rank link.thread (all ++ Some new ∷ []) i ≤ clock object link.thread) ⊎ (Contains new.gives object × (rank link.thread
            (all ++ Some new ∷ []) i ≤ row link.thread))
        back (inl known) =
            let small = known_small known in
            let before = at_less all (Some new) i (Some link) small at in
            let ranks = rank_old link.thread all (Some new) i small in
            let knows = (clocks.exact object i link before).1 known in
            inl (omega (arith, ranks, knows))
        back (inr end) = inr (subst (λ l. Contains l.gives object) (sym (some_same end.1)) end.2, (row_up_to i link at).1 end.3)

    pub clocks_after : AreClocks (all ++ Some new ∷ []) later
    clocks_after = record { exact = exact_after; bounded = bounded; lines = lines }
      where
        bounded : (object : Object) (t : ℕ) → later object t ≤ steps_of t (all ++ Some new ∷ [])
        bounded object t = by ((gave object t (later object t)).0 (omega arith))
          where
            by : (later object t ≤ clock object t) ⊎ (Contains new.gives object × (later object t ≤ row t)) →
                later object t ≤ steps_of t (all ++ Some new ∷ [])
            by (inl less) = let bound = clocks.bounded object t in let steps = steps_more t all (Some new) in omega (arith, less, bound, steps)
            by (inr both) = let most = row_most t in let less = both.1 in omega (arith, less, most)

        lines : (t : ℕ) → later (Line t) t ≡ steps_of t (all ++ Some new ∷ [])
        lines t = by (cases_order t new.thread)
          where
            most : later (Line t) t ≤ steps_of t (all ++ Some new ∷ [])
            most = bounded (Line t) t

            kept : steps_of t all ≤ later (Line t) t
            kept = let line = clocks.lines t in (gave (Line t) t (steps_of t all)).1 (inl (omega (arith, line)))

            steps : steps_of t (all ++ Some new ∷ []) ≡ steps_of t all + is_of t (Some new)
            steps = steps_more t all (Some new)

            other : (new.thread ≡ t → ⊥) → later (Line t) t ≡ steps_of t (all ++ Some new ∷ [])
            other differ = let none = other_none t new differ in omega (arith, most, kept, steps, none)

            by : (t ≡ new.thread) ⊎ ((t < new.thread) ⊎ (new.thread < t)) → later (Line t) t ≡ steps_of t (all ++ Some new ∷ [])
            by (inl eq) =
                let own = row_own in
                let end = steps_more new.thread all (Some new) in
                let one = own_one new.thread new refl in
                let high = bounded (Line new.thread) new.thread in
                let low = (gave (Line new.thread) new.thread (row new.thread)).1 (inr (gives_own, omega arith)) in
                subst (λ s. later (Line s) s ≡ steps_of s (all ++ Some new ∷ [])) (sym eq) (omega (arith, own, end, one, high, low))
            by (inr (inl less)) = other (λ eq. omega (arith, less, eq))
            by (inr (inr greater)) = other (λ eq. omega (arith, greater, eq))
