-- What is before what, with one entry more.
use Rattle.std.proofs.Common.{◌≡◌, ℕ, ◌<◌, ◌⊎◌, List, [], ◌∷◌, ◌++◌, Option, Some, length, slice_get, refl, sym, ap, subst, ◌∙◌, inl, inr, arith}
use Rattle.std.specs.List.{Contains}
use Rattle.std.proofs.lemmas.Option.{slice_get_within}
use Rattle.tt_before.specs.Orders.{IsBefore, Link, same, passes, through}
use Rattle.tt_before.specs.declared.object.Object.{Object}
use Rattle.tt_before.specs.declared.object.Object.TheVariants.{Line}
use Rattle.tt_before.specs.inside.Clocks.{AreLined, IsKnownTo, IsUpTo, Links}
use Rattle.tt_before.proofs.Places.{at_cases, at_end, at_less, at_old, some_same}

pub earlier : {all : Links} {i j : ℕ} → IsBefore all i j → i < j
earlier (same less a b eq) = less
earlier (passes less a b gives takes) = less
earlier (through p q) = let first = earlier p in let second = earlier q in omega (arith, first, second)

-- who is before another is in the list
pub within : {all : Links} {i j : ℕ} → IsBefore all i j → j < length all
within {all} (same {j = j} {b = b} less at_a at_b eq) = slice_get_within all j (Some b) at_b
within {all} (passes {j = j} {b = b} less at_a at_b gives takes) = slice_get_within all j (Some b) at_b
within (through p q) = within q

module _ (all : Links) (one : Option Link) where
  more : Links
  more = all ++ one ∷ []

  -- what was before another still is
  pub before_more : {i j : ℕ} → IsBefore all i j → IsBefore (all ++ one ∷ []) i j
  before_more (same {i} {j} {a} {b} less at_a at_b eq) = same less (at_old all one i (Some a) at_a) (at_old all one j (Some b) at_b) eq
  before_more (passes {i} {j} {a} {b} less at_a at_b gives takes) =
      passes less (at_old all one i (Some a) at_a) (at_old all one j (Some b) at_b) gives takes
  before_more (through p q) = through (before_more p) (before_more q)

  -- what is before one of the first was so
  pub before_less : {i j : ℕ} → IsBefore (all ++ one ∷ []) i j → j < length all → IsBefore all i j
  before_less (same {i} {j} {a} {b} less at_a at_b eq) small =
      same less (at_less all one i (Some a) (omega (arith, less, small)) at_a) (at_less all one j (Some b) small at_b) eq
  before_less (passes {i} {j} {a} {b} less at_a at_b gives takes) small =
      passes less (at_less all one i (Some a) (omega (arith, less, small)) at_a) (at_less all one j (Some b) small at_b) gives takes
  before_less (through p q) small =
      let second = earlier q in
      through (before_less p (omega (arith, second, small))) (before_less q small)

  pub up_to_more : {i j : ℕ} → IsUpTo all i j → IsUpTo (all ++ one ∷ []) i j
  up_to_more (inl eq) = inl eq
  up_to_more (inr before) = inr (before_more before)

  pub up_to_less : {i j : ℕ} → IsUpTo (all ++ one ∷ []) i j → j < length all → IsUpTo all i j
  up_to_less (inl eq) small = inl eq
  up_to_less (inr before) small = inr (before_less before small)

  pub known_more : {object : Object} {i : ℕ} → IsKnownTo all object i → IsKnownTo (all ++ one ∷ []) object i
  known_more known = record {
    by = known.by;
    link = known.link;
    stands = at_old all one known.by (Some known.link) known.stands;
    gives = known.gives;
    reaches = up_to_more known.reaches;
  }

-- an object that is acquired by the step at the end, and to which a step is known
pub record IsTaken (all : Links) (takes : List Object) (place : ℕ) : Type 0 where
  pub object : Object
  pub listed : Contains takes object
  pub known : IsKnownTo all object place

module _ (all : Links) (new : Link) (lined : AreLined all) (own : Contains new.takes (Line new.thread)) where
  same_link : {i : ℕ} {b : Link} → slice_get (all ++ Some new ∷ []) i ≡ Some (Some b) → i ≡ length all → new ≡ b
  same_link {i} {b} there last = by (at_cases all (Some new) i (Some b) there)
    where
      by : (slice_get all i ≡ Some (Some b)) ⊎ ((i ≡ length all) × (Some new ≡ Some b)) → new ≡ b
      by (inl before) = absurd (let small = slice_get_within all i (Some b) before in omega (arith, small, last))
      by (inr end) = some_same end.1

  further : {i j k : ℕ} → IsBefore all i j → IsUpTo all j k → IsUpTo all i k
  further {i} p (inl eq) = inr (subst (λ k. IsBefore all i k) eq p)
  further p (inr q) = inr (through p q)

  -- the last hop to the step at the end
  pub last_hop : {i j : ℕ} → IsBefore (all ++ Some new ∷ []) i j → j ≡ length all → IsTaken all new.takes i
  last_hop (same {i} {j} {a} {b} less at_a at_b eq) last =
      let there = at_less all (Some new) i (Some a) (omega (arith, less, last)) at_a in
      let threads : a.thread ≡ new.thread = eq ∙ sym (ap (λ l. l.thread) (same_link at_b last)) in
      record {
        object = Line new.thread;
        listed = own;
        known = record { by = i; link = a; stands = there; gives = subst (λ t. Contains a.gives (Line t)) threads (lined i a there); reaches = inl refl };
      }
  last_hop (passes {i} {j} {a} {b} {object} less at_a at_b gives takes) last =
      record {
        object = object;
        listed = subst (λ l. Contains l.takes object) (sym (same_link at_b last)) takes;
        known = record { by = i; link = a; stands = at_less all (Some new) i (Some a) (omega (arith, less, last)) at_a; gives = gives; reaches = inl refl };
      }
  last_hop (through {i} {j} {k} p q) last =
      let taken = last_hop q last in
      let known = taken.known in
      let second = earlier q in
      record {
        object = taken.object;
        listed = taken.listed;
        known = record {
          by = known.by;
          link = known.link;
          stands = known.stands;
          gives = known.gives;
          reaches = further (before_less all (Some new) p (omega (arith, second, last))) known.reaches;
        };
      }

  -- and back
  pub hop_back : {i : ℕ} → IsTaken all new.takes i → IsBefore (all ++ Some new ∷ []) i (length all)
  hop_back {i} taken = by known.reaches
    where
      known : IsKnownTo all taken.object i
      known = taken.known

      hop : IsBefore (all ++ Some new ∷ []) known.by (length all)
      hop = passes (slice_get_within all known.by (Some known.link) known.stands) (at_old all (Some new) known.by (Some known.link) known.stands)
          (at_end all (Some new)) known.gives taken.listed

      by : IsUpTo all i known.by → IsBefore (all ++ Some new ∷ []) i (length all)
      by (inl eq) = subst (λ k. IsBefore (all ++ Some new ∷ []) k (length all)) (sym eq) hop
      by (inr before) = through (before_more all (Some new) before) hop
