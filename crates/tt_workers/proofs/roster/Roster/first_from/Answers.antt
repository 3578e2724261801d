use Rattle.std.proofs.Common.{◌≡◌, ◌<◌, ◌≤◌, ◌⊎◌, ℕ, IsFalse, List, Option, arith, inl, inr, length, refl, subst, sym}
use Rattle.std.proofs.lemmas.Bool.{cases_lt}
use Rattle.tt_run.specs.Desk.{Ground}
use Rattle.tt_workers.proofs.Lists.{beyond}
use Rattle.tt_workers.specs.inside.Places.{can_go, can_go_at}
use Rattle.tt_workers.specs.declared.place.Place.{Place}
use Rattle.tt_workers.proofs.roster.Roster.first_from.Goals as goal

-- none before a number can, nor can this, and there are no more
none-from : {S K E : Type 0} (desk : Ground S K E) (places : List Place) (from last : ℕ)
    → ((number : ℕ) → from ≤ number → number < last → IsFalse (can_go desk places number))
    → IsFalse (can_go desk places last) → length places ≤ last
    → (number : ℕ) → from ≤ number → IsFalse (can_go desk places number)
none-from {S = S} {K = K} {E = E} desk places from last before not whole number above = by-order (cases_lt number last) (cases_lt last number)
  where
    by-order : (number < last) ⊎ (last ≤ number) → (last < number) ⊎ (number ≤ last) → IsFalse (can_go desk places number)
    by-order (inl less) other = before number above less
    by-order (inr least) (inl more) =
        subst (λ (found : Option Place). IsFalse (can_go_at desk number found)) (sym (beyond places number (omega (arith, whole, more)))) refl
    by-order (inr least) (inr most) =
        let same : last ≡ number = omega (arith, least, most) in
        subst (λ (n : ℕ). IsFalse (can_go desk places n)) same not

pub returns-else-can_go-clause-none : goal.returns-else-can_go-clause-none
returns-else-can_go-clause-none g c =
    let not : IsFalse (can_go c.args.desk.now c.args.self.now c.loop-number.number) = rw (← c.can_go.ensures) c.if-can_go.false in
    let whole : length c.args.self.now ≤ c.loop-number.number = omega (arith, c.len-number-end.ensures) in
    none-from c.args.desk.now c.args.self.now c.args.from c.loop-number.number c.loop-number.invariant not whole
