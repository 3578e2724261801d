-- Watches are marked one after the other.
use Rattle.std.proofs.Common.{◌≡◌, ◌⊎◌, inl, inr, ℕ, ◌+◌, ◌<◌, ◌≤◌, List, length, get_or, slice_set, sym, subst, ◌∙◌, arith}
use Rattle.std.proofs.lemmas.Bool.{cases_lt}
use Rattle.std.proofs.lemmas.List.{get_or-set_same, get_or-set_other, get_or_default, length-set}
use Rattle.tt_vars.specs.declared.variable.Place.{Place}
use Rattle.tt_vars.specs.Variables.{Frame}
use Rattle.tt_store.specs.declared.watch.Watch.{Watch}
use Rattle.tt_store.specs.Held.{AreMarked, IsMarked}

-- those before a place are marked, and the others are as they were
pub record MarkedUpTo (frames : List Frame) (place : Place) (i : ℕ) (old new : List Watch) : Type 0 where
  pub counted : length new ≡ length old
  pub before : (k : ℕ) (watch : Watch) → k < i → IsMarked frames place (get_or old k watch) (get_or new k watch)
  pub after : (k : ℕ) (watch : Watch) → i ≤ k → get_or new k watch ≡ get_or old k watch

pub one_more : (frames : List Frame) (place : Place) (i : ℕ) (old new : List Watch) (watch marked : Watch)
    → MarkedUpTo frames place i old new → i < length new → watch ≡ get_or new i watch → IsMarked frames place watch marked
    → MarkedUpTo frames place (i + 1) old (slice_set new i marked)
one_more frames place i old new watch marked up within is here = record {
  counted = length-set new i marked ∙ up.counted;
  before = λ k d below. by k d below (cases_lt k i);
  after = λ k d above. get_or-set_other new i k marked d (omega arith) ∙ up.after k d (omega arith);
}
  where
    by : (k : ℕ) (d : Watch) → k < i + 1 → (k < i) ⊎ (i ≤ k) → IsMarked frames place (get_or old k d) (get_or (slice_set new i marked) k d)
    by k d below (inl less) =
        subst (λ w. IsMarked frames place (get_or old k d) w) (sym (get_or-set_other new i k marked d (omega arith))) (up.before k d less)
    by k d below (inr more) =
        let same : i ≡ k = omega arith in
        subst (λ j. IsMarked frames place (get_or old j d) (get_or (slice_set new i marked) j d)) same
        (subst (λ w. IsMarked frames place (get_or old i d) w) (sym (get_or-set_same new i marked d within))
        (subst (λ w. IsMarked frames place w marked) (is ∙ get_or_default new i watch d within ∙ up.after i d (omega arith)) here))

pub all_done : (frames : List Frame) (place : Place) (i : ℕ) (old new : List Watch)
    → length new ≤ i → MarkedUpTo frames place i old new → AreMarked frames place old new
all_done frames place i old new past up = record {
  counted = up.counted;
  each = λ k watch within. up.before k watch (omega (arith, up.counted));
}
