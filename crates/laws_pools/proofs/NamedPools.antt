-- What is done to the pool that an id names, as it looks to the pool of a number.
use Rattle.std.proofs.Common.{◌≡◌, ◌≢◌, ◌∙◌, ◌==◌, ℕ, nat_eq, Bool, true, false, if◌then◌else◌, List, [], ◌∷◌, Option, Some, None, option_and_then}
use Rattle.std.proofs.Common.{ap, refl, sym, subst, arith}
use Rattle.std.specs.Option.{option_eq}
use Rattle.laws_pools.proofs.Moves.{Moves, Single, TableStep, changed, closes, same}
use Rattle.laws_pools.proofs.Tables.{dropped, none_dropped, placed, remove_other, set_here, set_other, single_dropped, single_placed}
use Rattle.laws_pools.specs.PoolHappenings.{PoolHappening, Closed, if_open, in_named}
use Rattle.laws_shared.proofs.Deciding as deciding
use Rattle.tt_ids.specs.Ids.{id_named}
use Rattle.tt_ids.specs.declared.id.IdKind.TheVariants as kind
use Rattle.tt_pools.specs.Pools.{PoolTable, at_number, pool_of, with_pool, with_pool_at, without_pool, without_pool_at}
use Rattle.tt_pools.specs.declared.pool.Pool.{Pool}

pub data Change (table : PoolTable) (text : List ℕ) (pool : Pool) (new : PoolTable) : List PoolHappening → Type 0 where
  still : new ≡ table → Change table text pool new []
  becomes : (now : Pool) (happened : List PoolHappening) →
      new ≡ with_pool table text now →
      Moves pool.suspended pool.jobs now.suspended now.jobs happened →
      Change table text pool new happened
  ends : (now : Pool) → new ≡ without_pool (with_pool table text now) text → Change table text pool new (Closed ∷ [])

pub unchanged : (p : ℕ) (table new : PoolTable) → new ≡ table → Single p table → TableStep p table new []
unchanged p table new is single = subst (λ now. TableStep p table now []) (sym is) (record { move = same refl (omega arith); single = single })

module _ (p : ℕ) (table : PoolTable) (text : List ℕ) (single : Single p table) where
  -- of another pool
  other_step : (n : ℕ) (pool : Pool) (new : PoolTable) (happened : List PoolHappening) → p ≢ n → id_named kind.Pool text ≡ Some n
      → at_number table n ≡ Some pool
      → Change table text pool new happened
      → TableStep p table new []
  other_step n pool new _ other named there (still is) = unchanged p table new is single
  other_step n pool new _ other named there (becomes now happened is moves) =
      subst (λ one. TableStep p table one []) (sym (is ∙ ap (with_pool_at table now) named))
      (record { move = same (set_other p n table.pools now other) (omega arith); single = single_placed p n table pool now there single })
  other_step n pool new _ other named there (ends now is) =
      subst (λ one. TableStep p table one [])
      (sym (is ∙ ap (without_pool_at (with_pool table text now)) named ∙ ap (λ one. dropped one n) (ap (with_pool_at table now) named)))
      (record {
        move = same (remove_other p n (placed table n now).pools other ∙ set_other p n table.pools now other) (omega arith);
        single = single_dropped p n (placed table n now) now (set_here n table.pools pool now there) (single_placed p n table pool now there single);
      })

  -- of the pool itself
  own_step : (pool : Pool) (new : PoolTable) (happened : List PoolHappening) → id_named kind.Pool text ≡ Some p → at_number table p ≡ Some pool
      → Change table text pool new happened
      → TableStep p table new happened
  own_step pool new _ named there (still is) = unchanged p table new is single
  own_step pool new _ named there (becomes now happened is moves) =
      subst (λ one. TableStep p table one happened) (sym (is ∙ ap (with_pool_at table now) named))
      (record {
        move = changed pool now happened there (set_here p table.pools pool now there) moves;
        single = single_placed p p table pool now there single;
      })
  own_step pool new _ named there (ends now is) =
      subst (λ one. TableStep p table one (Closed ∷ []))
      (sym (is ∙ ap (without_pool_at (with_pool table text now)) named ∙ ap (λ one. dropped one p) (ap (with_pool_at table now) named)))
      (record {
        move = closes pool there
            (none_dropped p (placed table p now) now (set_here p table.pools pool now there) (single_placed p p table pool now there single)) refl;
        single = single_dropped p p (placed table p now) now (set_here p table.pools pool now there) (single_placed p p table pool now there single);
      })

  pub by_named : (new : PoolTable) (happened : Pool → List PoolHappening) → (pool_of table text ≡ None → new ≡ table)
      → ((pool : Pool) → pool_of table text ≡ Some pool → Change table text pool new (happened pool))
      → TableStep p table new (in_named p table text happened)
  by_named new happened none some = go (id_named kind.Pool text) refl
    where
      of_number : (n : ℕ) → id_named kind.Pool text ≡ Some n → (found : Option Pool) → at_number table n ≡ found → (b : Bool) → (n == p) ≡ b
          → TableStep p table new (if b then if_open happened (at_number table p) else [])
      of_number n named None there false is = unchanged p table new (none (ap (option_and_then (at_number table)) named ∙ there)) single
      of_number n named None there true is =
          let here : at_number table p ≡ None = ap (at_number table) (sym (deciding.same n p is)) ∙ there in
          rw here (unchanged p table new (none (ap (option_and_then (at_number table)) named ∙ there)) single)
      of_number n named (Some pool) there false is =
          other_step n pool new _ (λ alike. deciding.differs n p is (sym alike)) named there (some pool (ap (option_and_then (at_number table)) named ∙ there))
      of_number n named (Some pool) there true is =
          let alike : n ≡ p = deciding.same n p is in
          let here : at_number table p ≡ Some pool = ap (at_number table) (sym alike) ∙ there in
          rw here
          (own_step pool new _ (named ∙ ap Some alike) here (some pool (ap (option_and_then (at_number table)) named ∙ there)))

      go : (named : Option ℕ) → id_named kind.Pool text ≡ named
          → TableStep p table new (if option_eq nat_eq named (Some p) then if_open happened (at_number table p) else [])
      go None is = unchanged p table new (none (ap (option_and_then (at_number table)) is)) single
      go (Some n) is = of_number n is (at_number table n) refl (n == p) refl
