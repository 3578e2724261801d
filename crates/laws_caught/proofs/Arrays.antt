-- Who waits for an array that another thread holds waits on.
use Rattle.std.proofs.Common.{◌≡◌, ◌≢◌, ◌∙◌, ◌==◌, ◌&&◌, ℕ, Bool, true, false, not, List, [], Option, Some, None, option_to_list, refl, sym, ap, subst, arith}
use Rattle.std.specs.List.{Contains}
use Rattle.laws_caught.proofs.Ended.{lives_on, one_of}
use Rattle.laws_caught.specs.WaitLaws.{ArrayWaitLaw, WaitsOn}
use Rattle.laws_shared.proofs.Deciding.{itself, not_both, same}
use Rattle.laws_shared.proofs.HeldAlone.{held_after, others_wait}
use Rattle.laws_shared.specs.HeldArrays.{HoldsArray}
use Rattle.laws_shared.specs.Orderly.{later}
use Rattle.tt_calls.specs.declared.request.Request.TheVariants as ask
use Rattle.tt_tsv.specs.Arrays.{array_of}
use Rattle.tt_tsv.specs.Blocking.{holder_in, holder_of}
use Rattle.tt_tsv.specs.Calls.{array_asked, is_held_by_other, is_own, waits_for}
use Rattle.tt_tsv.specs.declared.array.Array.{Array}

pub in_none : (P : Type 0) {X : Type 0} (q : X) → Contains [] q → P
in_none P q there = absurd (omega (arith, there.1))

negated : (b : Bool) → not b ≡ true → b ≡ false
negated true is = absurd (cc is)
negated false is = refl

unwaited : (b : Bool) → not b ≡ false → b ≡ true
unwaited true is = refl
unwaited false is = absurd (cc is)

-- it is held by the one that is named, which is another
holder_is : (t u : ℕ) (found : Option Array) → is_held_by_other t found ≡ true → Contains (option_to_list (holder_in found)) u →
    (is_own u found ≡ true) × (t ≢ u)
holder_is t u None waits named = absurd (cc waits)
holder_is t u (Some array) waits named = go array.holder waits named
  where
    go : (holder : Option ℕ) → (elim holder [ None ↦ false | Some one ↦ true ] && not (elim holder [ None ↦ false | Some one ↦ one == t ])) ≡ true
        → Contains (option_to_list holder) u → (elim holder [ None ↦ false | Some one ↦ one == u ] ≡ true) × (t ≢ u)
    go None waits named = absurd (cc waits)
    go (Some one) waits named =
        let is : one ≡ u = one_of one u named in (
          subst (λ x. (one == x) ≡ true) is (itself one),
          λ alike. not_both (one == t) (subst (λ x. (one == x) ≡ true) (is ∙ sym alike) (itself one)) (negated (one == t) waits),
        )

own_holder : (u : ℕ) (found : Option Array) → is_own u found ≡ true → Contains (option_to_list (holder_in found)) u
own_holder u None own = absurd (cc own)
own_holder u (Some array) own = go array.holder own
  where
    go : (holder : Option ℕ) → elim holder [ None ↦ false | Some one ↦ one == u ] ≡ true → Contains (option_to_list holder) u
    go None own = absurd (cc own)
    go (Some one) own = (0, omega arith, same one u own)

pub array_wait : ArrayWaitLaw
array_wait call moment t u reached can small not_t not_u waits = go (array_asked call) refl
  where
    go : (asked : Option (List ℕ)) → array_asked call ≡ asked → WaitsOn (later moment) t (ask.Tsv call) u
    go None is = in_none _ u (subst (λ asked. Contains (option_to_list (holder_of moment.before.arrays asked)) u) is waits.named)
    go (Some name) is =
        let waiting : is_held_by_other t (array_of moment.before.arrays name) ≡ true =
        unwaited _ (subst (λ asked. not (waits_for moment.before.arrays t asked) ≡ false) is waits.not_enabled) in
        let named : Contains (option_to_list (holder_in (array_of moment.before.arrays name))) u =
        subst (λ asked. Contains (option_to_list (holder_of moment.before.arrays asked)) u) is waits.named in
        let holds = holder_is t u (array_of moment.before.arrays name) waiting named in
        let held : HoldsArray (later moment) u name =
        held_after moment.before u moment.action.thread name moment.action.request moment.action.line holds.0 (λ ends. not_u ends.thread) in
        record {
          lives = lives_on moment t not_t waits.lives;
          not_enabled = others_wait (later moment) u t name (ask.Tsv call) held is holds.1;
          other_lives = lives_on moment u not_u waits.other_lives;
          named = subst (λ asked. Contains (option_to_list (holder_of (later moment).arrays asked)) u) (sym is)
              (own_holder u (array_of (later moment).arrays name) held);
        }
