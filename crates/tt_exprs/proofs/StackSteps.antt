-- What waits, from step to step.
use Rattle.std.proofs.Common.{◌≡◌, ℕ, true, false, List, [], ◌∷◌, ◌++◌, map, reverse, length, Option, Some, refl, ap, ◌∙◌, arith}
use Rattle.std.specs.Option.{option_to_list}
use Rattle.std.proofs.lemmas.List.{map-append, reverse-append}
use Rattle.tt_exprs.specs.Parsing.{PlainValue, PlainPending, binds, value_of_pending, gathered}
use Rattle.tt_exprs.specs.inside.Stacks.{plain_pending, plain_stack}
use Rattle.tt_exprs.specs.declared.pending.Pending.{Pending}

pub length-zero : {A : Type 0} (xs : List A) → length xs ≡ 0 → xs ≡ []
length-zero [] e = refl
length-zero (x ∷ xs) e = absurd (omega (arith, e))

pub stack-pushed : (items more : List Pending) (first : Pending) → more ≡ items ++ first ∷ [] → plain_stack more ≡ plain_pending first ∷ plain_stack items
stack-pushed items more first e =
    ap plain_stack e
    ∙ ap reverse (map-append plain_pending items (first ∷ []))
    ∙ reverse-append (map plain_pending items) (plain_pending first ∷ [])

pub stack-popped : (old new : List Pending) (popped : Option Pending) (first : Pending) → old ≡ new ++ option_to_list popped → popped ≡ Some first →
    plain_stack old ≡ plain_pending first ∷ plain_stack new
stack-popped old new popped first e is = stack-pushed new old first (e ∙ ap (λ p. new ++ option_to_list p) is)

pub gathered-empty : (bound : ℕ) (value : PlainValue) → gathered bound [] value ≡ record { pending = []; value = value }
unfolding gathered
gathered-empty bound value = refl

pub gathered-takes : (bound : ℕ) (first : PlainPending) (pending : List PlainPending) (value : PlainValue) → binds bound first ≡ true →
    gathered bound (first ∷ pending) value ≡ gathered bound pending (value_of_pending first value)
unfolding gathered
gathered-takes bound first pending value e = rw (e, gathered)

pub gathered-stops : (bound : ℕ) (first : PlainPending) (pending : List PlainPending) (value : PlainValue) → binds bound first ≡ false →
    gathered bound (first ∷ pending) value ≡ record { pending = first ∷ pending; value = value }
unfolding gathered
gathered-stops bound first pending value e = rw (e, gathered)
