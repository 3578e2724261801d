-- Relations that hold of one thing.
use Rattle.std.proofs.Common.{◌≡◌, ◌∙◌, Bool, true, false, cond, find, List, [], ◌∷◌, Option, Some, None, sym, subst, ap}
use Rattle.std.specs.List.{AllByRecursion}

-- a relation holds of one thing at most
abbrev pub Only : {A : Type 0} → (A → Type 0) → Type 0
Only {A} R = (one other : A) → R one → R other → one ≡ other

-- a relation holds of one pair at most
abbrev pub Once : {A B : Type 0} → (A → B → Type 0) → Type 0
Once {A} {B} R = (one other : A) (new next : B) → R one new → R other next → (one ≡ other) × (new ≡ next)

-- what is answered outright
pub only-told : {A : Type 0} (told : A) → Only (λ (a : A). a ≡ told)
only-told told one other is its = is ∙ sym its

pub once-told : {A B : Type 0} (told : A) (kept : B) → Once (λ (a : A) (b : B). (a ≡ told) × (b ≡ kept))
once-told told kept one other new next is its = (is.0 ∙ sym its.0, is.1 ∙ sym its.1)

-- what a function makes of one thing
pub only-made : {W A : Type 0} (R : W → Type 0) (make : W → A) → Only R → Only (λ (a : A). (w : W) × R w × (a ≡ make w))
only-made R make only one other is its = is.2 ∙ ap make (only is.0 its.0 is.1 its.1) ∙ sym its.2

pub once-made : {W A B : Type 0} (R : W → Type 0) (make : W → A) (kept : B) → Only R
    → Once (λ (a : A) (b : B). (w : W) × R w × (a ≡ make w) × (b ≡ kept))
once-made R make kept only one other new next is its =
    (is.2 ∙ ap make (only is.0 its.0 is.1 its.1) ∙ sym its.2, is.3 ∙ sym its.3)

-- the same if what is kept comes with it
pub once-by : {W A B : Type 0} (R : W → B → Type 0) (make : W → A) → Once R
    → Once (λ (a : A) (b : B). (w : W) × R w b × (a ≡ make w))
once-by R make once one other new next is its =
    let same = once is.0 its.0 new next is.1 its.1 in
    (is.2 ∙ ap make same.0 ∙ sym its.2, same.1)

-- one thing, and then what comes of it
pub once-then : {W A B : Type 0} (R : W → Type 0) (S : W → A → B → Type 0) → Only R → ((w : W) → Once (S w))
    → Once (λ (a : A) (b : B). (w : W) × R w × S w a b)
once-then {W} {A} {B} R S only once one other new next is its =
    let same = only is.0 its.0 is.1 its.1 in
    once is.0 one other new next is.2 (subst (λ (w : W). S w other next) (sym same) its.2)

-- the same of what changes nothing
pub once-kept : {A B : Type 0} (R : A → Type 0) (kept : B) → Only R → Once (λ (a : A) (b : B). R a × (b ≡ kept))
once-kept R kept only one other new next is its = (only one other is.0 its.0, is.1 ∙ sym its.1)

-- what follows the first of two, and what is kept then
pub once-after : {W A B : Type 0} (R : W → B → Type 0) (S : W → B → A → B → Type 0) → Once R
    → ((w : W) (b : B) → Once (S w b)) → Once (λ (a : A) (b : B). (w : W) × (between : B) × R w between × S w between a b)
once-after {W} {A} {B} R S first later one other new next is its =
    let same = first is.0 its.0 is.1 its.1 is.2 its.2 in
    later is.0 is.1 one other new next is.3
    (subst (λ (w : W). S w is.1 other next) (sym same.0) (subst (λ (b : B). S its.0 b other next) (sym same.1) its.3))

pub none-told : {X : Type 0} {x : X} → None ≡ Some x → ⊥
none-told h = cc

-- ---- one after the other, up to the first that fails ----

module _ {X A B : Type 0} (R : X → B → Option A → B → Type 0) (once : (x : X) (old : B) → Once (R x old)) where
  pub goes-once : {x : X} {old next after : B} → R x old None next → R x old None after → next ≡ after
  goes-once {x} {old} {next} {after} is its = (once x old None None next after is its).1

  pub goes-fails : {x : X} {old next after : B} {told : A} → R x old None next → R x old (Some told) after → ⊥
  goes-fails {x} {old} {next} {after} {told} is its = none-told (once x old None (Some told) next after is its).0

  pub fails-once : {x : X} {old next after : B} {told tells : A} → R x old (Some told) next → R x old (Some tells) after → (Some told ≡ Some tells)
      × (next ≡ after)
  fails-once {x} {old} {next} {after} {told} {tells} is its = once x old (Some told) (Some tells) next after is its

-- ---- the first of a list that passes ----

pub either-way : {X : Type 0} (P : X → Type 0) (b : Bool) (x y : X) → P x → P y → P (cond b x y)
either-way P true x y p q = p
either-way P false x y p q = q

pub find-each : {X : Type 0} (P : X → Type 0) (Q : Option X → Type 0) → ((x : X) → P x → Q (Some x)) → (test : X → Bool) (xs : List X)
    → Q None → AllByRecursion P xs → Q (find test xs)
find-each P Q some test [] none each = none
find-each P Q some test (x ∷ xs) none each =
    either-way Q (test x) (Some x) (find test xs) (some x each.0) (find-each P Q some test xs none each.1)
