-- What is read of the words that the system gives.
use Rattle.std.proofs.Common.{◌≡◌, ◌∙◌, ℕ, List, [], ◌∷◌, ◌++◌, drop, length, Option, None, Some, Result, Ok, Err, IfOk, refl}
use Rattle.std.proofs.Common.{sym, ap, subst, arith, append_assoc, append-nil}
use Rattle.std.specs.Vec.Iter.{into_iter_items, into_iter_len, into_iter_steps}
use Rattle.std.specs.declared.vec.IntoIter.{IntoIter}
use Rattle.tt_session.specs.Answer.{IsWordRefusal}
use Rattle.tt_session.specs.declared.status.Refusal.{Refusal}
use Rattle.tt_session.specs.declared.status.Refusal.TheVariants as refusal

empty-list : {X : Type 0} (n : ℕ) (xs : List X) → n ≡ length xs → n ≡ 0 → xs ≡ []
empty-list n [] is none = refl
empty-list n (x ∷ xs) is none = absurd (omega (arith, is, none))

-- none are left once there is no next
pub all-gone : {X Z : Type 0} (s : IntoIter X Z) → into_iter_len s ≡ 0 → into_iter_items s ≡ []
all-gone s none = empty-list s.rest.len s.rest.items s.rest.ok.0 none

-- the first is gone
first-gone : {X Z : Type 0} (s t : IntoIter X Z) (r : Option X) → into_iter_steps s r t → into_iter_items t ≡ drop 1 (into_iter_items s)
first-gone {X = X} s t None is = all-gone t is.1 ∙ sym (ap (λ (xs : List X). drop 1 xs) (all-gone s is.0))
first-gone {X = X} s t (Some x) is = sym (ap (λ (xs : List X). drop 1 xs) is.0)

pub at-second : {X Z : Type 0} (words : List X) (s t it : IntoIter X Z) (r : Option X) → words ≡ [] → it ≡ t → into_iter_steps s r t
    → words ++ into_iter_items it ≡ drop 1 (into_iter_items s)
at-second words s t it r none same is = rw (none, same) (first-gone s t r is)

pub one-more : {X Z : Type 0} (words pushed : List X) (word : X) (s t : IntoIter X Z) (all : List X) → words ++ into_iter_items s ≡ all
    → into_iter_items s ≡ word ∷ into_iter_items t → pushed ≡ words ++ word ∷ [] → pushed ++ into_iter_items t ≡ all
one-more {X = X} words pushed word s t all so_far next is =
    rw (is, append_assoc words (word ∷ []) (into_iter_items t)) (ap (λ (xs : List X). words ++ xs) (sym next) ∙ so_far)

pub at-end : {X Z : Type 0} (words : List X) (s : IntoIter X Z) (all : List X) → words ++ into_iter_items s ≡ all → into_iter_len s ≡ 0 → words ≡ all
at-end {X = X} words s all so_far none = sym (append-nil words) ∙ (ap (λ (xs : List X). words ++ xs) (sym (all-gone s none)) ∙ so_far)

-- what holds of the words that were read holds of those that were given
pub of-given : {A E X : Type 0} (all : Result A E) (f : A → List X) (items words : List X) (P : List X → Type 0) → IfOk all (λ a. items ≡ f a)
    → words ≡ items → P words → IfOk all (λ a. P (f a))
of-given (Ok a) f items words P is same holds = subst P (same ∙ is) holds
of-given (Err e) f items words P is same holds = tt

pub if-given : {A E : Type 0} (all : Result A E) (P Q : A → Type 0) → IfOk all P → ((a : A) → P a → Q a) → IfOk all Q
if-given (Ok a) P Q is f = f a is
if-given (Err e) P Q is f = tt

-- want of memory is an answer to any words
pub no-memory : (why : Refusal) (words : List (List ℕ)) → why ≡ refusal.NoMemory → IsWordRefusal why words
no-memory why words is = subst (λ (w : Refusal). IsWordRefusal w words) (sym is) tt
