-- The operators that a text begins with the spelling of.
use Rattle.std.proofs.Common.{◌≡◌, ℕ, ◌<◌, ◌≤◌, Bool, true, false, cond, get_or, List, [], ◌∷◌, ◌++◌, length, drop}
use Rattle.std.proofs.Common.{Some, None, refl, ap, sym, ◌∙◌, subst, arith, length-append}
use Rattle.std.specs.Prelude.{nat_eq, find}
use Rattle.std.specs.List.{starts_with}
use Rattle.std.proofs.lemmas.Slice.Eq.{starts_is}
use Rattle.std.proofs.lemmas.Bool.Decides.{Decides-eqb}
use Rattle.tt_exprs.specs.Operators.{spelling, sign_operators, first_spelled}
use Rattle.tt_exprs.specs.Tokens.{Cut, one, none_here, operator, mark, sign}
use Rattle.tt_exprs.specs.declared.op.Op.{Op}
use Rattle.tt_exprs.specs.declared.op.Op.TheVariants.{Neg}
use Rattle.tt_exprs.proofs.TokenSteps.{begun}

-- a text begins with a spelling if it is that and what follows
pub spelled-cut : (text spelled : List ℕ) → starts_with nat_eq text spelled ≡ true → text ≡ spelled ++ drop (length spelled) text
spelled-cut text spelled e = (starts_is Decides-eqb text spelled (starts_with nat_eq text spelled) refl).0 e

pub cut-spelled : (text spelled rest : List ℕ) → text ≡ spelled ++ rest → starts_with nat_eq text spelled ≡ true
cut-spelled text spelled rest e = (starts_is Decides-eqb text spelled (starts_with nat_eq text spelled) refl).1 rest e

-- the first of a list that passes a test does
pub find-passes : {X : Type 0} (test : X → Bool) (xs : List X) (x : X) → find test xs ≡ Some x → test x ≡ true
find-passes test [] x e = let wrong : ⊥ = cc in absurd wrong
find-passes {X} test (y ∷ xs) x e = go (test y) refl e (λ h. find-passes test xs x h)
  where
    go : (b : Bool) → test y ≡ b → cond b (Some y) (find test xs) ≡ Some x → (find test xs ≡ Some x → test x ≡ true) → test x ≡ true
    go true g h later = let same : y ≡ x = cc in ap test (sym same) ∙ g
    go false g h later = later h

pub first_spelled-cut : (ops : List Op) (text : List ℕ) (op : Op) → first_spelled ops text ≡ Some op → text ≡ spelling op ++ drop (length (spelling op)) text
first_spelled-cut ops text op e = spelled-cut text (spelling op) (find-passes (λ o. starts_with nat_eq text (spelling o)) ops op e)

pub spelled_within : (text spelled rest : List ℕ) → text ≡ spelled ++ rest → length spelled ≤ length text
spelled_within text spelled rest e = omega (arith, ap length e, length-append spelled rest)

-- every operator has a sign
pub spelling-some : (op : Op) → 0 < length (spelling op)
spelling-some Neg = omega arith
spelling-some op = omega arith

-- those that the first byte begins are all that count
module _ (text : List ℕ) (ops : List Op) (b : ℕ) (some : 0 < length text) (first : b ≡ get_or text 0 0) (same : (rest : List ℕ) → first_spelled ops (b ∷ rest) ≡ first_spelled sign_operators (b ∷ rest)) where
  begun_alike : first_spelled ops text ≡ first_spelled sign_operators text
  begun_alike = subst (λ t. first_spelled ops t ≡ first_spelled sign_operators t) (begun b text some first) (same (drop 1 text))

  pub sign-operator : (op : Op) → first_spelled ops text ≡ Some op → one (operator op) (length (spelling op)) ≡ sign text
  unfolding sign
  sign-operator op e = rw (sym begun_alike ∙ e, sign) refl

  pub sign-mark : (cut : Cut) → ((rest : List ℕ) → cut ≡ mark (b ∷ rest)) → first_spelled ops text ≡ None → cut ≡ sign text
  unfolding sign
  sign-mark cut marks e = rw (sym begun_alike ∙ e, sign) (marks (drop 1 text) ∙ ap mark (begun b text some first))

pub sign-none : sign [] ≡ none_here
unfolding sign
sign-none = refl
