-- How many operands there are, and which.
use Rattle.std.proofs.Common.{◌≡◌, ◌≢◌, ℕ, ◌-◌, true, false, List, [], ◌∷◌, length, map, get_or, refl, sym, ap, ◌∙◌, arith}
use Rattle.tt_exprs.specs.Parsing.{in_a_row}
use Rattle.tt_exprs.specs.Plain.{plain_expr}
use Rattle.tt_exprs.specs.Trees.{PlainExprs}
use Rattle.tt_exprs.specs.declared.expression.Expr.{Expr}
use Rattle.tt_exprs.specs.declared.op.Op.{Op}
use Rattle.tt_code.specs.Making.{Instructions, before, count_of, expression_code, operator_code, truth_code, values_code, both_code, either_code, one_of_code}
use Rattle.tt_code.specs.Needs.{bit}
use Rattle.tt_code.specs.declared.code.Instruction.TheVariants as code
use Rattle.tt_code.specs.declared.kind.Kind.TheVariants.{Eager}

abbrev pub row : List Expr → PlainExprs
row exprs = in_a_row (map plain_expr exprs)

pub counted : (exprs : List Expr) → count_of (row exprs) ≡ length exprs
counted [] = refl
counted (e ∷ exprs) = let h = counted exprs in omega (arith, h)

pub not_two : (exprs : List Expr) (rest : Instructions) → length exprs ≢ 2 → both_code (row exprs) rest ≡ code.WrongOperands ∷ rest
not_two [] rest h = refl
not_two (a ∷ []) rest h = refl
not_two (a ∷ b ∷ []) rest h = absurd (h refl)
not_two (a ∷ b ∷ c ∷ exprs) rest h = refl

pub not_either : (exprs : List Expr) (rest : Instructions) → length exprs ≢ 2 → either_code (row exprs) rest ≡ code.WrongOperands ∷ rest
not_either [] rest h = refl
not_either (a ∷ []) rest h = refl
not_either (a ∷ b ∷ []) rest h = absurd (h refl)
not_either (a ∷ b ∷ c ∷ exprs) rest h = refl

pub not_three : (exprs : List Expr) (rest : Instructions) → length exprs ≢ 3 → one_of_code (row exprs) rest ≡ code.WrongOperands ∷ rest
not_three [] rest h = refl
not_three (a ∷ []) rest h = refl
not_three (a ∷ b ∷ []) rest h = refl
not_three (a ∷ b ∷ c ∷ []) rest h = absurd (h refl)
not_three (a ∷ b ∷ c ∷ d ∷ exprs) rest h = refl

pub two : (exprs : List Expr) (a b : Expr) → length exprs ≡ 2 → a ≡ get_or exprs 0 a → b ≡ get_or exprs 1 b → exprs ≡ a ∷ b ∷ []
two [] a b h p q = absurd (omega (arith, h))
two (x ∷ []) a b h p q = absurd (omega (arith, h))
two (x ∷ y ∷ []) a b h p q = sym (ap (λ (e : Expr). e ∷ b ∷ []) p ∙ ap (λ (e : Expr). x ∷ e ∷ []) q)
two (x ∷ y ∷ z ∷ exprs) a b h p q = absurd (omega (arith, h))

pub three : (exprs : List Expr) (a b c : Expr) → length exprs ≡ 3 → a ≡ get_or exprs 0 a → b ≡ get_or exprs 1 b → c ≡ get_or exprs 2 c → exprs ≡ a ∷ b ∷ c ∷ []
three [] a b c h p q r = absurd (omega (arith, h))
three (x ∷ []) a b c h p q r = absurd (omega (arith, h))
three (x ∷ y ∷ []) a b c h p q r = absurd (omega (arith, h))
three (x ∷ y ∷ z ∷ []) a b c h p q r =
    sym (ap (λ (e : Expr). e ∷ b ∷ c ∷ []) p ∙ ap (λ (e : Expr). x ∷ e ∷ c ∷ []) q ∙ ap (λ (e : Expr). x ∷ y ∷ e ∷ []) r)
three (x ∷ y ∷ z ∷ w ∷ exprs) a b c h p q r = absurd (omega (arith, h))

pub eager_made : (op : Op) (exprs : List Expr) (old new : Instructions) → new ≡ values_code (row exprs) (code.Apply op (length exprs) ∷ old) →
    new ≡ operator_code Eager op (row exprs) old
eager_made op exprs old new e = e ∙ ap (λ (n : ℕ). values_code (row exprs) (code.Apply op n ∷ old)) (sym (counted exprs))

pub both_made : (exprs : List Expr) (a b : Expr) (old end second new : Instructions) (n : ℕ) → exprs ≡ a ∷ b ∷ [] → end ≡ code.Push (bit false) ∷ old →
    second ≡ truth_code (plain_expr b) end → n ≡ length second - length end → new ≡ expression_code (plain_expr a) (code.SkipIfFalse n ∷ second) →
    new ≡ both_code (row exprs) old
both_made exprs a b old end second new n e p q r s =
    s
    ∙ ap (λ (k : ℕ). expression_code (plain_expr a) (code.SkipIfFalse k ∷ second)) r
    ∙ ap (λ (w : Instructions). expression_code (plain_expr a) (code.SkipIfFalse (before w end) ∷ w)) q
    ∙ ap (λ (w : Instructions). expression_code (plain_expr a) (code.SkipIfFalse (before (truth_code (plain_expr b) w) w) ∷ truth_code (plain_expr b) w)) p
    ∙ ap (λ (xs : List Expr). both_code (row xs) old) (sym e)

pub either_made : (exprs : List Expr) (a b : Expr) (old end second new : Instructions) (n : ℕ) → exprs ≡ a ∷ b ∷ [] → end ≡ code.Push (bit true) ∷ old →
    second ≡ truth_code (plain_expr b) end → n ≡ length second - length end → new ≡ expression_code (plain_expr a) (code.SkipIfTrue n ∷ second) →
    new ≡ either_code (row exprs) old
either_made exprs a b old end second new n e p q r s =
    s
    ∙ ap (λ (k : ℕ). expression_code (plain_expr a) (code.SkipIfTrue k ∷ second)) r
    ∙ ap (λ (w : Instructions). expression_code (plain_expr a) (code.SkipIfTrue (before w end) ∷ w)) q
    ∙ ap (λ (w : Instructions). expression_code (plain_expr a) (code.SkipIfTrue (before (truth_code (plain_expr b) w) w) ∷ truth_code (plain_expr b) w)) p
    ∙ ap (λ (xs : List Expr). either_code (row xs) old) (sym e)

pub one_of_made : (exprs : List Expr) (a b c : Expr) (old third second new : Instructions) (m n : ℕ) → exprs ≡ a ∷ b ∷ c ∷ [] →
    third ≡ expression_code (plain_expr c) old → m ≡ length third - length old → second ≡ expression_code (plain_expr b) (code.Skip m ∷ third) →
    n ≡ length second - length third → new ≡ expression_code (plain_expr a) (code.SkipIfFalse n ∷ second) → new ≡ one_of_code (row exprs) old
one_of_made exprs a b c old third second new m n e p q r s t =
    t
    ∙ ap (λ (k : ℕ). expression_code (plain_expr a) (code.SkipIfFalse k ∷ second)) s
    ∙ ap (λ (w : Instructions). expression_code (plain_expr a) (code.SkipIfFalse (before w third) ∷ w))
    (r ∙ ap (λ (k : ℕ). expression_code (plain_expr b) (code.Skip k ∷ third)) q)
    ∙ ap (λ (w : Instructions). let last = expression_code (plain_expr b) (code.Skip (before w old) ∷ w) in expression_code (plain_expr a) (code.SkipIfFalse (before last w) ∷ last)) p
    ∙ ap (λ (xs : List Expr). one_of_code (row xs) old) (sym e)
