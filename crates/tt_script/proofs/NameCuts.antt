-- The name that the readers count is the grammar's.
use Rattle.std.proofs.Common.{◌≡◌, ℕ, zero, suc, ◌+◌, Bool, true, false, ◌&&◌, ◌||◌, ◌==◌, List, [], ◌∷◌, length, drop, refl, ap, sym, ◌∙◌, subst, arith}
use Rattle.std.proofs.lemmas.List.{length-append}
use Rattle.std.proofs.lemmas.Bool.{eq-eqb, eqb-true}
use Rattle.std.specs.List.{prefix_len}
use Rattle.tt_script.specs.Reading.{begins, is_name_byte, name_length}
use Rattle.tt_script.specs.Grammar.{begins_name, IsColons, colons_end, colons_more, IsName, name_ends, name_byte, name_colons, IsNamed}
use Rattle.tt_script.proofs.Cuts.{Cut, cut_none, cut_more, cut_same, cut_cut}
use Rattle.tt_script.proofs.IntoCuts.{drop_none, or_both}
use Rattle.tt_script.proofs.Naming.{prefix_len-yes, prefix_len-no, name_passes, name-letter, name-colons, name-none}

-- ---- what the grammar cuts off ----

or_none : (p q : Bool) → p || q ≡ false → (p ≡ false) × (q ≡ false)
or_none false q e = (refl, e)
or_none true q e = cc

and_both : (p q : Bool) → p && q ≡ true → (p ≡ true) × (q ≡ true)
and_both true q e = (refl, e)
and_both false q e = cc

two_colons : (b c : ℕ) → b ≡ 58 → c ≡ 58 → (b == 58) && (c == 58) ≡ true
two_colons b c e f = ap (λ v. v && (c == 58)) (eq-eqb b 58 e) ∙ eq-eqb c 58 f

no_colons : (text : List ℕ) → begins 58 text ≡ false → prefix_len (λ c. c == 58) text ≡ 0
no_colons [] e = refl
no_colons (b ∷ text) e = prefix_len-no (λ c. c == 58) b text e

one_more : (b : ℕ) (text : List ℕ) → b ≡ 58 → prefix_len (λ c. c == 58) (b ∷ text) ≡ suc (prefix_len (λ c. c == 58) text)
one_more b text e = prefix_len-yes (λ c. c == 58) b text (eq-eqb b 58 e) ∙ omega arith

colons_counted : {text rest : List ℕ} → IsColons text rest → Cut (prefix_len (λ c. c == 58) text) text rest
colons_counted (colons_end {rest} e) = cut_same (no_colons rest e) (cut_none rest)
colons_counted (colons_more {b} {text} e cs) = cut_same (one_more b text e) (cut_more b (colons_counted cs))

pub none-named : (text : List ℕ) → begins_name text ≡ false → name_length 0 text ≡ 0
unfolding name_length
none-named [] e = refl
none-named (b ∷ text) e = let both = or_none (is_name_byte b) ((b == 58) && begins 58 text) e in name-none b text both.0 both.1

name_counted : {text rest : List ℕ} → IsName text rest → Cut (name_length 0 text) text rest
name_counted (name_ends {rest} e) = cut_same (none-named rest e) (cut_none rest)
name_counted (name_byte {b} {text} e n) = cut_same (name-letter b text e) (cut_more b (name_counted n))
name_counted (name_colons {b} {c} {text} {middle} e f cs n) =
    let run : Cut (prefix_len (λ x. x == 58) (c ∷ text)) (c ∷ text) middle = cut_same (one_more c text f) (cut_more c (colons_counted cs)) in
    let k : ℕ = prefix_len (λ x. x == 58) (c ∷ text) in
    let rest : name_length k (c ∷ text) ≡ k + name_length 0 middle = name_passes k (c ∷ text) ∙ ap (λ t. k + name_length 0 t) run.place in
    cut_same (name-colons b (c ∷ text) (ap is_name_byte e) (two_colons b c e f) ∙ ap suc rest) (cut_more b (cut_cut run (name_counted n)))

pub name_size : {text name rest : List ℕ} → IsNamed text name rest → name_length 0 text ≡ length name
name_size {text} {name} {rest} h = omega (arith, (name_counted h.longest).size, ap length h.cut, length-append name rest)

-- ---- what the readers count ----

colons_are : (text : List ℕ) → IsColons text (drop (prefix_len (λ c. c == 58) text) text)
colons_are [] = colons_end refl
colons_are (b ∷ text) = go (b == 58) refl (colons_are text)
  where
    go : (v : Bool) → (b == 58) ≡ v → IsColons text (drop (prefix_len (λ c. c == 58) text) text) →
        IsColons (b ∷ text) (drop (prefix_len (λ c. c == 58) (b ∷ text)) (b ∷ text))
    go true e next = subst (λ n. IsColons (b ∷ text) (drop n (b ∷ text))) (sym (one_more b text (eqb-true b 58 e))) (colons_more (eqb-true b 58 e) next)
    go false e next = subst (λ n. IsColons (b ∷ text) (drop n (b ∷ text))) (sym (prefix_len-no (λ c. c == 58) b text e)) (colons_end e)

-- two colons, all that follow, and the rest of the name
colons_on : (b : ℕ) (text rest : List ℕ) → (b == 58) && begins 58 text ≡ true → IsName (drop (prefix_len (λ c. c == 58) text) text) rest →
    IsName (b ∷ text) rest
colons_on b [] rest e n = let none = (and_both (b == 58) false e).1 in cc
colons_on b (c ∷ text) rest e n =
    let both = and_both (b == 58) (c == 58) e in
    let second : c ≡ 58 = eqb-true c 58 both.1 in
    name_colons (eqb-true b 58 both.0) second (colons_are text) (subst (λ k. IsName (drop k (c ∷ text)) rest) (one_more c text second) n)

name_passed : (k : ℕ) → name_length k [] ≡ k
unfolding name_length
name_passed k = refl

name-passes_one : (k b : ℕ) (text : List ℕ) → name_length (suc k) (b ∷ text) ≡ suc (name_length k text)
unfolding name_length
name-passes_one k b text = refl

pub name_is : (k : ℕ) (text : List ℕ) → IsName (drop k text) (drop (name_length k text) text)
name_is k [] = subst (λ n. IsName (drop k []) (drop n [])) (sym (name_passed k)) (subst (λ t. IsName t t) (sym (drop_none k)) (name_ends refl))
name_is (suc k) (b ∷ text) = subst (λ n. IsName (drop k text) (drop n (b ∷ text))) (sym (name-passes_one k b text)) (name_is k text)
name_is zero (b ∷ text) = go (is_name_byte b) ((b == 58) && begins 58 text) refl refl (name_is 0 text) (name_is (prefix_len (λ c. c == 58) text) text)
  where
    k : ℕ
    k = prefix_len (λ c. c == 58) text

    go : (v w : Bool) → is_name_byte b ≡ v → (b == 58) && begins 58 text ≡ w → IsName text (drop (name_length 0 text) text) →
        IsName (drop k text) (drop (name_length k text) text) → IsName (b ∷ text) (drop (name_length 0 (b ∷ text)) (b ∷ text))
    go true w e f one two = subst (λ n. IsName (b ∷ text) (drop n (b ∷ text))) (sym (name-letter b text e)) (name_byte e one)
    go false true e f one two =
        subst (λ n. IsName (b ∷ text) (drop n (b ∷ text))) (sym (name-colons b text e f)) (colons_on b text (drop (name_length k text) text) f two)
    go false false e f one two = subst (λ n. IsName (b ∷ text) (drop n (b ∷ text))) (sym (name-none b text e f)) (name_ends (or_both _ _ e f))

pub named-none : (text : List ℕ) → name_length 0 text ≡ 0 → begins_name text ≡ false
named-none [] e = refl
named-none (b ∷ text) e = go (is_name_byte b) ((b == 58) && begins 58 text) refl refl
  where
    go : (v w : Bool) → is_name_byte b ≡ v → (b == 58) && begins 58 text ≡ w → is_name_byte b || ((b == 58) && begins 58 text) ≡ false
    go true w f g = absurd (omega (arith, e, name-letter b text f))
    go false true f g = absurd (omega (arith, e, name-colons b text f g))
    go false false f g = or_both _ _ f g
