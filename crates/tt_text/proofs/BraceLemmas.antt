-- The relation of balanced braces and the function that finds the matching one agree.
use Rattle.std.proofs.Common.{◌≡◌, ◌≢◌, ℕ, zero, suc, ◌+◌, Bool, true, false, List, [], ◌∷◌, ◌++◌, length, refl, sym}
use Rattle.std.proofs.Common.{ap, subst, ◌∙◌, arith, append_assoc, length-append, inl, inr}
use Rattle.std.specs.Prelude.{Option, Some, None, ◌==◌}
use Rattle.std.proofs.lemmas.Bool.{cases_eq, ne_eqb, eqb-true, eq-eqb}
use Rattle.tt_text.specs.Braces.{IsBalanced, empty, other, escaped, group, further, mark_of, closing_brace}
use Rattle.tt_text.specs.Braces.{matching_brace, IsClosedAt, MatchingBraceLaw, BalancedLaw}

further-zero : (o : Option ℕ) → further 0 o ≡ o
further-zero None = refl
further-zero (Some n) = ap Some (omega arith)

further-further : (m n : ℕ) (o : Option ℕ) → further m (further n o) ≡ further (m + n) o
further-further m n None = refl
further-further m n (Some k) = ap Some (omega arith)

-- one byte of each kind
closing-opens : (b depth : ℕ) (text : List ℕ) → b ≡ 123 → closing_brace false depth (b ∷ text) ≡ further 1 (closing_brace false (suc depth) text)
closing-opens b depth text e = rw e

closing-closes : (b depth : ℕ) (text : List ℕ) → b ≡ 125 → closing_brace false (suc depth) (b ∷ text) ≡ further 1 (closing_brace false depth text)
closing-closes b depth text e = rw e

closing-closes_last : (b : ℕ) (text : List ℕ) → b ≡ 125 → closing_brace false zero (b ∷ text) ≡ Some 0
closing-closes_last b text e = rw e

closing-escapes : (b depth : ℕ) (text : List ℕ) → b ≡ 92 → closing_brace false depth (b ∷ text) ≡ further 1 (closing_brace true depth text)
closing-escapes b depth text e = rw e

closing-other : (b depth : ℕ) (text : List ℕ) → b ≢ 123 → b ≢ 125 → b ≢ 92 → closing_brace false depth (b ∷ text) ≡ further 1 (closing_brace false depth text)
closing-other b depth text n1 n2 n3 = rw (ne_eqb b 123 n1, ne_eqb b 125 n2, ne_eqb b 92 n3, closing_brace, mark_of)

one_and : (text : List ℕ) → 1 + length text ≡ suc (length text)
one_and text = omega arith

two_and : (text : List ℕ) → 1 + (1 + length text) ≡ suc (suc (length text))
two_and text = omega arith

group_length : (text inner more : List ℕ) → text ≡ 123 ∷ (inner ++ (125 ∷ more)) → 1 + (length inner + (1 + length more)) ≡ length text
group_length text inner more e = omega (arith, ap length e, length-append inner (125 ∷ more))

-- balanced braces are passed over at any depth
passes_balanced : {inner : List ℕ} → IsBalanced inner → (depth : ℕ) (rest : List ℕ)
    → closing_brace false depth (inner ++ rest) ≡ further (length inner) (closing_brace false depth rest)
passes_balanced empty depth rest = sym (further-zero _)
passes_balanced (other {b} {text} n1 n2 n3 inside) depth rest =
    closing-other b depth (text ++ rest) n1 n2 n3 ∙ ap (further 1) (passes_balanced inside depth rest)
    ∙ further-further 1 (length text) _ ∙ ap (λ n. further n (closing_brace false depth rest)) (one_and text)
passes_balanced (escaped {b} {next} {text} e inside) depth rest =
    closing-escapes b depth (next ∷ (text ++ rest)) e
    ∙ ap (λ o. further 1 (further 1 o)) (passes_balanced inside depth rest)
    ∙ ap (further 1) (further-further 1 (length text) _)
    ∙ further-further 1 (1 + length text) _
    ∙ ap (λ n. further n (closing_brace false depth rest)) (two_and text)
passes_balanced (group {text} {inner} {rest = more} e inside after) depth rest =
    let tail = more ++ rest in
    let opened = closing_brace false (suc depth) (inner ++ (125 ∷ tail)) in
    let shape : text ++ rest ≡ 123 ∷ (inner ++ (125 ∷ tail)) =
    ap (λ t. t ++ rest) e ∙ ap (λ t. 123 ∷ t) (append_assoc inner (125 ∷ more) rest) in
    let step : opened ≡ further (length inner) (further 1 (further (length more) (closing_brace false depth rest))) =
    passes_balanced inside (suc depth) (125 ∷ tail)
    ∙ ap (λ o. further (length inner) (further 1 o)) (passes_balanced after depth rest) in
    ap (closing_brace false depth) shape ∙ ap (further 1) step
    ∙ ap (λ o. further 1 (further (length inner) o)) (further-further 1 (length more) _)
    ∙ ap (further 1) (further-further (length inner) (1 + length more) _)
    ∙ further-further 1 (length inner + (1 + length more)) _
    ∙ ap (λ n. further n (closing_brace false depth rest)) (group_length text inner more e)

to_function : (text : List ℕ) (n : ℕ) → IsClosedAt text n → matching_brace text ≡ Some n
to_function text n closed =
    ap matching_brace closed.cut ∙ passes_balanced closed.balanced 0 (125 ∷ closed.rest) ∙ ap Some (omega (arith, closed.place))

-- the text up to the brace that closes this many inner groups and the outer one
abbrev Closes_groups : ℕ → List ℕ → Type 0
Closes_groups zero inner = IsBalanced inner
Closes_groups (suc depth) inner =
    (first : List ℕ) × ((more : List ℕ) × (inner ≡ first ++ (125 ∷ more)) × IsBalanced first × Closes_groups depth more)

record Closed (depth : ℕ) (text : List ℕ) (n : ℕ) : Type 0 where
  inner : List ℕ
  rest : List ℕ
  cut : text ≡ inner ++ (125 ∷ rest)
  place : length inner ≡ n
  groups : Closes_groups depth inner

-- what stands before a balanced text may stand before its first group
before_other : (depth b : ℕ) (inner : List ℕ) → b ≢ 123 → b ≢ 125 → b ≢ 92 → Closes_groups depth inner → Closes_groups depth (b ∷ inner)
before_other zero b inner n1 n2 n3 h = other n1 n2 n3 h
before_other (suc depth) b inner n1 n2 n3 h = (b ∷ h.0, (h.1.0, ap (λ t. b ∷ t) h.1.1, other n1 n2 n3 h.1.2, h.1.3))

before_escaped : (depth b next : ℕ) (inner : List ℕ) → b ≡ 92 → Closes_groups depth inner → Closes_groups depth (b ∷ next ∷ inner)
before_escaped zero b next inner e h = escaped e h
before_escaped (suc depth) b next inner e h = (b ∷ next ∷ h.0, (h.1.0, ap (λ t. b ∷ next ∷ t) h.1.1, escaped e h.1.2, h.1.3))

before_group : (depth b : ℕ) (inner : List ℕ) → b ≡ 123 → Closes_groups (suc depth) inner → Closes_groups depth (b ∷ inner)
before_group zero b inner e h = group (ap (λ t. b ∷ t) h.1.1 ∙ ap (λ c. c ∷ (h.0 ++ (125 ∷ h.1.0))) e) h.1.2 h.1.3
before_group (suc depth) b inner e h =
    let first = h.0 in
    let more = h.1.0 in
    let second = h.1.3.0 in
    let last = h.1.3.1.0 in
    let cut : inner ≡ (first ++ (125 ∷ second)) ++ (125 ∷ last) =
    h.1.1 ∙ ap (λ t. first ++ (125 ∷ t)) h.1.3.1.1 ∙ sym (append_assoc first (125 ∷ second) (125 ∷ last)) in
    (b ∷ (first ++ (125 ∷ second)), (last, ap (λ t. b ∷ t) cut, group (ap (λ c. c ∷ (first ++ (125 ∷ second))) e) h.1.2 h.1.3.1.2, h.1.3.1.3))

before_close : (depth b : ℕ) (inner : List ℕ) → b ≡ 125 → Closes_groups depth inner → Closes_groups (suc depth) (b ∷ inner)
before_close depth b inner e h = ([], (inner, ap (λ c. c ∷ inner) e, empty, h))

further_inverse : (k n : ℕ) (o : Option ℕ) → further k o ≡ Some n → (m : ℕ) × (o ≡ Some m) × (n ≡ k + m)
further_inverse k n None e = absurd (cc)
further_inverse k n (Some m) e = (m, refl, cc)

-- after a backslash one byte stands before the text that is looked through
abbrev Found : Bool → ℕ → List ℕ → ℕ → Type 0
Found false depth text n = Closed depth text n
Found true depth text n = (b : ℕ) × ((rest : List ℕ) × ((m : ℕ) × (text ≡ b ∷ rest) × (n ≡ 1 + m) × Closed depth rest m))

-- one byte more before a closed text
further_closed : (b depth outer n m : ℕ) (text : List ℕ) → n ≡ 1 + m
    → ((inner : List ℕ) → Closes_groups depth inner → Closes_groups outer (b ∷ inner)) → Closed depth text m → Closed outer (b ∷ text) n
further_closed b depth outer n m text e grow c = record {
  inner = b ∷ c.inner;
  rest = c.rest;
  cut = ap (λ t. b ∷ t) c.cut;
  place = omega (arith, c.place);
  groups = grow c.inner c.groups;
}

finds_close : (b depth n : ℕ) (text : List ℕ) → b ≡ 125
    → ((outer m : ℕ) → closing_brace false outer text ≡ Some m → Closed outer text m)
    → closing_brace false depth (b ∷ text) ≡ Some n → Closed depth (b ∷ text) n
finds_close b zero n text closes go e =
    let none : Some 0 ≡ Some n = sym (closing-closes_last b text closes) ∙ e in
    record { inner = []; rest = text; cut = ap (λ c. c ∷ text) closes; place = cc; groups = empty }
finds_close b (suc outer) n text closes go e =
    let step = further_inverse 1 n (closing_brace false outer text) (sym (closing-closes b outer text closes) ∙ e) in
    further_closed b outer (suc outer) n step.0 text step.2 (λ inner h. before_close outer b inner closes h) (go outer step.0 step.1)

finds_escaped : (b depth n m : ℕ) (text : List ℕ) → b ≡ 92 → n ≡ 1 + m → Found true depth text m → Closed depth (b ∷ text) n
finds_escaped b depth n m text escapes more found =
    let next = found.0 in
    let rest = found.1.0 in
    let c : Closed depth rest found.1.1.0 = found.1.1.3 in
    record {
      inner = b ∷ next ∷ c.inner;
      rest = c.rest;
      cut = ap (λ t. b ∷ t) (found.1.1.1 ∙ ap (λ t. next ∷ t) c.cut);
      place = omega (arith, c.place, found.1.1.2);
      groups = before_escaped depth b next c.inner escapes c.groups;
    }

finds : (text : List ℕ) (after : Bool) (depth n : ℕ) → closing_brace after depth text ≡ Some n → Found after depth text n
finds [] after depth n e = absurd (cc)
finds (b ∷ text) true depth n e =
    let step = further_inverse 1 n (closing_brace false depth text) e in
    (b, (text, (step.0, refl, step.2, finds text false depth step.0 step.1)))
finds (b ∷ text) false depth n e =
    elim (cases_eq b 123) [
      | inl opens ↦
          let step = further_inverse 1 n (closing_brace false (suc depth) text) (sym (closing-opens b depth text opens) ∙ e) in
          further_closed b (suc depth) depth n step.0 text step.2 (λ inner h. before_group depth b inner opens h) (finds text false (suc depth) step.0 step.1)
      | inr n1 ↦ elim (cases_eq b 125) [
        | inl closes ↦ finds_close b depth n text closes (λ outer m found. finds text false outer m found) e
        | inr n2 ↦ elim (cases_eq b 92) [
          | inl escapes ↦
              let step = further_inverse 1 n (closing_brace true depth text) (sym (closing-escapes b depth text escapes) ∙ e) in
              finds_escaped b depth n step.0 text escapes step.2 (finds text true depth step.0 step.1)
          | inr n3 ↦
              let step = further_inverse 1 n (closing_brace false depth text) (sym (closing-other b depth text n1 n2 n3) ∙ e) in
              further_closed b depth depth n step.0 text step.2 (λ inner h. before_other depth b inner n1 n2 n3 h) (finds text false depth step.0 step.1)
        ]
      ]
    ]

-- the relation and the function agree
pub matching_brace_law : MatchingBraceLaw
matching_brace_law text n = (
  λ e. let c = finds text false 0 n e in record { inner = c.inner; rest = c.rest; cut = c.cut; place = c.place; balanced = c.groups },
  to_function text n,
)

same_front : (a b x y : List ℕ) → length a ≡ length b → a ++ x ≡ b ++ y → a ≡ b
same_front [] [] x y l e = refl
same_front [] (c ∷ b) x y l e = absurd (cc)
same_front (c ∷ a) [] x y l e = absurd (cc)
same_front (c ∷ a) (d ∷ b) x y l e =
    let heads : c ≡ d = cc in
    let tails : a ++ x ≡ b ++ y = cc in
    let longs : length a ≡ length b = cc in
    let fronts = same_front a b x y longs tails in cc

abbrev is_last : ℕ → Option ℕ → Bool
is_last long o = elim o [ Some n ↦ n == long | None ↦ false ]

last_is : (long : ℕ) (o : Option ℕ) → is_last long o ≡ true → o ≡ Some long
last_is long None e = absurd (cc)
last_is long (Some n) e = ap Some (eqb-true n long e)

is_last_own : (long : ℕ) → is_last long (Some long) ≡ true
is_last_own long = eq-eqb long long refl

-- the test and the relation agree
pub balanced_law : BalancedLaw
balanced_law text = (
  λ e.
      let closed = finds (text ++ (125 ∷ [])) false 0 (length text) (last_is (length text) (matching_brace (text ++ (125 ∷ []))) e) in
      let same : text ≡ closed.inner = same_front text closed.inner (125 ∷ []) (125 ∷ closed.rest) (sym closed.place) closed.cut in
      subst IsBalanced (sym same) closed.groups,
  λ balanced.
      let e : matching_brace (text ++ (125 ∷ [])) ≡ Some (length text) =
      passes_balanced balanced 0 (125 ∷ []) ∙ ap Some (omega arith) in
      ap (is_last (length text)) e ∙ is_last_own (length text),
)
