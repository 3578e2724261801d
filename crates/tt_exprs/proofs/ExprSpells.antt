-- What the function reads, the grammar spells.
use Rattle.std.proofs.Common.{◌≡◌, ◌≢◌, ℕ, zero, suc, ◌<◌, ◌≤◌, max, Bool, true, false, true≢false, List, [], ◌∷◌, ◌++◌}
use Rattle.std.proofs.Common.{fold, Option, Some, None, refl, ap, sym, ◌∙◌, subst, append_assoc, append-nil, arith, inl}
use Rattle.std.proofs.Common.{inr, ◌⊎◌}
use Rattle.tt_exprs.specs.Trees.{PlainExpr, node, PlainExprs, none, more}
use Rattle.tt_exprs.specs.Operators.{binding, level, left_level, takes_more}
use Rattle.tt_exprs.specs.Tokens.{PlainToken, operand, operator, function, opening, closing, comma, colon}
use Rattle.tt_exprs.specs.Parsing.{PlainValue, nested, too_deep, PlainRow, PlainPending, unary, binary, test, branch}
use Rattle.tt_exprs.specs.Parsing.{parenthesis, arguments, PlainWaiting, gathered, binds, reaches, value_of_pending, PlainState}
use Rattle.tt_exprs.specs.Parsing.{wants, calls, has, wrong, as_prefix, state_with_prefix, state_with_operator, wants_after, with_left}
use Rattle.tt_exprs.specs.Parsing.{after_comma, after_closing, after_colon, step, malformed, outcome_of, final_outcome}
use Rattle.tt_exprs.specs.Parsing.{tree_of, level_of, left_level_of}
use Rattle.tt_exprs.specs.ExprGrammar.{IsOperand, token_operand, in_parentheses, function_call, after_prefix}
use Rattle.tt_exprs.specs.ExprGrammar.{IsArguments, last_argument, next_argument, IsAtLevel, one_operand, from_left}
use Rattle.tt_exprs.specs.ExprGrammar.{from_right, choice}
use Rattle.tt_exprs.specs.declared.op.Op.{Op}
use Rattle.tt_exprs.specs.declared.op.Op.TheVariants.{Choose}
use Rattle.tt_exprs.specs.declared.operators.Binding.TheVariants.{Leftwards, Rightwards}
use Rattle.tt_exprs.proofs.StackSteps.{gathered-empty, gathered-takes, gathered-stops}
use Rattle.tt_exprs.proofs.ExprTables.{Groups, groups_left, groups_right, groups, choose_or_not, left_regular}
use Rattle.tt_exprs.proofs.ExprTables.{right_regular, left_binary, reaches-yes, reaches-true, reaches-false}
use Rattle.tt_exprs.proofs.ExprReads.{waiting}

-- ---- what is spelled ----

-- some tree at this level
abbrev pub Reads : ℕ → List PlainToken → Type 0
Reads bound ts = (expr : PlainExpr) × (depth : ℕ) × IsAtLevel bound ts expr depth

-- some operand
abbrev pub ReadsOperand : List PlainToken → Type 0
ReadsOperand ts = (expr : PlainExpr) × (depth : ℕ) × IsOperand ts expr depth

-- some operands of a function
abbrev pub ReadsArguments : Op → List PlainToken → Type 0
ReadsArguments op ts = (exprs : PlainExprs) × (depth : ℕ) × IsArguments op ts exprs depth

lowest : {depth : ℕ} {ts : List PlainToken} {expr : PlainExpr} (m : ℕ) → m ≤ zero → IsAtLevel zero ts expr depth → IsAtLevel m ts expr depth
lowest {depth = depth} {ts = ts} {expr = expr} m h x = let same : zero ≡ m = omega (arith, h) in subst (λ k. IsAtLevel k ts expr depth) same x

level_less : {n depth : ℕ} {ts : List PlainToken} {expr : PlainExpr} (m : ℕ) → m ≤ n → IsAtLevel n ts expr depth → IsAtLevel m ts expr depth
level_less m h (one_operand o) = one_operand o
level_less m h (from_left b low cut one two) = from_left b (omega (arith, h, low)) cut one two
level_less m h (from_right c b low cut one two) = from_right c b (omega (arith, h, low)) cut one two
level_less m h (choice cut again one two three) = lowest m h (choice cut again one two three)

reads_less : (n m : ℕ) (ts : List PlainToken) → m ≤ n → Reads n ts → Reads m ts
reads_less n m ts h r = (r.0, r.1, level_less m h r.2)

-- the level of operands, which no operator between operands has
abbrev pub tightest : ℕ
tightest = 14

none_above : (n : ℕ) → tightest ≤ n → (n ≡ 13) ⊎ (n ≡ 0) → ⊥
none_above n h (inl e) = omega (arith, h, e)
none_above n h (inr e) = omega (arith, h, e)

level_operand : {n depth : ℕ} {ts : List PlainToken} {expr : PlainExpr} → tightest ≤ n → IsAtLevel n ts expr depth → IsOperand ts expr depth
level_operand h (one_operand o) = o
level_operand h (from_left {n = n} {op = op} b low cut one two) = let far = left_regular op n b in absurd (omega (arith, h, low, far.1))
level_operand h (from_right {n = n} {op = op} c b low cut one two) = absurd (none_above n (omega (arith, h, low)) (right_regular op n b))
level_operand h (choice cut again one two three) = absurd (omega (arith, h))

of_operand : (n : ℕ) (ts : List PlainToken) → ReadsOperand ts → Reads n ts
of_operand n ts r = (r.0, r.1, one_operand r.2)

-- ---- what waits ----

-- these tokens came to what waits, which takes an expression of this level next
data Spells : ℕ → List PlainPending → List PlainToken → Type 0 where
  starts : Spells 0 [] []
  in_parenthesis : {bound : ℕ} {pending : List PlainPending} {before whole : List PlainToken} → Spells bound pending before →
      whole ≡ before ++ (opening ∷ []) → Spells 0 (parenthesis ∷ pending) whole
  in_arguments : {bound : ℕ} {op : Op} {operands : PlainRow} {pending : List PlainPending} {before whole : List PlainToken} (own : List PlainToken) →
      Spells bound pending before → ((rest : List PlainToken) → ReadsArguments op rest → ReadsArguments op (own ++ rest)) →
      whole ≡ before ++ (function op ∷ opening ∷ own) → Spells 0 (arguments op operands ∷ pending) whole
  in_test : {bound : ℕ} {condition : PlainValue} {pending : List PlainPending} {before whole : List PlainToken} (left : List PlainToken) →
      Spells bound pending before → bound ≤ 0 → Reads 1 left → whole ≡ before ++ (left ++ operator Choose ∷ []) → Spells 0 (test condition ∷ pending) whole
  -- an operator, which binds at level n what it makes
  waits : {bound wanted : ℕ} {first : PlainPending} {pending : List PlainPending} {before whole : List PlainToken} (n : ℕ) (own : List PlainToken) →
      Spells bound pending before → bound ≤ n → wanted ≤ tightest → binds 0 first ≡ true
      → ((k : ℕ) → k ≤ tightest → binds k first ≡ true → k ≤ n)
      → ((op : Op) (m k : ℕ) → level_of op ≡ Some m → left_level_of op ≡ Some k → binds k first ≡ false → wanted ≤ m)
      → ((right : List PlainToken) → Reads wanted right → Reads n (own ++ right))
      → whole ≡ before ++ own → Spells wanted (first ∷ pending) whole

spells_bound : {bound : ℕ} {pending : List PlainPending} {ts : List PlainToken} → Spells bound pending ts → bound ≤ tightest
spells_bound starts = omega arith
spells_bound (in_parenthesis s e) = omega arith
spells_bound (in_arguments own s f e) = omega arith
spells_bound (in_test left s h r e) = omega arith
spells_bound (waits n own s h j b f g r e) = j

-- what takes an operand before an operator whose left operand binds at this level
record Gathered (k : ℕ) (w : PlainWaiting) (ts : List PlainToken) : Type 0 where
  bound : ℕ
  before : List PlainToken
  inside : List PlainToken
  stack : Spells bound w.pending before
  low : Reads k inside
  fits : Reads bound inside
  whole : ts ≡ before ++ inside
  stops : (op : Op) (m : ℕ) → level_of op ≡ Some m → left_level_of op ≡ Some k → bound ≤ m

rests : (k : ℕ) (first : PlainPending) (pending : List PlainPending) (value : PlainValue) (before inside ts : List PlainToken) → binds k first ≡ false →
    Spells 0 (first ∷ pending) before → Reads k inside → Reads 0 inside → ts ≡ before ++ inside → Gathered k (gathered k (first ∷ pending) value) ts
rests k first pending value before inside ts never s low fits e =
    subst (λ w. Gathered k w ts) (sym (gathered-stops k first pending value never))
    (record { bound = 0; before = before; inside = inside; stack = s; low = low; fits = fits; whole = e; stops = λ op m f g. omega arith })

gathers : (k : ℕ) {bound : ℕ} {pending : List PlainPending} {before : List PlainToken} → k ≤ tightest → (s : Spells bound pending before) →
    (value : PlainValue) (inside ts : List PlainToken) → Reads k inside → Reads bound inside → ts ≡ before ++ inside → Gathered k (gathered k pending value) ts
gathers k h starts value inside ts low fits e =
    subst (λ w. Gathered k w ts) (sym (gathered-empty k value))
    (record { bound = 0; before = []; inside = inside; stack = starts; low = low; fits = fits; whole = e; stops = λ op m f g. omega arith })
gathers k h (in_parenthesis {pending = pending} {whole = whole} s c) value inside ts low fits e =
    rests k parenthesis pending value whole inside ts refl (in_parenthesis s c) low fits e
gathers k h (in_arguments {op = op} {operands = operands} {pending = pending} {whole = whole} own s f c) value inside ts low fits e =
    rests k (arguments op operands) pending value whole inside ts refl (in_arguments own s f c) low fits e
gathers k h (in_test {condition = condition} {pending = pending} {whole = whole} left s j r c) value inside ts low fits e =
    rests k (test condition) pending value whole inside ts refl (in_test left s j r c) low fits e
gathers k h (waits {bound =
    bound} {wanted = wanted} {first = first} {pending = pending} {before = before} {whole = whole} n own s j i b f g r c) value inside ts low fits e =
    go (binds k first) refl (λ v l t d. gathers k h s v (own ++ inside) ts l t d)
  where
    go : (v : Bool) → binds k first ≡ v →
        ((v : PlainValue) → Reads k (own ++ inside) → Reads bound (own ++ inside) → ts ≡ before ++ (own ++ inside) →
        Gathered k (gathered k pending v) ts) → Gathered k (gathered k (first ∷ pending) value) ts
    go true holds next =
        let made = r inside fits in
        subst (λ w. Gathered k w ts) (sym (gathered-takes k first pending value holds))
        (next (value_of_pending first value) (reads_less n k (own ++ inside) (f k h holds) made) (reads_less n bound (own ++ inside) j made)
        (e ∙ ap (λ x. x ++ inside) c ∙ append_assoc before own inside))
    go false never next =
        subst (λ w. Gathered k w ts) (sym (gathered-stops k first pending value never))
        (record {
          bound =
              wanted;
          before =
              whole;
          inside = inside;
          stack = waits n own s j i b f g r c;
          low = low;
          fits = fits;
          whole = e;
          stops = λ op m p q. g op m k p q never;
        })

-- ---- from token to token ----

-- what the tokens so far came to
abbrev Spelled : PlainState → List PlainToken → Type 0
Spelled (wants pending) ts = (bound : ℕ) × Spells bound pending ts
Spelled (calls op pending) ts = (bound : ℕ) × (before : List PlainToken) × Spells bound pending before × (ts ≡ before ++ (function op ∷ []))
Spelled (has w) ts =
    (bound : ℕ) × (before : List PlainToken) × (inside : List PlainToken) × Spells bound w.pending before × ReadsOperand inside × (ts ≡ before ++ inside)
Spelled wrong ts = Unit {0}

-- tokens after what was read
joined : (ts before inside front own tail : List PlainToken) → ts ≡ before ++ inside → before ≡ front ++ own → ts ++ tail ≡ front ++ (own ++ (inside ++ tail))
joined ts before inside front own tail e f =
    ap (λ x. x ++ tail) e ∙ append_assoc before inside tail ∙ ap (λ x. x ++ (inside ++ tail)) f ∙ append_assoc front own (inside ++ tail)

prefix_waits : (sign op : Op) (bound : ℕ) (pending : List PlainPending) (ts : List PlainToken) → as_prefix sign ≡ Some op → Spells bound pending ts →
    Spells tightest (unary op ∷ pending) (ts ++ operator sign ∷ [])
prefix_waits sign op bound pending ts e s =
    waits tightest (operator sign ∷ []) s (spells_bound s) (omega arith) refl
    (λ k h b. h)
    (λ other m k f g b. absurd (true≢false b))
    (λ right r. (node op (more r.0 none), suc r.1, one_operand (after_prefix e (level_operand (omega arith) r.2))))
    refl

after_sign : (sign : Op) (bound : ℕ) (pending : List PlainPending) (ts : List PlainToken) → Spells bound pending ts → (o : Option Op) →
    as_prefix sign ≡ o → Spelled (state_with_prefix pending o) (ts ++ operator sign ∷ [])
after_sign sign bound pending ts s (Some op) e = (tightest, prefix_waits sign op bound pending ts e s)
after_sign sign bound pending ts s None e = tt

wanting : (pending : List PlainPending) (token : PlainToken) (ts : List PlainToken) → Spelled (wants pending) ts →
    Spelled (step (wants pending) token) (ts ++ token ∷ [])
wanting pending (operand expr) ts s = (s.0, ts, operand expr ∷ [], s.1, (expr, zero, token_operand), refl)
wanting pending (operator op) ts s = after_sign op s.0 pending ts s.1 (as_prefix op) refl
wanting pending (function op) ts s = (s.0, ts, s.1, refl)
wanting pending opening ts s = (0, in_parenthesis s.1 refl)
wanting pending closing ts s = tt
wanting pending comma ts s = tt
wanting pending colon ts s = tt

calling : (op : Op) (pending : List PlainPending) (token : PlainToken) (ts : List PlainToken) → Spelled (calls op pending) ts →
    Spelled (step (calls op pending) token) (ts ++ token ∷ [])
calling op pending opening ts s = (0, in_arguments [] s.2 (λ rest r. r) (ap (λ x. x ++ opening ∷ []) s.3 ∙ append_assoc s.1 (function op ∷ []) (opening ∷ [])))
calling op pending (operand expr) ts s = tt
calling op pending (operator other) ts s = tt
calling op pending (function other) ts s = tt
calling op pending closing ts s = tt
calling op pending comma ts s = tt
calling op pending colon ts s = tt

-- `)`
closes : {bound : ℕ} {pending : List PlainPending} {before : List PlainToken} → Spells bound pending before →
    (value : PlainValue) (inside ts : List PlainToken) → Reads 0 inside → ts ≡ before ++ inside → Spelled (after_closing value pending) (ts ++ closing ∷ [])
closes starts value inside ts r e = tt
closes (in_parenthesis {bound = bound} {before = front} {whole = whole} s c) value inside ts r e = (
  bound,
  front,
  opening ∷ (inside ++ closing ∷ []),
  s,
  (r.0, suc r.1, in_parentheses refl r.2),
  joined ts whole inside front (opening ∷ [])
      (closing ∷ []) e c,
)
closes (in_arguments {bound = bound} {op = op} {before = front} {whole = whole} own s f c) value inside ts r e =
    let all = f inside (more r.0 none, r.1, last_argument r.2) in (
      bound,
      front,
      function op ∷ opening ∷ (own ++ (inside ++ closing ∷ [])),
      s,
      (node op all.0, suc all.1, function_call (sym (append_assoc own inside (closing ∷ []))) all.2),
      joined ts whole inside front
          (function op ∷ opening ∷ own) (closing ∷ []) e c,
    )
closes (in_test left s h t c) value inside ts r e = tt
closes (waits {first = unary op} n own s j i b f g t c) value inside ts r e = tt
closes (waits {first = binary op l} n own s j i b f g t c) value inside ts r e = tt
closes (waits {first = test l} n own s j i b f g t c) value inside ts r e = tt
closes (waits {first = branch l m} n own s j i b f g t c) value inside ts r e = tt
closes (waits {first = parenthesis} n own s j i b f g t c) value inside ts r e = absurd (true≢false (sym b))
closes (waits {first = arguments op l} n own s j i b f g t c) value inside ts r e = absurd (true≢false (sym b))

comma_opens : {bound : ℕ} {pending : List PlainPending} (op : Op) (operands more_operands : PlainRow) (own front whole inside ts : List PlainToken) →
    Spells bound pending front → ((rest : List PlainToken) → ReadsArguments op rest → ReadsArguments op (own ++ rest)) →
    whole ≡ front ++ (function op ∷ opening ∷ own) → Reads 0 inside → ts ≡ whole ++ inside → takes_more op ≡ true →
    Spells 0 (arguments op more_operands ∷ pending) (ts ++ comma ∷ [])
comma_opens op operands more_operands own front whole inside ts s f c r e takes =
    in_arguments (own ++ (inside ++ comma ∷ [])) s
    (λ rest a. subst (ReadsArguments op) (sym (append_assoc own (inside ++ comma ∷ []) rest ∙ ap (λ x. own ++ x) (append_assoc inside (comma ∷ []) rest)))
    (f (inside ++ comma ∷ rest) (more r.0 a.0, max r.1 a.1, next_argument takes refl r.2 a.2)))
    (joined ts whole inside front (function op ∷ opening ∷ own) (comma ∷ []) e c)

-- `,`
parts : {bound : ℕ} {pending : List PlainPending} {before : List PlainToken} → Spells bound pending before →
    (value : PlainValue) (inside ts : List PlainToken) → Reads 0 inside → ts ≡ before ++ inside → Spelled (after_comma value pending) (ts ++ comma ∷ [])
parts starts value inside ts r e = tt
parts (in_parenthesis s c) value inside ts r e = tt
parts (in_arguments {op = op} {operands = operands} {pending = pending} {before = front} {whole = whole} own s f c) value inside ts r e =
    go (takes_more op) refl
  where
    go : (v : Bool) → takes_more op ≡ v → Spelled (after_comma value (arguments op operands ∷ pending)) (ts ++ comma ∷ [])
    go true holds = rw (holds, after_comma) (0, comma_opens op operands _ own front whole inside ts s f c r e holds)
    go false never = rw (never, after_comma) tt
parts (in_test left s h t c) value inside ts r e = tt
parts (waits {first = unary op} n own s j i b f g t c) value inside ts r e = tt
parts (waits {first = binary op l} n own s j i b f g t c) value inside ts r e = tt
parts (waits {first = test l} n own s j i b f g t c) value inside ts r e = tt
parts (waits {first = branch l m} n own s j i b f g t c) value inside ts r e = tt
parts (waits {first = parenthesis} n own s j i b f g t c) value inside ts r e = tt
parts (waits {first = arguments op l} n own s j i b f g t c) value inside ts r e = absurd (true≢false (sym b))

-- `condition ? chosen : other`, from the left
chosen_cut : (left inside right : List PlainToken) →
    ((left ++ operator Choose ∷ []) ++ (inside ++ colon ∷ [])) ++ right ≡ left ++ operator Choose ∷ (inside ++ colon ∷ right)
chosen_cut left inside right =
    append_assoc (left ++ operator Choose ∷ []) (inside ++ colon ∷ []) right
    ∙ ap (λ x. (left ++ operator Choose ∷ []) ++ x) (append_assoc inside (colon ∷ []) right)
    ∙ append_assoc left (operator Choose ∷ []) (inside ++ colon ∷ right)

-- `:`
chooses : {bound : ℕ} {pending : List PlainPending} {before : List PlainToken} → Spells bound pending before →
    (value : PlainValue) (inside ts : List PlainToken) → Reads 0 inside → ts ≡ before ++ inside → Spelled (after_colon value pending) (ts ++ colon ∷ [])
chooses starts value inside ts r e = tt
chooses (in_parenthesis s c) value inside ts r e = tt
chooses (in_arguments own s f c) value inside ts r e = tt
chooses (in_test {before = front} {whole = whole} left s h t c) value inside ts r e = (
  0,
  waits 0 ((left ++ operator Choose ∷ []) ++ (inside ++ colon ∷ [])) s h (omega arith) refl
      (λ k j b. reaches-true k 0 b)
      (λ op m k p q b. omega arith)
      (λ right o. (node Choose (more t.0 (more r.0 (more o.0 none))), suc (max (max t.1 r.1) o.1), choice (chosen_cut left inside right) refl t.2 r.2 o.2))
      (joined ts whole inside front (left ++ operator Choose ∷ []) (colon ∷ []) e c),
)
chooses (waits {first = unary op} n own s j i b f g t c) value inside ts r e = tt
chooses (waits {first = binary op l} n own s j i b f g t c) value inside ts r e = tt
chooses (waits {first = test l} n own s j i b f g t c) value inside ts r e = absurd (true≢false (sym b))
chooses (waits {first = branch l m} n own s j i b f g t c) value inside ts r e = tt
chooses (waits {first = parenthesis} n own s j i b f g t c) value inside ts r e = tt
chooses (waits {first = arguments op l} n own s j i b f g t c) value inside ts r e = tt

some_same : (a b : ℕ) → Some a ≡ Some b → a ≡ b
some_same a b e = cc

appended : (ts before inside tail : List PlainToken) → ts ≡ before ++ inside → ts ++ tail ≡ before ++ (inside ++ tail)
appended ts before inside tail e = ap (λ x. x ++ tail) e ∙ append_assoc before inside tail

left_waits : (op : Op) (n : ℕ) (w : PlainWaiting) (ts : List PlainToken) → binding op ≡ Leftwards n → Gathered n w ts →
    Spells (suc n) (binary op w.value ∷ w.pending) (ts ++ operator op ∷ [])
left_waits op n w ts e g =
    let lev : level_of op ≡ Some n = ap level e in
    let range = left_regular op n e in
    waits n (g.inside ++ operator op ∷ []) g.stack (g.stops op n lev (ap left_level e)) (omega (arith, range.1))
    (ap (reaches 0) lev ∙ reaches-yes 0 n (omega arith))
    (λ k h b. reaches-true k n (sym (ap (reaches k) lev) ∙ b))
    (λ other m k p q b. above other m k p (reaches-false k n (sym (ap (reaches k) lev) ∙ b)) (groups other k q))
    (λ right r. (
      node op (more g.low.0 (more r.0 none)),
      suc (max g.low.1 r.1),
      from_left e (omega arith)
          (append_assoc g.inside (operator op ∷ []) right) g.low.2 r.2,
    ))
    (appended ts g.before g.inside (operator op ∷ []) g.whole)
  where
    above : (other : Op) (m k : ℕ) → level_of other ≡ Some m → n < k → Groups other k → suc n ≤ m
    above other m k p h (groups_left b) = let same : m ≡ k = some_same m k (sym p ∙ ap level b) in omega (arith, same, h)
    above other m k p h (groups_right l b i) = far (some_same m l (sym p ∙ ap level b)) (left_regular op n e) (right_regular other l b)
      where
        far : m ≡ l → (0 < n) × (n < 13) → (l ≡ 13) ⊎ (l ≡ 0) → suc n ≤ m
        far same range (inl d) = omega (arith, same, range.1, d)
        far same range (inr d) = omega (arith, same, range.0, d, h, i)

right_waits : (op : Op) (n k : ℕ) (w : PlainWaiting) (ts : List PlainToken) → op ≢ Choose → binding op ≡ Rightwards n → k ≡ suc n → Gathered k w ts →
    Spells n (binary op w.value ∷ w.pending) (ts ++ operator op ∷ [])
right_waits op n k w ts other e j g =
    let lev : level_of op ≡ Some n = ap level e in
    let left : left_level_of op ≡ Some k = ap left_level e ∙ ap Some (omega (arith, j)) in
    waits n (g.inside ++ operator op ∷ []) g.stack (g.stops op n lev left) (low (right_regular op n e)) (ap (reaches 0) lev ∙ reaches-yes 0 n (omega arith))
    (λ l h b. reaches-true l n (sym (ap (reaches l) lev) ∙ b))
    (λ o m l p q b. above o m l p (reaches-false l n (sym (ap (reaches l) lev) ∙ b)) (groups o l q))
    (λ right r. (
      node op (more g.low.0 (more r.0 none)),
      suc (max g.low.1 r.1),
      from_right other e (omega arith)
          (append_assoc g.inside (operator op ∷ []) right) (level_less (suc n) (omega (arith, j)) g.low.2) r.2,
    ))
    (appended ts g.before g.inside (operator op ∷ []) g.whole)
  where
    low : (n ≡ 13) ⊎ (n ≡ 0) → n ≤ tightest
    low (inl d) = omega (arith, d)
    low (inr d) = omega (arith, d)

    above : (o : Op) (m l : ℕ) → level_of o ≡ Some m → n < l → Groups o l → n ≤ m
    above o m l p h (groups_left b) = let same : m ≡ l = some_same m l (sym p ∙ ap level b) in omega (arith, same, h)
    above o m l p h (groups_right i b d) = let same : m ≡ i = some_same m i (sym p ∙ ap level b) in omega (arith, same, h, d)

test_waits : (k : ℕ) (w : PlainWaiting) (ts : List PlainToken) → left_level_of Choose ≡ Some k → Gathered k w ts →
    Spells 0 (test w.value ∷ w.pending) (ts ++ operator Choose ∷ [])
test_waits k w ts e g =
    in_test g.inside g.stack (g.stops Choose 0 refl e) (reads_less k 1 g.inside (omega (arith, some_same 1 k e)) g.low)
    (appended ts g.before g.inside (operator Choose ∷ []) g.whole)

-- an operator after what takes its left operand
operates : (op : Op) (k : ℕ) (w : PlainWaiting) (ts : List PlainToken) → left_level_of op ≡ Some k → Gathered k w ts →
    Spelled (wants_after (with_left op w.value) w.pending) (ts ++ operator op ∷ [])
operates op k w ts e g = go (choose_or_not op)
  where
    plain : op ≢ Choose → (bound : ℕ) → Spells bound (binary op w.value ∷ w.pending) (ts ++ operator op ∷ []) →
        Spelled (wants_after (with_left op w.value) w.pending) (ts ++ operator op ∷ [])
    plain other bound s = subst (λ p. Spelled (wants_after p w.pending) (ts ++ operator op ∷ [])) (sym (left_binary op w.value other)) (bound, s)

    by_group : op ≢ Choose → Groups op k → Spelled (wants_after (with_left op w.value) w.pending) (ts ++ operator op ∷ [])
    by_group other (groups_left b) = plain other (suc k) (left_waits op k w ts b g)
    by_group other (groups_right n b j) = plain other n (right_waits op n k w ts other b j g)

    go : (op ≡ Choose) ⊎ (op ≢ Choose) → Spelled (wants_after (with_left op w.value) w.pending) (ts ++ operator op ∷ [])
    go (inl c) =
        subst (λ o. Spelled (wants_after (with_left o w.value) w.pending) (ts ++ operator o ∷ [])) (sym c)
        (0, test_waits k w ts (ap left_level_of (sym c) ∙ e) g)
    go (inr other) = by_group other (groups op k e)

left_within : (op : Op) (k : ℕ) → left_level_of op ≡ Some k → k ≤ tightest
left_within op k e = go (groups op k e)
  where
    go : Groups op k → k ≤ tightest
    go (groups_left b) = let range = left_regular op k b in omega (arith, range.1)
    go (groups_right n b j) = far (right_regular op n b)
      where
        far : (n ≡ 13) ⊎ (n ≡ 0) → k ≤ tightest
        far (inl d) = omega (arith, d, j)
        far (inr d) = omega (arith, d, j)

gathers_has : (k : ℕ) (w : PlainWaiting) (ts : List PlainToken) → k ≤ tightest → Spelled (has w) ts → Gathered k (gathered k w.pending w.value) ts
gathers_has k w ts h s = gathers k h s.3 w.value s.2 ts (of_operand k s.2 s.4) (of_operand s.0 s.2 s.4) s.5

after_operator : (op : Op) (w : PlainWaiting) (ts : List PlainToken) → Spelled (has w) ts → (o : Option ℕ) → left_level_of op ≡ o →
    Spelled (state_with_operator op o w) (ts ++ operator op ∷ [])
after_operator op w ts s None e = tt
after_operator op w ts s (Some k) e = operates op k (gathered k w.pending w.value) ts e (gathers_has k w ts (left_within op k e) s)

having : (w : PlainWaiting) (token : PlainToken) (ts : List PlainToken) → Spelled (has w) ts → Spelled (step (has w) token) (ts ++ token ∷ [])
having w (operand expr) ts s = tt
having w (operator op) ts s = after_operator op w ts s (left_level_of op) refl
having w (function op) ts s = tt
having w opening ts s = tt
having w closing ts s = let g = gathers_has 0 w ts (omega arith) s in closes g.stack (gathered 0 w.pending w.value).value g.inside ts g.low g.whole
having w comma ts s = let g = gathers_has 0 w ts (omega arith) s in parts g.stack (gathered 0 w.pending w.value).value g.inside ts g.low g.whole
having w colon ts s = let g = gathers_has 0 w ts (omega arith) s in chooses g.stack (gathered 0 w.pending w.value).value g.inside ts g.low g.whole

steps : (s : PlainState) (token : PlainToken) (ts : List PlainToken) → Spelled s ts → Spelled (step s token) (ts ++ token ∷ [])
steps (wants pending) token ts h = wanting pending token ts h
steps (calls op pending) token ts h = calling op pending token ts h
steps (has w) token ts h = having w token ts h
steps wrong token ts h = tt

folds : (rest : List PlainToken) (s : PlainState) (ts : List PlainToken) → Spelled s ts → Spelled (fold step s rest) (ts ++ rest)
folds [] s ts h = subst (Spelled s) (sym (append-nil ts)) h
folds (token ∷ rest) s ts h =
    subst (Spelled (fold step (step s token) rest)) (append_assoc ts (token ∷ []) rest) (folds rest (step s token) (ts ++ token ∷ []) (steps s token ts h))

-- ---- the end ----

whole_read : {bound : ℕ} {before : List PlainToken} → Spells bound [] before → before ≡ []
whole_read starts = refl

ends_well : (pending : List PlainPending) (value : PlainValue) (ts : List PlainToken) → Gathered 0 (waiting pending value) ts →
    (outcome_of value pending ≡ malformed) ⊎ Reads 0 ts
ends_well [] value ts g = inr (subst (Reads 0) (sym (g.whole ∙ ap (λ x. x ++ g.inside) (whole_read g.stack))) g.low)
ends_well (first ∷ pending) (nested expr depth) ts g = inl refl
ends_well (first ∷ pending) too_deep ts g = inl refl

ends : (s : PlainState) (ts : List PlainToken) → Spelled s ts → (final_outcome s ≡ malformed) ⊎ Reads 0 ts
ends (wants pending) ts h = inl refl
ends (calls op pending) ts h = inl refl
ends (has w) ts h = ends_well (gathered 0 w.pending w.value).pending (gathered 0 w.pending w.value).value ts (gathers_has 0 w ts (omega arith) h)
ends wrong ts h = inl refl

-- what isn't malformed, the grammar spells
pub spelled_or_not : (ts : List PlainToken) → (tree_of ts ≡ malformed) ⊎ Reads 0 ts
spelled_or_not ts = ends (fold step (wants []) ts) ts (folds ts (wants []) [] (0, starts))
