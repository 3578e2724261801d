-- What the grammar spells, the function reads.
use Rattle.std.proofs.Common.{◌≡◌, ◌≢◌, ℕ, suc, ◌<◌, ◌≤◌, max, true, false, List, [], ◌∷◌, ◌++◌, fold, Some, refl, ap}
use Rattle.std.proofs.Common.{sym, ◌∙◌, append_assoc, arith, inl, inr, ◌⊎◌}
use Rattle.std.proofs.lemmas.List.Sums.{fold-append}
use Rattle.tt_exprs.specs.Trees.{PlainExpr, node, PlainExprs, none, more}
use Rattle.tt_exprs.specs.Operators.{binding, level, left_level, takes_more}
use Rattle.tt_exprs.specs.Tokens.{PlainToken, operator, function, opening, closing, comma, colon}
use Rattle.tt_exprs.specs.Parsing.{PlainValue, nested, PlainRow, no_operands, followed_by, in_a_row, operator_value}
use Rattle.tt_exprs.specs.Parsing.{PlainPending, unary, binary, test, branch, parenthesis, arguments, PlainWaiting}
use Rattle.tt_exprs.specs.Parsing.{gathered, binds, reaches, PlainState, wants, has, as_prefix, state_with_prefix, state_with_operator}
use Rattle.tt_exprs.specs.Parsing.{wants_after, with_left, after_comma, after_closing, after_colon, step, outcome_of}
use Rattle.tt_exprs.specs.Parsing.{final_outcome, tree_of, level_of, left_level_of}
use Rattle.tt_exprs.specs.ExprGrammar.{IsOperand, token_operand, in_parentheses, function_call, after_prefix}
use Rattle.tt_exprs.specs.ExprGrammar.{IsArguments, last_argument, next_argument, IsAtLevel, one_operand, from_left}
use Rattle.tt_exprs.specs.ExprGrammar.{from_right, choice}
use Rattle.tt_exprs.specs.declared.op.Op.{Op}
use Rattle.tt_exprs.specs.declared.op.Op.TheVariants.{Choose}
use Rattle.tt_exprs.specs.declared.operators.Binding.TheVariants.{Leftwards, Rightwards}
use Rattle.tt_exprs.proofs.StackSteps.{gathered-empty, gathered-takes, gathered-stops}
use Rattle.tt_exprs.proofs.ExprTables.{Groups, groups_left, groups_right, groups, left_regular, right_regular}
use Rattle.tt_exprs.proofs.ExprTables.{left_binary, leftwards_other, reaches-yes, reaches-no, worth, row_worth}
use Rattle.tt_exprs.proofs.ExprTables.{parenthesized-worth, applied-worth, followed-worth, unary-worth, binary-worth}
use Rattle.tt_exprs.proofs.ExprTables.{branch-worth}

-- what waits and an operand
abbrev pub waiting : List PlainPending → PlainValue → PlainWaiting
waiting pending value = record { pending = pending; value = value }

-- these tokens come to this operand over what waits: what binds no tighter than the bound sees it so
pub record Comes (bound : ℕ) (pending : List PlainPending) (ts : List PlainToken) (value : PlainValue) : Type 0 where
  pub w : PlainWaiting
  pub reached : fold step (wants pending) ts ≡ has w
  pub same : (k : ℕ) → k ≤ bound → gathered k w.pending w.value ≡ gathered k pending value

-- what waits leaves the left operand to every operator of this level or tighter
abbrev pub Leaves : ℕ → List PlainPending → Type 0
Leaves bound pending =
    (op : Op) (n k : ℕ) → level_of op ≡ Some n → left_level_of op ≡ Some k → bound ≤ n → (value : PlainValue) → gathered k pending value ≡ waiting pending value

leaves_more : (bound n : ℕ) (pending : List PlainPending) → bound ≤ n → Leaves bound pending → Leaves n pending
leaves_more bound n pending h l op m k e g j value = l op m k e g (omega (arith, h, j)) value

-- what is opened leaves everything
leaves_opened : (first : PlainPending) (pending : List PlainPending) → ((k : ℕ) → binds k first ≡ false) → Leaves 0 (first ∷ pending)
leaves_opened first pending h op n k e g j value = gathered-stops k first pending value (h k)

pub leaves_empty : Leaves 0 []
leaves_empty op n k e g j value = gathered-empty k value

some_same : (a b : ℕ) → Some a ≡ Some b → a ≡ b
some_same a b e = cc

-- the level of an operator is at most the one of its left operand, and above 0 that one is
left_above : (op : Op) (n k : ℕ) → level_of op ≡ Some n → left_level_of op ≡ Some k → (n ≤ k) × (0 < k)
left_above op n k e g = go (groups op k g)
  where
    go : Groups op k → (n ≤ k) × (0 < k)
    go (groups_left h) =
        let same : n ≡ k = some_same n k (sym e ∙ ap level h) in
        (omega (arith, same), (left_regular op k h).0)
    go (groups_right m h j) =
        let same : n ≡ m = some_same n m (sym e ∙ ap level h) in
        (omega (arith, same, j), omega (arith, j))

-- two operators of one level group alike
left_tighter : (op : Op) (n k m : ℕ) → level_of op ≡ Some n → left_level_of op ≡ Some k → (m ≡ 13) ⊎ (m ≡ 0) → m ≤ n → m < k
left_tighter op n k m e g r h = go (groups op k g)
  where
    go : Groups op k → m < k
    go (groups_left j) =
        let same : n ≡ k = some_same n k (sym e ∙ ap level j) in
        let low = left_regular op k j in
        far low.0 low.1 same r
      where
        far : 0 < k → k < 13 → n ≡ k → (m ≡ 13) ⊎ (m ≡ 0) → m < k
        far a b c (inl d) = absurd (omega (arith, a, b, c, d, h))
        far a b c (inr d) = omega (arith, a, d)
    go (groups_right l j i) =
        let same : n ≡ l = some_same n l (sym e ∙ ap level j) in
        omega (arith, same, i, h)

leaves_left : (op : Op) (n : ℕ) (value : PlainValue) (pending : List PlainPending) → binding op ≡ Leftwards n → Leaves (suc n) (binary op value ∷ pending)
leaves_left op n value pending e other m k f g h v =
    let above = left_above other m k f g in
    gathered-stops k (binary op value) pending v (ap (reaches k) (ap level e) ∙ reaches-no k n (omega (arith, above.0, h)))

leaves_right : (op : Op) (n : ℕ) (value : PlainValue) (pending : List PlainPending) → binding op ≡ Rightwards n → Leaves n (binary op value ∷ pending)
leaves_right op n value pending e other m k f g h v =
    gathered-stops k (binary op value) pending v (ap (reaches k) (ap level e) ∙ reaches-no k n (left_tighter other m k n f g (right_regular op n e) h))

leaves_branch : (condition chosen : PlainValue) (pending : List PlainPending) → Leaves 0 (branch condition chosen ∷ pending)
leaves_branch condition chosen pending other m k f g h v =
    let above = left_above other m k f g in
    gathered-stops k (branch condition chosen) pending v (reaches-no k 0 above.1)

-- tokens, a token and tokens
through : (s : PlainState) (ts left right : List PlainToken) (token : PlainToken) → ts ≡ left ++ token ∷ right →
    fold step s ts ≡ fold step (step (fold step s left) token) right
through s ts left right token e = ap (fold step s) e ∙ fold-append step s left (token ∷ right)

has_same : (a b : PlainWaiting) → a ≡ b → has a ≡ has b
has_same a b e = ap has e

-- an operator after what comes to its left operand
operated-on : (op : Op) (k : ℕ) (w : PlainWaiting) (pending : List PlainPending) (value : PlainValue) → op ≢ Choose → left_level_of op ≡ Some k →
    gathered k w.pending w.value ≡ waiting pending value → step (has w) (operator op) ≡ wants (binary op value ∷ pending)
operated-on op k w pending value h e g =
    ap (λ l. state_with_operator op l w) e
    ∙ ap (λ (x : PlainWaiting). wants_after (with_left op x.value) x.pending) g
    ∙ ap (λ p. wants (p ∷ pending)) (left_binary op value h)

comes_binary : (bound n k right_bound : ℕ) (op : Op) (ts left right : List PlainToken) (pending : List PlainPending) (a b : PlainExpr) (d e : ℕ) →
    op ≢ Choose → level_of op ≡ Some n → left_level_of op ≡ Some k → bound ≤ n → n ≤ right_bound → ts ≡ left ++ operator op ∷ right →
    Leaves bound pending → Comes k pending left (worth a d) → Comes right_bound (binary op (worth a d) ∷ pending) right (worth b e) →
    Comes bound pending ts (worth (node op (more a (more b none))) (suc (max d e)))
comes_binary bound n k right_bound op ts left right pending a b d e other lev left_lev h j cut l one two =
    let stops : gathered k one.w.pending one.w.value ≡ waiting pending (worth a d) = one.same k (omega arith) ∙ l op n k lev left_lev h (worth a d) in
    record {
      w = two.w;
      reached = through (wants pending) ts left right (operator op) cut
          ∙ ap (λ s. fold step (step s (operator op)) right) one.reached
          ∙ ap (λ s. fold step s right) (operated-on op k one.w pending (worth a d) other left_lev stops)
          ∙ two.reached;
      same = λ m i.
          two.same m (omega (arith, i, h, j))
          ∙ gathered-takes m (binary op (worth a d)) pending (worth b e) (ap (reaches m) lev ∙ reaches-yes m n (omega (arith, i, h)))
          ∙ ap (gathered m pending) (binary-worth op a b d e);
    }

comes_choice : (ts condition branches chosen other : List PlainToken) (pending : List PlainPending) (a b c : PlainExpr) (d e f : ℕ) →
    ts ≡ condition ++ operator Choose ∷ branches → branches ≡ chosen ++ colon ∷ other → Leaves 0 pending → Comes 1 pending condition (worth a d) →
    Comes 0 (test (worth a d) ∷ pending) chosen (worth b e) → Comes 0 (branch (worth a d) (worth b e) ∷ pending) other (worth c f) →
    Comes 0 pending ts (worth (node Choose (more a (more b (more c none)))) (suc (max (max d e) f)))
comes_choice ts condition branches chosen other pending a b c d e f cut cut_again l one two three =
    let stops : gathered 1 one.w.pending one.w.value ≡ waiting pending (worth a d) =
    one.same 1 (omega arith) ∙ l Choose 0 1 refl refl (omega arith) (worth a d) in
    let opened : gathered 0 two.w.pending two.w.value ≡ waiting (test (worth a d) ∷ pending) (worth b e) =
    two.same 0 (omega arith) ∙ gathered-stops 0 (test (worth a d)) pending (worth b e) refl in
    record {
      w = three.w;
      reached = through (wants pending) ts condition branches (operator Choose) cut
          ∙ ap (λ s. fold step (step s (operator Choose)) branches) one.reached
          ∙ ap (λ (x : PlainWaiting). fold step (wants (test x.value ∷ x.pending)) branches) stops
          ∙ through (wants (test (worth a d) ∷ pending)) branches chosen other colon cut_again
          ∙ ap (λ s. fold step (step s colon) other) two.reached
          ∙ ap (λ (x : PlainWaiting). fold step (after_colon x.value x.pending) other) opened
          ∙ three.reached;
      same = λ m i.
          three.same m i
          ∙ gathered-takes m (branch (worth a d) (worth b e)) pending (worth c f) (reaches-yes m 0 i)
          ∙ ap (gathered m pending) (branch-worth a b c d e f);
    }

comes_parentheses : (bound : ℕ) (ts inside : List PlainToken) (pending : List PlainPending) (a : PlainExpr) (d : ℕ) → ts ≡ inside ++ closing ∷ [] →
    Comes 0 (parenthesis ∷ pending) inside (worth a d) → Comes bound pending (opening ∷ ts) (worth a (suc d))
comes_parentheses bound ts inside pending a d cut one =
    let opened : gathered 0 one.w.pending one.w.value ≡ waiting (parenthesis ∷ pending) (worth a d) =
    one.same 0 (omega arith) ∙ gathered-stops 0 parenthesis pending (worth a d) refl in
    record {
      w = waiting pending (worth a (suc d));
      reached = through (wants (parenthesis ∷ pending)) ts inside [] closing cut
          ∙ ap (λ s. step s closing) one.reached
          ∙ ap (λ (x : PlainWaiting). after_closing x.value x.pending) opened
          ∙ ap (λ v. has (waiting pending v)) (parenthesized-worth a d);
      same = λ m i. refl;
    }

comes_prefix : (bound : ℕ) (sign op : Op) (ts : List PlainToken) (pending : List PlainPending) (a : PlainExpr) (d : ℕ) → as_prefix sign ≡ Some op →
    Comes bound (unary op ∷ pending) ts (worth a d) → Comes bound pending (operator sign ∷ ts) (worth (node op (more a none)) (suc d))
comes_prefix bound sign op ts pending a d e one = record {
  w = one.w;
  reached = ap (λ o. fold step (state_with_prefix pending o) ts) e ∙ one.reached;
  same = λ m i.
      one.same m i
      ∙ gathered-takes m (unary op) pending (worth a d) refl
      ∙ ap (gathered m pending) (unary-worth op a d);
}

-- a row before others
abbrev pub in_front : List PlainExpr → PlainExprs → PlainExprs
in_front [] exprs = exprs
in_front (expr ∷ before) exprs = more expr (in_front before exprs)

in_front-row : (before : List PlainExpr) (expr : PlainExpr) → in_a_row (before ++ expr ∷ []) ≡ in_front before (more expr none)
in_front-row [] expr = refl
in_front-row (first ∷ before) expr = ap (more first) (in_front-row before expr)

in_front-more : (before : List PlainExpr) (expr : PlainExpr) (exprs : PlainExprs) → in_front (before ++ expr ∷ []) exprs ≡ in_front before (more expr exprs)
in_front-more [] expr exprs = refl
in_front-more (first ∷ before) expr exprs = ap (more first) (in_front-more before expr exprs)

in_front-none : (exprs : PlainExprs) → in_front [] exprs ≡ exprs
in_front-none exprs = refl

-- the operands of a function up to its `)`, after others
abbrev pub Called : Op → List PlainPending → List PlainExpr → ℕ → List PlainToken → PlainExprs → ℕ → Type 0
Called op pending before deepest inside exprs depth =
    fold step (wants (arguments op (row_worth before deepest) ∷ pending)) (inside ++ closing ∷ []) ≡ has
    (waiting pending (worth (node op (in_front before exprs)) (suc (max deepest depth))))

-- what waits inside a function, after an operand that is whole
whole_argument : (op : Op) (operands : PlainRow) (pending : List PlainPending) (inside : List PlainToken) (value : PlainValue) →
    (one : Comes 0 (arguments op operands ∷ pending) inside value) → gathered 0 one.w.pending one.w.value ≡ waiting (arguments op operands ∷ pending) value
whole_argument op operands pending inside value one = one.same 0 (omega arith) ∙ gathered-stops 0 (arguments op operands) pending value refl

called_last : (op : Op) (pending : List PlainPending) (before : List PlainExpr) (deepest : ℕ) (inside : List PlainToken) (a : PlainExpr) (d : ℕ) →
    Comes 0 (arguments op (row_worth before deepest) ∷ pending) inside (worth a d) → Called op pending before deepest inside (more a none) d
called_last op pending before deepest inside a d one =
    fold-append step (wants (arguments op (row_worth before deepest) ∷ pending)) inside (closing ∷ [])
    ∙ ap (λ s. step s closing) one.reached
    ∙ ap (λ (x : PlainWaiting). after_closing x.value x.pending) (whole_argument op (row_worth before deepest) pending inside (worth a d) one)
    ∙ ap (λ r. has (waiting pending (operator_value op r))) (followed-worth before a deepest d)
    ∙ ap (λ v. has (waiting pending v)) (applied-worth op (before ++ a ∷ []) (max deepest d))
    ∙ ap (λ x. has (waiting pending (worth (node op x) (suc (max deepest d))))) (in_front-row before a)

comma-more : (op : Op) (operands : PlainRow) (pending : List PlainPending) (value : PlainValue) → takes_more op ≡ true →
    after_comma value (arguments op operands ∷ pending) ≡ wants (arguments op (followed_by operands value) ∷ pending)
comma-more op operands pending value e = rw (e, after_comma) refl

called_next : (op : Op) (pending : List PlainPending) (before : List PlainExpr) (deepest : ℕ) (inside first others : List PlainToken) (a : PlainExpr)
    (exprs : PlainExprs) (d e : ℕ) → takes_more op ≡ true → inside ≡ first ++ comma ∷ others →
    Comes 0 (arguments op (row_worth before deepest) ∷ pending) first (worth a d) → Called op pending (before ++ a ∷ []) (max deepest d) others exprs e →
    Called op pending before deepest inside (more a exprs) (max d e)
called_next op pending before deepest inside first others a exprs d e more_of cut one two =
    let state : PlainState = wants (arguments op (row_worth before deepest) ∷ pending) in
    ap (λ x. fold step state (x ++ closing ∷ [])) cut
    ∙ ap (fold step state) (append_assoc first (comma ∷ others) (closing ∷ []))
    ∙ fold-append step state first (comma ∷ (others ++ closing ∷ []))
    ∙ ap (λ s. fold step (step s comma) (others ++ closing ∷ [])) one.reached
    ∙ ap (λ (x : PlainWaiting). fold step (after_comma x.value x.pending) (others ++ closing ∷ []))
    (whole_argument op (row_worth before deepest) pending first (worth a d) one)
    ∙ ap (λ s. fold step s (others ++ closing ∷ [])) (comma-more op (row_worth before deepest) pending (worth a d) more_of)
    ∙ ap (λ r. fold step (wants (arguments op r ∷ pending)) (others ++ closing ∷ [])) (followed-worth before a deepest d)
    ∙ two
    ∙ ap (λ x. has (waiting pending (worth (node op x) (suc (max (max deepest d) e))))) (in_front-more before a exprs)
    ∙ ap (λ n. has (waiting pending (worth (node op (in_front before (more a exprs))) (suc n)))) (omega arith)

comes_call : (bound : ℕ) (op : Op) (ts inside : List PlainToken) (pending : List PlainPending) (exprs : PlainExprs) (d : ℕ) → ts ≡ inside ++ closing ∷ [] →
    Called op pending [] 0 inside exprs d → Comes bound pending (function op ∷ opening ∷ ts) (worth (node op exprs) (suc d))
comes_call bound op ts inside pending exprs d cut called = record {
  w = waiting pending (worth (node op exprs) (suc d));
  reached = ap (fold step (wants (arguments op no_operands ∷ pending))) cut
      ∙ called
      ∙ ap (λ x. has (waiting pending (worth (node op x) (suc (max 0 d))))) (in_front-none exprs)
      ∙ ap (λ n. has (waiting pending (worth (node op exprs) (suc n)))) (omega arith);
  same = λ m i. refl;
}

opened-not : (k : ℕ) → binds k parenthesis ≡ false
opened-not k = refl

called-not : (op : Op) (operands : PlainRow) (k : ℕ) → binds k (arguments op operands) ≡ false
called-not op operands k = refl

test-not : (value : PlainValue) (k : ℕ) → binds k (test value) ≡ false
test-not value k = refl

mutual
  pub operand_comes : {ts : List PlainToken} {expr : PlainExpr} {depth : ℕ} → IsOperand ts expr depth → (bound : ℕ) (pending : List PlainPending) →
      Comes bound pending ts (worth expr depth)
  operand_comes (token_operand {expr = expr}) bound pending = record { w = waiting pending (nested expr 0); reached = refl; same = λ m i. refl }
  operand_comes (in_parentheses {depth = depth} {ts = ts} {inside = inside} {expr = expr} cut h) bound pending =
      comes_parentheses bound ts inside pending expr depth cut (level_comes h (parenthesis ∷ pending) (leaves_opened parenthesis pending opened-not))
  operand_comes (function_call {depth = depth} {op = op} {ts = ts} {inside = inside} {exprs = exprs} cut h) bound pending =
      comes_call bound op ts inside pending exprs depth cut (arguments_come h pending [] 0)
  operand_comes (after_prefix {depth = depth} {sign = sign} {op = op} {ts = ts} {expr = expr} e h) bound pending =
      comes_prefix bound sign op ts pending expr depth e (operand_comes h bound (unary op ∷ pending))

  pub arguments_come : {op : Op} {ts : List PlainToken} {exprs : PlainExprs} {depth : ℕ} → IsArguments op ts exprs depth →
      (pending : List PlainPending) (before : List PlainExpr) (deepest : ℕ) → Called op pending before deepest ts exprs depth
  arguments_come (last_argument {depth = depth} {op = op} {ts = ts} {expr = expr} h) pending before deepest =
      called_last op pending before deepest ts expr depth
      (level_comes h (arguments op (row_worth before deepest) ∷ pending)
      (leaves_opened (arguments op (row_worth before deepest)) pending (called-not op (row_worth before deepest))))
  arguments_come
      (next_argument {d =
      d} {e = e} {op = op} {ts = ts} {first = first} {others = others} {expr = expr} {exprs = exprs} takes cut h rest) pending before deepest =
      called_next op pending before deepest ts first others expr exprs d e takes cut
      (level_comes h (arguments op (row_worth before deepest) ∷ pending)
      (leaves_opened (arguments op (row_worth before deepest)) pending (called-not op (row_worth before deepest))))
      (arguments_come rest pending (before ++ expr ∷ []) (max deepest d))

  pub level_comes : {bound : ℕ} {ts : List PlainToken} {expr : PlainExpr} {depth : ℕ} → IsAtLevel bound ts expr depth → (pending : List PlainPending) →
      Leaves bound pending → Comes bound pending ts (worth expr depth)
  level_comes (one_operand {bound = bound} h) pending l = operand_comes h bound pending
  level_comes (from_left {bound =
      bound} {n = n} {d = d} {e = e} {op = op} {ts = ts} {left = left} {right = right} {a = a} {b = b} binds h cut one two) pending l =
      comes_binary bound n n (suc n) op ts left right pending a b d e (leftwards_other op n binds) (ap level binds) (ap left_level binds) h (omega arith) cut l
      (level_comes one pending (leaves_more bound n pending h l))
      (level_comes two (binary op (worth a d) ∷ pending) (leaves_left op n (worth a d) pending binds))
  level_comes (from_right {bound =
      bound} {n = n} {d = d} {e = e} {op = op} {ts = ts} {left = left} {right = right} {a = a} {b = b} other binds h cut one two) pending l =
      comes_binary bound n (suc n) n op ts left right pending a b d e other (ap level binds) (ap left_level binds ∙ ap Some (omega arith)) h (omega arith) cut l
      (level_comes one pending (leaves_more bound (suc n) pending (omega (arith, h)) l))
      (level_comes two (binary op (worth a d) ∷ pending) (leaves_right op n (worth a d) pending binds))
  level_comes (choice {d =
      d} {e = e} {f =
      f} {ts = ts} {condition =
      condition} {branches = branches} {chosen = chosen} {other = other} {a = a} {b = b} {c = c} cut cut_again one two three) pending l =
      comes_choice ts condition branches chosen other pending a b c d e f cut cut_again l
      (level_comes one pending (leaves_more 0 1 pending (omega arith) l))
      (level_comes two (test (worth a d) ∷ pending) (leaves_opened (test (worth a d)) pending (test-not (worth a d))))
      (level_comes three (branch (worth a d) (worth b e) ∷ pending) (leaves_branch (worth a d) (worth b e) pending))

-- what the grammar spells, the function comes to
pub grammar_read : {ts : List PlainToken} {expr : PlainExpr} {depth : ℕ} → IsAtLevel 0 ts expr depth → tree_of ts ≡ outcome_of (worth expr depth) []
grammar_read {expr = expr} {depth = depth} h =
    let one = level_comes h [] leaves_empty in
    ap final_outcome one.reached
    ∙ ap (λ (x : PlainWaiting). outcome_of x.value x.pending) (one.same 0 (omega arith) ∙ gathered-empty 0 (worth expr depth))
