-- The function that makes a tree of tokens is the grammar of expressions.
use Rattle.std.proofs.Common.{◌≡◌, ◌⊎◌, ℕ, ◌<◌, ◌≤◌, List, [], ap, sym, ◌∙◌, subst, inl, inr}
use Rattle.tt_exprs.specs.Trees.{PlainExpr}
use Rattle.tt_exprs.specs.Tokens.{PlainToken}
use Rattle.tt_exprs.specs.Parsing.{most_nested, good, malformed, nested_too_deeply, outcome_of, tree_of}
use Rattle.tt_exprs.specs.ExprGrammar.{IsExpr, TreeLaw, DepthLaw, FormLaw}
use Rattle.tt_exprs.proofs.ExprTables.{worth-in, worth-out, fits_or_not}
use Rattle.tt_exprs.proofs.ExprReads.{grammar_read}
use Rattle.tt_exprs.proofs.ExprSpells.{Reads, spelled_or_not}

read_in : {ts : List PlainToken} {expr : PlainExpr} {depth : ℕ} → IsExpr ts expr depth → depth ≤ most_nested → tree_of ts ≡ good expr
read_in {expr = expr} {depth = depth} h low = grammar_read h ∙ ap (λ v. outcome_of v []) (worth-in expr depth low)

read_out : {ts : List PlainToken} {expr : PlainExpr} {depth : ℕ} → IsExpr ts expr depth → most_nested < depth → tree_of ts ≡ nested_too_deeply
read_out {expr = expr} {depth = depth} h high = grammar_read h ∙ ap (λ v. outcome_of v []) (worth-out expr depth high)

good_same : (a b : PlainExpr) → good a ≡ good b → a ≡ b
good_same a b e = cc

good_formed : (a : PlainExpr) → good a ≡ malformed → ⊥
good_formed a e = cc

good_shallow : (a : PlainExpr) → good a ≡ nested_too_deeply → ⊥
good_shallow a e = cc

deep_formed : nested_too_deeply ≡ malformed → ⊥
deep_formed e = cc

pub tree_law : TreeLaw
tree_law ts expr = (λ e. found e (spelled_or_not ts), λ h. read_in h.1 h.2)
  where
    fitting : tree_of ts ≡ good expr → (r : Reads 0 ts) → (r.1 ≤ most_nested) ⊎ (most_nested < r.1) → (depth : ℕ) × IsExpr ts expr depth × (depth ≤ most_nested)
    fitting e r (inl low) = (r.1, subst (λ x. IsExpr ts x r.1) (good_same r.0 expr (sym (read_in r.2 low) ∙ e)) r.2, low)
    fitting e r (inr high) = absurd (good_shallow expr (sym e ∙ read_out r.2 high))

    found : tree_of ts ≡ good expr → (tree_of ts ≡ malformed) ⊎ Reads 0 ts → (depth : ℕ) × IsExpr ts expr depth × (depth ≤ most_nested)
    found e (inl bad) = absurd (good_formed expr (sym e ∙ bad))
    found e (inr r) = fitting e r (fits_or_not r.1)

pub depth_law : DepthLaw
depth_law ts = (λ e. found e (spelled_or_not ts), λ h. read_out h.2 h.3)
  where
    deeper : tree_of ts ≡ nested_too_deeply → (r : Reads 0 ts) → (r.1 ≤ most_nested) ⊎ (most_nested < r.1) → (expr : PlainExpr) × (depth : ℕ)
        × IsExpr ts expr depth × (most_nested < depth)
    deeper e r (inl low) = absurd (good_shallow r.0 (sym (read_in r.2 low) ∙ e))
    deeper e r (inr high) = (r.0, r.1, r.2, high)

    found : tree_of ts ≡ nested_too_deeply → (tree_of ts ≡ malformed) ⊎ Reads 0 ts → (expr : PlainExpr) × (depth : ℕ) × IsExpr ts expr depth
        × (most_nested < depth)
    found e (inl bad) = absurd (deep_formed (sym e ∙ bad))
    found e (inr r) = deeper e r (fits_or_not r.1)

pub form_law : FormLaw
form_law ts = (λ e expr depth h. none e h (fits_or_not depth), λ h. found h (spelled_or_not ts))
  where
    none : tree_of ts ≡ malformed → {expr : PlainExpr} {depth : ℕ} → IsExpr ts expr depth → (depth ≤ most_nested) ⊎ (most_nested < depth) → ⊥
    none e {expr} {depth} h (inl low) = good_formed expr (sym (read_in h low) ∙ e)
    none e {expr} {depth} h (inr high) = deep_formed (sym (read_out h high) ∙ e)

    found : ((expr : PlainExpr) (depth : ℕ) → IsExpr ts expr depth → ⊥) → (tree_of ts ≡ malformed) ⊎ Reads 0 ts → tree_of ts ≡ malformed
    found h (inl bad) = bad
    found h (inr r) = absurd (h r.0 r.1 r.2)
