-- From a text to its tree.
use Rattle.std.proofs.Common.{◌≡◌, ℕ, ◌≤◌, List, ap, sym, ◌∙◌, refl}
use Rattle.tt_exprs.specs.Trees.{PlainExpr, tree, bad}
use Rattle.tt_exprs.specs.Tokens.{Tokens, read, refused_word, stopped, tokens}
use Rattle.tt_exprs.specs.Parsing.{PlainOutcome, good, malformed, nested_too_deeply, tree_of, most_nested, parse_answer}
use Rattle.tt_exprs.specs.Parsing.{bareword_error, syntax_error, depth_error, parse}
use Rattle.tt_exprs.specs.TokenGrammar.{HasTokens}
use Rattle.tt_exprs.specs.TextLaw.{SpellsTree, TextTreeLaw, TextErrorLaw}
use Rattle.tt_exprs.proofs.ParseSteps.{parse-read, parse-refused, parse-stopped}
use Rattle.tt_exprs.proofs.ExprLaw.{tree_law, depth_law, form_law}
use Rattle.tt_exprs.proofs.TokenLaw.{token_law}

has_these : (text : List ℕ) (found : Tokens) → HasTokens text found → tokens 0 text ≡ found
has_these text found h = (token_law text found).1 h

no_tree : (message : List ℕ) (expr : PlainExpr) → bad message ≡ tree expr → ⊥
no_tree message expr e = cc

-- what tokens come to that are answered by a tree
answered_tree : (text : List ℕ) (expr : PlainExpr) (outcome : PlainOutcome) → parse_answer text outcome ≡ tree expr → outcome ≡ good expr
answered_tree text expr (good other) e = let same : other ≡ expr = cc in ap good same
answered_tree text expr malformed e = absurd (no_tree (syntax_error text) expr e)
answered_tree text expr nested_too_deeply e = absurd (no_tree depth_error expr e)

pub text_tree_law : TextTreeLaw
text_tree_law text expr = (λ e. into (tokens 0 text) refl e, λ h. from h)
  where
    into : (found : Tokens) → tokens 0 text ≡ found → parse text ≡ tree expr → (depth : ℕ) × SpellsTree text expr depth × (depth ≤ most_nested)
    into (read ts) t e =
        let spelled = (tree_law ts expr).0 (answered_tree text expr (tree_of ts) (sym (parse-read text ts t) ∙ e)) in
        (spelled.0, (ts, (token_law text (read ts)).0 t, spelled.1), spelled.2)
    into (refused_word word) t e = absurd (no_tree (bareword_error word) expr (sym (parse-refused text word t) ∙ e))
    into stopped t e = absurd (no_tree (syntax_error text) expr (sym (parse-stopped text t) ∙ e))

    from : (depth : ℕ) × SpellsTree text expr depth × (depth ≤ most_nested) → parse text ≡ tree expr
    from h =
        parse-read text h.1.0 (has_these text (read h.1.0) h.1.1)
        ∙ ap (parse_answer text) ((tree_law h.1.0 expr).1 (h.0, h.1.2, h.2))

pub text_error_law : TextErrorLaw
text_error_law = record {
  bareword = λ text word h. parse-refused text word (has_these text (refused_word word) h);
  stop = λ text h. parse-stopped text (has_these text stopped h);
  form = λ text ts h none. parse-read text ts (has_these text (read ts) h) ∙ ap (parse_answer text) ((form_law ts).1 none);
  depth = λ text expr depth h deep. parse-read text h.0 (has_these text (read h.0) h.1) ∙ ap (parse_answer text) ((depth_law h.0).1 (expr, depth, h.2, deep));
}
