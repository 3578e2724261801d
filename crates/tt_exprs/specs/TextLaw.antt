-- From a text to its tree: what the functions and the grammars have to do with one another.
use Rattle.std.specs.Prelude.{◌≡◌, ℕ, ◌≤◌, ◌<◌, ◌↔◌, List}
use Rattle.tt_exprs.specs.Trees.{PlainExpr, tree, bad}
use Rattle.tt_exprs.specs.Tokens.{PlainToken, Tokens, read, refused_word, stopped, tokens}
use Rattle.tt_exprs.specs.TokenGrammar.{HasTokens}
use Rattle.tt_exprs.specs.ExprGrammar.{IsExpr}
use Rattle.tt_exprs.specs.Parsing.{most_nested, bareword_error, syntax_error, depth_error, parse}

-- the function cuts each text into the tokens that the grammar has, and no others
abbrev pub TokenLaw : Type 0
TokenLaw = (text : List ℕ) (found : Tokens) → (tokens 0 text ≡ found) ↔ HasTokens text found

-- the tokens of a text spell this tree, which is nested so deeply
abbrev pub SpellsTree : List ℕ → PlainExpr → ℕ → Type 0
SpellsTree text expr depth = (ts : List PlainToken) × HasTokens text (read ts) × IsExpr ts expr depth

-- a text has a tree exactly if its tokens spell one that is nested no deeper than may be, and that one
abbrev pub TextTreeLaw : Type 0
TextTreeLaw =
    (text : List ℕ) (expr : PlainExpr) →
    (parse text ≡ tree expr) ↔ ((depth : ℕ) × SpellsTree text expr depth × (depth ≤ most_nested))

-- which error a text has that has no tree
pub record TextErrorLaw : Type 0 where
  -- the first bare word that says nothing
  pub bareword : (text word : List ℕ) → HasTokens text (refused_word word) → parse text ≡ bad (bareword_error word)
  -- if no token begins
  pub stop : (text : List ℕ) → HasTokens text stopped → parse text ≡ bad (syntax_error text)
  -- tokens that spell no tree
  pub form :
      (text : List ℕ) (ts : List PlainToken) →
      HasTokens text (read ts) →
      ((expr : PlainExpr) (depth : ℕ) → IsExpr ts expr depth → ⊥) →
      parse text ≡ bad (syntax_error text)
  -- a tree that is nested deeper than may be
  pub depth :
      (text : List ℕ) (expr : PlainExpr) (depth : ℕ) →
      SpellsTree text expr depth →
      most_nested < depth →
      parse text ≡ bad depth_error
