-- What the tokens of a text come to.
use Rattle.std.proofs.Common.{◌≡◌, ℕ, List, [], refl, ap}
use Rattle.tt_exprs.specs.Trees.{bad}
use Rattle.tt_exprs.specs.inside.Cutting.{reading_answer, comes_to}
use Rattle.tt_exprs.specs.Tokens.{PlainToken, Tokens, read, refused_word, stopped, tokens}
use Rattle.tt_exprs.specs.Parsing.{wants, parse, parse_of_tokens, parse_answer, tree_of, bareword_error, syntax_error}

module _ (text : List ℕ) where
  pub parse-read : (ts : List PlainToken) → tokens 0 text ≡ read ts → parse text ≡ parse_answer text (tree_of ts)
  unfolding parse
  parse-read ts e = ap (parse_of_tokens text) e

  pub parse-refused : (word : List ℕ) → tokens 0 text ≡ refused_word word → parse text ≡ bad (bareword_error word)
  unfolding parse
  parse-refused word e = ap (parse_of_tokens text) e

  pub parse-stopped : tokens 0 text ≡ stopped → parse text ≡ bad (syntax_error text)
  unfolding parse
  parse-stopped e = ap (parse_of_tokens text) e

  -- the tokens one by one
  pub parse-answer : reading_answer text (comes_to (wants []) (tokens 0 text)) ≡ parse text
  unfolding parse
  parse-answer = go (tokens 0 text)
    where
      go : (found : Tokens) → reading_answer text (comes_to (wants []) found) ≡ parse_of_tokens text found
      go (read ts) = refl
      go (refused_word word) = refl
      go stopped = refl
