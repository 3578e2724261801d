-- What the tokens of a text come to, taken one by one.
use Rattle.std.specs.Prelude.{ℕ, List, fold}
use Rattle.tt_exprs.specs.Trees.{PlainParsed, bad}
use Rattle.tt_exprs.specs.Tokens.{Tokens, read, refused_word, stopped}
use Rattle.tt_exprs.specs.Parsing.{PlainState, step, final_outcome, PlainOutcome, parse_answer, bareword_error}
use Rattle.tt_exprs.specs.Parsing.{syntax_error}

-- what they come to at the text's end, or why that isn't reached
pub data PlainReading : Type 0 where
  whole : PlainOutcome → PlainReading
  refused_at : List ℕ → PlainReading
  stopped_here : PlainReading

-- what the tokens that are still to come make of what came so far
abbrev pub comes_to : PlainState → Tokens → PlainReading
comes_to state (read ts) = whole (final_outcome (fold step state ts))
comes_to state (refused_word word) = refused_at word
comes_to state stopped = stopped_here

-- the answer to a text whose tokens come to that
abbrev pub reading_answer : List ℕ → PlainReading → PlainParsed
reading_answer text (whole outcome) = parse_answer text outcome
reading_answer text (refused_at word) = bad (bareword_error word)
reading_answer text stopped_here = bad (syntax_error text)
