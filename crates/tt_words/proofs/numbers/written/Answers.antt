use Rattle.std.proofs.Common.{rules, arith}
use Rattle.tt_words.proofs.NumberLemmas.{parsed_some, parsed_none}
use Rattle.tt_words.proofs.numbers.written.Goals as goal

pub returns-clause-found : goal.returns-clause-found
returns-clause-found c = rw c.ok.ensures.value (parsed_some c.args.text.now c.parse.result c.parse.ensures.value.0 (omega arith) (search rules))

pub returns-clause-none : goal.returns-clause-none
returns-clause-none c = rw c.ok.ensures.value (parsed_none c.args.text.now c.parse.result c.parse.ensures.value.0 (search rules))
