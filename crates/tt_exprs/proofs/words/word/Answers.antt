use Rattle.tt_exprs.proofs.TokenSteps.{word-read}
use Rattle.tt_exprs.proofs.words.word.Goals as goal

pub returns-clause-read : goal.returns-clause-read
returns-clause-read c = word-read c.args.text.now c.word_length-n.result _ c.word_length-n.ensures.count c.word_length-n.ensures.within c.in_ok-cut.ensures.read
