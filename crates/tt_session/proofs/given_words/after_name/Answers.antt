use Rattle.tt_session.proofs.WordLemmas.{at-end, at-second, one-more}
use Rattle.tt_session.proofs.given_words.after_name.Goals as goal

pub loop-word-init : goal.loop-word-init
loop-word-init c =
    at-second c.new-words.result.items c.args.all c.next-name.new.self c.into_iter-word-iterator.result c.next-name.result
    c.new-words.ensures.items c.into_iter-word-iterator.ensures.into_iter_gives c.next-name.ensures.cases

pub loop-word-preserved : goal.loop-word-preserved
loop-word-preserved c =
    one-more c.loop-word.words.items c.push.new.self.items c.in-Some.word c.loop-word.word-iterator c.next.new.self _
    c.loop-word.invariant c.in-Some.ensures.steps.0 c.in_ok-push.ensures.items

pub returns : goal.returns
returns c = at-end c.loop-word.words.items c.loop-word.word-iterator _ c.loop-word.invariant c.in-None.ensures.steps.0
