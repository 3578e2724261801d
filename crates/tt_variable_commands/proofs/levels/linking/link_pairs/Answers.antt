use Rattle.std.proofs.Common.{rules}
use Rattle.tt_variable_commands.specs.Linking.{LinksPair, pairs_of}
use Rattle.tt_variable_commands.proofs.Turning.{all_done, next_pair, no_pair, one_fails, one_more}
use Rattle.tt_variable_commands.proofs.levels.linking.link_pairs.Goals as goal

pub returns-in-Some : goal.returns-in-Some
returns-in-Some c =
    one_fails (LinksPair c.args.frame) (pairs_of c.loop-left.left.now) _ (pairs_of c.args.names.now)
    (c.other-item.result, c.local-item.result) c.in-Some.message c.args.store.now c.loop-left.store c.link_pair.new.store
    (next_pair c.other-item.result c.local-item.result c.loop-left.left.now c.in-len2-up.len_at_least c.other-item.is c.local-item.is)
    c.loop-left.invariant.1 (search rules)

pub loop-left-preserved : goal.loop-left-preserved
loop-left-preserved c = (
  (search rules),
  one_more (LinksPair c.args.frame) (pairs_of c.loop-left.left.now) _ (pairs_of c.args.names.now)
      (c.other-item.result, c.local-item.result) c.args.store.now c.loop-left.store c.link_pair.new.store
      (next_pair c.other-item.result c.local-item.result c.loop-left.left.now c.in-len2-up.len_at_least c.other-item.is c.local-item.is)
      c.loop-left.invariant.1 (search rules),
)

pub returns : goal.returns
returns c =
    all_done (LinksPair c.args.frame) (pairs_of c.loop-left.left.now) (pairs_of c.args.names.now) c.args.store.now c.loop-left.store
    (no_pair c.loop-left.left.now c.in_default.len_below) c.loop-left.invariant.1
