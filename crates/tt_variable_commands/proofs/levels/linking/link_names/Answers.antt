use Rattle.std.proofs.Common.{◌+◌, drop, arith, rules}
use Rattle.std.proofs.lemmas.List.{drop_all}
use Rattle.tt_variable_commands.specs.Linking.{LinksName}
use Rattle.tt_variable_commands.proofs.Lists.{next-left}
use Rattle.tt_variable_commands.proofs.Turning.{all_done, one_fails, one_more}
use Rattle.tt_variable_commands.proofs.levels.linking.link_names.Goals as goal

pub returns-in-Some : goal.returns-in-Some
returns-in-Some c =
    one_fails LinksName (drop c.loop-name.name-index c.args.names.now) (drop (c.loop-name.name-index + 1) c.args.names.now) c.args.names.now
    c.name-item.result c.in-Some.message c.args.store.now c.loop-name.store c.link_name.new.store
    (next-left c.args.names.now c.loop-name.name-index c.name-item.result (omega arith) c.name-item.is) c.loop-name.invariant (search rules)

pub loop-name-preserved : goal.loop-name-preserved
loop-name-preserved c =
    one_more LinksName (drop c.loop-name.name-index c.args.names.now) (drop (c.loop-name.name-index + 1) c.args.names.now) c.args.names.now
    c.name-item.result c.args.store.now c.loop-name.store c.link_name.new.store
    (next-left c.args.names.now c.loop-name.name-index c.name-item.result (omega arith) c.name-item.is) c.loop-name.invariant (search rules)

pub returns : goal.returns
returns c =
    all_done LinksName (drop c.loop-name.name-index c.args.names.now) c.args.names.now c.args.store.now c.loop-name.store
    (drop_all c.loop-name.name-index c.args.names.now (omega arith)) c.loop-name.invariant
