use Rattle.std.proofs.Common.{drop}
use Rattle.tt_variable_commands.specs.Linking.{LinksName}
use Rattle.tt_variable_commands.proofs.Turning.{GoesOn}
use Rattle.tt_variable_commands.proofs.levels.linking.link_names.Given as goal

abbrev pub invariant-loop-name : goal.invariant-loop-name
invariant-loop-name l = GoesOn LinksName (drop l.name-index l.names) l.store l.names l.fn.store
