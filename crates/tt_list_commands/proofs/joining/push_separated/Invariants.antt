use Rattle.std.proofs.Common.{◌≡◌, ◌++◌, take}
use Rattle.std.specs.List.{flat_map}
use Rattle.tt_list_commands.proofs.joining.push_separated.Given as goal

abbrev pub invariant-loop-text : goal.invariant-loop-text
invariant-loop-text l = l.all ≡ l.initial.all ++ flat_map (λ text. l.separator ++ text) (take l.text-index l.texts)
