use Rattle.std.proofs.Common.{◌≡◌, take}
use Rattle.tt_dict.specs.Telling.{without_keys}
use Rattle.tt_dict.proofs.telling.remove_keys.Given as goal

abbrev pub invariant-loop-key : goal.invariant-loop-key
invariant-loop-key l = l.pairs ≡ without_keys l.initial.pairs (take l.key-index l.keys)
