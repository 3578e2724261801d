use Rattle.std.proofs.Common.{◌≡◌, take, map}
use Rattle.std.specs.List.{filter}
use Rattle.tt_list_commands.specs.Concatenating.{has_some}
use Rattle.tt_number.specs.Numerals.{trimmed}
use Rattle.tt_list_commands.proofs.concatenating.kept_texts.Given as goal

abbrev pub invariant-loop-text : goal.invariant-loop-text
invariant-loop-text l = l.kept ≡ filter has_some (map trimmed (take l.text-index l.texts))
