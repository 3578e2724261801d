use Rattle.std.proofs.Common.{◌≡◌, drop}
use Rattle.tt_dict.specs.Changing.{text_with}
use Rattle.tt_dict.proofs.changing.appended.Given as goal

abbrev pub invariant-loop-piece : goal.invariant-loop-piece
invariant-loop-piece l = text_with l.all (drop l.piece-index l.pieces) ≡ text_with l.text l.pieces
