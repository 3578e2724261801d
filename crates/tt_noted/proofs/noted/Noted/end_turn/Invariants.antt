use Rattle.std.proofs.Common.{Some}
use Rattle.tt_noted.proofs.noted.Noted.end_turn.Given as goal

abbrev pub ghosts-put_back : goal.ghosts-put_back
ghosts-put_back g a = record { note = Some a._note.now }
