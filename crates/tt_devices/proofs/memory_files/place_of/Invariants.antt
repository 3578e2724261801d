use Rattle.tt_devices.proofs.FilesLemmas.{IsPassed}
use Rattle.tt_devices.proofs.memory_files.place_of.Given as goal

abbrev pub invariant-loop-place : goal.invariant-loop-place
invariant-loop-place l = IsPassed l.files l.name l.place
