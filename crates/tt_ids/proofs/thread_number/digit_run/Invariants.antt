use Rattle.std.proofs.Common.{◌≡◌, true, take}
use Rattle.std.specs.Str.{all_ascii_digits}
use Rattle.tt_ids.proofs.thread_number.digit_run.Given as goal

abbrev pub invariant-loop-place : goal.invariant-loop-place
invariant-loop-place l = all_ascii_digits (take l.place l.text) ≡ true
