use Rattle.std.proofs.Common.{◌≡◌, drop}
use Rattle.tt_pure.specs.Sorting.{plain_sort, with_flags}
use Rattle.tt_pure.proofs.sorting.with_flags.Given as goal

abbrev pub invariant-loop-word : goal.invariant-loop-word
invariant-loop-word l = with_flags plain_sort l.options ≡ with_flags l.how (drop l.word-index l.options)
