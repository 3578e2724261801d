use Rattle.std.proofs.Common.{◌≡◌, drop}
use Rattle.tt_pure.specs.Searching.{plain_search, with_flags}
use Rattle.tt_pure.proofs.searching.with_flags.Given as goal

abbrev pub invariant-loop-word : goal.invariant-loop-word
invariant-loop-word l = with_flags plain_search l.options ≡ with_flags l.how (drop l.word-index l.options)
