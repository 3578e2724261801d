-- What was cancelled so far: a word of the code's own contracts.
use Rattle.tt_pools.specs.Jobs.{Cancelled, JobTable}
use Rattle.tt_pools.specs.declared.cancel.Listed.{Listed}

abbrev pub so_far : JobTable → Listed → Cancelled
so_far jobs left = record { jobs = jobs; gone = left.gone; others = left.others.keys }
