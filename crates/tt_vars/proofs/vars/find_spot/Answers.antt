use Rattle.std.proofs.Common.{rules}
use Rattle.std.specs.Option.{option_map}
use Rattle.tt_vars.specs.inside.Found.{place_at}
use Rattle.tt_vars.proofs.FoundLemmas.{found-written}
use Rattle.tt_vars.proofs.vars.find_spot.Goals as goal

pub returns-in-Ok : goal.returns-in-Ok
returns-in-Ok c = (
  search rules,
  search rules,
  search rules,
  found-written c.args.frames.now (option_map place_at c.args.spot) (place_at c.in-Some.spot) c.frame_in-frame.result.now c.in-Ok.found
      (search rules) (search rules)
      (search rules),
)
