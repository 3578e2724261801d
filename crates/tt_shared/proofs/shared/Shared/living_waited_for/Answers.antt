use Rattle.std.proofs.Common.{rules, ◌≡◌, ◌∙◌}
use Rattle.std.specs.List.{filter}
use Rattle.tt_shared.proofs.Blockers.{living_are}
use Rattle.tt_shared.specs.Blocking.{waited_for}
use Rattle.tt_shared.proofs.shared.Shared.living_waited_for.Goals as goal
use Rattle.tt_threads.specs.Rows.{is_living}

pub returns : goal.returns
returns c =
    live
    ∙ living_are c.args.self.now c.in_ok-waited_for.waited_for.items (waited_for c.args.self.now c.args.thread c.args.request.now)
    c.in_ok-waited_for.ensures.by_number c.in_ok-waited_for.ensures.exactly
  where
    live : c.in_ok-living.living.items ≡ filter (λ u. is_living c.args.self.now.rows u) c.in_ok-waited_for.waited_for.items
    live = search rules
