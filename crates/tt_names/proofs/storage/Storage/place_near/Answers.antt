use Rattle.std.proofs.Common.{rules, tests}
use Rattle.tt_names.specs.inside.Stored.{stored_pairs}
use Rattle.tt_names.proofs.Changes.{found_near, near_within}
use Rattle.tt_names.proofs.storage.Storage.place_near.Goals as goal

pub returns-in-Some-clause-place : goal.returns-in-Some-clause-place
returns-in-Some-clause-place g c =
    found_near (stored_pairs c.args.self.now) c.args.name.now c.in-Some.there.now c.args.hint (search rules) c.requires.differ (search (rules, tests))

pub returns-in-Some-clause-within : goal.returns-in-Some-clause-within
returns-in-Some-clause-within g c =
    near_within (stored_pairs c.args.self.now) c.args.name.now c.in-Some.there.now c.args.hint (search rules)
