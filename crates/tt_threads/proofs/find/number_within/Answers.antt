use Rattle.std.proofs.Common.{arith, ◌<◌, ◌^◌}
use Rattle.tt_ids.proofs.CallerLemmas.{ids_differ}
use Rattle.tt_ids.specs.declared.id.IdKind.TheVariants.{Thread}
use Rattle.tt_threads.proofs.find.number_within.Goals as goal

-- the number is past those that were made, and no other number has this id
pub returns-in_default-clause-none : goal.returns-in_default-clause-none
returns-in_default-clause-none c n low high e =
    let small : n < 2 ^ 64 = omega (arith, high, c.requires) in
    let given = c.in-Some.ensures in
    let same = ids_differ Thread n c.in-Some.number small given.small (cc (e, given.read)) in
    omega (arith, same, high, c.if-number-count.false)

pub returns-in_default-2-clause-none : goal.returns-in_default-2-clause-none
returns-in_default-2-clause-none c n low high e =
    let small : n < 2 ^ 64 = omega (arith, high, c.requires) in
    let given = c.in-Some.ensures in
    let same = ids_differ Thread n c.in-Some.number small given.small (cc (e, given.read)) in
    omega (arith, same, low, c.if-number-ge1.false)
