use Rattle.std.proofs.Common.{ℕ, ◌+◌, ◌-◌, ◌<◌, ◌∙◌, arith}
use Rattle.std.proofs.lemmas.List.Elements.{All-set}
use Rattle.example_lock.proofs.Counts.{few_sum, sum_after}
use Rattle.tt_noted.specs.Passes.{number_of}
use Rattle.example_lock.proofs.counting.add_one.Goals as goal

pub overflow_add-turn : goal.overflow_add-turn
overflow_add-turn g c = let f = c.enter-turn.ensures.fits in let fit = f.3 in let long = f.1 in let few = few_sum f.0 (omega arith) fit.1 in omega arith

pub leave-requires-clause-fits : goal.leave-requires-clause-fits
leave-requires-clause-fits g c κs notes long at fit =
    let own = at ∙ (c.enter-turn.ensures.own.1 ∙ c.requires.noted.0) in
    let change = sum_after notes (number_of c.enter-turn.new.pass - 1) c.args.noted (c.args.noted + 1) own in
    let entered = c.enter-turn.ensures.turn.1 in let was = fit.0 in
    (omega arith, All-set (λ (note : ℕ). note < 4294967296) notes (number_of c.enter-turn.new.pass - 1) (c.args.noted + 1) c.requires.noted.1 fit.1)
