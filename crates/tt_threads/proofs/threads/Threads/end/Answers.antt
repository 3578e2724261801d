use Rattle.std.proofs.Common.{rules, arith, ◌-◌, IsTrue, subst, sym}
use Rattle.tt_threads.proofs.Living.{living_less, living_row}
use Rattle.tt_threads.specs.Rows.{ended_row, is_living}
use Rattle.tt_threads.proofs.threads.Threads.end.Goals as goal

pub overflow_sub-self : goal.overflow_sub-self
overflow_sub-self c =
    let row = c.index_mut.result.now in
    let alive = subst (λ rows. IsTrue (is_living rows c.args.thread)) (sym c.self.view_is) c.requires.lives in
    let here = living_row c.self.inside.rows.items c.args.thread row alive in
    let less = living_less c.self.inside.rows.items (c.args.thread - 1) (ended_row row c.args.code) row here.within here.alive (search rules) in
    omega (arith, less, c.self.invariant)

pub invariant_of-self : goal.invariant_of-self
invariant_of-self c =
    let row = c.index_mut.result.now in
    let alive = subst (λ rows. IsTrue (is_living rows c.args.thread)) (sym c.self.view_is) c.requires.lives in
    let here = living_row c.self.inside.rows.items c.args.thread row alive in
    let less = living_less c.self.inside.rows.items (c.args.thread - 1) (ended_row row c.args.code) row here.within here.alive (search rules) in
    search (rules, less, arith)

pub returns : goal.returns
returns c =
    let row = c.index_mut.result.now in
    let alive = subst (λ rows. IsTrue (is_living rows c.args.thread)) (sym c.self.view_is) c.requires.lives in
    let here = living_row c.self.inside.rows.items c.args.thread row alive in
    search (rules, here)
