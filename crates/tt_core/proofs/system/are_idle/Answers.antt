use Rattle.std.proofs.Common.{◌≡◌, ◌∙◌, IsFalse, true, is_none, is_some, sym}
use Rattle.tt_core.specs.inside.Crew.{able, ended, is_ready}
use Rattle.tt_core.proofs.StandLemmas.{not-not, some-code, some-ready}
use Rattle.tt_core.proofs.system.are_idle.Goals as goal

pub returns-then-is_some-2-clause-busy : goal.returns-then-is_some-2-clause-busy
returns-then-is_some-2-clause-busy g c is kept =
    let value = c.is_some-2.ensures in
    let test = c.if-is_some-2.true in
    let some : is_some c.over.result ≡ true = cc in
    let found = some-code c.over.result some in
    ended found.0 (sym c.over.ensures.over ∙ found.1)

pub returns-clause-busy : goal.returns-clause-busy
returns-clause-busy g c is kept =
    let none : IsFalse (is_none c.next_ready.result) = rw (c.is_none.ensures) (not-not c.is_none.result is) in
    let found = some-ready (is_ready c.args.desk.now c.args.crew.now) 0 c.next_ready.result none c.next_ready.ensures in
    able found.0 found.1
