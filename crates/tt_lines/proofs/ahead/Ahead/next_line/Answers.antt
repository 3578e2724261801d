use Rattle.std.proofs.Common.{◌<◌, arith, length, refl, rules, ◌+◌, ◌≡◌, ◌∙◌}
use Rattle.tt_devices.proofs.StreamLemmas.{Stays-same, Stays-trans}
use Rattle.tt_lines.proofs.LineLemmas.{all-searched, front-few, front-holds, front-searched, front-within, more-ahead, too-long, whole-line}
use Rattle.tt_lines.proofs.SourceLemmas.{loses-none, loses-trans}
use Rattle.tt_lines.proofs.ahead.Ahead.next_line.Goals as goal

pub first_newline-requires-clause-within : goal.first_newline-requires-clause-within
first_newline-requires-clause-within g c =
    front-holds c.has_more.new.self _ _ _ c.front.ensures c.in_ok-has_more.ensures.within c.loop-searched.invariant.2

pub first_newline-requires-clause-searched : goal.first_newline-requires-clause-searched
first_newline-requires-clause-searched g c =
    front-searched c.has_more.new.self c.front.result.now c.loop-searched.searched 16777217 c.front.ensures c.loop-searched.invariant.2
    (rw c.in_ok-has_more.ensures.same c.loop-searched.invariant.0)

pub take_line-requires : goal.take_line-requires
take_line-requires g c =
    let below = front-within c.has_more.new.self c.front.result.now c.in-Some.place 16777217 c.front.ensures c.in-Some.ensures.1 in
    record { within = omega (arith, below.0) }

pub returns-in-Some-clause-line : goal.returns-in-Some-clause-line
returns-in-Some-clause-line g c =
    let keeps = c.in_ok-has_more.ensures.kept (λ same. cc same) in
    whole-line _ _ _ c.has_more.new.self c.front.result.now _ c.in-Some.place 16777217 c.take_line.result
    (omega arith) c.front.ensures c.in-Some.ensures.0 c.in-Some.ensures.1 c.in-Some.ensures.2 c.loop-searched.invariant.3 keeps c.take_line.ensures.line c.take_line.ensures.left

pub loop-searched-smaller : goal.loop-searched-smaller
loop-searched-smaller g c =
    let more : c.loop-searched.searched < length c.has_more.new.self = search (rules, c.in_ok-has_more.ensures.more, c.if-not-branch.false) in
    let there = front-holds c.has_more.new.self c.front-searched.result.now (c.loop-searched.searched + 1) 16777217 c.front-searched.ensures
    (omega (arith, more)) (omega (arith, c.loop-searched-test.true)) in
    omega (arith, there, c.loop-searched-test.true)

pub loop-searched-preserved : goal.loop-searched-preserved
loop-searched-preserved g c =
    let few = front-few c.has_more.new.self c.front-searched.result.now 16777217 c.front-searched.ensures in
    let keeps = c.in_ok-has_more.ensures.kept (λ same. cc same) in
    let steady = c.in_ok-has_more.ensures.steady (λ same. cc same) in
    let none = rw (c.front.ensures, ← c.front-searched.ensures) at c.in-None.ensures in (
      all-searched c.has_more.new.self c.front-searched.result.now 16777217 c.front-searched.ensures none,
      few.0,
      few.1,
      Stays-trans _ _ _ c.loop-searched.invariant.3 keeps,
      steady ∙ c.loop-searched.invariant.4,
      loses-trans _ _ _ c.loop-searched.invariant.5 c.has_more.ensures.taken,
      λ never.
          let before = c.loop-searched.invariant.6 never in
          let more = more-ahead _ c.loop-searched.self c.loop-searched.searched before.1 never c.loop-searched.invariant.0 in
          let stays = c.has_more.ensures.not_read more in
          (stays.0 ∙ before.0, stays.1 ∙ before.1),
    )

pub returns-clause-line : goal.returns-clause-line
returns-clause-line g c =
    let all : c.loop-searched.searched ≡ 16777217 = omega (arith, c.loop-searched.invariant.2, c.loop-searched-test.false) in
    too-long _ _ c.loop-searched.self _ c.loop-searched.searched all c.loop-searched.invariant.0 c.loop-searched.invariant.1 c.pass.ensures.left c.loop-searched.invariant.3

pub loop-searched-init : goal.loop-searched-init
loop-searched-init g c = (refl, omega arith, omega arith, Stays-same _, refl, loses-none _, λ never. (refl, refl))

pub returns-in_err-has_more-clause-taken : goal.returns-in_err-has_more-clause-taken
returns-in_err-has_more-clause-taken g c = loses-trans _ _ _ c.loop-searched.invariant.5 c.has_more.ensures.taken

pub returns-in_err-has_more-clause-read_ahead : goal.returns-in_err-has_more-clause-read_ahead
returns-in_err-has_more-clause-read_ahead g c = λ never.
    let before = c.loop-searched.invariant.6 never in
    let more = more-ahead _ c.loop-searched.self c.loop-searched.searched before.1 never c.loop-searched.invariant.0 in
    let stays = c.has_more.ensures.not_read more in
    let was = c.in_err-has_more.was in
    absurd (cc (stays.2, was))

pub returns-then-not-branch-clause-taken : goal.returns-then-not-branch-clause-taken
returns-then-not-branch-clause-taken g c = loses-trans _ _ _ c.loop-searched.invariant.5 c.has_more.ensures.taken

pub returns-then-not-branch-clause-read_ahead : goal.returns-then-not-branch-clause-read_ahead
returns-then-not-branch-clause-read_ahead g c = λ never.
    let before = c.loop-searched.invariant.6 never in
    let more = more-ahead _ c.loop-searched.self c.loop-searched.searched before.1 never c.loop-searched.invariant.0 in
    let stays = c.has_more.ensures.not_read more in
    (stays.0 ∙ before.0, c.take_last.ensures.no_memory)

pub returns-in-Some-clause-taken : goal.returns-in-Some-clause-taken
returns-in-Some-clause-taken g c = loses-trans _ _ _ c.loop-searched.invariant.5 c.has_more.ensures.taken

pub returns-in-Some-clause-read_ahead : goal.returns-in-Some-clause-read_ahead
returns-in-Some-clause-read_ahead g c = λ never.
    let before = c.loop-searched.invariant.6 never in
    let more = more-ahead _ c.loop-searched.self c.loop-searched.searched before.1 never c.loop-searched.invariant.0 in
    let stays = c.has_more.ensures.not_read more in
    (stays.0 ∙ before.0, c.take_line.ensures.no_memory)

pub returns-clause-taken : goal.returns-clause-taken
returns-clause-taken g c = c.loop-searched.invariant.5

pub returns-clause-read_ahead : goal.returns-clause-read_ahead
returns-clause-read_ahead g c = λ never. ((c.loop-searched.invariant.6 never).0, λ failed. cc failed)
