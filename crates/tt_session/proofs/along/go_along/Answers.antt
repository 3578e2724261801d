use Rattle.std.proofs.Common.{◌≡◌, ◌∙◌, ◌≤◌, ◌+◌, Err, Some, IsSome, ap, arith, inl, inr, length, refl, sym}
use Rattle.tt_machine.specs.Machine.{IsStuck}
use Rattle.tt_session.proofs.AlongLemmas.{along-full, along-over, along-reading, along-refused, along-stuck}
use Rattle.tt_session.proofs.FollowLemmas.{either-rises, of-any, rises-from, same-beginning}
use Rattle.tt_session.proofs.TurnLemmas.{length-more, nothing-put-yet, within-more}
use Rattle.tt_session.proofs.along.go_along.Goals as goal

pub loop-init : goal.loop-init
loop-init g c = record {
  counted = rw c.requires.fresh refl;
  going = c.requires.going;
  same = record { setup = refl; began = refl };
  reads_steady = refl;
  steady = refl;
  errors_steady = refl;
  no_output = λ z. refl;
  no_errors = λ z. refl;
}

pub loop-preserved : goal.loop-preserved
loop-preserved g c = record {
  counted = length-more _ _ _ _ c.loop.invariant.counted c.in-Ok.ensures.stepped;
  going = c.in-Ok.ensures.goes_on;
  same = same-beginning _ _ _ c.loop.invariant.same c.in-Ok.ensures.same_beginning;
  reads_steady = c.in-Ok.ensures.reads_steady (λ other. cc) ∙ c.loop.invariant.reads_steady;
  steady = (c.in-Ok.ensures.writes_steady (λ other. cc)).0 ∙ c.loop.invariant.steady;
  errors_steady = (c.in-Ok.ensures.writes_steady (λ other. cc)).1 ∙ c.loop.invariant.errors_steady;
  no_output = λ z. absurd (omega (arith, z));
  no_errors = λ z. absurd (omega (arith, z));
}

pub returns-in-Some-ended-clause-ends : goal.returns-in-Some-ended-clause-ends
returns-in-Some-ended-clause-ends g c =
    along-over g.S.Source.held c.loop.system c.in-Some-ended.code (c.in-Some-ended.ensures.ended c.loop.invariant.going)

pub returns-in-Some-ended-clause-no_output : goal.returns-in-Some-ended-clause-no_output
returns-in-Some-ended-clause-no_output g c =
    λ empty. c.loop.invariant.no_output (sym c.loop.invariant.counted ∙ ap length empty)

pub returns-in-Some-ended-clause-no_errors : goal.returns-in-Some-ended-clause-no_errors
returns-in-Some-ended-clause-no_errors g c =
    λ empty. c.loop.invariant.no_errors (sym c.loop.invariant.counted ∙ ap length empty)

pub returns-in-Some-ended-clause-same_beginning : goal.returns-in-Some-ended-clause-same_beginning
returns-in-Some-ended-clause-same_beginning g c =
    c.loop.invariant.same

pub returns-in-None-clause-ends : goal.returns-in-None-clause-ends
returns-in-None-clause-ends g c =
    along-stuck g.S.Source.held c.loop.system c.loop.last c.args.steps
    (c.in_default.ensures.none c.loop.invariant.going) (c.in-None.ensures.ended c.loop.invariant.going)

pub returns-in-None-clause-no_output : goal.returns-in-None-clause-no_output
returns-in-None-clause-no_output g c =
    λ empty. c.loop.invariant.no_output (sym c.loop.invariant.counted ∙ ap length empty)

pub returns-in-None-clause-no_errors : goal.returns-in-None-clause-no_errors
returns-in-None-clause-no_errors g c =
    λ empty. c.loop.invariant.no_errors (sym c.loop.invariant.counted ∙ ap length empty)

pub returns-in-None-clause-same_beginning : goal.returns-in-None-clause-same_beginning
returns-in-None-clause-same_beginning g c =
    c.loop.invariant.same

pub returns-in-Some-next_enabled-clause-ends : goal.returns-in-Some-next_enabled-clause-ends
returns-in-Some-next_enabled-clause-ends g c =
    rw c.from.ensures
    (along-full g.S.Source.held c.loop.system c.loop.last _ c.args.steps
    (c.in-Some-next_enabled.ensures.next c.loop.invariant.going) (omega (arith, c.loop.invariant.counted)))

pub returns-in-Some-next_enabled-clause-no_output : goal.returns-in-Some-next_enabled-clause-no_output
returns-in-Some-next_enabled-clause-no_output g c =
    λ empty. c.loop.invariant.no_output (sym c.loop.invariant.counted ∙ ap length empty)

pub returns-in-Some-next_enabled-clause-no_errors : goal.returns-in-Some-next_enabled-clause-no_errors
returns-in-Some-next_enabled-clause-no_errors g c =
    λ empty. c.loop.invariant.no_errors (sym c.loop.invariant.counted ∙ ap length empty)

pub returns-in-Some-next_enabled-clause-same_beginning : goal.returns-in-Some-next_enabled-clause-same_beginning
returns-in-Some-next_enabled-clause-same_beginning g c =
    c.loop.invariant.same

pub returns-in-Some-ended-2-clause-ends : goal.returns-in-Some-ended-2-clause-ends
returns-in-Some-ended-2-clause-ends g c =
    along-over g.S.Source.held c.loop.system c.in-Some-ended-2.code (c.in-Some-ended-2.ensures.ended c.loop.invariant.going)

pub returns-in-Some-ended-2-clause-no_output : goal.returns-in-Some-ended-2-clause-no_output
returns-in-Some-ended-2-clause-no_output g c =
    λ empty. c.loop.invariant.no_output (sym c.loop.invariant.counted ∙ ap length empty)

pub returns-in-Some-ended-2-clause-no_errors : goal.returns-in-Some-ended-2-clause-no_errors
returns-in-Some-ended-2-clause-no_errors g c =
    λ empty. c.loop.invariant.no_errors (sym c.loop.invariant.counted ∙ ap length empty)

pub returns-in-Some-ended-2-clause-same_beginning : goal.returns-in-Some-ended-2-clause-same_beginning
returns-in-Some-ended-2-clause-same_beginning g c =
    c.loop.invariant.same

pub returns-in-None-ended-clause-ends : goal.returns-in-None-ended-clause-ends
returns-in-None-ended-clause-ends g c =
    along-stuck g.S.Source.held c.loop.system c.loop.last c.args.steps
    (c.in-None-next_enabled.ensures.next c.loop.invariant.going) (c.in-None-ended.ensures.ended c.loop.invariant.going)

pub returns-in-None-ended-clause-no_output : goal.returns-in-None-ended-clause-no_output
returns-in-None-ended-clause-no_output g c =
    λ empty. c.loop.invariant.no_output (sym c.loop.invariant.counted ∙ ap length empty)

pub returns-in-None-ended-clause-no_errors : goal.returns-in-None-ended-clause-no_errors
returns-in-None-ended-clause-no_errors g c =
    λ empty. c.loop.invariant.no_errors (sym c.loop.invariant.counted ∙ ap length empty)

pub returns-in-None-ended-clause-same_beginning : goal.returns-in-None-ended-clause-same_beginning
returns-in-None-ended-clause-same_beginning g c =
    c.loop.invariant.same

pub returns-in-Err-NotEnabled-clause-allowed : goal.returns-in-Err-NotEnabled-clause-allowed
returns-in-Err-NotEnabled-clause-allowed g c =
    let same : c.step.new.self ≡ c.loop.system = c.in-Err-NotEnabled.ensures.unchanged (ap Err c.in-Err-NotEnabled.field-0-is) in
    let within : c.loop.counter + 1 ≤ c.args.steps = omega arith in
    rw same (within-more c.loop.system.desk.schedule c.loop.system.desk.schedule c.in-Some.thread c.loop.counter c.args.steps
    c.loop.invariant.counted within (inl refl))

pub returns-in-Err-NotEnabled-clause-ends : goal.returns-in-Err-NotEnabled-clause-ends
returns-in-Err-NotEnabled-clause-ends g c =
    let same : c.step.new.self ≡ c.loop.system = c.in-Err-NotEnabled.ensures.unchanged (ap Err c.in-Err-NotEnabled.field-0-is) in
    let barred = c.in-Err-NotEnabled.ensures.not_enabled (ap Err c.in-Err-NotEnabled.field-0-is) in
    rw same (along-refused g.S.Source.held c.loop.system c.in-Some.thread (λ begun machine. IsSome (Some c.args.steps) × IsStuck machine)
    (c.in-Some.ensures.can c.loop.invariant.going) barred.1)

pub returns-in-Err-NotEnabled-clause-no_output : goal.returns-in-Err-NotEnabled-clause-no_output
returns-in-Err-NotEnabled-clause-no_output g c =
    let same : c.step.new.self ≡ c.loop.system = c.in-Err-NotEnabled.ensures.unchanged (ap Err c.in-Err-NotEnabled.field-0-is) in
    rw same (λ empty. c.loop.invariant.no_output (sym c.loop.invariant.counted ∙ ap length empty))

pub returns-in-Err-NotEnabled-clause-no_errors : goal.returns-in-Err-NotEnabled-clause-no_errors
returns-in-Err-NotEnabled-clause-no_errors g c =
    let same : c.step.new.self ≡ c.loop.system = c.in-Err-NotEnabled.ensures.unchanged (ap Err c.in-Err-NotEnabled.field-0-is) in
    rw same (λ empty. c.loop.invariant.no_errors (sym c.loop.invariant.counted ∙ ap length empty))

pub returns-in-Err-NotEnabled-clause-reads_steady : goal.returns-in-Err-NotEnabled-clause-reads_steady
returns-in-Err-NotEnabled-clause-reads_steady g c =
    let same : c.step.new.self ≡ c.loop.system = c.in-Err-NotEnabled.ensures.unchanged (ap Err c.in-Err-NotEnabled.field-0-is) in
    λ other. rw same c.loop.invariant.reads_steady

pub returns-in-Err-NotEnabled-clause-writes_steady : goal.returns-in-Err-NotEnabled-clause-writes_steady
returns-in-Err-NotEnabled-clause-writes_steady g c =
    let same : c.step.new.self ≡ c.loop.system = c.in-Err-NotEnabled.ensures.unchanged (ap Err c.in-Err-NotEnabled.field-0-is) in
    λ other. rw same (c.loop.invariant.steady, c.loop.invariant.errors_steady)

pub returns-in-Err-NotEnabled-clause-same_beginning : goal.returns-in-Err-NotEnabled-clause-same_beginning
returns-in-Err-NotEnabled-clause-same_beginning g c =
    let same : c.step.new.self ≡ c.loop.system = c.in-Err-NotEnabled.ensures.unchanged (ap Err c.in-Err-NotEnabled.field-0-is) in
    rw same c.loop.invariant.same

pub returns-in-Err-ReadFault-clause-allowed : goal.returns-in-Err-ReadFault-clause-allowed
returns-in-Err-ReadFault-clause-allowed g c =
    let same = c.in-Err-ReadFault.ensures.no_entry (ap Err c.in-Err-ReadFault.field-0-is) in
    let within : c.loop.counter + 1 ≤ c.args.steps = omega arith in
    within-more c.loop.system.desk.schedule c.step.new.self.desk.schedule c.in-Some.thread c.loop.counter c.args.steps
    c.loop.invariant.counted within (inl same)

pub returns-in-Err-ReadFault-clause-ends : goal.returns-in-Err-ReadFault-clause-ends
returns-in-Err-ReadFault-clause-ends g c =
    let same = c.in-Err-ReadFault.ensures.no_entry (ap Err c.in-Err-ReadFault.field-0-is) in
    along-reading g.S.Source.held c.loop.system c.step.new.self c.in-Some.thread c.args.steps c.in-Err-ReadFault.ensures.same_beginning same
    (c.in-Err-ReadFault.ensures.a_line (ap Err c.in-Err-ReadFault.field-0-is) c.loop.invariant.going)

pub returns-in-Err-ReadFault-clause-no_output : goal.returns-in-Err-ReadFault-clause-no_output
returns-in-Err-ReadFault-clause-no_output g c =
    let same = c.in-Err-ReadFault.ensures.no_entry (ap Err c.in-Err-ReadFault.field-0-is) in
    nothing-put-yet c.loop.system.desk.schedule c.step.new.self.desk.schedule c.in-Some.thread c.loop.counter _ _ _ c.loop.invariant.counted
    (inl same) c.in-Err-ReadFault.ensures.no_output c.loop.invariant.no_output

pub returns-in-Err-ReadFault-clause-no_errors : goal.returns-in-Err-ReadFault-clause-no_errors
returns-in-Err-ReadFault-clause-no_errors g c =
    let same = c.in-Err-ReadFault.ensures.no_entry (ap Err c.in-Err-ReadFault.field-0-is) in
    nothing-put-yet c.loop.system.desk.schedule c.step.new.self.desk.schedule c.in-Some.thread c.loop.counter _ _ _ c.loop.invariant.counted
    (inl same) c.in-Err-ReadFault.ensures.no_errors c.loop.invariant.no_errors

pub returns-in-Err-ReadFault-clause-same_beginning : goal.returns-in-Err-ReadFault-clause-same_beginning
returns-in-Err-ReadFault-clause-same_beginning g c =
    same-beginning _ _ _ c.loop.invariant.same c.in-Err-ReadFault.ensures.same_beginning

pub returns-in-Err-WriteFault-clause-allowed : goal.returns-in-Err-WriteFault-clause-allowed
returns-in-Err-WriteFault-clause-allowed g c =
    let added = c.in-Err-WriteFault.ensures.entry_added (ap Err c.in-Err-WriteFault.field-0-is) c.loop.invariant.going in
    let within : c.loop.counter + 1 ≤ c.args.steps = omega arith in
    within-more c.loop.system.desk.schedule c.step.new.self.desk.schedule c.in-Some.thread c.loop.counter c.args.steps
    c.loop.invariant.counted within (inr added)

pub returns-in-Err-WriteFault-clause-ends : goal.returns-in-Err-WriteFault-clause-ends
returns-in-Err-WriteFault-clause-ends g c =
    of-any g.S.Source.held c.step.new.self _ (λ begun machine. tt)

pub returns-in-Err-WriteFault-clause-no_output : goal.returns-in-Err-WriteFault-clause-no_output
returns-in-Err-WriteFault-clause-no_output g c =
    let added = c.in-Err-WriteFault.ensures.entry_added (ap Err c.in-Err-WriteFault.field-0-is) c.loop.invariant.going in
    nothing-put-yet c.loop.system.desk.schedule c.step.new.self.desk.schedule c.in-Some.thread c.loop.counter _ _ _ c.loop.invariant.counted
    (inr added) c.in-Err-WriteFault.ensures.no_output c.loop.invariant.no_output

pub returns-in-Err-WriteFault-clause-no_errors : goal.returns-in-Err-WriteFault-clause-no_errors
returns-in-Err-WriteFault-clause-no_errors g c =
    let added = c.in-Err-WriteFault.ensures.entry_added (ap Err c.in-Err-WriteFault.field-0-is) c.loop.invariant.going in
    nothing-put-yet c.loop.system.desk.schedule c.step.new.self.desk.schedule c.in-Some.thread c.loop.counter _ _ _ c.loop.invariant.counted
    (inr added) c.in-Err-WriteFault.ensures.no_errors c.loop.invariant.no_errors

pub returns-in-Err-WriteFault-clause-same_beginning : goal.returns-in-Err-WriteFault-clause-same_beginning
returns-in-Err-WriteFault-clause-same_beginning g c =
    same-beginning _ _ _ c.loop.invariant.same c.in-Err-WriteFault.ensures.same_beginning

pub returns-in-Err-NoMemory-clause-allowed : goal.returns-in-Err-NoMemory-clause-allowed
returns-in-Err-NoMemory-clause-allowed g c =
    let either = c.in-Err-NoMemory.ensures.at_most_one (ap Err c.in-Err-NoMemory.field-0-is) in
    let within : c.loop.counter + 1 ≤ c.args.steps = omega arith in
    within-more c.loop.system.desk.schedule c.step.new.self.desk.schedule c.in-Some.thread c.loop.counter c.args.steps c.loop.invariant.counted within either

pub returns-in-Err-NoMemory-clause-ends : goal.returns-in-Err-NoMemory-clause-ends
returns-in-Err-NoMemory-clause-ends g c =
    of-any g.S.Source.held c.step.new.self _ (λ begun machine. tt)

pub returns-in-Err-NoMemory-clause-no_output : goal.returns-in-Err-NoMemory-clause-no_output
returns-in-Err-NoMemory-clause-no_output g c =
    let either = c.in-Err-NoMemory.ensures.at_most_one (ap Err c.in-Err-NoMemory.field-0-is) in
    nothing-put-yet c.loop.system.desk.schedule c.step.new.self.desk.schedule c.in-Some.thread c.loop.counter _ _ _ c.loop.invariant.counted
    either c.in-Err-NoMemory.ensures.no_output c.loop.invariant.no_output

pub returns-in-Err-NoMemory-clause-no_errors : goal.returns-in-Err-NoMemory-clause-no_errors
returns-in-Err-NoMemory-clause-no_errors g c =
    let either = c.in-Err-NoMemory.ensures.at_most_one (ap Err c.in-Err-NoMemory.field-0-is) in
    nothing-put-yet c.loop.system.desk.schedule c.step.new.self.desk.schedule c.in-Some.thread c.loop.counter _ _ _ c.loop.invariant.counted
    either c.in-Err-NoMemory.ensures.no_errors c.loop.invariant.no_errors

pub returns-in-Err-NoMemory-clause-same_beginning : goal.returns-in-Err-NoMemory-clause-same_beginning
returns-in-Err-NoMemory-clause-same_beginning g c =
    same-beginning _ _ _ c.loop.invariant.same c.in-Err-NoMemory.ensures.same_beginning

pub returns-in-Err-ReadFault-clause-read_fault : goal.returns-in-Err-ReadFault-clause-read_fault
returns-in-Err-ReadFault-clause-read_fault g c =
    λ is. rises-from _ _ _ c.loop.invariant.reads_steady (c.in-Err-ReadFault.ensures.read_fault (ap Err c.in-Err-ReadFault.field-0-is) c.loop.invariant.going)

pub returns-in-Err-WriteFault-clause-write_fault : goal.returns-in-Err-WriteFault-clause-write_fault
returns-in-Err-WriteFault-clause-write_fault g c =
    λ is. either-rises _ _ _ _ _ _ c.loop.invariant.steady c.loop.invariant.errors_steady
    (c.in-Err-WriteFault.ensures.write_fault (ap Err c.in-Err-WriteFault.field-0-is) c.loop.invariant.going)
