use Rattle.std.proofs.Common.{◌≡◌, ◌≤◌, ◌<◌, Err, None, Some, ap, arith, inl, inr, length, refl, sym}
use Rattle.tt_session.proofs.FollowLemmas.{at-run, either-rises, first-more, first-or-more, first-part, followed, nothing-put}
use Rattle.tt_session.proofs.FollowLemmas.{reading-at, refused-at, rises-from, same-beginning, same-run-of}
use Rattle.tt_session.specs.Choosing.{Replaying}
use Rattle.tt_session.specs.Ending.{StopsAtLine}
use Rattle.tt_session.proofs.run.follow.Goals as goal

pub returns-in-Err-NotEnabled-clause-allowed : goal.returns-in-Err-NotEnabled-clause-allowed
returns-in-Err-NotEnabled-clause-allowed g c =
    let same : c.step.new.self ≡ c.loop-place.system = c.in-Err-NotEnabled.ensures.unchanged (ap Err c.in-Err-NotEnabled.field-0-is) in
    rw same (first-part c.loop-place.system.desk.schedule c.args.given.now.threads c.loop-place.place c.loop-place.invariant.taken)

pub returns-in-Err-NotEnabled-clause-ends : goal.returns-in-Err-NotEnabled-clause-ends
returns-in-Err-NotEnabled-clause-ends g c =
    let same : c.step.new.self ≡ c.loop-place.system = c.in-Err-NotEnabled.ensures.unchanged (ap Err c.in-Err-NotEnabled.field-0-is) in
    let not = c.in-Err-NotEnabled.ensures.not_enabled (ap Err c.in-Err-NotEnabled.field-0-is) in
    let within : c.loop-place.place < length c.args.given.now.threads = omega arith in
    rw same (at-run g.S.Source.held c.loop-place.system _ _ not.1 (λ begun machine barred.
    refused-at c.loop-place.system.desk.schedule c.args.given.now.threads c.loop-place.place c.at.result machine within
    c.loop-place.invariant.taken c.at.ensures.thread barred))

pub returns-in-Err-NotEnabled-clause-no_output : goal.returns-in-Err-NotEnabled-clause-no_output
returns-in-Err-NotEnabled-clause-no_output g c =
    let same : c.step.new.self ≡ c.loop-place.system = c.in-Err-NotEnabled.ensures.unchanged (ap Err c.in-Err-NotEnabled.field-0-is) in
    let within : c.loop-place.place ≤ length c.args.given.now.threads = omega arith in
    rw same (nothing-put c.loop-place.system.desk.schedule c.loop-place.system.desk.schedule c.args.given.now.threads c.loop-place.place
    c.at.result _ _ _ within c.loop-place.invariant.taken (inl refl) (λ stays. refl) c.loop-place.invariant.no_output)

pub returns-in-Err-NotEnabled-clause-no_errors : goal.returns-in-Err-NotEnabled-clause-no_errors
returns-in-Err-NotEnabled-clause-no_errors g c =
    let same : c.step.new.self ≡ c.loop-place.system = c.in-Err-NotEnabled.ensures.unchanged (ap Err c.in-Err-NotEnabled.field-0-is) in
    let within : c.loop-place.place ≤ length c.args.given.now.threads = omega arith in
    rw same (nothing-put c.loop-place.system.desk.schedule c.loop-place.system.desk.schedule c.args.given.now.threads c.loop-place.place
    c.at.result _ _ _ within c.loop-place.invariant.taken (inl refl) (λ stays. refl) c.loop-place.invariant.no_errors)

pub returns-in-Err-NotEnabled-clause-reads_steady : goal.returns-in-Err-NotEnabled-clause-reads_steady
returns-in-Err-NotEnabled-clause-reads_steady g c = λ other.
    let same : c.step.new.self ≡ c.loop-place.system = c.in-Err-NotEnabled.ensures.unchanged (ap Err c.in-Err-NotEnabled.field-0-is) in
    rw same c.loop-place.invariant.reads_steady

pub returns-in-Err-NotEnabled-clause-writes_steady : goal.returns-in-Err-NotEnabled-clause-writes_steady
returns-in-Err-NotEnabled-clause-writes_steady g c = λ other.
    let same : c.step.new.self ≡ c.loop-place.system = c.in-Err-NotEnabled.ensures.unchanged (ap Err c.in-Err-NotEnabled.field-0-is) in
    rw same (c.loop-place.invariant.steady, c.loop-place.invariant.errors_steady)

pub returns-in-Err-NotEnabled-clause-same_beginning : goal.returns-in-Err-NotEnabled-clause-same_beginning
returns-in-Err-NotEnabled-clause-same_beginning g c =
    let same : c.step.new.self ≡ c.loop-place.system = c.in-Err-NotEnabled.ensures.unchanged (ap Err c.in-Err-NotEnabled.field-0-is) in
    rw same c.loop-place.invariant.same

pub returns-in-Err-ReadFault-clause-allowed : goal.returns-in-Err-ReadFault-clause-allowed
returns-in-Err-ReadFault-clause-allowed g c =
    let same = c.in-Err-ReadFault.ensures.no_entry (ap Err c.in-Err-ReadFault.field-0-is) in
    rw same (first-part c.loop-place.system.desk.schedule c.args.given.now.threads c.loop-place.place c.loop-place.invariant.taken)

pub returns-in-Err-ReadFault-clause-ends : goal.returns-in-Err-ReadFault-clause-ends
returns-in-Err-ReadFault-clause-ends g c =
    let same = c.in-Err-ReadFault.ensures.no_entry (ap Err c.in-Err-ReadFault.field-0-is) in
    let within : c.loop-place.place < length c.args.given.now.threads = omega arith in
    same-run-of g.S.Source.held c.loop-place.system c.step.new.self
    (λ steps begun machine. StopsAtLine (Replaying c.args.given.now.threads) machine steps) c.in-Err-ReadFault.ensures.same_beginning same
    (at-run g.S.Source.held c.loop-place.system _ _
    (c.in-Err-ReadFault.ensures.a_line (ap Err c.in-Err-ReadFault.field-0-is) c.loop-place.invariant.going) (λ begun machine asks.
    reading-at c.loop-place.system.desk.schedule c.args.given.now.threads c.loop-place.place c.at.result machine within
    c.loop-place.invariant.taken c.at.ensures.thread asks))

pub returns-in-Err-ReadFault-clause-no_output : goal.returns-in-Err-ReadFault-clause-no_output
returns-in-Err-ReadFault-clause-no_output g c =
    let same = c.in-Err-ReadFault.ensures.no_entry (ap Err c.in-Err-ReadFault.field-0-is) in
    let within : c.loop-place.place ≤ length c.args.given.now.threads = omega arith in
    nothing-put c.loop-place.system.desk.schedule c.step.new.self.desk.schedule c.args.given.now.threads c.loop-place.place c.at.result _ _
    _ within c.loop-place.invariant.taken (inl same) c.in-Err-ReadFault.ensures.no_output c.loop-place.invariant.no_output

pub returns-in-Err-ReadFault-clause-no_errors : goal.returns-in-Err-ReadFault-clause-no_errors
returns-in-Err-ReadFault-clause-no_errors g c =
    let same = c.in-Err-ReadFault.ensures.no_entry (ap Err c.in-Err-ReadFault.field-0-is) in
    let within : c.loop-place.place ≤ length c.args.given.now.threads = omega arith in
    nothing-put c.loop-place.system.desk.schedule c.step.new.self.desk.schedule c.args.given.now.threads c.loop-place.place c.at.result _ _
    _ within c.loop-place.invariant.taken (inl same) c.in-Err-ReadFault.ensures.no_errors c.loop-place.invariant.no_errors

pub returns-in-Err-ReadFault-clause-read_fault : goal.returns-in-Err-ReadFault-clause-read_fault
returns-in-Err-ReadFault-clause-read_fault g c = λ is.
    rises-from _ _ _ c.loop-place.invariant.reads_steady
    (c.in-Err-ReadFault.ensures.read_fault (ap Err c.in-Err-ReadFault.field-0-is) c.loop-place.invariant.going)

pub returns-in-Err-WriteFault-clause-allowed : goal.returns-in-Err-WriteFault-clause-allowed
returns-in-Err-WriteFault-clause-allowed g c =
    let added = c.in-Err-WriteFault.ensures.entry_added (ap Err c.in-Err-WriteFault.field-0-is) c.loop-place.invariant.going in
    let within : c.loop-place.place < length c.args.given.now.threads = omega arith in
    rw added (first-more c.loop-place.system.desk.schedule c.args.given.now.threads c.loop-place.place c.at.result within
    c.loop-place.invariant.taken c.at.ensures.thread)

pub returns-in-Err-WriteFault-clause-no_output : goal.returns-in-Err-WriteFault-clause-no_output
returns-in-Err-WriteFault-clause-no_output g c =
    let added = c.in-Err-WriteFault.ensures.entry_added (ap Err c.in-Err-WriteFault.field-0-is) c.loop-place.invariant.going in
    let within : c.loop-place.place ≤ length c.args.given.now.threads = omega arith in
    nothing-put c.loop-place.system.desk.schedule c.step.new.self.desk.schedule c.args.given.now.threads c.loop-place.place c.at.result _ _
    _ within c.loop-place.invariant.taken (inr added) c.in-Err-WriteFault.ensures.no_output c.loop-place.invariant.no_output

pub returns-in-Err-WriteFault-clause-no_errors : goal.returns-in-Err-WriteFault-clause-no_errors
returns-in-Err-WriteFault-clause-no_errors g c =
    let added = c.in-Err-WriteFault.ensures.entry_added (ap Err c.in-Err-WriteFault.field-0-is) c.loop-place.invariant.going in
    let within : c.loop-place.place ≤ length c.args.given.now.threads = omega arith in
    nothing-put c.loop-place.system.desk.schedule c.step.new.self.desk.schedule c.args.given.now.threads c.loop-place.place c.at.result _ _
    _ within c.loop-place.invariant.taken (inr added) c.in-Err-WriteFault.ensures.no_errors c.loop-place.invariant.no_errors

pub returns-in-Err-WriteFault-clause-write_fault : goal.returns-in-Err-WriteFault-clause-write_fault
returns-in-Err-WriteFault-clause-write_fault g c = λ is.
    either-rises _ _ _ _ _ _ c.loop-place.invariant.steady c.loop-place.invariant.errors_steady
    (c.in-Err-WriteFault.ensures.write_fault (ap Err c.in-Err-WriteFault.field-0-is) c.loop-place.invariant.going)

pub returns-in-Err-NoMemory-clause-allowed : goal.returns-in-Err-NoMemory-clause-allowed
returns-in-Err-NoMemory-clause-allowed g c =
    let either = c.in-Err-NoMemory.ensures.at_most_one (ap Err c.in-Err-NoMemory.field-0-is) in
    let within : c.loop-place.place < length c.args.given.now.threads = omega arith in
    first-or-more c.loop-place.system.desk.schedule c.step.new.self.desk.schedule c.args.given.now.threads c.loop-place.place c.at.result
    within c.loop-place.invariant.taken c.at.ensures.thread either

pub returns-in-Err-NoMemory-clause-no_output : goal.returns-in-Err-NoMemory-clause-no_output
returns-in-Err-NoMemory-clause-no_output g c =
    let either = c.in-Err-NoMemory.ensures.at_most_one (ap Err c.in-Err-NoMemory.field-0-is) in
    let within : c.loop-place.place ≤ length c.args.given.now.threads = omega arith in
    nothing-put c.loop-place.system.desk.schedule c.step.new.self.desk.schedule c.args.given.now.threads c.loop-place.place c.at.result _ _
    _ within c.loop-place.invariant.taken either c.in-Err-NoMemory.ensures.no_output c.loop-place.invariant.no_output

pub returns-in-Err-NoMemory-clause-no_errors : goal.returns-in-Err-NoMemory-clause-no_errors
returns-in-Err-NoMemory-clause-no_errors g c =
    let either = c.in-Err-NoMemory.ensures.at_most_one (ap Err c.in-Err-NoMemory.field-0-is) in
    let within : c.loop-place.place ≤ length c.args.given.now.threads = omega arith in
    nothing-put c.loop-place.system.desk.schedule c.step.new.self.desk.schedule c.args.given.now.threads c.loop-place.place c.at.result _ _
    _ within c.loop-place.invariant.taken either c.in-Err-NoMemory.ensures.no_errors c.loop-place.invariant.no_errors

pub returns-in-Err-ReadFault-clause-same_beginning : goal.returns-in-Err-ReadFault-clause-same_beginning
returns-in-Err-ReadFault-clause-same_beginning g c =
    same-beginning _ _ _ c.loop-place.invariant.same c.in-Err-ReadFault.ensures.same_beginning

pub returns-in-Err-WriteFault-clause-same_beginning : goal.returns-in-Err-WriteFault-clause-same_beginning
returns-in-Err-WriteFault-clause-same_beginning g c =
    same-beginning _ _ _ c.loop-place.invariant.same c.in-Err-WriteFault.ensures.same_beginning

pub returns-in-Err-NoMemory-clause-same_beginning : goal.returns-in-Err-NoMemory-clause-same_beginning
returns-in-Err-NoMemory-clause-same_beginning g c =
    same-beginning _ _ _ c.loop-place.invariant.same c.in-Err-NoMemory.ensures.same_beginning

pub returns-in-Some-clause-ends : goal.returns-in-Some-clause-ends
returns-in-Some-clause-ends g c =
    let past : length c.args.given.now.threads ≤ c.loop-place.place = omega arith in
    let whole = followed c.loop-place.place c.loop-place.system.desk.schedule c.args.given.now.threads past c.loop-place.invariant.taken in
    at-run g.S.Source.held c.loop-place.system _
    (λ begun machine. (c.loop-place.system.desk.schedule ≡ c.args.given.now.threads) × (machine.shared.over ≡ Some c.in-Some.code))
    (c.in-Some.ensures.ended c.loop-place.invariant.going) (λ begun machine over. (whole, over))

pub returns-in-None-clause-ends : goal.returns-in-None-clause-ends
returns-in-None-clause-ends g c =
    let past : length c.args.given.now.threads ≤ c.loop-place.place = omega arith in
    let whole = followed c.loop-place.place c.loop-place.system.desk.schedule c.args.given.now.threads past c.loop-place.invariant.taken in
    at-run g.S.Source.held c.loop-place.system _
    (λ begun machine. (Replaying c.args.given.now.threads ≡ Replaying c.loop-place.system.desk.schedule) × (machine.shared.over ≡ None))
    (c.in-None.ensures.ended c.loop-place.invariant.going) (λ begun machine over. (ap Replaying (sym whole), over))
