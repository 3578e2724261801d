use Rattle.std.proofs.Common.{◌≡◌, ◌∙◌, ◌≤◌, ◌<◌, ◌+◌, ℕ, Err, None, Some, ap, arith, inl, inr, length, refl, sym}
use Rattle.tt_session.proofs.FollowLemmas.{at-run, either-rises, first-more, first-or-more, first-part, followed, nothing-put}
use Rattle.tt_session.proofs.FollowLemmas.{reading-at, refused-at, rises-from, same-beginning, same-run-of}
use Rattle.tt_session.proofs.TellingLemmas.{begin-telling, more-told, taken-more, told-run}
use Rattle.tt_session.specs.Choosing.{Replaying}
use Rattle.tt_session.specs.Ending.{StopsAtLine}
use Rattle.tt_session.proofs.telling.follow_told.Goals as goal

pub loop-place-init : goal.loop-place-init
loop-place-init g c = begin-telling _ _ _ _ _ _ _ c.requires.fresh c.requires.going c.requires.empty

pub loop-place-preserved : goal.loop-place-preserved
loop-place-preserved g c =
    let within : c.loop-place.place < length c.args.given.now.threads = omega arith in
    record {
      following = record {
        taken = taken-more _ _ c.args.given.now.threads c.loop-place.place c.at-thread.result within
            c.loop-place.invariant.following.taken c.at-thread.ensures.thread c.in-Ok.ensures.stepped;
        going = c.in-Ok.ensures.goes_on;
        same = same-beginning _ _ _ c.loop-place.invariant.following.same c.in-Ok.ensures.same_beginning;
        reads_steady = c.in-Ok.ensures.reads_steady (λ other. cc) ∙ c.loop-place.invariant.following.reads_steady;
        steady = (c.in-Ok.ensures.writes_steady (λ other. cc)).0 ∙ c.loop-place.invariant.following.steady;
        errors_steady = (c.in-Ok.ensures.writes_steady (λ other. cc)).1 ∙ c.loop-place.invariant.following.errors_steady;
        no_output = λ z. absurd (omega (arith, z));
        no_errors = λ z. absurd (omega (arith, z));
      };
      count = c.in-Ok-add.ensures.count ∙ ap (λ (n : ℕ). n + 1) c.loop-place.invariant.count;
      told = more-told g.S.Source.held c.loop-place.system c.step_told.new.self c.loop-place.order _ c.at-thread.result c.in-Ok.told
          c.in-Ok.ensures.same_beginning c.in-Ok.ensures.stepped c.loop-place.invariant.told c.in-Ok.ensures.told c.in-Ok-add.ensures.added;
    }

pub returns-in-Err-NotEnabled-clause-allowed : goal.returns-in-Err-NotEnabled-clause-allowed
returns-in-Err-NotEnabled-clause-allowed g c =
    let same : c.step_told.new.self ≡ c.loop-place.system = c.in-Err-NotEnabled.ensures.unchanged (ap Err c.in-Err-NotEnabled.field-0-is) in
    rw same (first-part c.loop-place.system.desk.schedule c.args.given.now.threads c.loop-place.place c.loop-place.invariant.following.taken)

pub returns-in-Err-NotEnabled-clause-ends : goal.returns-in-Err-NotEnabled-clause-ends
returns-in-Err-NotEnabled-clause-ends g c =
    let same : c.step_told.new.self ≡ c.loop-place.system = c.in-Err-NotEnabled.ensures.unchanged (ap Err c.in-Err-NotEnabled.field-0-is) in
    let not = c.in-Err-NotEnabled.ensures.not_enabled (ap Err c.in-Err-NotEnabled.field-0-is) in
    let within : c.loop-place.place < length c.args.given.now.threads = omega arith in
    rw same (at-run g.S.Source.held c.loop-place.system _ _ not.1 (λ begun machine barred.
    refused-at c.loop-place.system.desk.schedule c.args.given.now.threads c.loop-place.place c.at-thread.result machine within
    c.loop-place.invariant.following.taken c.at-thread.ensures.thread barred))

pub returns-in-Err-NotEnabled-clause-no_output : goal.returns-in-Err-NotEnabled-clause-no_output
returns-in-Err-NotEnabled-clause-no_output g c =
    let same : c.step_told.new.self ≡ c.loop-place.system = c.in-Err-NotEnabled.ensures.unchanged (ap Err c.in-Err-NotEnabled.field-0-is) in
    let within : c.loop-place.place ≤ length c.args.given.now.threads = omega arith in
    rw same (nothing-put c.loop-place.system.desk.schedule c.loop-place.system.desk.schedule c.args.given.now.threads c.loop-place.place
    c.at-thread.result _ _ _ within c.loop-place.invariant.following.taken (inl refl) (λ stays. refl) c.loop-place.invariant.following.no_output)

pub returns-in-Err-NotEnabled-clause-no_errors : goal.returns-in-Err-NotEnabled-clause-no_errors
returns-in-Err-NotEnabled-clause-no_errors g c =
    let same : c.step_told.new.self ≡ c.loop-place.system = c.in-Err-NotEnabled.ensures.unchanged (ap Err c.in-Err-NotEnabled.field-0-is) in
    let within : c.loop-place.place ≤ length c.args.given.now.threads = omega arith in
    rw same (nothing-put c.loop-place.system.desk.schedule c.loop-place.system.desk.schedule c.args.given.now.threads c.loop-place.place
    c.at-thread.result _ _ _ within c.loop-place.invariant.following.taken (inl refl) (λ stays. refl) c.loop-place.invariant.following.no_errors)

pub returns-in-Err-NotEnabled-clause-reads_steady : goal.returns-in-Err-NotEnabled-clause-reads_steady
returns-in-Err-NotEnabled-clause-reads_steady g c = λ other.
    let same : c.step_told.new.self ≡ c.loop-place.system = c.in-Err-NotEnabled.ensures.unchanged (ap Err c.in-Err-NotEnabled.field-0-is) in
    rw same c.loop-place.invariant.following.reads_steady

pub returns-in-Err-NotEnabled-clause-writes_steady : goal.returns-in-Err-NotEnabled-clause-writes_steady
returns-in-Err-NotEnabled-clause-writes_steady g c = λ other.
    let same : c.step_told.new.self ≡ c.loop-place.system = c.in-Err-NotEnabled.ensures.unchanged (ap Err c.in-Err-NotEnabled.field-0-is) in
    rw same (c.loop-place.invariant.following.steady, c.loop-place.invariant.following.errors_steady)

pub returns-in-Err-NotEnabled-clause-same_beginning : goal.returns-in-Err-NotEnabled-clause-same_beginning
returns-in-Err-NotEnabled-clause-same_beginning g c =
    let same : c.step_told.new.self ≡ c.loop-place.system = c.in-Err-NotEnabled.ensures.unchanged (ap Err c.in-Err-NotEnabled.field-0-is) in
    rw same c.loop-place.invariant.following.same

pub returns-in-Err-ReadFault-clause-allowed : goal.returns-in-Err-ReadFault-clause-allowed
returns-in-Err-ReadFault-clause-allowed g c =
    let same = c.in-Err-ReadFault.ensures.no_entry (ap Err c.in-Err-ReadFault.field-0-is) in
    rw same (first-part c.loop-place.system.desk.schedule c.args.given.now.threads c.loop-place.place c.loop-place.invariant.following.taken)

pub returns-in-Err-ReadFault-clause-ends : goal.returns-in-Err-ReadFault-clause-ends
returns-in-Err-ReadFault-clause-ends g c =
    let same = c.in-Err-ReadFault.ensures.no_entry (ap Err c.in-Err-ReadFault.field-0-is) in
    let within : c.loop-place.place < length c.args.given.now.threads = omega arith in
    same-run-of g.S.Source.held c.loop-place.system c.step_told.new.self
    (λ steps begun machine. StopsAtLine (Replaying c.args.given.now.threads) machine steps) c.in-Err-ReadFault.ensures.same_beginning same
    (at-run g.S.Source.held c.loop-place.system _ _
    (c.in-Err-ReadFault.ensures.a_line (ap Err c.in-Err-ReadFault.field-0-is) c.loop-place.invariant.following.going) (λ begun machine asks.
    reading-at c.loop-place.system.desk.schedule c.args.given.now.threads c.loop-place.place c.at-thread.result machine within
    c.loop-place.invariant.following.taken c.at-thread.ensures.thread asks))

pub returns-in-Err-ReadFault-clause-no_output : goal.returns-in-Err-ReadFault-clause-no_output
returns-in-Err-ReadFault-clause-no_output g c =
    let same = c.in-Err-ReadFault.ensures.no_entry (ap Err c.in-Err-ReadFault.field-0-is) in
    let within : c.loop-place.place ≤ length c.args.given.now.threads = omega arith in
    nothing-put c.loop-place.system.desk.schedule c.step_told.new.self.desk.schedule c.args.given.now.threads c.loop-place.place c.at-thread.result _ _
    _ within c.loop-place.invariant.following.taken (inl same) c.in-Err-ReadFault.ensures.no_output c.loop-place.invariant.following.no_output

pub returns-in-Err-ReadFault-clause-no_errors : goal.returns-in-Err-ReadFault-clause-no_errors
returns-in-Err-ReadFault-clause-no_errors g c =
    let same = c.in-Err-ReadFault.ensures.no_entry (ap Err c.in-Err-ReadFault.field-0-is) in
    let within : c.loop-place.place ≤ length c.args.given.now.threads = omega arith in
    nothing-put c.loop-place.system.desk.schedule c.step_told.new.self.desk.schedule c.args.given.now.threads c.loop-place.place c.at-thread.result _ _
    _ within c.loop-place.invariant.following.taken (inl same) c.in-Err-ReadFault.ensures.no_errors c.loop-place.invariant.following.no_errors

pub returns-in-Err-ReadFault-clause-read_fault : goal.returns-in-Err-ReadFault-clause-read_fault
returns-in-Err-ReadFault-clause-read_fault g c = λ is.
    rises-from _ _ _ c.loop-place.invariant.following.reads_steady
    (c.in-Err-ReadFault.ensures.read_fault (ap Err c.in-Err-ReadFault.field-0-is) c.loop-place.invariant.following.going)

pub returns-in-Err-WriteFault-clause-allowed : goal.returns-in-Err-WriteFault-clause-allowed
returns-in-Err-WriteFault-clause-allowed g c =
    let added = c.in-Err-WriteFault.ensures.entry_added (ap Err c.in-Err-WriteFault.field-0-is) c.loop-place.invariant.following.going in
    let within : c.loop-place.place < length c.args.given.now.threads = omega arith in
    rw added (first-more c.loop-place.system.desk.schedule c.args.given.now.threads c.loop-place.place c.at-thread.result within
    c.loop-place.invariant.following.taken c.at-thread.ensures.thread)

pub returns-in-Err-WriteFault-clause-no_output : goal.returns-in-Err-WriteFault-clause-no_output
returns-in-Err-WriteFault-clause-no_output g c =
    let added = c.in-Err-WriteFault.ensures.entry_added (ap Err c.in-Err-WriteFault.field-0-is) c.loop-place.invariant.following.going in
    let within : c.loop-place.place ≤ length c.args.given.now.threads = omega arith in
    nothing-put c.loop-place.system.desk.schedule c.step_told.new.self.desk.schedule c.args.given.now.threads c.loop-place.place c.at-thread.result _ _
    _ within c.loop-place.invariant.following.taken (inr added) c.in-Err-WriteFault.ensures.no_output c.loop-place.invariant.following.no_output

pub returns-in-Err-WriteFault-clause-no_errors : goal.returns-in-Err-WriteFault-clause-no_errors
returns-in-Err-WriteFault-clause-no_errors g c =
    let added = c.in-Err-WriteFault.ensures.entry_added (ap Err c.in-Err-WriteFault.field-0-is) c.loop-place.invariant.following.going in
    let within : c.loop-place.place ≤ length c.args.given.now.threads = omega arith in
    nothing-put c.loop-place.system.desk.schedule c.step_told.new.self.desk.schedule c.args.given.now.threads c.loop-place.place c.at-thread.result _ _
    _ within c.loop-place.invariant.following.taken (inr added) c.in-Err-WriteFault.ensures.no_errors c.loop-place.invariant.following.no_errors

pub returns-in-Err-WriteFault-clause-write_fault : goal.returns-in-Err-WriteFault-clause-write_fault
returns-in-Err-WriteFault-clause-write_fault g c = λ is.
    either-rises _ _ _ _ _ _ c.loop-place.invariant.following.steady c.loop-place.invariant.following.errors_steady
    (c.in-Err-WriteFault.ensures.write_fault (ap Err c.in-Err-WriteFault.field-0-is) c.loop-place.invariant.following.going)

pub returns-in-Err-NoMemory-clause-allowed : goal.returns-in-Err-NoMemory-clause-allowed
returns-in-Err-NoMemory-clause-allowed g c =
    let either = c.in-Err-NoMemory.ensures.at_most_one (ap Err c.in-Err-NoMemory.field-0-is) in
    let within : c.loop-place.place < length c.args.given.now.threads = omega arith in
    first-or-more c.loop-place.system.desk.schedule c.step_told.new.self.desk.schedule c.args.given.now.threads c.loop-place.place c.at-thread.result
    within c.loop-place.invariant.following.taken c.at-thread.ensures.thread either

pub returns-in-Err-NoMemory-clause-no_output : goal.returns-in-Err-NoMemory-clause-no_output
returns-in-Err-NoMemory-clause-no_output g c =
    let either = c.in-Err-NoMemory.ensures.at_most_one (ap Err c.in-Err-NoMemory.field-0-is) in
    let within : c.loop-place.place ≤ length c.args.given.now.threads = omega arith in
    nothing-put c.loop-place.system.desk.schedule c.step_told.new.self.desk.schedule c.args.given.now.threads c.loop-place.place c.at-thread.result _ _
    _ within c.loop-place.invariant.following.taken either c.in-Err-NoMemory.ensures.no_output c.loop-place.invariant.following.no_output

pub returns-in-Err-NoMemory-clause-no_errors : goal.returns-in-Err-NoMemory-clause-no_errors
returns-in-Err-NoMemory-clause-no_errors g c =
    let either = c.in-Err-NoMemory.ensures.at_most_one (ap Err c.in-Err-NoMemory.field-0-is) in
    let within : c.loop-place.place ≤ length c.args.given.now.threads = omega arith in
    nothing-put c.loop-place.system.desk.schedule c.step_told.new.self.desk.schedule c.args.given.now.threads c.loop-place.place c.at-thread.result _ _
    _ within c.loop-place.invariant.following.taken either c.in-Err-NoMemory.ensures.no_errors c.loop-place.invariant.following.no_errors

pub returns-in-Err-ReadFault-clause-same_beginning : goal.returns-in-Err-ReadFault-clause-same_beginning
returns-in-Err-ReadFault-clause-same_beginning g c =
    same-beginning _ _ _ c.loop-place.invariant.following.same c.in-Err-ReadFault.ensures.same_beginning

pub returns-in-Err-WriteFault-clause-same_beginning : goal.returns-in-Err-WriteFault-clause-same_beginning
returns-in-Err-WriteFault-clause-same_beginning g c =
    same-beginning _ _ _ c.loop-place.invariant.following.same c.in-Err-WriteFault.ensures.same_beginning

pub returns-in-Err-NoMemory-clause-same_beginning : goal.returns-in-Err-NoMemory-clause-same_beginning
returns-in-Err-NoMemory-clause-same_beginning g c =
    same-beginning _ _ _ c.loop-place.invariant.following.same c.in-Err-NoMemory.ensures.same_beginning

pub returns-in-Some-clause-ends : goal.returns-in-Some-clause-ends
returns-in-Some-clause-ends g c =
    let past : length c.args.given.now.threads ≤ c.loop-place.place = omega arith in
    let whole = followed c.loop-place.place c.loop-place.system.desk.schedule c.args.given.now.threads past c.loop-place.invariant.following.taken in
    at-run g.S.Source.held c.loop-place.system _
    (λ begun machine. (c.loop-place.system.desk.schedule ≡ c.args.given.now.threads) × (machine.shared.over ≡ Some c.in-Some.code))
    (c.in-Some.ensures.ended c.loop-place.invariant.following.going) (λ begun machine over. (whole, over))

pub returns-in-None-clause-ends : goal.returns-in-None-clause-ends
returns-in-None-clause-ends g c =
    let past : length c.args.given.now.threads ≤ c.loop-place.place = omega arith in
    let whole = followed c.loop-place.place c.loop-place.system.desk.schedule c.args.given.now.threads past c.loop-place.invariant.following.taken in
    at-run g.S.Source.held c.loop-place.system _
    (λ begun machine. (Replaying c.args.given.now.threads ≡ Replaying c.loop-place.system.desk.schedule) × (machine.shared.over ≡ None))
    (c.in-None.ensures.ended c.loop-place.invariant.following.going) (λ begun machine over. (ap Replaying (sym whole), over))

pub returns-in-Some-clause-told : goal.returns-in-Some-clause-told
returns-in-Some-clause-told g c = λ whole. told-run g.S.Source.held c.loop-place.system c.loop-place.order c.loop-place.invariant.told

pub returns-in-None-clause-told : goal.returns-in-None-clause-told
returns-in-None-clause-told g c = λ whole. told-run g.S.Source.held c.loop-place.system c.loop-place.order c.loop-place.invariant.told

pub returns-in-Err-clause-allowed : goal.returns-in-Err-clause-allowed
returns-in-Err-clause-allowed g c =
    let added = c.in-Ok.ensures.stepped in
    let within : c.loop-place.place < length c.args.given.now.threads = omega arith in
    rw added (first-more c.loop-place.system.desk.schedule c.args.given.now.threads c.loop-place.place c.at-thread.result within
    c.loop-place.invariant.following.taken c.at-thread.ensures.thread)
