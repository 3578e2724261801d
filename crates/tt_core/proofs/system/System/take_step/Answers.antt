use Rattle.std.proofs.Common.{◌≡◌, ◌∙◌, ◌<◌, None, Err, ap, length, subst, sym}
use Rattle.laws_runs.proofs.Lawful.{lawful_law}
use Rattle.tt_core.specs.inside.Crew.{asked_by}
use Rattle.tt_core.specs.Stage.{Stage}
use Rattle.tt_schedule.specs.ScheduleText.{most_steps}
use Rattle.tt_core.proofs.StepLemmas.{could-be}
use Rattle.tt_core.proofs.StandLemmas.{asked-could, asked-line, failed, keeps-to, ran-out, unable, unasked, went-on, wrote}
use Rattle.tt_core.proofs.TellLemmas.{told-if}
use Rattle.tt_core.proofs.system.System.take_step.Goals as goal
use Rattle.tt_run.specs.declared.fault.StepFault.TheVariants as fault

pub returns-in_default-request-clause-not_enabled : goal.returns-in_default-request-clause-not_enabled
returns-in_default-request-clause-not_enabled g c e =
    let kept : c.self.inside.desk.kept ≡ None = sym c.kept_fault.ensures.kept ∙ c.in_default.is in
    let asks : None ≡ asked_by c.self.inside.crew c.args.thread = c.in_default-request.ensures.asks in (
      rw (← c.self.view_is) kept,
      rw (← c.self.view_is)
          (unasked g.S.Source.held g.K.Sink.got g.E.Sink.got c.self.inside.setup c.self.inside.began c.self.inside.desk c.args.thread
          c.self.inside.crew kept asks c.self.invariant),
    )

pub invariant_of-self : goal.invariant_of-self
invariant_of-self g c =
    let kept : c.self.inside.desk.kept ≡ None = sym c.kept_fault.ensures.kept ∙ c.in_default.is in
    failed g.S.Source.held g.K.Sink.got g.E.Sink.got c.self.inside.setup c.self.inside.began c.self.inside.desk c.act.new.self c.args.thread
    c.in-Some-request.request.now c.self.inside.crew c.act.result c.in-Err.fault
    c.in-Some-request.ensures.asks c.in-Err.is (record {
      nothing_met = kept;
      refused = c.act.ensures.refused;
      unchanged = c.act.ensures.unchanged;
      kept = c.act.ensures.kept;
      read_nothing = c.act.ensures.read_nothing;
      cut = c.act.ensures.cut;
      taken = c.act.ensures.taken;
      no_entry = c.act.ensures.no_entry;
      no_piece = c.act.ensures.no_piece;
    }) c.self.invariant

pub invariant_of-self-in_default-gone_on : goal.invariant_of-self-in_default-gone_on
invariant_of-self-in_default-gone_on g c =
    ran-out g.S.Source.held g.K.Sink.got g.E.Sink.got c.self.inside.setup c.self.inside.began c.self.inside.desk c.act.new.self
    c.run_out.new.self c.args.thread c.in-Some-request.request.now c.in-Ok.acted c.self.inside.crew c.go_on-gone_on.new.crew
    c.in-Ok.ensures.able c.in-Some-request.ensures.asks c.in-Ok.ensures.acts c.run_out.ensures.kept c.self.invariant

pub returns-in_default-gone_on-clause-tried : goal.returns-in_default-gone_on-clause-tried
returns-in_default-gone_on-clause-tried g c = λ other was_none.
    rw (← c.self.view_is)
    (asked-could g.S.Source.held g.K.Sink.got g.E.Sink.got c.self.inside.setup c.self.inside.began c.self.inside.desk c.args.thread
    c.in-Some-request.request.now c.self.inside.crew
    c.in-Some-request.ensures.asks c.in-Ok.ensures.able c.self.invariant)

pub invariant_of-self-in-Ok-gone_on : goal.invariant_of-self-in-Ok-gone_on
invariant_of-self-in-Ok-gone_on g c =
    went-on g.S.Source.held g.K.Sink.got g.E.Sink.got c.self.inside.setup c.self.inside.began c.self.inside.desk c.act.new.self
    c.args.thread c.in-Some-request.request.now c.in-Ok.acted c.self.inside.crew c.go_on-gone_on.new.crew
    c.in-Ok.ensures.able c.in-Some-request.ensures.asks c.in-Ok.ensures.acts c.in-Ok.ensures.goes_on c.in-Ok-gone_on.ensures.goes c.self.invariant

pub returns-in-Err-clause-not_enabled : goal.returns-in-Err-clause-not_enabled
returns-in-Err-clause-not_enabled g c e =
    let same : c.in-Err.fault ≡ fault.NotEnabled = cc e in
    let was : c.act.result ≡ Err fault.NotEnabled = c.in-Err.is ∙ ap Err same in
    let not = c.act.ensures.not_enabled was in (
      rw (← c.self.view_is) not.0,
      rw (← c.self.view_is)
          (unable g.S.Source.held g.K.Sink.got g.E.Sink.got c.self.inside.setup c.self.inside.began c.self.inside.desk c.args.thread
          c.in-Some-request.request.now c.self.inside.crew
          not.0 c.in-Some-request.ensures.asks not.1 c.self.invariant),
    )

pub returns-in-Err-clause-tried : goal.returns-in-Err-clause-tried
returns-in-Err-clause-tried g c = λ other was_none.
    let kept : c.self.inside.desk.kept ≡ None = sym c.kept_fault.ensures.kept ∙ c.in_default.is in
    rw (← c.self.view_is)
    (asked-could g.S.Source.held g.K.Sink.got g.E.Sink.got c.self.inside.setup c.self.inside.began c.self.inside.desk c.args.thread
    c.in-Some-request.request.now c.self.inside.crew
    c.in-Some-request.ensures.asks
    (could-be c.self.inside.desk c.args.thread c.in-Some-request.request.now c.act.result c.in-Err.fault kept c.act.ensures.refused c.in-Err.is other)
    c.self.invariant)

pub returns-in-Ok-gone_on-clause-could : goal.returns-in-Ok-gone_on-clause-could
returns-in-Ok-gone_on-clause-could g c =
    rw (← c.self.view_is)
    (asked-could g.S.Source.held g.K.Sink.got g.E.Sink.got c.self.inside.setup c.self.inside.began c.self.inside.desk c.args.thread
    c.in-Some-request.request.now c.self.inside.crew
    c.in-Some-request.ensures.asks c.in-Ok.ensures.able c.self.invariant)

pub returns-in-Err-clause-a_line : goal.returns-in-Err-clause-a_line
returns-in-Err-clause-a_line g c e = λ was_none.
    let same : c.in-Err.fault ≡ fault.ReadFault = cc e in
    let was : c.act.result ≡ Err fault.ReadFault = c.in-Err.is ∙ ap Err same in
    let kept : c.self.inside.desk.kept ≡ None = sym c.kept_fault.ensures.kept ∙ c.in_default.is in
    rw (← c.self.view_is)
    (asked-line g.S.Source.held g.K.Sink.got g.E.Sink.got c.self.inside.setup c.self.inside.began c.self.inside.desk c.args.thread
    c.in-Some-request.request.now c.self.inside.crew
    c.in-Some-request.ensures.asks
    (could-be c.self.inside.desk c.args.thread c.in-Some-request.request.now c.act.result fault.ReadFault kept c.act.ensures.refused was (λ is. cc))
    (c.act.ensures.read_fault was kept).1 c.self.invariant)

pub returns-in-Err-clause-a_piece : goal.returns-in-Err-clause-a_piece
returns-in-Err-clause-a_piece g c e = λ was_none.
    let same : c.in-Err.fault ≡ fault.WriteFault = cc e in
    let was : c.act.result ≡ Err fault.WriteFault = c.in-Err.is ∙ ap Err same in
    let kept : c.self.inside.desk.kept ≡ None = sym c.kept_fault.ensures.kept ∙ c.in_default.is in
    rw (← c.self.view_is)
    (wrote g.S.Source.held g.K.Sink.got g.E.Sink.got c.self.inside.setup c.self.inside.began c.self.inside.desk c.act.new.self
    c.args.thread c.in-Some-request.request.now c.self.inside.crew
    c.in-Some-request.ensures.asks
    (could-be c.self.inside.desk c.args.thread c.in-Some-request.request.now c.act.result fault.WriteFault kept c.act.ensures.refused was (λ is. cc))
    (c.act.ensures.cut was kept) c.self.invariant)

pub returns-in-Ok-gone_on-clause-orderly : goal.returns-in-Ok-gone_on-clause-orderly
returns-in-Ok-gone_on-clause-orderly g c =
    rw (← c.self.view_is)
    (keeps-to g.S.Source.held g.K.Sink.got g.E.Sink.got c.self.inside.setup c.self.inside.began c.self.inside.desk c.act.new.self
    c.args.thread c.in-Some-request.request.now c.in-Ok.acted c.self.inside.crew
    c.in-Some-request.ensures.asks c.in-Ok.ensures.able c.in-Ok.ensures.acts
    (subst (λ (stage : Stage g.row.S.Denot g.row.K.Denot g.row.E.Denot). length stage.desk.schedule < most_steps) (sym c.self.view_is)
    c.requires) c.self.invariant)

pub returns-in-Ok-gone_on-clause-lawful : goal.returns-in-Ok-gone_on-clause-lawful
returns-in-Ok-gone_on-clause-lawful g c = lawful_law _ _

pub returns-in-Ok-gone_on-clause-told : goal.returns-in-Ok-gone_on-clause-told
returns-in-Ok-gone_on-clause-told g c =
    rw (← c.self.view_is)
    (told-if g.S.Source.held g.K.Sink.got g.E.Sink.got c.self.inside.setup c.self.inside.began c.self.inside.desk c.act.new.self
    c.args.thread c.in-Some-request.request.now c.in-Ok.acted c.self.inside.crew
    c.in-Some-request.ensures.asks c.in-Ok.ensures.able c.in-Ok.ensures.acts c.in-Ok-gone_on.told c.in-Ok-gone_on.ensures.told c.self.invariant)
