use denote.Param.{param}
use Rattle.tt_workers.proofs.Crossing.{state-send}
use Rattle.std.proofs.Common.{◌-◌, ◌∙◌, Some, ap, slice_get, subst, sym}
use Rattle.tt_workers.proofs.WorkerLemmas.{next-noted, returns-of, turn-fits}
use Rattle.tt_workers.specs.inside.Turns.{note_after, out_of}
use Rattle.tt_workers.specs.inside.World.{IsTied}
use Rattle.tt_workers.proofs.carrier.take_turn.Goals as goal

pub enter-turn-requires-send-T-State : goal.enter-turn-requires-send-T-State
enter-turn-requires-send-T-State g c κs within =
    state-send (param 1 g.row.S) (param 2 g.row.K) (param 3 g.row.E) g.S.Source g.K.Sink g.E.Sink _ c.type_bounds.send-S
    c.type_bounds.send-K c.type_bounds.send-E

pub number-requires-send-T-State : goal.number-requires-send-T-State
number-requires-send-T-State g c κs within =
    state-send (param 1 g.row.S) (param 2 g.row.K) (param 3 g.row.E) g.S.Source g.K.Sink g.E.Sink _ c.type_bounds.send-S
    c.type_bounds.send-K c.type_bounds.send-E

pub turn-next-requires-clause-tied : goal.turn-next-requires-clause-tied
turn-next-requires-clause-tied g c =
    let f = c.enter-turn.ensures.fits in (
      f.0,
      subst (λ world. IsTied g.S.Source g.K.Sink g.E.Sink world f.0) (sym c.deref_mut.ensures.value) f.3,
      returns-of _ f.0 _ _ (ap (λ n. slice_get f.0 (n - 1)) c.number.ensures ∙ (f.2 ∙ c.enter-turn.ensures.own.1)) c.requires.may,
    )

pub leave_waking-requires-send-T-State : goal.leave_waking-requires-send-T-State
leave_waking-requires-send-T-State g c κs within =
    state-send (param 1 g.row.S) (param 2 g.row.K) (param 3 g.row.E) g.S.Source g.K.Sink g.E.Sink _ c.type_bounds.send-S
    c.type_bounds.send-K c.type_bounds.send-E

pub leave_waking-requires-clause-fits : goal.leave_waking-requires-clause-fits
leave_waking-requires-clause-fits g c κs within notes long at fit =
    turn-fits g.S.Source g.K.Sink g.E.Sink notes _ c.number.result c.deref_mut.result.now _ c.turn-next.new.self c.args.done
    c.turn-next.result _ _ c.number.ensures
    (ap (λ world. world.value) c.enter-turn.ensures.turn.1 ∙ sym c.deref_mut.ensures.value)
    (c.note-note.ensures ∙ ap (λ world. note_after world (out_of c.turn-next.result)) c.deref.ensures)
    c.turn-next.ensures.keeps (at ∙ c.enter-turn.ensures.own.1) c.requires.may fit

pub returns-clause-noted : goal.returns-clause-noted
returns-clause-noted g c =
    let f = c.enter-turn.ensures.fits in
    next-noted g.S.Source g.K.Sink g.E.Sink _ _ f.0 _ _ c.turn-next.new.self _ (f.2 ∙ c.enter-turn.ensures.own.1) f.3
    (c.turn-next.ensures.begun ∙ ap (λ world. world.begun) c.deref_mut.ensures.value)
    (c.leave_waking.ensures.note ∙ ap Some (c.note-note.ensures ∙ ap (λ world. note_after world (out_of c.turn-next.result)) c.deref.ensures))
