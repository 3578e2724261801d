use Rattle.std.proofs.Common.{◌≢◌, ◌∙◌, Err, ap}
use Rattle.tt_run.specs.declared.fault.StepFault.TheVariants.{NotEnabled}
use Rattle.tt_workers.proofs.RoundLemmas.{keeps-acted, keeps-fault, keeps-out-of-memory, rounds-acted, rounds-fault, rounds-gone, rounds-out-of-memory}
use Rattle.tt_workers.proofs.TieLemmas.{FailsBy, can-act, not-both, parked}
use Rattle.tt_workers.proofs.world.World.act.Goals as goal

pub returns-in-Err : goal.returns-in-Err
returns-in-Err g c =
    let going = rw (← c.self.view_is) at c.requires.going in
    let kept = rw (← c.self.view_is) at c.requires.kept in
    let room = rw (← c.self.view_is) at c.requires.room in
    let able = rw (← c.self.view_is) at c.requires.able in
    let at = parked c.self.inside.roster c.args.number c.in-Some.request.now c.in-Some.ensures.asks in
    let could = can-act c.self.inside.desk c.self.inside.roster c.args.number c.in-Some.request.now at able in
    let known : c.in-Err.fault ≢ NotEnabled = λ same. not-both could (c.act.ensures.not_enabled (c.in-Err.is ∙ ap Err same)).1 in
    let fails : FailsBy g.S.Source g.K.Sink g.E.Sink c.self.inside.desk c.act.new.self c.args.number c.in-Some.request.now c.act.result = record {
      failed = record {
        nothing_met = kept;
        refused = c.act.ensures.refused;
        unchanged = c.act.ensures.unchanged;
        kept = c.act.ensures.kept;
        read_nothing = c.act.ensures.read_nothing;
        cut = c.act.ensures.cut;
        taken = c.act.ensures.taken;
        no_entry = c.act.ensures.no_entry;
        no_piece = c.act.ensures.no_piece;
      };
      read_fault = λ is none. (c.act.ensures.read_fault is none).0;
      a_line = λ is none. (c.act.ensures.read_fault is none).1;
      write_fault = c.act.ensures.write_fault;
      steady_input = c.act.ensures.steady_input;
      steady_output = c.act.ensures.steady_output;
      steady_errors = c.act.ensures.steady_errors;
    } in
    record {
      keeps = rw (← c.self.view_is)
          (keeps-fault g.S.Source g.K.Sink g.E.Sink c.args.pass c.args.number _ c.self.inside.desk c.act.new.self _ _ _
          c.in-Some.request.now c.act.result c.in-Err.fault c.end_by.result
          going room at c.in-Err.is known c.end_by.ensures fails);
      goes = rw (← c.self.view_is)
          (rounds-fault g.S.Source g.K.Sink g.E.Sink c.args.pass c.args.number _ c.self.inside.desk c.act.new.self _ _ _
          c.in-Some.request.now c.act.result c.in-Err.fault c.end_by.result
          going room c.in-Err.is known c.end_by.ensures fails);
    }

pub returns-in-Ok-Some : goal.returns-in-Ok-Some
returns-in-Ok-Some g c =
    let going = rw (← c.self.view_is) at c.requires.going in
    let room = rw (← c.self.view_is) at c.requires.room in
    let able = rw (← c.self.view_is) at c.requires.able in
    let at = parked c.self.inside.roster c.args.number c.in-Some.request.now c.in-Some.ensures.asks in
    let did = c.in-Ok.ensures in
    let replies = rw c.in-Ok-Some.field-0-is at c.in-Ok-Some.ensures in
    record {
      keeps = rw (← c.self.view_is) (keeps-acted g.S.Source g.K.Sink g.E.Sink c.args.pass c.args.number _ _ _ _ _ _ c.in-Some.request.now c.in-Ok.acted _
          c.requires.pass going room at able did.acts did.goes_on
          (record { of_input = did.steady_input (λ is. cc); of_output = did.steady_output (λ is. cc); of_errors = did.steady_errors (λ is. cc) })
          replies);
      goes = rw (← c.self.view_is) (rounds-acted c.args.pass c.args.number _ _ _ _ _ _ c.in-Ok.acted.reply _ going did.goes_on room did.acts.1.entry replies);
    }

pub returns-in-Ok-None : goal.returns-in-Ok-None
returns-in-Ok-None g c =
    let going = rw (← c.self.view_is) at c.requires.going in
    let room = rw (← c.self.view_is) at c.requires.room in
    let able = rw (← c.self.view_is) at c.requires.able in
    let at = parked c.self.inside.roster c.args.number c.in-Some.request.now c.in-Some.ensures.asks in
    let did = c.in-Ok.ensures in
    let replies = rw c.in-Ok-None.field-0-is at c.in-Ok-None.ensures in
    record {
      keeps = rw (← c.self.view_is) (keeps-acted g.S.Source g.K.Sink g.E.Sink c.args.pass c.args.number _ _ _ _ _ _ c.in-Some.request.now c.in-Ok.acted _
          c.requires.pass going room at able did.acts did.goes_on
          (record { of_input = did.steady_input (λ is. cc); of_output = did.steady_output (λ is. cc); of_errors = did.steady_errors (λ is. cc) })
          replies);
      goes = rw (← c.self.view_is) (rounds-gone c.args.pass c.args.number _ _ _ _ _ _ going did.goes_on room did.acts.1.entry);
    }

pub returns-in-Err-answer : goal.returns-in-Err-answer
returns-in-Err-answer g c =
    let going = rw (← c.self.view_is) at c.requires.going in
    let room = rw (← c.self.view_is) at c.requires.room in
    let able = rw (← c.self.view_is) at c.requires.able in
    let at = parked c.self.inside.roster c.args.number c.in-Some.request.now c.in-Some.ensures.asks in
    let did = c.in-Ok.ensures in
    record {
      keeps = rw (← c.self.view_is)
          (keeps-out-of-memory g.S.Source g.K.Sink g.E.Sink c.args.pass c.args.number _ _ c.act.new.self _ _ _ _ c.in-Some.request.now c.in-Ok.acted
          going room at able did.acts did.goes_on
          (record { of_input = did.steady_input (λ is. cc); of_output = did.steady_output (λ is. cc); of_errors = did.steady_errors (λ is. cc) })
          c.run_out.ensures.kept);
      goes = rw (← c.self.view_is)
          (rounds-out-of-memory c.args.pass c.args.number _ _ c.act.new.self _ _ _ _ going room did.acts.1.entry c.run_out.ensures.kept);
    }
