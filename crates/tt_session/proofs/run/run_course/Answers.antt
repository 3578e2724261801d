use Rattle.std.proofs.Common.{ap, refl}
use Rattle.tt_core.specs.Faithful.{is_cut}
use Rattle.tt_session.proofs.RunLemmas.{idle-leaves, machine-of, taken-leaves}
use Rattle.tt_session.proofs.run.run_course.Goals as goal

pub returns-in-Err : goal.returns-in-Err
returns-in-Err g c =
    let given = c.in-Err.ensures.handed_back in
    idle-leaves g.S.Source g.K.Sink g.E.Sink _ _ _ _ refl c.new-in-Err.ensures.empty (ap (λ f. f.input) given) (ap (λ f. f.output) given)
    (ap (λ f. f.errors) given)

pub returns-in-Ok : goal.returns-in-Ok
returns-in-Ok g c =
    let is = c.in-Ok.ensures in
    let took = c.take-end.ensures in
    let done = c.finish-schedule.ensures in
    taken-leaves g.S.Source g.K.Sink g.E.Sink _ _ _ c.in-Ok.system c.take-end.new.system _ is.setup is.given is.untouched took.same_beginning
    done.schedule done.devices.0 done.devices.1 done.devices.2
    took.allowed took.no_output took.no_errors took.read_fault took.reads_steady took.write_fault took.writes_steady
    (machine-of g.S.Source g.K.Sink g.E.Sink _ _ _ c.in-Ok.system c.take-end.new.system _ is.setup is.given is.untouched took.same_beginning
    done.schedule (ap is_cut took.kept) done.devices.1 done.devices.2 done.faithful done.left took.ends)
