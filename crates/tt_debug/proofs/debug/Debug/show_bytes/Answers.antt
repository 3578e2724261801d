use Rattle.std.proofs.Common.{◌∙◌, Some, ap, subst, sym}
use Rattle.tt_core.specs.Stage.{OfMachine}
use Rattle.tt_debug.proofs.DebugLemmas.{bytes-shown}
use Rattle.tt_debug.proofs.debug.Debug.show_bytes.Goals as goal
use Rattle.tt_debug.specs.inside.Walking.{got, held}
use Rattle.tt_devices.specs.Memory.{Collected}
use Rattle.tt_devices.specs.Streams.{Grows}

pub returns : goal.returns
returns c =
    let run = c.in_ok-run.run'.now in
    let is = c.in_ok-run.ensures.run in
    let wrote = subst (λ (sink : Collected). OfMachine held run (λ machine. Grows (got run.began.output) (got sink) machine.out))
    c.output.ensures.is (c.output.ensures.got is.at.going) in
    let told = subst (λ (sink : Collected). OfMachine held run (λ machine. Grows (got run.began.errors) (got sink) machine.err))
    c.errors.ensures.is (c.errors.ensures.got is.at.going) in
    bytes-shown c.args.self.now.setup c.args.self.now.given c.args.self.now.place run is c.bytes-out.result.now c.bytes-err.result.now
    c.in_ok-text.text
    (sym (ap Some (c.bytes-out.ensures ∙ ap (λ (sink : Collected). sink.got) c.output.ensures.is)))
    (sym (ap Some (c.bytes-err.ensures ∙ ap (λ (sink : Collected). sink.got) c.errors.ensures.is)))
    wrote told c.in_ok-text.ensures.line
