use Rattle.std.proofs.Common.{◌<◌, length, arith, sym}
use Rattle.tt_script.proofs.FirstSteps.{first_at-nothing, first_at-fault, first_at-command}
use Rattle.tt_script.specs.Plain.{plain_words}
use Rattle.tt_script.proofs.Keeping.{kept}
use Rattle.tt_script.proofs.script.first_command.Goals as goal

pub returns-then-start-text : goal.returns-then-start-text
returns-then-start-text c = record {
  exact = sym (first_at-nothing c.args.text.now c.args.from c.skip_end-start.result c.skip_end-start.ensures.place c.if-start-text.true);
}

pub returns-in-Ok : goal.returns-in-Ok
returns-in-Ok c =
    let room : c.skip_end-start.result < length c.args.text.now = omega arith in
    record {
      exact = sym (first_at-command c.args.text.now c.args.from c.skip_end-start.result c.skip_end-start.ensures.place room _ c.in-Ok.text_end c.terminator_end.result (kept (λ words. plain_words words.items) (c.in-Ok.words, c.in-Ok.text_end) _ c.in-Ok.ensures.read) c.terminator_end.ensures);
    }

pub returns-in-Err-Fault : goal.returns-in-Err-Fault
returns-in-Err-Fault c =
    let room : c.skip_end-start.result < length c.args.text.now = omega arith in
    record {
      exact = sym (first_at-fault c.args.text.now c.args.from c.skip_end-start.result c.skip_end-start.ensures.place room c.in-Err-Fault.fault
          (rw c.in-Err-Fault.field-0-is at c.in-Err-Fault.ensures.read));
    }
