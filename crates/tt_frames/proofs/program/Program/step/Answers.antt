use Rattle.std.proofs.Common.{◌≡◌, List, ◌+◌, drop, subst}
use Rattle.std.specs.Option.{option_map}
use Rattle.tt_frames.specs.Programs.{PlainStep, from_front, plain_step, plain_steps, steps_of}
use Rattle.tt_frames.proofs.Fronts.{lent}
use Rattle.tt_frames.proofs.program.Program.step.Goals as goal

pub returns : goal.returns
returns c =
    let found = option_map (λ step. plain_step step.now) c.get.result in
    let follows : List PlainStep → Type 0 = λ steps. drop c.args.at steps ≡ from_front found (drop (c.args.at + 1) steps) in
    record {
      step = subst (λ text. follows (steps_of text)) c.self.view_is
          (subst follows c.self.invariant
          (subst (λ items. follows (plain_steps items)) c.deref.ensures.value
          (lent plain_step c.deref.result.now c.args.at c.get.result c.get.ensures.lookup)));
    }
