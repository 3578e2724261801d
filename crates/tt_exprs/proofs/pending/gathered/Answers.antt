use Rattle.std.proofs.Common.{◌≡◌, [], ap, sym, ◌∙◌}
use Rattle.tt_exprs.specs.Parsing.{gathered}
use Rattle.tt_exprs.specs.inside.Stacks.{plain_pending, plain_stack, plain_value, plain_waiting}
use Rattle.tt_exprs.proofs.StackSteps.{length-zero, stack-pushed, stack-popped, gathered-empty, gathered-takes, gathered-stops}
use Rattle.tt_exprs.proofs.pending.gathered.Goals as goal
use Rattle.tt_exprs.proofs.pending.gathered.Goals.{in-Some+then-not-binds+in_ok-push, in_default}

pub loop-last-preserved : goal.loop-last-preserved
loop-last-preserved c =
    let bound = c.args.bound in
    let stack = plain_stack c.pop.new.self.items in
    let value = plain_value c.loop-last.value in
    ap (gathered bound stack) c.in_ok-value.ensures
    ∙ sym (gathered-takes bound (plain_pending c.in-Some.last) stack value (sym c.binds.ensures ∙ c.if-not-binds.false))
    ∙ ap (λ s. gathered bound s value)
    (sym (stack-popped c.loop-last.pending.items c.pop.new.self.items c.pop.result c.in-Some.last c.pop.ensures.items c.in-Some.is))
    ∙ c.loop-last.invariant

pub returns : goal.returns
returns c =
    let bound = c.args.bound in
    let stack = plain_stack c.pop.new.self.items in
    let value = plain_value c.loop-last.value in
    elim c.match-pop.branch [
      | in-Some+then-not-binds+in_ok-push w ↦
          ap (λ p. plain_waiting p.items c.loop-last.value) w.pending-is
          ∙ ap (λ s. record { pending = s; value = value }) (stack-pushed c.pop.new.self.items _ w.in-Some.last w.in_ok-push.ensures.items)
          ∙ sym (gathered-stops bound (plain_pending w.in-Some.last) stack value (sym w.binds.ensures ∙ w.if-not-binds.true))
          ∙ ap (λ s. gathered bound s value)
          (sym (stack-popped c.loop-last.pending.items c.pop.new.self.items c.pop.result w.in-Some.last c.pop.ensures.items w.in-Some.is))
          ∙ c.loop-last.invariant
      | in_default w ↦
          let none : c.loop-last.pending.items ≡ [] = length-zero c.loop-last.pending.items (sym c.loop-last.pending.ok.0 ∙ w.in_default.ensures.cases.0) in
          let left : c.pop.new.self.items ≡ [] = length-zero c.pop.new.self.items (sym c.pop.new.self.ok.0 ∙ w.in_default.ensures.cases.1) in
          ap (λ p. plain_waiting p.items c.loop-last.value) w.pending-is
          ∙ ap (λ items. record { pending = plain_stack items; value = value }) left
          ∙ sym (gathered-empty bound value)
          ∙ ap (λ items. gathered bound (plain_stack items) value) (sym none)
          ∙ c.loop-last.invariant
    ]
