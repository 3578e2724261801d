use Rattle.std.proofs.Common.{rules, ◌≡◌, ◌∙◌, Option, None, ap}
use Rattle.tt_direct.proofs.Staying.{came_then, comes_now, done_as, stays_as}
use Rattle.tt_direct.specs.inside.Commands.{begun_command, commands_after, then_passed}
use Rattle.tt_direct.specs.declared.came.Came.{Came}
use Rattle.tt_direct.specs.declared.commands.Done.TheVariants as done
use Rattle.tt_direct.proofs.jobs.go_on_script.Goals as goal

pub returns-in_ok-came-in-Stops : goal.returns-in_ok-came-in-Stops
returns-in_ok-came-in-Stops c whole before held here on =
    c.in_ok-came-in-Stops.ensures.stopped c.args.kept.now held whole before here
    (done_as c.args.kept.now held whole c.args.stack.now before c.args.done (done.Stops c.in-Stops.stop) c.args.frame c.in-Stops.is on)

pub returns-in-Some : goal.returns-in-Some
returns-in-Some c whole before held here on =
    let old = c.args.stack.now in
    let frame = c.args.frame in
    comes_now c.in-Some.came (commands_after frame c.in-Fine.value old.state) old (search rules)
    (c.in_ok-came-in-Fine.ensures.passed old.state ∙ ap (λ (o : Option Came). then_passed o c.pass.new.frame old.state) c.in-Some.is)
    (done_as c.args.kept.now held whole old before c.args.done (done.Fine c.in-Fine.value) frame c.in-Fine.is on)

pub returns-in_ok-came-in-None : goal.returns-in_ok-came-in-None
returns-in_ok-came-in-None c whole before held here on =
    let old = c.args.stack.now in
    let frame = c.args.frame in
    let none : c.in_ok-came-in-Fine.field-0 ≡ None = search rules in
    came_then c.run.new.kept c.run.new.stack c.in_ok-came-in-None.came
    (stays_as (commands_after frame c.in-Fine.value old.state) (begun_command c.pass.new.frame old.state) old
    (c.in_ok-came-in-Fine.ensures.passed old.state ∙ ap (λ (o : Option Came). then_passed o c.pass.new.frame old.state) none)
    (done_as c.args.kept.now held whole old before c.args.done (done.Fine c.in-Fine.value) frame c.in-Fine.is on))
    c.in_ok-came-in-None.ensures.runs
