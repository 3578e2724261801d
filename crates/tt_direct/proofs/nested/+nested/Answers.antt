use Rattle.std.proofs.Common.{rules, ◌≡◌, ◌+◌, ◌∙◌, ℕ, Bool, if◌then◌else◌, List, [], Option, None, Some, drop, length, refl, sym, ap}
use Rattle.std.specs.Arc.{arc_value}
use Rattle.std.specs.Prelude.{bytes_eq, codes}
use Rattle.std.specs.Option.{option_map}
use Rattle.tt_code.specs.Needs.{Needs, Refused}
use Rattle.tt_code.specs.Running.{needs, with_value}
use Rattle.tt_evaluation.specs.Frames.{plan_of}
use Rattle.tt_evaluation.specs.Plans.{Asks, Calls, Ends, Goes}
use Rattle.tt_frames.specs.Control.{clauses}
use Rattle.tt_frames.specs.Expressions.{came_to, ending_for, first_of, needs_then, text_needs}
use Rattle.tt_frames.specs.Frames.{after, command_ended, command_needs, on_got}
use Rattle.tt_frames.specs.Loops.{bodily, following, looping, turning}
use Rattle.tt_frames.specs.Programs.{steps_of}
use Rattle.tt_frames.specs.Scripts.{command_of_words, commands, needing}
use Rattle.tt_frames.specs.Tcl.{plan}
use Rattle.tt_frames.specs.Vocabulary.{same_ending}
use Rattle.tt_frames.specs.declared.job.CommandFrame.{CommandFrame}
use Rattle.tt_frames.specs.declared.job.Frame.TheVariants as frames
use Rattle.tt_frames.specs.declared.job.Job.TheVariants as job
use Rattle.tt_frames.specs.declared.job.Purpose.TheVariants.{Condition}
use Rattle.tt_outcomes.specs.Endings.{error_ending}
use Rattle.tt_outcomes.specs.declared.ending.Ending.{Ending}
use Rattle.tt_outcomes.specs.declared.ending.Ending.TheVariants.{Fine}
use Rattle.tt_direct.proofs.Needing.{met_as, script_called}
use Rattle.tt_direct.proofs.Spending.{words_called, words_met}
use Rattle.tt_direct.proofs.Staying.{called_ends, called_fine, called_moves, called_on, came_from, came_then, comes_now, done_as, done_from, done_now}
use Rattle.tt_direct.proofs.Staying.{done_then, goes_out, moved_as, over, same_plan, settled, stays_as, stays_then, turned_then, called_then, moved_then}
use Rattle.tt_direct.proofs.Turning.{bodily_is, nothing_follows, part_called, script_follows, turned_goes, turned_stops, turning_is}
use Rattle.tt_direct.specs.Leading.{TclMove, TclStack}
use Rattle.tt_direct.specs.inside.Choices.{then_clause}
use Rattle.tt_direct.specs.inside.Commands.{begun_command, commands_after, then_first, then_passed, then_ran, then_spent}
use Rattle.tt_direct.specs.inside.Loops.{loop_of}
use Rattle.tt_direct.specs.inside.Needing.{then_met}
use Rattle.tt_direct.specs.declared.came.Came.TheVariants as came
use Rattle.tt_direct.specs.declared.choices.Clause.{Clause}
use Rattle.tt_direct.specs.declared.commands.AfterWords.{AfterWords}
use Rattle.tt_direct.specs.declared.commands.Done.{Done}
use Rattle.tt_direct.specs.declared.commands.Done.TheVariants as done
use Rattle.tt_direct.specs.declared.moves.Moved.TheVariants as moved
use Rattle.tt_direct.specs.declared.needs.Met.{Met}
use Rattle.tt_direct.specs.declared.scripts.Opening.{Opening}
use Rattle.tt_direct.proofs.nested.+nested.Goals as goal

-- ---- jobs ----

pub go_over-returns-then-depth-eq0 : goal.go_over-returns-then-depth-eq0
go_over-returns-then-depth-eq0 t c =
    let old = c.args.stack.now in
    comes_now c.in_ok-came.came (Goes c.args.job old.state) old (search rules) (c.in_ok-came.ensures.moves old.state)
    (same_plan c.args.kept.now (Goes c.args.job old.state) (Goes c.args.job old.state) old old refl refl refl)

pub go_over-returns : goal.go_over-returns
go_over-returns t c =
    let old = c.args.stack.now in
    let stack : TclStack = record old { steps = c.in_ok-stack.field-0 } in
    let spent : old.steps ≡ stack.steps + 1 = search rules in
    came_then c.evaluate.new.kept c.evaluate.new.stack c.in_ok-came-2.came (over c.args.kept.now c.args.job stack old refl spent refl) c.in_ok-came-2.ensures.runs

-- ---- scripts ----

pub script-returns-in-Over : goal.script-returns-in-Over
script-returns-in-Over t c =
    let old = c.args.stack.now in
    let text = arc_value c.args.program in
    let whole = commands text (drop 0 (steps_of text)) [] old.state in
    comes_now c.in-Over.came whole old (search rules)
    (c.in_ok-came.ensures.first old.state ∙ ap (λ (o : Opening). then_first o old.state) c.in-Over.is)
    (same_plan c.args.kept.now whole whole old old refl refl refl)

pub script-returns-in_ok-came-in-Does : goal.script-returns-in_ok-came-in-Does
script-returns-in_ok-came-in-Does t c =
    let old = c.args.stack.now in
    let text = arc_value c.args.program in
    came_from c.run.new.kept c.args.kept.now c.in_ok-came-in-Does.came (begun_command c.in-Does.frame old.state)
    (commands text (drop 0 (steps_of text)) [] old.state) c.run.new.stack old old
    (c.in_ok-came.ensures.first old.state ∙ ap (λ (o : Opening). then_first o old.state) c.in-Does.is) refl refl
    c.in_ok-came-in-Does.ensures.runs

pub run-returns-in-Stops : goal.run-returns-in-Stops
run-returns-in-Stops t c =
    let kept = c.command.new.kept in
    let middle = c.commands.stack in
    let whole = begun_command c.commands.frame middle.state in
    record {
      runs = came_then kept c.stopped.new.stack c.in_ok-came-in-Stops.came c.commands.invariant
          (c.in_ok-came-in-Stops.ensures.stopped kept c.commands.kept whole middle (search rules)
          (done_as kept c.commands.kept whole c.command.new.stack middle c.in_ok-stop.field-0 (done.Stops c.in-Stops.stop) c.command.new.frame
          c.in-Stops.is c.in_ok-stop.ensures));
    }

pub run-returns-in-Some : goal.run-returns-in-Some
run-returns-in-Some t c =
    let kept = c.command.new.kept in
    let middle = c.commands.stack in
    let stack = c.command.new.stack in
    let whole = begun_command c.commands.frame middle.state in
    let on = done_as kept c.commands.kept whole stack middle c.in_ok-stop.field-0 (done.Fine c.in-Fine.value) c.command.new.frame
    c.in-Fine.is c.in_ok-stop.ensures in
    record {
      runs = comes_now c.in-Some.came (commands_after c.command.new.frame c.in-Fine.value stack.state) stack (search rules)
          (c.in_ok-came-in-Fine.ensures.passed stack.state ∙ ap (λ o. then_passed o c.pass.new.frame stack.state) c.in-Some.is)
          (stays_then c.commands.invariant on);
    }

pub run-commands-preserved : goal.run-commands-preserved
run-commands-preserved t c =
    let kept = c.command.new.kept in
    let middle = c.commands.stack in
    let stack = c.command.new.stack in
    let whole = begun_command c.commands.frame middle.state in
    let on = done_as kept c.commands.kept whole stack middle c.in_ok-stop.field-0 (done.Fine c.in-Fine.value) c.command.new.frame
    c.in-Fine.is c.in_ok-stop.ensures in
    let none : c.in_ok-came-in-Fine.field-0 ≡ None = search rules in
    stays_as (commands_after c.command.new.frame c.in-Fine.value stack.state) (begun_command c.pass.new.frame stack.state) stack
    (c.in_ok-came-in-Fine.ensures.passed stack.state ∙ ap (λ o. then_passed o c.pass.new.frame stack.state) none)
    (stays_then c.commands.invariant on)

-- ---- commands ----

pub command-returns-in-Some : goal.command-returns-in-Some
command-returns-in-Some t c =
    let old = c.args.stack.now in
    let frame = c.args.frame.now in
    let stack : TclStack = record old { state = c.spend.new.state } in
    let whole = begun_command frame old.state in
    done_now c.in-Some.done frame whole stack (search rules)
    (c.in_ok-done.ensures.spent ∙ ap (λ (o : Option Done). then_spent o frame stack.state) c.in-Some.is)
    (same_plan c.args.kept.now whole whole stack old refl refl refl)

pub command-returns-in_ok-done-in-None : goal.command-returns-in_ok-done-in-None
command-returns-in_ok-done-in-None t c =
    let old = c.args.stack.now in
    let frame = c.args.frame.now in
    let stack : TclStack = record old { state = c.spend.new.state } in
    let none : c.in_ok-done.field-0 ≡ None = search rules in
    done_from c.words.new.kept c.args.kept.now c.in_ok-done-in-None.done c.words.new.frame (command_needs frame stack.state)
    (begun_command frame old.state) c.words.new.stack stack old
    (c.in_ok-done.ensures.spent ∙ ap (λ (o : Option Done). then_spent o frame stack.state) none) refl refl
    c.in_ok-done-in-None.ensures.runs

pub words-returns-in-Value : goal.words-returns-in-Value
words-returns-in-Value t c =
    let began = c.words.frame in
    let frame : CommandFrame = record { program = began.program; at = began.at; running = c.meet.new.running } in
    let stack = c.words.stack in
    let words = c.in_ok-words-in-Value.words in
    record {
      runs = done_then c.act.new.kept c.act.new.stack c.in_ok-done-in-Value.done frame
          (words_met c.in_ok-word.field-0 frame.running began (command_of_words (command_ended frame) words stack.state) stack
          c.in_ok-word.ensures.meets
          (ap (λ (m : Met). then_met m frame.running (command_of_words (command_ended frame)) (command_ended frame) stack.state) c.in-Value.is
          ∙ ap (λ (w : List (List ℕ)). command_of_words (command_ended frame) w stack.state) (sym c.in_ok-words-in-Value.ensures.one))
          c.words.invariant)
          c.in_ok-done-in-Value.ensures;
    }

pub words-returns-in-Values : goal.words-returns-in-Values
words-returns-in-Values t c =
    let began = c.words.frame in
    let frame : CommandFrame = record { program = began.program; at = began.at; running = c.meet.new.running } in
    let stack = c.words.stack in
    let made : c.in-Values.words.items ≡ c.from.result = search rules in
    record {
      runs = done_then c.act-in-Values.new.kept c.act-in-Values.new.stack c.in_ok-done-in-Values.done frame
          (words_met c.in_ok-word.field-0 frame.running began (command_of_words (command_ended frame) c.from.result stack.state) stack
          c.in_ok-word.ensures.meets
          (ap (λ (m : Met). then_met m frame.running (command_of_words (command_ended frame)) (command_ended frame) stack.state) c.in-Values.is
          ∙ ap (λ (w : List (List ℕ)). command_of_words (command_ended frame) w stack.state) made)
          c.words.invariant)
          c.in_ok-done-in-Values.ensures;
    }

pub words-returns-in-Quit : goal.words-returns-in-Quit
words-returns-in-Quit t c =
    let began = c.words.frame in
    let frame : CommandFrame = record { program = began.program; at = began.at; running = c.meet.new.running } in
    let stack = c.words.stack in
    let rest = command_ended frame c.in-Quit.ending stack.state in
    record {
      runs = done_now c.in_ok-done-in-Quit.done frame rest stack (search rules) (c.in_ok-done-in-Quit.ensures.ended stack.state)
          (words_met c.in_ok-word.field-0 frame.running began rest stack c.in_ok-word.ensures.meets
          (ap (λ (m : Met). then_met m frame.running (command_of_words (command_ended frame)) (command_ended frame) stack.state) c.in-Quit.is)
          c.words.invariant);
    }

pub words-returns-in-Ends : goal.words-returns-in-Ends
words-returns-in-Ends t c =
    let began = c.words.frame in
    let frame : CommandFrame = record { program = began.program; at = began.at; running = c.meet.new.running } in
    let middle = c.words.stack in
    let stack = c.go_over.new.stack in
    let kept = c.go_over.new.kept in
    let ending = c.into_inner.result in
    let ends : c.in_ok-value-in-Script.field-0 ≡ came.Ends ending = search rules in
    let on = words_called kept c.meet.new.kept c.in_ok-word.field-0 frame began c.in-Script.text c.in_ok-value-in-Script.field-0 stack middle
    c.in_ok-word.ensures.meets c.in-Script.is refl c.words.invariant c.in_ok-value-in-Script.ensures in
    let out = called_ends kept c.args.kept.now (command_needs c.args.frame.now c.args.stack.now.state) stack c.args.stack.now
    c.in_ok-value-in-Script.field-0 (frames.Needs frame) ending ends on in
    let rest = command_ended frame ending stack.state in
    record {
      runs = done_now c.in_ok-done-in-Ends.done frame rest stack (search rules) (c.in_ok-done-in-Ends.ensures.ended stack.state)
          (stays_as (after (frames.Needs frame) ending stack.state) rest stack
          (goes_out ending (λ value. needing (command_of_words (command_ended frame)) (command_ended frame) (with_value frame.running value))
          (command_ended frame) stack.state out.0) out.1);
    }

pub words-returns-in-Moves : goal.words-returns-in-Moves
words-returns-in-Moves t c =
    let began = c.words.frame in
    let frame : CommandFrame = record { program = began.program; at = began.at; running = c.meet.new.running } in
    let stack = c.go_over.new.stack in
    let kept = c.go_over.new.kept in
    let on = words_called kept c.meet.new.kept c.in_ok-word.field-0 frame began c.in-Script.text c.in_ok-value-in-Script.field-0 stack c.words.stack
    c.in_ok-word.ensures.meets c.in-Script.is refl c.words.invariant c.in_ok-value-in-Script.ensures in
    record {
      runs = called_moves kept c.args.kept.now (command_needs c.args.frame.now c.args.stack.now.state) stack c.args.stack.now
          c.in_ok-value-in-Script.field-0 (frames.Needs frame) c.in-Moves.next c.in-Moves.is on;
    }

pub words-words-preserved : goal.words-words-preserved
words-words-preserved t c =
    let began = c.words.frame in
    let frame : CommandFrame = record { program = began.program; at = began.at; running = c.meet.new.running } in
    let next : CommandFrame = record { program = began.program; at = began.at; running = c.give.new.self } in
    let stack = c.go_over.new.stack in
    let kept = c.go_over.new.kept in
    let on = words_called kept c.meet.new.kept c.in_ok-word.field-0 frame began c.in-Script.text c.in_ok-value-in-Script.field-0 stack c.words.stack
    c.in_ok-word.ensures.meets c.in-Script.is refl c.words.invariant c.in_ok-value-in-Script.ensures in
    let given : with_value frame.running c.in-Fine.value ≡ needs c.give.new.self = search rules in
    stays_as (after (frames.Needs frame) (Fine c.in-Fine.value) stack.state) (command_needs next stack.state) stack
    (ap (λ (n : Needs). needing (command_of_words (command_ended frame)) (command_ended frame) n stack.state) given)
    (called_fine kept c.args.kept.now (command_needs c.args.frame.now c.args.stack.now.state) stack c.args.stack.now
    c.in_ok-value-in-Script.field-0 (frames.Needs frame) c.in-Fine.value c.in-Fine.is on)

pub act-returns-in_ok-done-in-Ended : goal.act-returns-in_ok-done-in-Ended
act-returns-in_ok-done-in-Ended t c =
    let old = c.args.stack.now in
    let frame = c.args.frame.now in
    let ran = then_ran c.in_ok-ending.field-0 (command_ended frame) old.state in
    done_now c.in_ok-done-in-Ended.done frame ran old (search rules)
    (ap (λ (r : AfterWords). then_ran r (command_ended frame) old.state) c.in-Ended.is ∙ c.in_ok-done-in-Ended.ensures.ended old.state)
    (settled ran (command_of_words (command_ended frame) c.args.words old.state) old old
    (c.in_ok-ending.ensures.runs (command_ended frame) old.state) refl refl)

pub act-returns-in_ok-done-in-Calls : goal.act-returns-in_ok-done-in-Calls
act-returns-in_ok-done-in-Calls t c =
    let old = c.args.stack.now in
    let frame = c.args.frame.now in
    let ran = then_ran c.in_ok-ending.field-0 (command_ended frame) old.state in
    done_then c.call.new.kept c.call.new.stack c.in_ok-done-in-Calls.done frame
    (stays_as ran (Calls None c.in-Calls.job old.state (command_ended frame)) old
    (ap (λ (r : AfterWords). then_ran r (command_ended frame) old.state) c.in-Calls.is)
    (settled ran (command_of_words (command_ended frame) c.args.words old.state) old old
    (c.in_ok-ending.ensures.runs (command_ended frame) old.state) refl refl))
    c.in_ok-done-in-Calls.ensures.calls

pub call-returns-in-Fine : goal.call-returns-in-Fine
call-returns-in-Fine t c =
    let old = c.args.stack.now in
    let frame = c.args.frame.now in
    let stack = c.go_over.new.stack in
    let kept = c.go_over.new.kept in
    let on = called_on kept c.args.kept.now c.in_ok-value.field-0 (frames.Does frame) c.args.job old.state stack old c.in_ok-value.ensures in
    record {
      calls = called_fine kept c.args.kept.now (Calls None c.args.job old.state (command_ended frame)) stack old c.in_ok-value.field-0
          (frames.Does frame) c.in-Fine.value c.in-Fine.is on;
    }

pub call-returns-in_ok-done-in-Ends : goal.call-returns-in_ok-done-in-Ends
call-returns-in_ok-done-in-Ends t c =
    let old = c.args.stack.now in
    let frame = c.args.frame.now in
    let stack = c.go_over.new.stack in
    let kept = c.go_over.new.kept in
    let ending = c.into_inner.result in
    let ends : c.in_ok-value.field-0 ≡ came.Ends ending = search rules in
    let on = called_on kept c.args.kept.now c.in_ok-value.field-0 (frames.Does frame) c.args.job old.state stack old c.in_ok-value.ensures in
    let out = called_ends kept c.args.kept.now (Calls None c.args.job old.state (command_ended frame)) stack old c.in_ok-value.field-0
    (frames.Does frame) ending ends on in
    record {
      calls = done_now c.in_ok-done-in-Ends.done frame (command_ended frame ending stack.state) stack (search rules)
          (c.in_ok-done-in-Ends.ensures.ended stack.state) out.1;
    }

pub call-returns-in-Moves : goal.call-returns-in-Moves
call-returns-in-Moves t c =
    let old = c.args.stack.now in
    let frame = c.args.frame.now in
    let stack = c.go_over.new.stack in
    let kept = c.go_over.new.kept in
    let on = called_on kept c.args.kept.now c.in_ok-value.field-0 (frames.Does frame) c.args.job old.state stack old c.in_ok-value.ensures in
    record {
      calls = called_moves kept c.args.kept.now (Calls None c.args.job old.state (command_ended frame)) stack old c.in_ok-value.field-0
          (frames.Does frame) c.in-Moves.next c.in-Moves.is on;
    }

-- ---- expressions ----

pub compute-returns-in-Value : goal.compute-returns-in-Value
compute-returns-in-Value t c =
    let stack = c.needs.stack in
    let rest = same_ending c.in_ok-ending-in-Value.ending stack.state in
    let made : ending_for c.args.purpose (c.in-Value.value) ≡ c.in_ok-ending-in-Value.ending = search rules in
    record {
      runs = comes_now c.in_ok-came-in-Value.came rest stack (search rules) (c.in_ok-came-in-Value.ensures.ended stack.state)
          (met_as c.in_ok-value.field-0 c.meet.new.running c.needs.code (came_to c.args.purpose) same_ending rest stack c.in_ok-value.ensures.meets
          (ap (λ (m : Met). then_met m c.meet.new.running (came_to c.args.purpose) same_ending stack.state) c.in-Value.is
          ∙ ap (λ (e : Ending). same_ending e stack.state) made) c.needs.invariant);
    }

pub compute-returns-in-Values : goal.compute-returns-in-Values
compute-returns-in-Values t c =
    let stack = c.needs.stack in
    let rest = same_ending c.in_ok-ending-in-Values.ending stack.state in
    let made : ending_for c.args.purpose (first_of c.in-Values.values.items) ≡ c.in_ok-ending-in-Values.ending = search rules in
    record {
      runs = comes_now c.in_ok-came-in-Values.came rest stack (search rules) (c.in_ok-came-in-Values.ensures.ended stack.state)
          (met_as c.in_ok-value.field-0 c.meet.new.running c.needs.code (came_to c.args.purpose) same_ending rest stack c.in_ok-value.ensures.meets
          (ap (λ (m : Met). then_met m c.meet.new.running (came_to c.args.purpose) same_ending stack.state) c.in-Values.is
          ∙ ap (λ (e : Ending). same_ending e stack.state) made) c.needs.invariant);
    }

pub compute-returns-in-Quit : goal.compute-returns-in-Quit
compute-returns-in-Quit t c =
    let stack = c.needs.stack in
    let rest = same_ending c.in-Quit.ending stack.state in
    record {
      runs = comes_now c.in_ok-came-in-Quit.came rest stack (search rules) (c.in_ok-came-in-Quit.ensures.ended stack.state)
          (met_as c.in_ok-value.field-0 c.meet.new.running c.needs.code (came_to c.args.purpose) same_ending rest stack c.in_ok-value.ensures.meets
          (ap (λ (m : Met). then_met m c.meet.new.running (came_to c.args.purpose) same_ending stack.state) c.in-Quit.is) c.needs.invariant);
    }

pub compute-returns-in-Ends : goal.compute-returns-in-Ends
compute-returns-in-Ends t c =
    let now = c.meet.new.running in
    let purpose = c.args.purpose in
    let stack = c.go_over.new.stack in
    let kept = c.go_over.new.kept in
    let first = c.args.stack.now in
    let on = script_called kept c.meet.new.kept c.in_ok-value.field-0 now c.needs.code (came_to purpose) same_ending (frames.Expression purpose now)
    c.in-Script.text c.in_ok-value-in-Script.field-0 stack c.needs.stack c.in_ok-value.ensures.meets c.in-Script.is refl c.needs.invariant
    c.in_ok-value-in-Script.ensures in
    let out = called_ends kept c.args.kept.now (needs_then purpose (needs c.args.code) first.state) stack first c.in_ok-value-in-Script.field-0
    (frames.Expression purpose now) c.in-Ends.ending c.in-Ends.is on in
    record {
      runs = (
        out.0,
        stays_as (after (frames.Expression purpose now) c.in-Ends.ending stack.state) (Ends c.in-Ends.ending stack.state) stack
            (goes_out c.in-Ends.ending (λ value. needs_then purpose (with_value now value)) same_ending stack.state out.0) out.1,
      );
    }

pub compute-returns-in-Moves : goal.compute-returns-in-Moves
compute-returns-in-Moves t c =
    let now = c.meet.new.running in
    let purpose = c.args.purpose in
    let stack = c.go_over.new.stack in
    let kept = c.go_over.new.kept in
    let first = c.args.stack.now in
    let whole = needs_then purpose (needs c.args.code) first.state in
    let on = script_called kept c.meet.new.kept c.in_ok-value.field-0 now c.needs.code (came_to purpose) same_ending (frames.Expression purpose now)
    c.in-Script.text c.in_ok-value-in-Script.field-0 stack c.needs.stack c.in_ok-value.ensures.meets c.in-Script.is refl c.needs.invariant
    c.in_ok-value-in-Script.ensures in
    let here : length c.needs.stack.calls.items ≡ c.len-place.result = search rules in
    record {
      runs = c.in_ok-came-in-Moves.ensures.left kept c.args.kept.now whole first
          (sym (ap length c.needs.invariant.same) ∙ here)
          (called_moves kept c.args.kept.now whole stack first c.in_ok-value-in-Script.field-0 (frames.Expression purpose now) c.in-Moves.next
          c.in-Moves.is on);
    }

pub compute-needs-preserved : goal.compute-needs-preserved
compute-needs-preserved t c =
    let now = c.meet.new.running in
    let purpose = c.args.purpose in
    let stack = c.go_over.new.stack in
    let kept = c.go_over.new.kept in
    let first = c.args.stack.now in
    let on = script_called kept c.meet.new.kept c.in_ok-value.field-0 now c.needs.code (came_to purpose) same_ending (frames.Expression purpose now)
    c.in-Script.text c.in_ok-value-in-Script.field-0 stack c.needs.stack c.in_ok-value.ensures.meets c.in-Script.is refl c.needs.invariant
    c.in_ok-value-in-Script.ensures in
    let given : with_value now c.in-Fine.value ≡ needs c.give.new.self = search rules in
    stays_as (after (frames.Expression purpose now) (Fine c.in-Fine.value) stack.state) (needs_then purpose (needs c.give.new.self) stack.state) stack
    (ap (λ (n : Needs). needs_then purpose n stack.state) given)
    (called_fine kept c.args.kept.now (needs_then purpose (needs c.args.code) first.state) stack first c.in_ok-value-in-Script.field-0
    (frames.Expression purpose now) c.in-Fine.value c.in-Fine.is on)

-- ---- turns ----

pub turns-returns-in-Stops : goal.turns-returns-in-Stops
turns-returns-in-Stops t c =
    let loop = loop_of c.args.parts.now in
    let middle = c.turns.stack in
    came_then c.turn.new.kept c.turn.new.stack c.in-Stops.came c.turns.invariant
    (turned_stops c.turn.new.kept c.turns.kept (looping loop middle.state) c.turn.new.stack middle c.in_ok-turn.field-0 c.in-Stops.came (looping loop)
    c.in-Stops.is c.in_ok-turn.ensures)

pub turns-turns-preserved : goal.turns-turns-preserved
turns-turns-preserved t c =
    let loop = loop_of c.args.parts.now in
    let middle = c.turns.stack in
    stays_then c.turns.invariant
    (turned_goes c.turn.new.kept c.turns.kept (looping loop middle.state) c.turn.new.stack middle c.in_ok-turn.field-0 (looping loop)
    c.in-Goes.is c.in_ok-turn.ensures)

pub turn-returns-in-Stops : goal.turn-returns-in-Stops
turn-returns-in-Stops t c =
    let loop = loop_of c.args.parts.now in
    let old = c.args.stack.now in
    let kept = c.args.kept.now in
    turned_stops kept kept (looping loop old.state) c.begin.new.stack old c.in_ok-begin.field-0 c.in-Stops.came (turning loop)
    c.in-Stops.is (c.in_ok-begin.ensures.begun kept)

pub turn-returns-in-Stops-2 : goal.turn-returns-in-Stops-2
turn-returns-in-Stops-2 t c =
    let loop = loop_of c.args.parts.now in
    let old = c.args.stack.now in
    let kept = c.args.kept.now in
    let begun = turned_goes kept kept (looping loop old.state) c.begin.new.stack old c.in_ok-begin.field-0 (turning loop) c.in-Goes.is
    (c.in_ok-begin.ensures.begun kept) in
    came_then c.test.new.kept c.test.new.stack c.in-Stops-2.came begun
    (turned_stops c.test.new.kept kept (turning loop c.begin.new.stack.state) c.test.new.stack c.begin.new.stack c.in_ok-test.field-0 c.in-Stops-2.came
    (bodily loop) c.in-Stops-2.is c.in_ok-test.ensures)

pub turn-returns-in-Stops-3 : goal.turn-returns-in-Stops-3
turn-returns-in-Stops-3 t c =
    let loop = loop_of c.args.parts.now in
    let old = c.args.stack.now in
    let kept = c.args.kept.now in
    let begun = turned_goes kept kept (looping loop old.state) c.begin.new.stack old c.in_ok-begin.field-0 (turning loop) c.in-Goes.is
    (c.in_ok-begin.ensures.begun kept) in
    let tested = stays_then begun
    (turned_goes c.test.new.kept kept (turning loop c.begin.new.stack.state) c.test.new.stack c.begin.new.stack c.in_ok-test.field-0
    (bodily loop) c.in-Goes-2.is c.in_ok-test.ensures) in
    came_then c.run_body.new.kept c.run_body.new.stack c.in-Stops-3.came tested
    (turned_stops c.run_body.new.kept c.test.new.kept (bodily loop c.test.new.stack.state) c.run_body.new.stack c.test.new.stack c.in_ok-run_body.field-0
    c.in-Stops-3.came (following loop) c.in-Stops-3.is c.in_ok-run_body.ensures)

pub turn-returns : goal.turn-returns
turn-returns t c =
    let loop = loop_of c.args.parts.now in
    let old = c.args.stack.now in
    let kept = c.args.kept.now in
    let begun = turned_goes kept kept (looping loop old.state) c.begin.new.stack old c.in_ok-begin.field-0 (turning loop) c.in-Goes.is
    (c.in_ok-begin.ensures.begun kept) in
    let tested = stays_then begun
    (turned_goes c.test.new.kept kept (turning loop c.begin.new.stack.state) c.test.new.stack c.begin.new.stack c.in_ok-test.field-0
    (bodily loop) c.in-Goes-2.is c.in_ok-test.ensures) in
    let done = stays_then tested
    (turned_goes c.run_body.new.kept c.test.new.kept (bodily loop c.test.new.stack.state) c.run_body.new.stack c.test.new.stack c.in_ok-run_body.field-0
    (following loop) c.in-Goes-3.is c.in_ok-run_body.ensures) in
    turned_then c.follow.new.kept c.follow.new.stack c.in_ok-turned.turned (looping loop) done c.in_ok-turned.ensures

pub test-returns : goal.test-returns
test-returns t c =
    let parts = c.args.parts.now in
    let loop = loop_of parts in
    let old = c.args.stack.now in
    let stack : TclStack = record old { steps = c.in_ok-stack.field-0 } in
    let spent : old.steps ≡ stack.steps + 1 = search rules in
    c.in_ok-turned.ensures.tested c.compute.new.kept c.args.kept.now (turning loop old.state) old (search rules)
    (part_called c.compute.new.kept c.args.kept.now c.in_ok-came.came (frames.Test loop) (job.Expression Condition parts.test) (turning loop old.state)
    (needs_then Condition (needs c.new-code.result) old.state) c.compute.new.stack stack old c.in_ok-came.ensures.runs
    (ap (λ (n : Needs). needs_then Condition n old.state) (c.new-code.ensures.begun ∙ c.in_ok-code.ensures.code))
    (turning_is parts.test (arc_value parts.body) (option_map arc_value parts.next) old.state) spent refl)

pub run_body-returns : goal.run_body-returns
run_body-returns t c =
    let parts = c.args.parts.now in
    let loop = loop_of parts in
    let old = c.args.stack.now in
    let stack : TclStack = record old { steps = c.in_ok-stack.field-0 } in
    let spent : old.steps ≡ stack.steps + 1 = search rules in
    let made = arc_value c.in_ok-clone.field-0 in
    let same : made ≡ arc_value parts.body = search rules in
    c.in_ok-turned.ensures.done c.script.new.kept c.args.kept.now (bodily loop old.state) old (search rules)
    (part_called c.script.new.kept c.args.kept.now c.in_ok-came.came (frames.LoopBody loop) (job.Script (arc_value parts.body)) (bodily loop old.state)
    (commands made (drop 0 (steps_of made)) [] old.state) c.script.new.stack stack old c.in_ok-came.ensures
    (ap (λ (x : List ℕ). plan (job.Script x) old.state) same)
    (bodily_is parts.test (arc_value parts.body) (option_map arc_value parts.next) old.state) spent refl)

-- ---- jobs by their kind ----

pub evaluate-returns-in_ok-came-in-Script : goal.evaluate-returns-in_ok-came-in-Script
evaluate-returns-in_ok-came-in-Script t c =
    let old = c.args.stack.now in
    let middle : TclStack = record old { state = c.script.new.self } in
    let made = arc_value c.in_ok-program-in-Script.program in
    let text : c.in-Script.text ≡ made = search rules in
    let same : old.state ≡ middle.state = search rules in
    record {
      runs = came_from c.script-in-Script.new.kept c.args.kept.now c.in_ok-came-in-Script.came (commands made (drop 0 (steps_of made)) [] middle.state)
          (plan c.args.job old.state) c.script-in-Script.new.stack middle old
          (ap (λ j. plan j old.state) c.in-Script.is ∙ ap (λ x. plan (job.Script x) old.state) text ∙ ap (λ s. plan (job.Script made) s) same) refl refl
          c.in_ok-came-in-Script.ensures;
    }

pub evaluate-returns-in_ok-came-in-Bad : goal.evaluate-returns-in_ok-came-in-Bad
evaluate-returns-in_ok-came-in-Bad t c =
    let old = c.args.stack.now in
    let stack : TclStack = record old { state = c.expression.new.self } in
    let ending = c.in_ok-ending-in-Bad.ending in
    let whole = plan c.args.job old.state in
    let purpose = c.in-Expression.purpose in
    let message = c.in-Bad.message in
    let needed : text_needs c.in-Expression.text ≡ Refused message = search rules in
    let same : old.state ≡ stack.state = search rules in
    let failed : error_ending message ≡ ending = search rules in
    let is : whole ≡ same_ending ending stack.state =
    ap (λ j. plan j old.state) c.in-Expression.is ∙ ap (λ (n : Needs). needs_then purpose n old.state) needed
    ∙ ap (λ s. needs_then purpose (Refused message) s) same ∙ ap (λ (e : Ending). same_ending e stack.state) failed
    in
    record {
      runs = comes_now c.in_ok-came-in-Bad.came whole stack (search rules) (is ∙ c.in_ok-came-in-Bad.ensures.ended stack.state)
          (same_plan c.args.kept.now whole whole stack old refl refl refl);
    }

pub evaluate-returns-in_ok-came-in-Code : goal.evaluate-returns-in_ok-came-in-Code
evaluate-returns-in_ok-came-in-Code t c =
    let old = c.args.stack.now in
    let middle : TclStack = record old { state = c.expression.new.self } in
    let purpose = c.in-Expression.purpose in
    let whole = plan c.args.job old.state in
    let needed : text_needs c.in-Expression.text ≡ needs c.new-code.result = search rules in
    let same : old.state ≡ middle.state = search rules in
    let is : whole ≡ needs_then purpose (needs c.new-code.result) middle.state =
    ap (λ j. plan j old.state) c.in-Expression.is ∙ ap (λ (n : Needs). needs_then purpose n old.state) needed
    ∙ ap (λ s. needs_then purpose (needs c.new-code.result) s) same
    in
    record {
      runs = came_from c.compute.new.kept c.args.kept.now c.in_ok-came-in-Code.came (needs_then purpose (needs c.new-code.result) middle.state)
          whole c.compute.new.stack middle old is refl refl c.in_ok-came-in-Code.ensures.runs;
    }

pub evaluate-returns-in_ok-came-in-Some : goal.evaluate-returns-in_ok-came-in-Some
evaluate-returns-in_ok-came-in-Some t c =
    let old = c.args.stack.now in
    let middle : TclStack = record old { state = c.of.new.state } in
    let loop = loop_of c.in-Some.parts in
    let whole = plan c.args.job old.state in
    let made : c.in-Loop.whole ≡ loop = search rules in
    let same : old.state ≡ middle.state = search rules in
    let is : whole ≡ looping loop middle.state =
    ap (λ j. plan j old.state) c.in-Loop.is ∙ ap (λ l. looping l old.state) made ∙ ap (λ s. looping loop s) same
    in
    record {
      runs = came_from c.turns.new.kept c.args.kept.now c.in_ok-came-in-Some.came (looping loop middle.state)
          whole c.turns.new.stack middle old is refl refl c.in_ok-came-in-Some.ensures;
    }

pub evaluate-returns-in_ok-came-in-None : goal.evaluate-returns-in_ok-came-in-None
evaluate-returns-in_ok-came-in-None t c =
    let old = c.args.stack.now in
    let next = c.in_ok-next-in-None.next in
    let middle : TclStack = record old { state = c.begin.new.state } in
    let whole = plan c.args.job old.state in
    let is : whole ≡ plan_of after on_got next middle.state = search rules in
    record {
      runs = came_from c.drive.new.kept c.args.kept.now c.in_ok-came-in-None.came (plan_of after on_got next middle.state)
          whole c.drive.new.stack middle old is refl refl c.in_ok-came-in-None.ensures;
    }

pub evaluate-returns-in_ok-came-in_default : goal.evaluate-returns-in_ok-came-in_default
evaluate-returns-in_ok-came-in_default t c =
    let old = c.args.stack.now in
    let next = c.in_ok-next-in_default.next in
    let middle : TclStack = record old { state = c.begin-in_default.new.state } in
    let whole = plan c.args.job old.state in
    record {
      runs = came_from c.drive-in_default.new.kept c.args.kept.now c.in_ok-came-in_default.came (plan_of after on_got next middle.state)
          whole c.drive-in_default.new.stack middle old c.in_ok-next-in_default.ensures.begun refl refl c.in_ok-came-in_default.ensures;
    }

-- ---- moves ----

pub drive-returns-in-Over : goal.drive-returns-in-Over
drive-returns-in-Over t c =
    let middle = c.moves.stack in
    came_then c.advance.new.kept c.advance.new.stack c.in-Over.came c.moves.invariant
    (moved_as c.advance.new.kept c.moves.kept (plan_of after on_got c.moves.step middle.state) c.advance.new.stack middle c.in_ok-next.field-0
    (moved.Over c.in-Over.came) c.in-Over.is c.in_ok-next.ensures)

pub drive-moves-preserved : goal.drive-moves-preserved
drive-moves-preserved t c =
    let middle = c.moves.stack in
    stays_then c.moves.invariant
    (moved_as c.advance.new.kept c.moves.kept (plan_of after on_got c.moves.step middle.state) c.advance.new.stack middle c.in_ok-next.field-0
    (moved.On c.in-On.next) c.in-On.is c.in_ok-next.ensures)

pub advance-returns-in_ok-came-in-Done : goal.advance-returns-in_ok-came-in-Done
advance-returns-in_ok-came-in-Done t c =
    let old = c.args.stack.now in
    let whole = plan_of after on_got c.args.step old.state in
    comes_now c.in_ok-came-in-Done.came whole old (search rules)
    (ap (λ (m : TclMove). plan_of after on_got m old.state) c.in-Done.is ∙ c.in_ok-came-in-Done.ensures.ended old.state)
    (same_plan c.args.kept.now whole whole old old refl refl refl)

-- ---- loops' ends ----

pub follow-returns-in_ok-turned-in-None : goal.follow-returns-in_ok-turned-in-None
follow-returns-in_ok-turned-in-None t c =
    let parts = c.args.parts.now in
    let loop = loop_of parts in
    let old = c.args.stack.now in
    let none : option_map arc_value parts.next ≡ None = search rules in
    c.in_ok-turned-in-None.ensures.over c.args.kept.now c.args.kept.now loop (following loop old.state) old
    (same_plan c.args.kept.now (Goes (job.Loop loop) old.state) (following loop old.state) old old
    (nothing_follows parts.test (arc_value parts.body) (option_map arc_value parts.next) old.state none) refl refl)

pub follow-returns-in_ok-turned-in-Some : goal.follow-returns-in_ok-turned-in-Some
follow-returns-in_ok-turned-in-Some t c =
    let parts = c.args.parts.now in
    let loop = loop_of parts in
    let old = c.args.stack.now in
    let stack : TclStack = record old { steps = c.in_ok-stack-in-Some.field-0 } in
    let spent : old.steps ≡ stack.steps + 1 = search rules in
    let made = arc_value c.in_ok-clone-in-Some.field-0 in
    let next = arc_value c.in-Some.program in
    let same : made ≡ next = search rules in
    let some : option_map arc_value parts.next ≡ Some next = search rules in
    c.in_ok-turned-in-Some.ensures.over c.script.new.kept c.args.kept.now loop (following loop old.state) old
    (c.in_ok-after-in-Some.ensures.done c.script.new.kept c.args.kept.now (following loop old.state) old (search rules)
    (part_called c.script.new.kept c.args.kept.now c.in_ok-came-in-Some.came (frames.LoopNext loop) (job.Script next) (following loop old.state)
    (commands made (drop 0 (steps_of made)) [] old.state) c.script.new.stack stack old c.in_ok-came-in-Some.ensures
    (ap (λ (x : List ℕ). plan (job.Script x) old.state) same)
    (script_follows parts.test (arc_value parts.body) next (option_map arc_value parts.next) old.state some) spent refl))

-- ---- choices ----

pub choose-returns-in-None : goal.choose-returns-in-None
choose-returns-in-None t c =
    let stack = c.clauses.stack in
    let empty : c.new.result ≡ [] = search rules in
    stays_as (clauses c.clauses.left stack.state) (Ends (Fine c.new.result) stack.state) stack
    (c.in_ok-next_clause.ensures.clause stack.state ∙ ap (λ (x : Clause). then_clause x c.next_clause.new.left stack.state) c.in-None.is
    ∙ ap (λ (v : List ℕ). Ends (Fine v) stack.state) (sym empty))
    c.clauses.invariant

pub choose-returns-in-Otherwise : goal.choose-returns-in-Otherwise
choose-returns-in-Otherwise t c =
    let stack = c.clauses.stack in
    came_then c.go_over.new.kept c.go_over.new.stack c.in_ok-came-in-Otherwise.came
    (stays_as (clauses c.clauses.left stack.state) (Goes (job.Script c.in-Otherwise.body) stack.state) stack
    (c.in_ok-next_clause.ensures.clause stack.state ∙ ap (λ (x : Clause). then_clause x c.next_clause.new.left stack.state) c.in-Otherwise.is)
    c.clauses.invariant)
    c.in_ok-came-in-Otherwise.ensures

pub choose-returns-then-holds : goal.choose-returns-then-holds
choose-returns-then-holds t c =
    let middle = c.clauses.stack in
    let stack = c.go_over-in-Tests.new.stack in
    let kept = c.go_over-in-Tests.new.kept in
    let body = c.in-Tests.body in
    let left = c.next_clause.new.left in
    let frame = frames.Clause body left in
    let what = c.in_ok-value-in-Tests.field-0 in
    let call = job.Expression Condition c.in-Tests.test in
    let on = called_then kept stack what frame
    (stays_as (clauses c.clauses.left middle.state) (Calls None call middle.state (after frame)) middle
    (c.in_ok-next_clause.ensures.clause middle.state ∙ ap (λ (x : Clause). then_clause x left middle.state) c.in-Tests.is) c.clauses.invariant)
    (called_on kept c.clauses.kept what frame call middle.state stack middle c.in_ok-value-in-Tests.ensures) in
    came_then c.go_over-then-holds.new.kept c.go_over-then-holds.new.stack c.in_ok-came-in-Fine.came
    (stays_as (after frame (Fine c.in-Fine.value) stack.state) (Goes (job.Script body) stack.state) stack
    (ap (λ (b : Bool). (if b then Goes (job.Script body) else clauses left) stack.state) (sym c.in_ok-holds-in-Fine.ensures.holds ∙ c.if-holds.true))
    (called_fine kept c.args.kept.now (clauses c.args.left c.args.stack.now.state) stack c.args.stack.now what frame c.in-Fine.value c.in-Fine.is on))
    c.in_ok-came-in-Fine.ensures

pub choose-clauses-preserved : goal.choose-clauses-preserved
choose-clauses-preserved t c =
    let middle = c.clauses.stack in
    let stack = c.go_over-in-Tests.new.stack in
    let kept = c.go_over-in-Tests.new.kept in
    let body = c.in-Tests.body in
    let left = c.next_clause.new.left in
    let frame = frames.Clause body left in
    let what = c.in_ok-value-in-Tests.field-0 in
    let call = job.Expression Condition c.in-Tests.test in
    let on = called_then kept stack what frame
    (stays_as (clauses c.clauses.left middle.state) (Calls None call middle.state (after frame)) middle
    (c.in_ok-next_clause.ensures.clause middle.state ∙ ap (λ (x : Clause). then_clause x left middle.state) c.in-Tests.is) c.clauses.invariant)
    (called_on kept c.clauses.kept what frame call middle.state stack middle c.in_ok-value-in-Tests.ensures) in
    stays_as (after frame (Fine c.in-Fine.value) stack.state) (clauses left stack.state) stack
    (ap (λ (b : Bool). (if b then Goes (job.Script body) else clauses left) stack.state) (sym c.in_ok-holds-in-Fine.ensures.holds ∙ c.if-holds.false))
    (called_fine kept c.args.kept.now (clauses c.args.left c.args.stack.now.state) stack c.args.stack.now what frame c.in-Fine.value c.in-Fine.is on)

pub choose-returns-in-Ends : goal.choose-returns-in-Ends
choose-returns-in-Ends t c =
    let middle = c.clauses.stack in
    let stack = c.go_over-in-Tests.new.stack in
    let kept = c.go_over-in-Tests.new.kept in
    let body = c.in-Tests.body in
    let left = c.next_clause.new.left in
    let frame = frames.Clause body left in
    let what = c.in_ok-value-in-Tests.field-0 in
    let call = job.Expression Condition c.in-Tests.test in
    let on = called_then kept stack what frame
    (stays_as (clauses c.clauses.left middle.state) (Calls None call middle.state (after frame)) middle
    (c.in_ok-next_clause.ensures.clause middle.state ∙ ap (λ (x : Clause). then_clause x left middle.state) c.in-Tests.is) c.clauses.invariant)
    (called_on kept c.clauses.kept what frame call middle.state stack middle c.in_ok-value-in-Tests.ensures) in
    let out = called_ends kept c.args.kept.now (clauses c.args.left c.args.stack.now.state) stack c.args.stack.now what frame c.in-Ends.ending c.in-Ends.is on in (
      out.0,
      stays_as (after frame c.in-Ends.ending stack.state) (Ends c.in-Ends.ending stack.state) stack
          (goes_out c.in-Ends.ending (λ value st. (if bytes_eq value (codes "1") then Goes (job.Script body) else clauses left) st) same_ending stack.state out.0) out.1,
    )

pub choose-returns-in-Moves : goal.choose-returns-in-Moves
choose-returns-in-Moves t c =
    let middle = c.clauses.stack in
    let first = c.args.stack.now in
    let stack = c.go_over-in-Tests.new.stack in
    let kept = c.go_over-in-Tests.new.kept in
    let body = c.in-Tests.body in
    let left = c.next_clause.new.left in
    let frame = frames.Clause body left in
    let what = c.in_ok-value-in-Tests.field-0 in
    let call = job.Expression Condition c.in-Tests.test in
    let whole = clauses c.args.left first.state in
    let on = called_then kept stack what frame
    (stays_as (clauses c.clauses.left middle.state) (Calls None call middle.state (after frame)) middle
    (c.in_ok-next_clause.ensures.clause middle.state ∙ ap (λ (x : Clause). then_clause x left middle.state) c.in-Tests.is) c.clauses.invariant)
    (called_on kept c.clauses.kept what frame call middle.state stack middle c.in_ok-value-in-Tests.ensures) in
    let here : length middle.calls.items ≡ c.len-place.result = search rules in
    c.in_ok-came-in-Moves.ensures.left kept c.args.kept.now whole first (sym (ap length c.clauses.invariant.same) ∙ here)
    (called_moves kept c.args.kept.now whole stack first what frame c.in-Moves.next c.in-Moves.is on)

-- ---- a move ----

pub advance-returns-in_ok-moved-in-Ask : goal.advance-returns-in_ok-moved-in-Ask
advance-returns-in_ok-moved-in-Ask t c =
    let old = c.args.stack.now in
    let whole = plan_of after on_got c.args.step old.state in
    moved_then c.ask.new.kept c.ask.new.stack c.in_ok-moved-in-Ask.moved
    (same_plan c.args.kept.now (Asks c.in-Ask.want old.state (on_got c.in-Ask.asking)) whole old old
    (ap (λ (m : TclMove). plan_of after on_got m old.state) c.in-Ask.is) refl refl)
    c.in_ok-moved-in-Ask.ensures.asked

pub advance-returns-in_ok-moved-in-Call-None-default-default : goal.advance-returns-in_ok-moved-in-Call-None-default-default
advance-returns-in_ok-moved-in-Call-None-default-default t c =
    let old = c.args.stack.now in
    let call = c.in-Call-None-default-default in
    let whole = plan_of after on_got c.args.step old.state in
    let same : whole ≡ Calls None call.job old.state (after call.frame) = search rules in
    let came = c.in_ok-came-in-Call-None-default-default.came in
    c.in_ok-moved-in-Call-None-default-default.ensures.came_back c.go_over.new.kept c.args.kept.now whole old (search rules)
    (called_then c.go_over.new.kept c.go_over.new.stack came call.frame
    (same_plan c.args.kept.now (Calls None call.job old.state (after call.frame)) whole old old same refl refl)
    (called_on c.go_over.new.kept c.args.kept.now came call.frame call.job old.state c.go_over.new.stack old c.in_ok-came-in-Call-None-default-default.ensures))

pub advance-returns-then-is_round : goal.advance-returns-then-is_round
advance-returns-then-is_round t c =
    let old = c.args.stack.now in
    let whole = plan_of after on_got c.args.step old.state in
    stays_then
    (same_plan c.args.kept.now (Goes c.in-Goto.job old.state) whole old old
    (ap (λ (m : TclMove). plan_of after on_got m old.state) c.in-Goto.is) refl refl)
    (c.in_ok-next-in-Goto.ensures.begun c.args.kept.now)

pub advance-returns-in_ok-came-in-Goto : goal.advance-returns-in_ok-came-in-Goto
advance-returns-in_ok-came-in-Goto t c =
    let old = c.args.stack.now in
    let whole = plan_of after on_got c.args.step old.state in
    came_from c.go_over-in-Goto.new.kept c.args.kept.now c.in_ok-came-in-Goto.came (Goes c.in-Goto.job old.state) whole c.go_over-in-Goto.new.stack old old
    (ap (λ (m : TclMove). plan_of after on_got m old.state) c.in-Goto.is) refl refl c.in_ok-came-in-Goto.ensures

pub advance-returns-in_ok-came-in_default : goal.advance-returns-in_ok-came-in_default
advance-returns-in_ok-came-in_default t c =
    let old = c.args.stack.now in
    let whole = plan_of after on_got c.args.step old.state in
    comes_now c.in_ok-came-in_default.came whole old (search rules) (search (c.in_ok-came-in_default.ensures.moves old.state, rules))
    (same_plan c.args.kept.now whole whole old old refl refl refl)

-- ---- commands that the evaluation does itself ----

pub evaluate-returns-in_ok-came-in-Some-2 : goal.evaluate-returns-in_ok-came-in-Some-2
evaluate-returns-in_ok-came-in-Some-2 t c =
    let old = c.args.stack.now in
    let whole = plan c.args.job old.state in
    record {
      runs = came_from c.choose.new.kept c.args.kept.now c.in_ok-came-in-Some-2.came (clauses c.in-Some-2.left old.state) whole c.choose.new.stack old old
          (search rules) refl refl c.in_ok-came-in-Some-2.ensures;
    }
