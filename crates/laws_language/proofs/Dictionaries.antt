-- dict(n) comes to one answer, and one thing is held then.
use Rattle.std.proofs.Common.{ℕ, Bool, true, false, not, ◌&&◌, List, [], ◌∷◌}
use Rattle.tt_calls.specs.declared.outcome.Outcome.{Outcome}
use Rattle.tt_dict.specs.Changing.{change_answer}
use Rattle.tt_dict.specs.Table.{call_of}
use Rattle.tt_dict.specs.declared.call.DictCall.{DictCall}
use Rattle.tt_dict.specs.declared.call.DictCall.TheVariants.{Done, Variable, Loop}
use Rattle.tt_dictionaries.specs.Commands.{Runs, RunsCall, RunsIf, is_dict, loops}
use Rattle.tt_pairs.specs.Reading.{reading_of}
use Rattle.tt_store.specs.Held.{Held}
use Rattle.tt_store.specs.Scalars.{Changes}
use Rattle.tt_store.specs.declared.answers.Answer.TheVariants as answers
use Rattle.laws_language.proofs.Once.{Once, once-by, once-told}
use Rattle.laws_language.proofs.VariableCommands.{changes-once}

call-once : (call : DictCall) (old : Held) → Once (RunsCall call old)
call-once (Done outcome) old = once-told (answers.Outcome outcome) old
call-once (Variable name change) old =
    once-by (λ (outcome : Outcome) (new : Held). Changes name [] (λ text. change_answer change (reading_of text)) old outcome new)
    answers.Outcome (changes-once name [] (λ text. change_answer change (reading_of text)) old)
call-once (Loop looping) old = once-told answers.Other old

if-once : (named : Bool) (words : List (List ℕ)) (old : Held) → Once (RunsIf named words old)
if-once false words old = once-told answers.Other old
if-once true words old = call-once (call_of words) old

pub runs-once : (words : List (List ℕ)) (old : Held) → Once (Runs words old)
runs-once [] old = once-told answers.Other old
runs-once (word ∷ words) old = if-once (is_dict word && not (loops words)) words old
