-- `dict` always comes to something.
use Rattle.std.proofs.Common.{ℕ, Bool, true, false, List, [], ◌∷◌, ◌&&◌, not}
use Rattle.laws_answers.proofs.Scalars.{changes}
use Rattle.laws_answers.proofs.Totals.{Good, Total, same, told}
use Rattle.tt_dict.specs.Changing.{change_answer}
use Rattle.tt_dict.specs.Table.{call_of}
use Rattle.tt_dict.specs.declared.call.DictCall.{DictCall}
use Rattle.tt_dict.specs.declared.call.DictCall.TheVariants.{Done, Variable, Loop}
use Rattle.tt_dictionaries.specs.Commands.{Runs, RunsCall, RunsIf, is_dict, loops}
use Rattle.tt_pairs.specs.Reading.{reading_of}
use Rattle.tt_store.specs.Held.{Held}
use Rattle.tt_store.specs.declared.answers.Answer.TheVariants as answers

call_total : (call : DictCall) (old : Held) → Good old → Total (λ answer new. RunsCall call old answer new)
call_total (Done outcome) old good = same old (answers.Outcome outcome) good
call_total (Variable name change) old good = told answers.Outcome (changes name [] (λ text. change_answer change (reading_of text)) old good)
call_total (Loop looping) old good = same old answers.Other good

pub dictionaries_total : (words : List (List ℕ)) (old : Held) → Good old → Total (λ answer new. Runs words old answer new)
dictionaries_total [] old good = same old answers.Other good
dictionaries_total (word ∷ words) old good = by (is_dict word && not (loops words))
  where
    by : (named : Bool) → Total (λ answer new. RunsIf named words old answer new)
    by false = same old answers.Other good
    by true = call_total (call_of words) old good
