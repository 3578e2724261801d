-- `array` always comes to something.
use Rattle.std.proofs.Common.{ℕ, Bool, true, false, List, [], ◌∷◌, bytes_eq, codes}
use Rattle.laws_answers.proofs.ArrayReads.{exists_total, get_total, names_total, size_total}
use Rattle.laws_answers.proofs.ArrayWrites.{set_total, unset_total}
use Rattle.laws_answers.proofs.Scalars.{refuses}
use Rattle.laws_answers.proofs.Tables.{found_row, no_more, row}
use Rattle.laws_answers.proofs.Totals.{Good, Total, same, told}
use Rattle.tt_calls.specs.Outcomes.{error_outcome}
use Rattle.tt_calls.specs.Usages.{bad_option}
use Rattle.tt_store.specs.Held.{Held}
use Rattle.tt_store.specs.declared.answers.Answer.TheVariants as answers
use Rattle.tt_variable_commands.specs.ArrayCommands.{IsSubcommand, Runs, RunsIf, array, is_array, row_of, subcommands}

array_total : (words : List (List ℕ)) (old : Held) → Good old → Total (λ outcome new. array words old outcome new)
array_total [] old good = refuses (codes "array exists a") old good
array_total (word ∷ words) old good =
    found_row (λ subcommand. Total (λ outcome new. IsSubcommand subcommand word words old outcome new))
    (λ subcommand. (usage : List ℕ) → Total (λ outcome new. (row_of subcommand).meaning usage words old outcome new))
    (λ subcommand. bytes_eq word (row_of subcommand).name) subcommands (same old (error_outcome (bad_option word)) good)
    (λ subcommand total. total (row_of subcommand).usage)
    (row (λ usage. exists_total usage words old good)
    (row (λ usage. get_total usage words old good)
    (row (λ usage. names_total usage words old good)
    (row (λ usage. set_total usage words old good)
    (row (λ usage. size_total usage words old good)
    (row (λ usage. unset_total usage words old good)
    no_more))))))

pub arrays_total : (words : List (List ℕ)) (old : Held) → Good old → Total (λ answer new. Runs words old answer new)
arrays_total [] old good = same old answers.Other good
arrays_total (word ∷ words) old good = by (is_array word)
  where
    by : (named : Bool) → Total (λ answer new. RunsIf named words old answer new)
    by false = same old answers.Other good
    by true = told answers.Outcome (array_total words old good)
