-- Commands on levels always come to something.
use Rattle.std.proofs.Common.{ℕ, Bool, List, [], ◌∷◌, Option, Some, None, arith, bytes_eq, codes, decimal, refl}
use Rattle.laws_answers.proofs.Holding.{finds}
use Rattle.laws_answers.proofs.Links.{global_total, upvar_total}
use Rattle.laws_answers.proofs.Nesting.{has_depth, means, means-lower}
use Rattle.laws_answers.proofs.Store.{good-script}
use Rattle.laws_answers.proofs.Scalars.{refuses}
use Rattle.laws_answers.proofs.Tables.{chosen, found_row, no_more, row}
use Rattle.laws_answers.proofs.Totals.{Good, Total, after, becomes, reported, same, told}
use Rattle.tt_calls.specs.Outcomes.{error_outcome, fine}
use Rattle.tt_calls.specs.Usages.{bad_option, wrong_number}
use Rattle.tt_list_commands.specs.Concatenating.{concatenation}
use Rattle.tt_outcomes.specs.declared.want.Body.TheVariants as body
use Rattle.tt_script.specs.Names.{plain_name}
use Rattle.tt_store.specs.Held.{Held, IsThere, is_there, with_script_at}
use Rattle.tt_store.specs.Spots.{spot_of}
use Rattle.tt_store.specs.declared.answers.Answer.TheVariants as answers
use Rattle.tt_variable_commands.specs.Beginning.{BeginsAt, BeginsScript, uplevel}
use Rattle.tt_variable_commands.specs.Counting.{IsFrame}
use Rattle.tt_variable_commands.specs.LevelCommands.{IsCommand, Runs, commands, row_of}
use Rattle.tt_variable_commands.specs.LevelMessages.{bad_level}
use Rattle.tt_variable_commands.specs.LevelWords.{is_levelled, level_and_words}
use Rattle.tt_variable_commands.specs.Telling.{Tells, bit, exists, info, level}

-- ---- uplevel(n) ----

begins_script : (level : List ℕ) (frame : Option ℕ) (script : List (List ℕ)) (old : Held) → Good old → IsFrame level old.levels frame
    → Total (λ answer new. BeginsScript level frame script old answer new)
begins_script level None script old good is = same old (answers.Outcome (error_outcome (bad_level level))) good
begins_script level (Some frame) script old good is =
    let lower = means-lower level old.levels frame good.nested is in
    becomes (answers.Body body.Level (concatenation script)) (with_script_at frame old) (good-script frame old good (omega (arith, lower, good.nested.there)))

begins_at : (level : List ℕ) (script : List (List ℕ)) (old : Held) → Good old → Total (λ answer new. BeginsAt (level, script) old answer new)
begins_at level script old good = after (means level old.levels good.nested) (λ frame is. begins_script level frame script old good is)

uplevel_total : (usage : List ℕ) (words : List (List ℕ)) (old : Held) → Good old → Total (λ answer new. uplevel usage words old answer new)
uplevel_total usage [] old good = same old (answers.Outcome (error_outcome (wrong_number usage))) good
uplevel_total usage (word ∷ words) old good =
    let split = level_and_words (is_levelled (word ∷ words)) (word ∷ words) in begins_at split.0 split.1 old good

-- ---- info(n) ----

is_thing : (word : List ℕ) (old : Held) → Good old → (there : Bool) × IsThere word old there
is_thing word old good = let read = finds old (spot_of word) good in (is_there read.0, (read.0, read.1, refl))

exists_total : (words : List (List ℕ)) (old : Held) → Good old → Total (λ outcome new. exists words old outcome new)
exists_total [] old good = refuses (codes "info exists varName") old good
exists_total (name ∷ []) old good = reported old good bit (is_thing name old good)
exists_total (name ∷ next ∷ words) old good = refuses (codes "info exists varName") old good

level_total : (words : List (List ℕ)) (old : Held) → Good old → Total (λ outcome new. level words old outcome new)
level_total [] old good = reported old good (λ depth. fine (decimal depth)) (has_depth old.levels good.nested)
level_total (word ∷ words) old good = refuses (codes "info level") old good

info_total : (usage : List ℕ) (words : List (List ℕ)) (old : Held) → Good old → Total (λ answer new. info usage words old answer new)
info_total usage [] old good = same old (answers.Outcome (error_outcome (wrong_number usage))) good
info_total usage (word ∷ words) old good =
    chosen (λ topic. Total (λ answer new. Tells topic word words old answer new)) (bytes_eq word (codes "exists"))
    (told answers.Outcome (exists_total words old good))
    (chosen (λ topic. Total (λ answer new. Tells topic word words old answer new)) (bytes_eq word (codes "level"))
    (told answers.Outcome (level_total words old good))
    (chosen (λ topic. Total (λ answer new. Tells topic word words old answer new)) (bytes_eq word (codes "procs")) (same old answers.Other good)
    (same old (answers.Outcome (error_outcome (bad_option word))) good)))

-- ---- the table ----

pub levels_total : (words : List (List ℕ)) (old : Held) → Good old → Total (λ answer new. Runs words old answer new)
levels_total [] old good = same old answers.Other good
levels_total (word ∷ words) old good =
    let name = plain_name word in
    found_row (λ command. Total (λ answer new. IsCommand command words old answer new))
    (λ command. (usage : List ℕ) → Total (λ answer new. (row_of command).meaning usage words old answer new))
    (λ command. bytes_eq name (row_of command).name) commands (same old answers.Other good) (λ command total. total (row_of command).usage)
    (row (λ usage. told answers.Outcome (global_total usage words old good))
    (row (λ usage. told answers.Outcome (upvar_total usage words old good))
    (row (λ usage. uplevel_total usage words old good)
    (row (λ usage. info_total usage words old good)
    no_more))))
