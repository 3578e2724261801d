-- Scripts in the frames above (uplevel(n)).
use Rattle.std.specs.Prelude.{◌≡◌, ℕ, List, [], ◌∷◌, Option, Some, None}
use Rattle.tt_calls.specs.Outcomes.{error_outcome}
use Rattle.tt_list_commands.specs.Concatenating.{concatenation}
use Rattle.tt_outcomes.specs.declared.want.Body.TheVariants as body
use Rattle.tt_store.specs.declared.answers.Answer.{Answer}
use Rattle.tt_store.specs.declared.answers.Answer.TheVariants as answers
use Rattle.tt_store.specs.Commands.{Coming}
use Rattle.tt_store.specs.Held.{Held, with_script_at}
use Rattle.tt_calls.specs.Usages.{wrong_number}
use Rattle.tt_variable_commands.specs.Counting.{IsFrame}
use Rattle.tt_variable_commands.specs.LevelMessages.{bad_level}
use Rattle.tt_variable_commands.specs.LevelWords.{is_levelled, level_and_words}

-- a script of these words begins in a frame
abbrev pub BeginsIn :
    (frame : ℕ) → (script : List (List ℕ)) →
    (old : Held) → Answer → (new : Held) → Type 0
BeginsIn frame script old answer new =
    (answer ≡ answers.Body body.Level (concatenation script))
    × (new ≡ with_script_at frame old)

abbrev pub BeginsScript :
    (level : List ℕ) → (frame : Option ℕ) → (script : List (List ℕ)) →
    (old : Held) → Answer → (new : Held) → Type 0
BeginsScript level None script old answer new =
    (answer ≡ answers.Outcome (error_outcome (bad_level level))) × (new ≡ old)
BeginsScript level (Some frame) script old answer new = BeginsIn frame script old answer new

abbrev pub BeginsAt :
    (level_and_script : List ℕ × List (List ℕ)) →
    (old : Held) → Answer → (new : Held) → Type 0
BeginsAt (level, script) old answer new =
    (frame : Option ℕ)
    × IsFrame level old.levels frame
    × BeginsScript level frame script old answer new

abbrev pub uplevel : Coming
uplevel usage [] old answer new = (answer ≡ answers.Outcome (error_outcome (wrong_number usage))) × (new ≡ old)
uplevel usage (word ∷ words) old answer new =
    BeginsAt (level_and_words (is_levelled (word ∷ words)) (word ∷ words)) old answer new
