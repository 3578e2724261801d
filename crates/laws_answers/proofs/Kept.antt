-- All that a thread wants of what it keeps is answered, and links lead in no circle then.
use Rattle.std.proofs.Common.{◌≡◌, ◌&&◌, ℕ, Bool, true, false, List, [], ◌∷◌, Option, Some, None, Result, Ok, Err, codes, drop, refl, sym, subst}
use Rattle.laws_answers.proofs.Arrays.{arrays_total}
use Rattle.laws_answers.proofs.ArrayWrites.{written}
use Rattle.laws_answers.proofs.Dictionaries.{dictionaries_total}
use Rattle.laws_answers.proofs.Holding.{sets}
use Rattle.laws_answers.proofs.Levels.{levels_total}
use Rattle.laws_answers.proofs.Nesting.{nested-procedure}
use Rattle.laws_answers.proofs.Moves.{sound-push}
use Rattle.tt_dictionaries.specs.Commands as dictionaries
use Rattle.tt_procedures.specs.declared.procedure.Parameter.{Parameter}
use Rattle.tt_script.specs.Names.{plain_name}
use Rattle.tt_store.specs.Commands as variables
use Rattle.tt_variable_commands.specs.ArrayCommands as arrays
use Rattle.tt_variable_commands.specs.LevelCommands as levels
use Rattle.laws_answers.proofs.Store.{store_total}
use Rattle.laws_answers.proofs.Totals.{Good, Total, same}
use Rattle.laws_answers.specs.Pure.{PureAnswersLaw}
use Rattle.tt_calls.specs.Outcomes.{error_outcome, fine}
use Rattle.tt_calls.specs.Usages.{wrong_number}
use Rattle.tt_calls.specs.declared.outcome.Outcome.{Outcome}
use Rattle.tt_kept.specs.Commands.{CallsBody, Continues, Either, OnVariables, Runs, RunsBy, RunsOwn, Table, first_word}
use Rattle.tt_kept.specs.Commands.{has_next, names_command, own_by, with_procedures, with_store}
use Rattle.tt_kept.specs.declared.kept.Kept.{Kept}
use Rattle.tt_outcomes.specs.declared.want.Body.TheVariants.{Procedure}
use Rattle.tt_procedures.specs.Parameters.{parameters_of}
use Rattle.tt_procedures.specs.Procedures as procedures
use Rattle.tt_procedures.specs.Procedures.{Defines, DefinesBy, call, names, with_procedure}
use Rattle.tt_procedures.specs.declared.calling.Argument.{Argument}
use Rattle.tt_procedures.specs.declared.calling.Called.{Called}
use Rattle.tt_procedures.specs.declared.calling.Called.TheVariants as called
use Rattle.tt_store.specs.Held.{AreSet, Held, more, none, with_levels}
use Rattle.tt_store.specs.Levels.{with_procedure_level}
use Rattle.tt_store.specs.Spots.{spot}
use Rattle.tt_store.specs.declared.answers.Answer.{Answer}
use Rattle.tt_store.specs.declared.answers.Answer.TheVariants as answers

-- ---- tables one after the other ----

abbrev pub Answering : Table → Type 0
Answering table = (words : List (List ℕ)) (old : Held) → Good old → Total (λ answer new. table words old answer new)

continues : (first : Answer) (other : Table) → Answering other → (words : List (List ℕ)) (next : Held) → Good next
    → Total (λ answer new. Continues first other words next answer new)
continues answers.Other other total words next good = total words next good
continues (answers.Outcome outcome) other total words next good = same next (answers.Outcome outcome) good
continues (answers.Body body text) other total words next good = same next (answers.Body body text) good

either : (one other : Table) → Answering one → Answering other → Answering (Either one other)
either one other total further words old good =
    let first = total words old good in
    let later = continues first.gives.0 other further words first.gives.1 (first.keeps first.gives.0 first.gives.1 first.gives.2) in record {
      gives = (later.gives.0, later.gives.1, (first.gives.0, first.gives.1, first.gives.2, later.gives.2));
      keeps = λ answer new is. (continues is.0 other further words is.1 (first.keeps is.0 is.1 is.2)).keeps answer new is.3;
    }

-- ---- parameters ----

pub arguments_set : (arguments : List Argument) (old : Held) → Good old → (new : Held) × AreSet arguments old new
arguments_set [] old good = (old, none)
arguments_set (argument ∷ arguments) old good =
    let one = sets old (spot argument.name None) argument.value good in
    let rest = arguments_set arguments one.gives.1 (one.keeps one.gives.0 one.gives.1 one.gives.2) in
    (rest.0, more one.gives.2 rest.1)

pub arguments_keep : (arguments : List Argument) (old new : Held) → Good old → AreSet arguments old new → Good new
arguments_keep arguments old new good none = good
arguments_keep arguments old new good (more {argument = argument} {arguments = later} {next = next} {written = written} is rest) =
    arguments_keep later next new ((sets old (spot argument.name None) argument.value good).keeps written next is) rest

good-procedure : (held : Held) → Good held → Good (with_levels held (with_procedure_level held.levels))
good-procedure held good = record { sound = sound-push held.levels.frames good.sound; nested = nested-procedure held.levels good.nested }

-- ---- what is kept ----

-- something comes of it, and whatever comes of it is good
pub record Keeps {X : Type 0} (Does : X → Kept → Type 0) : Type 0 where
  pub gives : (x : X) × (new : Kept) × Does x new
  pub keeps : (x : X) (new : Kept) → Does x new → Good new.store

pub stays : {X : Type 0} (old : Kept) (x : X) → Good old.store → Keeps (λ y new. (y ≡ x) × (new ≡ old))
stays old x good = record { gives = (x, old, (refl, refl)); keeps = λ y new is. subst (λ kept. Good kept.store) (sym is.1) good }

calls_body : (call : Called) (words : List (List ℕ)) (old : Kept) → Good old.store → Keeps (λ answer new. CallsBody call words old answer new)
calls_body (called.Body arguments body) words old good =
    let set = arguments_set arguments (with_levels old.store (with_procedure_level old.store.levels)) (good-procedure old.store good) in record {
      gives = (answers.Body (Procedure (first_word words)) body, with_store old set.0, (set.1, refl, refl));
      keeps =
          λ answer new is. arguments_keep arguments (with_levels old.store (with_procedure_level old.store.levels)) new.store
          (good-procedure old.store good) is.0;
    }
calls_body (called.Wrong outcome) words old good = stays old (answers.Outcome outcome) good

defines : (words : List (List ℕ)) (table : procedures.Table) → (outcome : Outcome) × (new : procedures.Table) × Defines words table outcome new
defines [] table = (error_outcome (wrong_number (codes "proc name args body")), table, (refl, refl))
defines (word ∷ []) table = (error_outcome (wrong_number (codes "proc name args body")), table, (refl, refl))
defines (word ∷ parameters ∷ []) table = (error_outcome (wrong_number (codes "proc name args body")), table, (refl, refl))
defines (word ∷ parameters ∷ body ∷ next ∷ words) table = (error_outcome (wrong_number (codes "proc name args body")), table, (refl, refl))
defines (word ∷ parameters ∷ body ∷ []) table = by (parameters_of parameters)
  where
    by : (read : Result (List Parameter) (List ℕ)) → (outcome : Outcome) × (new : procedures.Table) × DefinesBy read word body table outcome new
    by (Ok read) = (fine [], with_procedure table (plain_name word) (record { parameters = read; body = body }), (refl, refl))
    by (Err message) = (error_outcome message, table, (refl, refl))

module _ (pures : PureAnswersLaw) where
  on_variables : Answering OnVariables
  on_variables =
      either variables.Runs (Either levels.Runs (Either arrays.Runs dictionaries.Runs)) (store_total pures)
      (either levels.Runs (Either arrays.Runs dictionaries.Runs) levels_total (either arrays.Runs dictionaries.Runs arrays_total dictionaries_total))

  runs_own : (defined lists : Bool) (words : List (List ℕ)) (old : Kept) → Good old.store
      → Keeps (λ answer new. RunsOwn (own_by defined lists) words old answer new)
  runs_own true lists words old good =
      let table = defines (drop 1 words) old.procedures in record {
        gives = (answers.Outcome table.0, with_procedures old table.1, (table.0, table.2, refl, refl));
        keeps = λ answer new is. subst (λ kept. Good kept.store) (sym is.3) good;
      }
  runs_own false true words old good = stays old (answers.Outcome (names old.procedures (drop 2 words))) good
  runs_own false false words old good =
      let total = on_variables words old.store good in record {
        gives = (total.gives.0, with_store old total.gives.1, (total.gives.2, refl));
        keeps = λ answer new is. total.keeps answer new.store is.0;
      }

  pub runs : (words : List (List ℕ)) (old : Kept) → Good old.store → Keeps (λ answer new. Runs words old answer new)
  runs words old good = by (call old.procedures words)
    where
      by : (call : Option Called) → Keeps (λ answer new. RunsBy call words old answer new)
      by (Some call) = calls_body call words old good
      by None = runs_own (names_command (codes "proc") words) (names_command (codes "info") words && has_next (codes "procs") words) words old good
