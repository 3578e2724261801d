-- What words come to is one thing, and so is what is kept then; and so is what an evaluation gets (Tcl(n)).
use Rattle.std.proofs.Common.{◌≡◌, ◌∙◌, ℕ, codes, drop, List, [], ◌∷◌, Option, Some, None, Result, Ok, Err, ap, sym}
use Rattle.tt_calls.specs.Outcomes.{error_outcome, fine}
use Rattle.tt_calls.specs.Usages.{wrong_number}
use Rattle.tt_dictionaries.specs.Commands as dictionaries
use Rattle.tt_variable_commands.specs.ArrayCommands as arrays
use Rattle.tt_variable_commands.specs.LevelCommands as levels
use Rattle.tt_procedures.specs.Parameters.{parameters_of}
use Rattle.tt_procedures.specs.Procedures as procedures
use Rattle.tt_procedures.specs.Procedures.{Defines, DefinesBy, call, names, with_procedure}
use Rattle.tt_procedures.specs.declared.calling.Called.{Called}
use Rattle.tt_procedures.specs.declared.calling.Called.TheVariants as called
use Rattle.tt_procedures.specs.declared.procedure.Parameter.{Parameter}
use Rattle.tt_script.specs.Names.{plain_name}
use Rattle.tt_store.specs.Commands as variables
use Rattle.tt_store.specs.Held.{Held, after_end, with_global_script, is_seen, nothing_held, without_watch, with_watch}
use Rattle.tt_store.specs.declared.answers.Answer.{Answer}
use Rattle.tt_store.specs.declared.answers.Answer.TheVariants as answers
use Rattle.tt_outcomes.specs.declared.got.Got.TheVariants as gots
use Rattle.tt_outcomes.specs.declared.want.Want.{Want}
use Rattle.tt_outcomes.specs.declared.want.Want.TheVariants as want
use Rattle.tt_kept.specs.Answering.{Answers, got_of, truth}
use Rattle.tt_kept.specs.Answering as answering
use Rattle.tt_kept.specs.Beginning.{globals}
use Rattle.tt_kept.specs.Commands.{CallsBody, Continues, Either, OnVariables, Runs, RunsBy, RunsOwn, Table, own_of, with_procedures, with_store}
use Rattle.tt_kept.specs.declared.commands.Own.{Own}
use Rattle.tt_kept.specs.declared.commands.Own.TheVariants as own
use Rattle.tt_kept.specs.declared.kept.Kept.{Kept}
use Rattle.laws_language.specs.OneAnswer.{AnswersOnceLaw, BeginsOnceLaw, RunsOnceLaw}
use Rattle.laws_language.proofs.Once.{Once, once-after, once-told}
use Rattle.laws_language.proofs.Arrays as array_commands
use Rattle.laws_language.proofs.Dictionaries as dictionary_commands
use Rattle.laws_language.proofs.Held.{are_set-once, calls-once, is_read-once, is_written-once}
use Rattle.laws_language.proofs.Levels as level_commands
use Rattle.laws_language.proofs.VariableCommands as variable_commands

-- ---- commands on variables ----

continues-once : (first : Answer) (other : Table) (words : List (List ℕ)) (old : Held) → Once (other words old) → Once (Continues first other words old)
continues-once answers.Other other words old once = once
continues-once (answers.Outcome outcome) other words old once = once-told (answers.Outcome outcome) old
continues-once (answers.Body body text) other words old once = once-told (answers.Body body text) old

either-once : (one other : Table) (words : List (List ℕ)) (old : Held) → Once (one words old) → ((held : Held) → Once (other words held)) →
    Once (Either one other words old)
either-once one other words old first later =
    once-after (one words old) (λ (answer : Answer) (held : Held). Continues answer other words held) first
    (λ answer held. continues-once answer other words held (later held))

on_variables-once : (words : List (List ℕ)) (old : Held) → Once (OnVariables words old)
on_variables-once words old =
    either-once variables.Runs (Either levels.Runs (Either arrays.Runs dictionaries.Runs)) words old
    (variable_commands.runs-once words old) (λ held.
    either-once levels.Runs (Either arrays.Runs dictionaries.Runs) words held (level_commands.runs-once words held) (λ held.
    either-once arrays.Runs dictionaries.Runs words held (array_commands.runs-once words held)
    (dictionary_commands.runs-once words)))

-- ---- procedures ----

fails-once : (message : List ℕ) (old : procedures.Table) → Once (procedures.Fails message old)
fails-once message old = once-told (error_outcome message) old

defines_by-once : (read : Result (List Parameter) (List ℕ)) (word body : List ℕ) (old : procedures.Table) → Once (DefinesBy read word body old)
defines_by-once (Ok parameters) word body old =
    once-told (fine []) (with_procedure old (plain_name word) (record { parameters = parameters; body = body }))
defines_by-once (Err message) word body old = fails-once message old

defines-once : (words : List (List ℕ)) (old : procedures.Table) → Once (Defines words old)
defines-once [] old = fails-once (wrong_number (codes "proc name args body")) old
defines-once (word ∷ []) old = fails-once (wrong_number (codes "proc name args body")) old
defines-once (word ∷ parameters ∷ []) old = fails-once (wrong_number (codes "proc name args body")) old
defines-once (word ∷ parameters ∷ body ∷ []) old = defines_by-once (parameters_of parameters) word body old
defines-once (word ∷ parameters ∷ body ∷ more ∷ words) old = fails-once (wrong_number (codes "proc name args body")) old

calls_body-once : (which : Called) (words : List (List ℕ)) (old : Kept) → Once (CallsBody which words old)
calls_body-once (called.Body arguments body) words old one two new next is its =
    let same = calls-once arguments old.store new.store next.store is.0 its.0 in
    (is.1 ∙ sym its.1, is.2 ∙ ap (with_store old) same ∙ sym its.2)
calls_body-once (called.Wrong outcome) words old one two new next is its = once-told (answers.Outcome outcome) old one two new next is its

-- ---- all commands ----

own-once : (which : Own) (words : List (List ℕ)) (old : Kept) → Once (RunsOwn which words old)
own-once own.Define words old one two new next is its =
    let same = defines-once (drop 1 words) old.procedures is.0 its.0 new.procedures next.procedures is.1 its.1 in
    (is.2 ∙ ap answers.Outcome same.0 ∙ sym its.2, is.3 ∙ ap (with_procedures old) same.1 ∙ sym its.3)
own-once own.Names words old one two new next is its =
    once-told (answers.Outcome (names old.procedures (drop 2 words))) old one two new next is its
own-once own.Other words old one two new next is its =
    let same = on_variables-once words old.store one two new.store next.store is.0 its.0 in
    (same.0, is.1 ∙ ap (with_store old) same.1 ∙ sym its.1)

by-once : (which : Option Called) (words : List (List ℕ)) (old : Kept) → Once (RunsBy which words old)
by-once (Some which) words old = calls_body-once which words old
by-once None words old = own-once (own_of words) words old

runs-once : (words : List (List ℕ)) (old : Kept) → Once (Runs words old)
runs-once words old = by-once (call old.procedures words) words old

pub runs_law : RunsOnceLaw
runs_law words old one other kept others is its = runs-once words old one other kept others is its

-- ---- what an evaluation gets ----

answers-once : (wanted : Want) (old : Kept) → Once (Answers wanted old)
answers-once (want.ReadVar name index) old one other new next is its =
    (is.2 ∙ ap gots.Value (is_read-once old.store name index is.0 its.0 is.1 its.1) ∙ sym its.2, is.3 ∙ sym its.3)
answers-once (want.WriteVar name index value) old one other new next is its =
    let same = is_written-once old.store name index value is.0 its.0 new.store next.store is.1 its.1 in
    (is.2 ∙ ap gots.Value same.0 ∙ sym its.2, is.3 ∙ ap (with_store old) same.1 ∙ sym its.3)
answers-once (want.RunWords words) old one other new next is its =
    let same = runs-once words old is.0 its.0 new next is.1 its.1 in
    (is.2 ∙ ap (got_of words) same.0 ∙ sym its.2, same.1)
answers-once want.Enter old one other new next is its = once-told answering.nothing (with_store old (with_global_script old.store)) one other new next is its
answers-once (want.Leave body) old one other new next is its = once-told answering.nothing (with_store old (after_end old.store)) one other new next is its
answers-once (want.Watch name) old one other new next is its = once-told answering.nothing (with_store old (with_watch name old.store)) one other new next is its
answers-once want.Seen old one other new next is its = once-told (truth (is_seen old.store)) old one other new next is its
answers-once want.Unwatch old one other new next is its = once-told answering.nothing (with_store old (without_watch old.store)) one other new next is its
answers-once (want.Ask request) old one other new next is its = absurd is

pub answers_law : AnswersOnceLaw
answers_law wanted old one other kept others is its = answers-once wanted old one other kept others is its

-- ---- what a thread has at its start ----

same-kept : (one other : Kept) → one.store ≡ other.store → one.procedures ≡ other.procedures → one ≡ other
same-kept one other stores tables =
    ap (λ (store : Held). record { store = store; procedures = one.procedures }) stores
    ∙ ap (λ (table : procedures.Table). record { store = other.store; procedures = table }) tables

pub begins_law : BeginsOnceLaw
begins_law setup me one other is its =
    same-kept one other (are_set-once (globals me setup) nothing_held one.store other.store is.variables its.variables)
    (is.procedures ∙ sym its.procedures)
