-- Commands on variables that no procedure replaces.
use Rattle.std.proofs.Common.{◌≡◌, ◌≤◌, ◌-◌, ℕ, List, [], ◌∷◌, Option, None, Some, IfSome, bytes_eq, codes, arith, drop, get_or, length, take, refl, ap, sym, subst, ◌∙◌}
use Rattle.std.proofs.lemmas.List.{take_all}
use Rattle.std.specs.Map.{lookup}
use Rattle.std.specs.Option.{option_map}
use Rattle.tt_calls.specs.declared.outcome.Outcome.{Outcome}
use Rattle.tt_calls.specs.Outcomes.{fine}
use Rattle.tt_procedures.specs.Calling.{call_of}
use Rattle.tt_procedures.specs.Procedures.{call}
use Rattle.tt_script.specs.Names.{plain_name}
use Rattle.tt_store.specs.Commands as variables
use Rattle.tt_store.specs.declared.answers.Answer.TheVariants as answers
use Rattle.tt_kept.specs.Commands.{Runs, RunsBy, RunsOwn, own_of, with_store}
use Rattle.tt_kept.specs.declared.commands.Own.TheVariants as own
use Rattle.tt_kept.specs.declared.kept.Kept.{Kept}

-- words that begin with this name, which no procedure has, are run as the command on variables
abbrev pub RunsNamed : (name : List ℕ) → Type 0
RunsNamed name =
    (words rest : List (List ℕ)) (outcome : Outcome) (old new : Kept)
    → words ≡ name ∷ rest → lookup (bytes_eq name) old.procedures ≡ None → new ≡ with_store old new.store
    → variables.Runs (name ∷ rest) old.store (answers.Outcome outcome) new.store → Runs words old (answers.Outcome outcome) new

runs-own : (name : List ℕ) → plain_name name ≡ name → ((rest : List (List ℕ)) → own_of (name ∷ rest) ≡ own.Other) → RunsNamed name
runs-own name plain other words rest outcome old new is none kept ran =
    let called : call old.procedures (name ∷ rest) ≡ None =
    ap (λ p. option_map (call_of name rest) (lookup (bytes_eq p) old.procedures)) plain ∙ ap (option_map (call_of name rest)) none in
    subst (λ ws. Runs ws old (answers.Outcome outcome) new) (sym is)
    (subst (λ c. RunsBy c (name ∷ rest) old (answers.Outcome outcome) new) (sym called)
    (subst (λ o. RunsOwn o (name ∷ rest) old (answers.Outcome outcome) new) (sym (other rest))
    ((answers.Outcome outcome, new.store, ran, (refl, refl)), kept)))

pub set_runs : RunsNamed (codes "set")
set_runs = runs-own (codes "set") refl (λ rest. refl)

pub incr_runs : RunsNamed (codes "incr")
incr_runs = runs-own (codes "incr") refl (λ rest. refl)

pub append_runs : RunsNamed (codes "append")
append_runs = runs-own (codes "append") refl (λ rest. refl)

pub lappend_runs : RunsNamed (codes "lappend")
lappend_runs = runs-own (codes "lappend") refl (λ rest. refl)

-- what came of it if anything
pub often : (name : List ℕ) → RunsNamed name → (result : Option (List ℕ)) (words rest : List (List ℕ)) (old new : Kept)
    → words ≡ name ∷ rest → lookup (bytes_eq name) old.procedures ≡ None → new ≡ with_store old new.store
    → IfSome result (λ value. variables.Runs (name ∷ rest) old.store (answers.Outcome (fine value)) new.store)
    → IfSome result (λ value. Runs words old (answers.Outcome (fine value)) new)
often name runs None words rest old new is none kept ran = tt
often name runs (Some value) words rest old new is none kept ran = runs words rest (fine value) old new is none kept ran

-- words that begin with this one
pub opened : (words : List (List ℕ)) (word name : List ℕ) → 1 ≤ length words → get_or words 0 word ≡ word → word ≡ name
    → words ≡ name ∷ take (length words - 1) (drop 1 words)
opened [] word name some is named = absurd (omega (arith, some))
opened (first ∷ words) word name some is named =
    ap (λ (w : List ℕ). w ∷ words) (is ∙ named) ∙ ap (λ ws. name ∷ ws) (sym (take_all (length (first ∷ words) - 1) words (omega arith)))
