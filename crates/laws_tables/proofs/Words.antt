-- How to show that what words ask is fine, by cases.
use Rattle.std.proofs.Common.{◌≡◌, ℕ, bytes_eq, Bool, true, false, if◌then◌else◌, List, [], ◌∷◌, Option, Some, None, refl}
use Rattle.std.specs.Bool.{⊤}
use Rattle.std.specs.List.{AllByRecursion}
use Rattle.laws_tables.proofs.Asked.{IsFine}
use Rattle.tt_command_tables.specs.Flags.{before_last, by_options, first_unknown, front, meaning_after_options}
use Rattle.tt_command_tables.specs.Tables.{first_named}
use Rattle.tt_command_tables.specs.Usages.{bad_option}
use Rattle.tt_command_tables.specs.declared.call.Call.{Call}
use Rattle.tt_command_tables.specs.declared.call.Call.TheVariants as call
use Rattle.tt_command_tables.specs.declared.flags.Flag.{Flag}

module _ (me : ℕ) where
  -- what it asks is fine, if it asks
  abbrev pub Asks : Call → Type 0
  Asks (call.Ask request next) = IsFine me request
  Asks _ = ⊤

  -- either
  pub by_either : (b : Bool) (one next : Call) → Asks one → Asks next → Asks (if b then one else next)
  by_either true one next first second = first
  by_either false one next first second = second

  -- what is found, or nothing
  pub by_found : {X : Type 0} (found : Option X) (some : X → Call) (none : Call) → ((x : X) → Asks (some x)) → Asks none
      → Asks (elim found [ Some x ↦ some x | None ↦ none ])
  by_found None some none first second = second
  by_found (Some x) some none first second = first x

  -- the commands of a table, one by one
  pub by_table : {X : Type 0} (commands : List X) (name_of : X → List ℕ) (name : List ℕ) (some : X → Call) (none : Call)
      → AllByRecursion (λ x. Asks (some x)) commands → Asks none → Asks (elim (first_named name_of commands name) [ Some x ↦ some x | None ↦ none ])
  by_table [] name_of name some none all last = last
  by_table (x ∷ commands) name_of name some none all last = go (bytes_eq name (name_of x)) (by_table commands name_of name some none all.1 last)
    where
      go : (b : Bool) → Asks (elim (first_named name_of commands name) [ Some x ↦ some x | None ↦ none ])
          → Asks (elim (if b then Some x else first_named name_of commands name) [ Some x ↦ some x | None ↦ none ])
      go true later = all.0
      go false later = later

  -- the command that has a name
  pub by_name : {X : Type 0} (commands : List X) (name_of : X → List ℕ) (name : List ℕ) (some : X → Call) (none : Call)
      → AllByRecursion (λ x. bytes_eq name (name_of x) ≡ true → Asks (some x)) commands → Asks none
      → Asks (elim (first_named name_of commands name) [ Some x ↦ some x | None ↦ none ])
  by_name [] name_of name some none all last = last
  by_name (x ∷ commands) name_of name some none all last = go (bytes_eq name (name_of x)) refl (by_name commands name_of name some none all.1 last)
    where
      go : (b : Bool) → bytes_eq name (name_of x) ≡ b → Asks (elim (first_named name_of commands name) [ Some x ↦ some x | None ↦ none ])
          → Asks (elim (if b then Some x else first_named name_of commands name) [ Some x ↦ some x | None ↦ none ])
      go true is later = all.0 is
      go false is later = later

  by_each : {X : Type 0} (P : X → Type 0) (xs : List X) → ((x : X) → P x) → AllByRecursion P xs
  by_each P [] each = tt
  by_each P (x ∷ xs) each = (each x, by_each P xs each)

  -- any command that has it
  pub by_any : {X : Type 0} (commands : List X) (name_of : X → List ℕ) (name : List ℕ) (some : X → Call) (none : Call)
      → ((x : X) → bytes_eq name (name_of x) ≡ true → Asks (some x)) → Asks none
      → Asks (elim (first_named name_of commands name) [ Some x ↦ some x | None ↦ none ])
  by_any commands name_of name some none each last =
      by_name commands name_of name some none (by_each (λ x. bytes_eq name (name_of x) ≡ true → Asks (some x)) commands each) last

  -- options in front, and the words after them
  pub by_flags : (known : List Flag) (required : ℕ) (words : List (List ℕ)) (meaning : (options after : List (List ℕ)) → Call)
      → ((options after : List (List ℕ)) → Asks (meaning options after)) → Asks (by_options known required words meaning)
  by_flags known required words meaning each =
      by_found (first_unknown known (before_last required words)) bad_option
      (meaning_after_options (front known (before_last required words)) words meaning) (λ word. tt) (each _ _)
