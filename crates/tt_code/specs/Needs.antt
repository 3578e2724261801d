-- What words and expressions need from outside, one thing after another, and what they come to.
use Rattle.std.specs.Prelude.{ℕ, Bool, true, false, List, Option, Result, Ok, Err, codes}
use Rattle.tt_calls.specs.declared.outcome.Code.{Code}
use Rattle.tt_calls.specs.declared.outcome.Code.TheVariants.{Fine}
use Rattle.tt_calls.specs.declared.outcome.Outcome.{Outcome}
use Rattle.tt_lists.specs.Messages.{list_message}
use Rattle.tt_lists.specs.Reading.{split_of}
use Rattle.tt_lists.specs.declared.items.Split.{Split}
use Rattle.tt_lists.specs.declared.items.Split.TheVariants.{Items, Bad}
use Rattle.tt_exprs.specs.Apply.{truth_of}

pub data Needs : Type 0 where
  -- the value of a variable, or of an element of an array
  Variable : (name : List ℕ) → (index : Option (List ℕ)) → (List ℕ → Needs) → Needs
  Script : (text : List ℕ) → (List ℕ → Needs) → Needs  -- the result of a script in brackets
  Refused : (message : List ℕ) → Needs  -- an error
  Values : List (List ℕ) → Needs  -- it has come to these

-- what is needed once there is a value, or once there are some
abbrev pub Use : Type 0
Use = List ℕ → Needs

abbrev pub UseAll : Type 0
UseAll = List (List ℕ) → Needs

-- an operator has another number of operands; no text is read as such an expression
abbrev pub wrong_operands : List ℕ
wrong_operands = codes "wrong number of operands"

-- ---- what may be refused ----

-- the items of a list, or what is wrong with it (Tcl(n), rule 5)
abbrev pub with_items : Split → UseAll → Needs
with_items (Items items) go = go items
with_items (Bad fault) go = Refused (list_message fault)

abbrev pub expansion_needs : List ℕ → UseAll → Needs
expansion_needs list go = with_items (split_of list) go

-- the truth of a value, or that it has none (expr(n), Operands)
abbrev pub with_truth : Result Bool (List ℕ) → (Bool → Needs) → Needs
with_truth (Ok truth) go = go truth
with_truth (Err message) go = Refused message

abbrev pub test_needs : List ℕ → (Bool → Needs) → Needs
test_needs value go = with_truth (truth_of value) go

-- the value of an outcome that is fine, or the message of one that has failed
abbrev pub with_value : Code → List ℕ → Use → Needs
with_value Fine value go = go value
with_value code value go = Refused value

abbrev pub unless_failed : Outcome → Use → Needs
unless_failed outcome go = with_value outcome.code outcome.value go

-- one of two, by a truth
abbrev pub choose : {A : Type 0} → Bool → A → A → A
choose true a b = a
choose false a b = b

-- a truth as a number
abbrev pub bit : Bool → List ℕ
bit true = codes "1"
bit false = codes "0"
