-- A host that takes what is delivered: what a job comes to by the numbers that are given.
use Rattle.std.specs.Prelude.{ℕ, ◌≡◌, ⊤, List, [], ◌∷◌, Option, Some}
use Rattle.tt_evaluation.specs.Plans.{Stop, Fin}
use Rattle.tt_hosting.specs.Hosting.{Coming, having}
use Rattle.example_language.specs.declared.language.Want.{Want}
use Rattle.example_language.specs.declared.language.Want.TheVariants.{Number, Deliver}

-- what a job comes to
abbrev pub JobComing : Type 0
JobComing = Coming Want ℕ ℕ ℕ

-- what is asked outside
abbrev pub number_wanted : ⊤ → Want
number_wanted asked = Number

-- what it ends with after these numbers, and what was delivered last
pub data EndsWith : JobComing → Option ℕ → (numbers : List ℕ) → (outcome : ℕ) → (last : Option ℕ) → Type 0 where
  ends : {coming : JobComing} {host : Option ℕ} {outcome state steps : ℕ} →
      coming [] ≡ Fin outcome state steps [] → EndsWith coming host [] outcome host
  given :
      {coming : JobComing} {host last : Option ℕ} {number outcome : ℕ} {numbers serving : List ℕ} →
      coming [] ≡ Stop Number serving →
      EndsWith (having number coming) host numbers outcome last →
      EndsWith coming host (number ∷ numbers) outcome last
  delivered :
      {coming : JobComing} {host last : Option ℕ} {number outcome : ℕ} {numbers serving : List ℕ} →
      coming [] ≡ Stop (Deliver number) serving →
      EndsWith (having 0 coming) (Some number) numbers outcome last →
      EndsWith coming host numbers outcome last

-- what one place on ends with, the other one ends with
abbrev pub LeadsOn : JobComing → Option ℕ → JobComing → Option ℕ → Type 0
LeadsOn later new before old =
    (numbers : List ℕ) (outcome : ℕ) (last : Option ℕ) →
    EndsWith later new numbers outcome last → EndsWith before old numbers outcome last
