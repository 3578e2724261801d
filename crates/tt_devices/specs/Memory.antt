-- Devices in memory, as contracts see them.
use Rattle.std.specs.Prelude.{Bool, ℕ, ◌+◌, nat_lt, List, [], ◌∷◌, Contains, Option, Some, None, if◌then◌else◌}
use Rattle.tt_devices.specs.Faults.{greatest_count}
use Rattle.std.specs.Str.{bytes_eq}

-- which calls of a device in memory fail, how many were made, and how many failed
pub record Plan : Type 0 where
  pub failing : List ℕ
  pub calls : ℕ
  pub faults : ℕ

-- a plan that nothing was asked of yet
abbrev pub fresh_plan : List ℕ → Plan
fresh_plan failing = record { failing = failing; calls = 0; faults = 0 }

-- one more, up to the greatest count
abbrev pub one_more : ℕ → ℕ
one_more count = if nat_lt count greatest_count then count + 1 else count

-- the next call is one of those that fail
abbrev pub FailsNext : Plan → Type 0
FailsNext plan = Contains plan.failing (one_more plan.calls)

-- the plan after one more call, which failed or did not
abbrev pub after_call : Plan → Bool → Plan
after_call plan failed =
    record plan { calls = one_more plan.calls; faults = if failed then one_more plan.faults else plan.faults }

-- a source in memory: its remaining bytes
pub record Supply : Type 0 where
  pub left : List ℕ
  pub plan : Plan

-- a sink in memory: what it got
pub record Collected : Type 0 where
  pub got : List ℕ
  pub plan : Plan

-- a named file in memory
pub record NamedBytes : Type 0 where
  pub name : List ℕ
  pub bytes : List ℕ

-- files in memory, each under its name
pub record Shelf : Type 0 where
  pub files : List NamedBytes
  pub reads : Plan
  pub writes : Plan

-- the bytes under a name: those of the first file that has it
abbrev pub bytes_under : List NamedBytes → List ℕ → Option (List ℕ)
bytes_under [] name = None
bytes_under (file ∷ files) name = if bytes_eq file.name name then Some file.bytes else bytes_under files name
