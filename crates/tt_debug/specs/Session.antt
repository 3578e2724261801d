-- A debugging session as contracts see it: how its run begins, the schedule that it goes along, and its place there.
use Rattle.std.specs.Prelude.{ℕ, List}
use Rattle.tt_kept.specs.declared.setup.Setup.{Setup}

pub record Session : Type 0 where
  pub setup : Setup
  pub given : List ℕ
  pub place : ℕ
