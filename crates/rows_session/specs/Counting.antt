-- Devices whose counts of faults may be at their greatest.
use Rattle.std.specs.Prelude.{ℕ}
use Rattle.tt_devices.specs.Faults.{greatest_count}
use Rattle.rows_session.specs.declared.devices.Counted.{Counted}
use Rattle.rows_session.specs.declared.devices.Counted.TheVariants.{FromZero, AtGreatest}

-- what is kept of the device
abbrev pub of_device : {D X : Type 0} → (D → X) → Counted D → X
of_device kept (FromZero device) = kept device
of_device kept (AtGreatest device) = kept device

-- its count of faults
abbrev pub count_of : {D : Type 0} → (D → ℕ) → Counted D → ℕ
count_of counted (FromZero device) = counted device
count_of counted (AtGreatest device) = greatest_count
