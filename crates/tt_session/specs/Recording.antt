-- What becomes of the files and of the status after a run: its schedule is recorded if a file is named for it.
use Rattle.std.specs.Prelude.{◌≡◌, ◌≢◌, ℕ, List, Option, Some, None}
use Rattle.tt_devices.specs.Faults.{Rises}
use Rattle.tt_devices.specs.Names.{KeepsOthers, Tells}
use Rattle.tt_devices.specs.declared.files.Files.{Ghosts as OfFiles}
use Rattle.tt_schedule.specs.ScheduleText.{IsScheduleText}
use Rattle.tt_session.specs.Status.{ended_status}
use Rattle.tt_session.specs.declared.status.End.{End}
use Rattle.tt_session.specs.declared.status.End.TheVariants as ends
use Rattle.tt_session.specs.declared.status.Status.{Status}
use Rattle.tt_session.specs.declared.status.Status.TheVariants.{WriteFault, NoMemory}

module _ {F : Type 0} (files : OfFiles F) where
  -- no file was written, and no failed write was counted
  pub record IsUnwritten (old new : F) : Type 0 where
    pub same : files.map new ≡ files.map old
    pub steady : files.write_fault_count new ≡ files.write_fault_count old

  -- the file has the text of these steps, no failed write was counted, and no other file changed
  pub record HasText (name schedule : List ℕ) (old new : F) : Type 0 where
    pub text : List ℕ
    pub is_text : IsScheduleText text schedule
    pub found : Tells (files.map new) name (Some text)
    pub steady : files.write_fault_count new ≡ files.write_fault_count old
    pub others : KeepsOthers (files.map old) (files.map new) name

  -- the write failed, and no other file changed
  pub record FailsToWrite (name : List ℕ) (old new : F) : Type 0 where
    pub rises : Rises (files.write_fault_count old) (files.write_fault_count new)
    pub others : KeepsOthers (files.map old) (files.map new) name

  -- a run that ended so is recorded under a name, and the call ends with this status
  pub data RecordsUnder (name : List ℕ) (end : End) (schedule : List ℕ) (old new : F) (status : Status) : Type 0 where
    -- memory was refused, in the run or for the text
    no_memory : status ≡ NoMemory → IsUnwritten old new → RecordsUnder name end schedule old new status
    written : end ≢ ends.NoMemory → status ≡ ended_status end → HasText name schedule old new →
        RecordsUnder name end schedule old new status
    failed : end ≢ ends.NoMemory → status ≡ WriteFault → FailsToWrite name old new →
        RecordsUnder name end schedule old new status

  -- it is recorded if a name is given
  abbrev pub Records : Option (List ℕ) → End → (schedule : List ℕ) → (old new : F) → Status → Type 0
  Records None end schedule old new status = (status ≡ ended_status end) × IsUnwritten old new
  Records (Some name) end schedule old new status = RecordsUnder name end schedule old new status
