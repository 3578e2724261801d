-- From what a run on workers leaves to what the program leaves.
use Rattle.std.proofs.Common.{◌≡◌, ◌≢◌, ◌≤◌, ◌⊎◌, ℕ, List, Option, Some, None, refl, subst, arith}
use Rattle.tt_core.proofs.ActionLemmas.{told-map}
use Rattle.tt_core.specs.Faithful.{IsFaithful, is_cut}
use Rattle.tt_run.specs.declared.fault.StepFault.{StepFault}
use Rattle.tt_devices.specs.Faults.{Rises}
use Rattle.tt_devices.specs.declared.sink.Sink.{Ghosts as OfSink}
use Rattle.tt_devices.specs.declared.source.Source.{Ghosts as OfSource}
use Rattle.tt_kept.specs.declared.setup.Setup.{Setup}
use Rattle.tt_machine.specs.Machine.{Machine, start_machine}
use Rattle.tt_schedule.specs.ScheduleText.{most_steps}
use Rattle.tt_words.specs.Asked.{HasSteps, HasWorkers, Plain, WordsAskFor, plain}
use Rattle.tt_workers.specs.Ends.{IsEnd, ReadsCount, WritesCount, end_fault}
use Rattle.tt_workers.specs.Ran.{IsRan}
use Rattle.tt_workers.specs.declared.next.RunEnd.{RunEnd}
use Rattle.tt_workers.specs.declared.next.RunEnd.TheVariants as run
use Rattle.tt_workers.specs.declared.ran.Ran.{Ran}
use Rattle.tt_session.specs.Choosing.{Freely}
use Rattle.tt_session.specs.Ending.{EndsAs, cause_of}
use Rattle.tt_session.specs.Running.{RunLeaves}
use Rattle.tt_session.specs.declared.status.End.TheVariants.{ReadFault, WriteFault}
use Rattle.tt_session.specs.inside.Following.{worker_end}

-- ---- what the words may ask for

workers-within : (value : Option (List ℕ)) (workers : ℕ) → HasWorkers value workers → (1 ≤ workers) × (workers ≤ 64)
workers-within None workers is = (omega (arith, is), omega (arith, is))
workers-within (Some text) workers is = (is.at_least, is.at_most)

steps-within : (value : Option (List ℕ)) (steps : ℕ) → HasSteps value steps → (1 ≤ steps) × (steps ≤ most_steps)
steps-within None steps is = (omega (arith, is), omega (arith, is))
steps-within (Some text) steps is = (is.at_least, is.at_most)

pub plain-workers : (words : List (List ℕ)) (named : Plain) → WordsAskFor words (plain named) → (1 ≤ named.workers) × (named.workers ≤ 64)
plain-workers words named is = workers-within _ named.workers is.asks.workers

pub plain-steps : (words : List (List ℕ)) (named : Plain) → WordsAskFor words (plain named) → (1 ≤ named.steps) × (named.steps ≤ most_steps)
plain-steps words named is = steps-within _ named.steps is.asks.steps

-- ---- how it ends

same-fault : (end : RunEnd) (steps : ℕ) → end_fault end ≡ cause_of (worker_end end steps)
same-fault (run.Over code) steps = refl
same-fault run.Stuck steps = refl
same-fault run.Limit steps = refl
same-fault run.Read steps = refl
same-fault run.Write steps = refl
same-fault run.Memory steps = refl

ends-freely : (end : RunEnd) (steps : ℕ) (schedule : List ℕ) (machine : Machine)
    → IsEnd steps schedule end machine → EndsAs (worker_end end steps) (Freely steps) machine schedule
ends-freely (run.Over code) steps schedule machine is = (tt, is)
ends-freely run.Stuck steps schedule machine is = (refl, is)
ends-freely run.Limit steps schedule machine is = record { limit = refl; full = is.full; thread = is.number; can = is.can }
ends-freely run.Read steps schedule machine is = record { thread = is.number; due = tt; asks = is.asks }
ends-freely run.Write steps schedule machine is = tt
ends-freely run.Memory steps schedule machine is = tt

-- ---- the counts of faults

read-rises : (end : RunEnd) (steps old new : ℕ) → ReadsCount (Some end) old new → worker_end end steps ≡ ReadFault → Rises old new
read-rises (run.Over code) steps old new counted is = absurd (cc is)
read-rises run.Stuck steps old new counted is = absurd (cc is)
read-rises run.Limit steps old new counted is = absurd (cc is)
read-rises run.Read steps old new counted is = counted
read-rises run.Write steps old new counted is = absurd (cc is)
read-rises run.Memory steps old new counted is = absurd (cc is)

read-steady : (end : RunEnd) (steps old new : ℕ) → ReadsCount (Some end) old new → worker_end end steps ≢ ReadFault → new ≡ old
read-steady (run.Over code) steps old new counted other = counted
read-steady run.Stuck steps old new counted other = counted
read-steady run.Limit steps old new counted other = counted
read-steady run.Read steps old new counted other = absurd (other refl)
read-steady run.Write steps old new counted other = counted
read-steady run.Memory steps old new counted other = counted

write-rises : (end : RunEnd) (steps old_out new_out old_err new_err : ℕ) → WritesCount (Some end) old_out new_out old_err new_err
    → worker_end end steps ≡ WriteFault → Rises old_out new_out ⊎ Rises old_err new_err
write-rises (run.Over code) steps old_out new_out old_err new_err counted is = absurd (cc is)
write-rises run.Stuck steps old_out new_out old_err new_err counted is = absurd (cc is)
write-rises run.Limit steps old_out new_out old_err new_err counted is = absurd (cc is)
write-rises run.Read steps old_out new_out old_err new_err counted is = absurd (cc is)
write-rises run.Write steps old_out new_out old_err new_err counted is = counted
write-rises run.Memory steps old_out new_out old_err new_err counted is = absurd (cc is)

write-steady : (end : RunEnd) (steps old_out new_out old_err new_err : ℕ) → WritesCount (Some end) old_out new_out old_err new_err
    → worker_end end steps ≢ WriteFault → (new_out ≡ old_out) × (new_err ≡ old_err)
write-steady (run.Over code) steps old_out new_out old_err new_err counted other = counted
write-steady run.Stuck steps old_out new_out old_err new_err counted other = counted
write-steady run.Limit steps old_out new_out old_err new_err counted other = counted
write-steady run.Read steps old_out new_out old_err new_err counted other = counted
write-steady run.Write steps old_out new_out old_err new_err counted other = absurd (other refl)
write-steady run.Memory steps old_out new_out old_err new_err counted other = counted

-- ---- what is left

module _ {S K E : Type 0} (source : OfSource S) (output : OfSink K) (errors : OfSink E) where
  pub leaves-freely : (setup : Setup) (steps : ℕ) (in_old : S) (out_old : K) (err_old : E) (ran : Ran S K E)
      → IsRan source output errors (record { setup = setup; steps = steps; devices = record { input = in_old; output = out_old; errors = err_old } }) ran
      → RunLeaves source output errors setup (Freely steps) (record { input = in_old; output = out_old; errors = err_old })
      (record { end = worker_end ran.end steps; schedule = ran.schedule; input = ran.input; output = ran.output; errors = ran.errors })
  leaves-freely setup steps in_old out_old err_old ran is = record {
    allowed = is.within;
    no_output = is.no_output;
    no_errors = is.no_errors;
    read_fault = read-rises ran.end steps _ _ is.reads;
    reads_steady = read-steady ran.end steps _ _ is.reads;
    write_fault = write-rises ran.end steps _ _ _ _ is.writes;
    writes_steady = write-steady ran.end steps _ _ _ _ is.writes;
    has_machine = told-map (source.held in_old) _ _ is.in_machine (λ bytes found. record {
      machine = found.machine;
      ran = found.runs;
      chosen = tt;
      faithful = subst (λ (kept : Option StepFault). IsFaithful (is_cut kept) (start_machine setup bytes) ran.schedule.threads
          (output.got out_old) (output.got ran.output) (errors.got err_old) (errors.got ran.errors) found.machine) (same-fault ran.end steps) found.faithful;
      unread = found.left;
      ends = ends-freely ran.end steps ran.schedule.threads found.machine found.ends;
    });
    lawful = is.lawful;
  }
