-- A session at its place.
use Rattle.std.proofs.Common.{◌≡◌, ◌∙◌, ◌≤◌, ap, arith, refl, sym, subst, ℕ, List, [], length, None, Some, Option}
use Rattle.tt_core.specs.Stage.{OfMachine, Stage}
use Rattle.tt_debug.proofs.PlaceLemmas.{There, got-all, of-run, there}
use Rattle.tt_debug.specs.Lines.{array_shown, bytes_shown, queue_shown, unknown_line}
use Rattle.tt_debug.specs.Shown.{AreThreads, IsObeyed, RunsTo, Shows}
use Rattle.tt_debug.specs.declared.command.Command.{Command}
use Rattle.tt_debug.specs.declared.command.Command.TheVariants.{Threads, Queue, Array, Bytes, Unknown}
use Rattle.tt_debug.specs.inside.Walking.{IsAt, IsRunOf, got, held}
use Rattle.tt_devices.specs.Memory.{Collected, Supply}
use Rattle.tt_devices.specs.Streams.{Grows}
use Rattle.tt_kept.specs.declared.setup.Setup.{Setup}
use Rattle.tt_machine.specs.Machine.{Machine, none}
use Rattle.tt_shared.specs.State.{State}

abbrev pub Run : Type 0
Run = Stage Supply Collected Collected

module _ (setup : Setup) (given : List ℕ) (place : ℕ) (run : Run) (is : IsRunOf setup given place run) where
  -- a command shows what follows of the machine there
  pub obeyed : (command : Command) (text : List ℕ) (P : Machine → Type 0)
      → OfMachine held run P → ((machine : Machine) → P machine → Shows setup given command place machine text place)
      → IsObeyed setup given command place text place
  obeyed command text P fact shows =
      let here = there held got got given place run P is.at fact in
      record {
        machine = here.machine;
        ran = subst (λ (one : Setup). RunsTo one given place here.machine) is.same here.ran;
        shows = shows here.machine here.fact;
      }

  pub threads-shown : (text : List ℕ) → OfMachine held run (λ machine. AreThreads machine.shared.over machine text)
      → IsObeyed setup given Threads place text place
  threads-shown text are = obeyed Threads text _ are (λ machine fact. (fact, refl))

  pub queue-shown : (thread : Option ℕ) (shared : State) (text : List ℕ)
      → OfMachine held run (λ machine. machine.shared ≡ shared) → text ≡ queue_shown shared thread
      → IsObeyed setup given (Queue thread) place text place
  queue-shown thread shared text same shows =
      obeyed (Queue thread) text _ same (λ machine fact. (rw fact shows, refl))

  pub array-shown : (name : List ℕ) (shared : State) (text : List ℕ)
      → OfMachine held run (λ machine. machine.shared ≡ shared) → text ≡ array_shown shared name
      → IsObeyed setup given (Array name) place text place
  array-shown name shared text same shows =
      obeyed (Array name) text _ same (λ machine fact. (rw fact shows, refl))

  pub bytes-shown : (out err text : List ℕ)
      → got run.desk.devices.output ≡ Some out → got run.desk.devices.errors ≡ Some err
      → OfMachine held run (λ machine. Grows (got run.began.output) (got run.desk.devices.output) machine.out)
      → OfMachine held run (λ machine. Grows (got run.began.errors) (got run.desk.devices.errors) machine.err)
      → text ≡ bytes_shown (length out) (length err)
      → IsObeyed setup given Bytes place text place
  bytes-shown out err text some_out some_err wrote told shows =
      obeyed Bytes text _ (got-all held got got given place run out err is.at some_out some_err wrote told)
      (λ machine fact. (rw (← fact.0, ← fact.1) shows, refl))

-- nothing is known of another command
pub unknown-shown : (setup : Setup) (given : List ℕ) (place : ℕ) (machine : Machine) (text : List ℕ)
    → RunsTo setup given place machine → text ≡ unknown_line → IsObeyed setup given Unknown place text place
unknown-shown setup given place machine text ran is = record { machine = machine; ran = ran; shows = (is, refl) }

-- a run that has begun
pub begun : (setup : Setup) (given : List ℕ) (run : Run) (input : Supply) (output errors : Collected)
    → run.setup ≡ setup → run.began ≡ record { input = input; output = output; errors = errors }
    → (run.desk.schedule ≡ []) × (run.desk.kept ≡ None)
    → input.left ≡ [] → output.got ≡ [] → errors.got ≡ []
    → IsRunOf setup given 0 run
begun setup given run input output errors same given_is none_yet no_input no_output no_errors = record {
  same = same;
  at = record {
    input = rw (given_is, no_input) refl;
    output = rw (given_is, no_output) refl;
    errors = rw (given_is, no_errors) refl;
    taken = none_yet.0;
    going = none_yet.1;
    within = omega arith;
    machine = _;
    ran = none;
  };
}
