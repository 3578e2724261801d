-- What comes of code (Tcl(n), rules 7 to 9; expr(n)).
use Rattle.std.specs.Prelude.{[], ◌∷◌, None}
use Rattle.tt_code.specs.Running.{needs, with_value}
use Rattle.tt_code.specs.declared.running.Running.{Running}
use Rattle.tt_evaluation.specs.Plans.{Calls}
use Rattle.tt_frames.specs.Scripts.{OnValues, needing}
use Rattle.tt_frames.specs.Vocabulary.{OnEnding, Then, on_fine}
use Rattle.tt_frames.specs.declared.job.Job.TheVariants as job
use Rattle.tt_direct.specs.declared.needs.Met.{Met}
use Rattle.tt_direct.specs.declared.needs.Met.TheVariants as met
use Rattle.tt_direct.specs.declared.needs.Needed.{Needed}
use Rattle.tt_direct.specs.declared.needs.Needed.TheVariants as needed

-- code is given this ending of what it needs
abbrev pub after_ending : Running → (finish : OnValues) → (quit : OnEnding) → OnEnding
after_ending running finish quit = on_fine (λ value. needing finish quit (with_value running value)) quit

-- what follows what came of code
abbrev pub then_met : Met → Running → (finish : OnValues) → (quit : OnEnding) → Then
then_met (met.Value value) running finish quit = finish (value ∷ [])
then_met (met.Values values) running finish quit = finish values.items
then_met (met.Quit ending) running finish quit = quit ending
then_met (met.Script text) running finish quit =
    λ state. Calls None (job.Script text) state (after_ending running finish quit)

-- what follows what came of one thing that it needs
abbrev pub then_needed : Needed → Running → (finish : OnValues) → (quit : OnEnding) → Then
then_needed needed.Given running finish quit = needing finish quit (needs running)
then_needed (needed.Met met) running finish quit = then_met met running finish quit
