-- What a worker asks that is an example.
use Rattle.std.proofs.Common.{[], ◌∷◌, pos, refl, Some}
use Rattle.laws_working.specs.TurnExamples.{Asks, Has, WorkedTurns, given, pool, setup}
use Rattle.laws_working.specs.Turns.{after_reply as replied, at_first}
use Rattle.tt_calls.specs.Outcomes.{fine}
use Rattle.tt_calls.specs.declared.pool_call.PoolCall.TheVariants.{JobDone, JobTake}
use Rattle.tt_calls.specs.declared.reply.Reply.TheVariants.{Go, JobStop}
use Rattle.tt_calls.specs.declared.request.Request.TheVariants as ask
use Rattle.tt_evaluation.specs.Evaluation.{eval}
use Rattle.tt_frames.specs.Programs.{steps_of}
use Rattle.tt_kept.specs.Asking.{after_reply, asks, ends}
use Rattle.tt_kept.specs.Beginning.{BeginsThread}
use Rattle.tt_kept.specs.declared.kept.Kept.{Kept}
use Rattle.tt_script.specs.Reading.{command_at, first, skipped}
use Rattle.tt_store.specs.Held.{none, nothing_held}

kept : Kept
kept = record { store = nothing_held; procedures = [] }

begins : BeginsThread setup 2 kept
unfolding kept
begins = record { variables = none; procedures = refl }

takes : Asks [] (ask.Pool (JobTake pool))
unfolding eval steps_of first command_at skipped
takes = record { kept = kept; steps = 10; begins = begins; asks = asks refl }

hands_in : Asks (given ∷ []) (ask.Pool (JobDone pool 1 (fine [])))
unfolding eval steps_of first command_at skipped
hands_in = record { kept = kept; steps = 10; begins = begins; asks = after_reply refl refl (asks refl) }

takes_again : Asks (given ∷ Go ∷ []) (ask.Pool (JobTake pool))
unfolding eval steps_of first command_at skipped
takes_again = record { kept = kept; steps = 10; begins = begins; asks = after_reply refl refl (after_reply refl refl (asks refl)) }

stops : Asks (given ∷ Go ∷ JobStop ∷ []) (ask.End (pos 0))
unfolding eval steps_of first command_at skipped
stops = record {
  kept = kept;
  steps = 10;
  begins = begins;
  asks = after_reply refl refl (after_reply refl refl (after_reply refl refl (ends refl)));
}

has_one : Has (given ∷ []) (Some 1)
has_one = replied given at_first takes

pub worked : WorkedTurns
worked = record {
  takes = takes;
  has_one = has_one;
  hands_in = hands_in;
  has_none = replied Go has_one hands_in;
  takes_again = takes_again;
  ends = stops;
}
