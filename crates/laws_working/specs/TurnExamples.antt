-- A worker as an example: what it asks, and what it has in hand (tpool(n)).
use Rattle.std.specs.Prelude.{ℕ, false, List, [], ◌∷◌, codes, Option, Some, None, pos}
use Rattle.laws_working.specs.Turns.{HasInHand}
use Rattle.tt_calls.specs.Outcomes.{fine}
use Rattle.tt_calls.specs.declared.pool_call.PoolCall.TheVariants.{JobDone, JobTake}
use Rattle.tt_calls.specs.declared.reply.Reply.{Reply}
use Rattle.tt_calls.specs.declared.reply.Reply.TheVariants.{Go, Job, JobStop}
use Rattle.tt_calls.specs.declared.request.Request.{Request}
use Rattle.tt_calls.specs.declared.request.Request.TheVariants as ask
use Rattle.tt_calls.specs.declared.start.Start.{Start}
use Rattle.tt_calls.specs.declared.start.Start.TheVariants.{Worker}
use Rattle.tt_kept.specs.Beginning.{IsNext}
use Rattle.tt_kept.specs.declared.setup.Setup.{Setup}

abbrev pub setup : Setup
setup = record { script = []; name = []; arguments = []; limit = 100 }

-- the second thread is a worker of the first pool, which has no scripts of its own
abbrev pub pool : List ℕ
pool = codes "tpool1"

abbrev pub worker : Start
worker = Worker pool [] []

-- it is given a job of which nothing is to be done, it hands that in, and there is none any more
abbrev pub given : Reply
given = Job 1 [] false

abbrev pub Asks : List Reply → Request → Type 0
Asks replies request = IsNext setup 2 worker replies request []

abbrev pub Has : List Reply → (hand : Option ℕ) → Type 0
Has replies hand = HasInHand setup 2 worker replies hand

pub record WorkedTurns : Type 0 where
  pub takes : Asks [] (ask.Pool (JobTake pool))
  pub has_one : Has (given ∷ []) (Some 1)
  pub hands_in : Asks (given ∷ []) (ask.Pool (JobDone pool 1 (fine [])))
  pub has_none : Has (given ∷ Go ∷ []) None
  pub takes_again : Asks (given ∷ Go ∷ []) (ask.Pool (JobTake pool))
  pub ends : Asks (given ∷ Go ∷ JobStop ∷ []) (ask.End (pos 0))
