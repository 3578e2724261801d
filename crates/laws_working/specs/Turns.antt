-- How the worker of a pool asks for jobs and hands them in, reply by reply (tpool(n)).
use Rattle.std.specs.Prelude.{◌≡◌, ℕ, List, [], ◌∷◌, ◌++◌, Option, Some, None, ⊤}
use Rattle.tt_calls.specs.declared.pool_call.PoolCall.TheVariants.{JobDone, JobTake}
use Rattle.tt_calls.specs.declared.reply.Reply.{Reply}
use Rattle.tt_calls.specs.declared.reply.Reply.TheVariants.{Job}
use Rattle.tt_calls.specs.declared.request.Request.{Request}
use Rattle.tt_calls.specs.declared.request.Request.TheVariants as ask
use Rattle.tt_calls.specs.declared.start.Start.{Start}
use Rattle.tt_kept.specs.Beginning.{IsNext}
use Rattle.tt_kept.specs.declared.setup.Setup.{Setup}
use Rattle.tt_shared.specs.Ends.{pool_of_start}

-- ---- what a thread has in hand ----

-- the job that it has after a reply: the one that it is given, until it hands one in
abbrev pub in_hand_after : (hand : Option ℕ) → Request → Reply → Option ℕ
in_hand_after hand (ask.Pool (JobTake text)) (Job n script detached) = Some n
in_hand_after hand (ask.Pool (JobDone text n outcome)) answered = None
in_hand_after hand request answered = hand

-- the job that it has after these replies to what it asks: none at first
pub data HasInHand (setup : Setup) (me : ℕ) (start : Start) : List Reply → (hand : Option ℕ) → Type 0 where
  at_first : HasInHand setup me start [] None
  after_reply :
      {replies : List Reply} {hand : Option ℕ} {request : Request} {serving : List ℕ} (answered : Reply) →
      HasInHand setup me start replies hand →
      IsNext setup me start replies request serving →
      HasInHand setup me start (replies ++ answered ∷ []) (in_hand_after hand request answered)

-- ---- the law ----

-- who was made as a worker of a pool, or of none, asks in its turn: it takes a job of its pool with none in hand, and
-- hands in the one that it has
abbrev pub IsInTurn : (pool : Option (List ℕ)) → (hand : Option ℕ) → Request → Type 0
IsInTurn pool hand (ask.Pool (JobTake text)) = (pool ≡ Some text) × (hand ≡ None)
IsInTurn pool hand (ask.Pool (JobDone text n outcome)) = (pool ≡ Some text) × (hand ≡ Some n)
IsInTurn pool hand request = ⊤

-- whatever is evaluated and replied, a thread asks so
abbrev pub TurnLaw : Type 0
TurnLaw =
    (setup : Setup) (me : ℕ) (start : Start) (replies : List Reply) (hand : Option ℕ)
    (request : Request) (serving : List ℕ) →
    HasInHand setup me start replies hand →
    IsNext setup me start replies request serving →
    IsInTurn (pool_of_start start) hand request
