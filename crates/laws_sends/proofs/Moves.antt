-- What a request does to sends: one of a few moves, or some of them one after the other.
use Rattle.std.proofs.Common.{◌≡◌, ℕ, Bool, true, false, List, [], ◌∷◌, ◌++◌, Some, if◌then◌else◌}
use Rattle.laws_sends.proofs.Cuts.{Every}
use Rattle.laws_sends.proofs.Views.{OfOthers, SameBut, SameScripts, StayEnded, has_ended, placed, scripts_at}
use Rattle.laws_shared.specs.Happenings.{Happening, Posted, Began, Finished, Got, Set, Recipient, Nobody, Waiting, Variable, deaths}
use Rattle.tt_calls.specs.declared.outcome.Outcome.{Outcome}
use Rattle.tt_calls.specs.declared.reply.Reply.{Reply}
use Rattle.tt_calls.specs.declared.reply.Reply.TheVariants as reply
use Rattle.tt_shared.specs.Mail.{Posts, posts_after, variable_post, with_plain, with_variable, with_wait, without_variable}
use Rattle.tt_shared.specs.State.{State}
use Rattle.tt_shared.specs.declared.posts.VariablePost.{VariablePost}
use Rattle.tt_slots.specs.Waiting.{after_take, is_waiting, slot_of, with_state}
use Rattle.tt_slots.specs.declared.slot.Slot.{Slot}
use Rattle.tt_slots.specs.declared.slot.SlotState.{SlotState}
use Rattle.tt_slots.specs.declared.slot.SlotState.TheVariants as slot

-- the posts after one more
abbrev pub AreWithPost : Recipient → (old new : Posts) → (from to : ℕ) → Type 0
AreWithPost Nobody old new from to = new ≡ with_plain old
AreWithPost Waiting old new from to = new ≡ with_wait old from to
AreWithPost Variable old new from to = (name : List ℕ) × (new ≡ with_variable old from to name)

-- what a filled slot answers
pub data Answers : SlotState → Reply → Type 0 where
  result : (outcome : Outcome) → Answers (slot.Result outcome) (reply.Answer outcome)
  died : Answers slot.Died reply.Died

pub data Move (old new : State) : List Happening → Type 0 where
  quiet :
      (happened : List Happening) →
      Every OfOthers happened →
      SameScripts old.queues new.queues →
      new.posts ≡ old.posts →
      StayEnded old.rows new.rows →
      Move old new happened
  sent :
      (from to : ℕ) (recipient : Recipient) (head : Bool) →
      SameBut old.queues new.queues to (placed head old.posts.next (scripts_at old.queues to)) →
      AreWithPost recipient old.posts new.posts from to →
      new.rows ≡ old.rows →
      Move old new (Posted old.posts.next from to recipient head ∷ [])
  begins :
      (n t : ℕ) (rest : List ℕ) →
      scripts_at old.queues t ≡ n ∷ rest →
      SameBut old.queues new.queues t rest →
      has_ended old.rows t ≡ false →
      new.posts ≡ old.posts →
      new.rows ≡ old.rows →
      Move old new (Began n t ∷ [])
  fills :
      (n : ℕ) (outcome : Outcome) (found : Slot) →
      slot_of old.posts.slots n ≡ Some found →
      is_waiting found.state ≡ true →
      new.queues ≡ old.queues →
      new.posts ≡ record old.posts { slots = with_state old.posts.slots n (slot.Result outcome) } →
      new.rows ≡ old.rows →
      Move old new (Finished n outcome ∷ [])
  sets :
      (n : ℕ) (outcome : Outcome) (post : VariablePost) (hears : Bool) →
      variable_post old.posts n ≡ Some post →
      SameScripts old.queues new.queues →
      new.posts ≡ without_variable old.posts n →
      new.rows ≡ old.rows →
      Move old new (Finished n outcome ∷ (if hears then Set n post.sender outcome.value ∷ [] else []))
  gets :
      (n t : ℕ) (found : Slot) (answered : Reply) →
      slot_of old.posts.slots n ≡ Some found →
      found.sender ≡ t →
      Answers found.state answered →
      new.queues ≡ old.queues →
      new.posts ≡ record old.posts { slots = after_take old.posts.slots n found.state } →
      new.rows ≡ old.rows →
      Move old new (Got n t answered ∷ [])
  ends :
      (t : ℕ) →
      SameBut old.queues new.queues t [] →
      new.posts ≡ posts_after old.posts t →
      has_ended new.rows t ≡ true →
      StayEnded old.rows new.rows →
      Move old new (deaths old t)

pub data Moves : State → State → List Happening → Type 0 where
  one : {old new : State} {happened : List Happening} → Move old new happened → Moves old new happened
  both : {old middle new : State} {first second : List Happening} →
      Moves old middle first →
      Moves middle new second →
      Moves old new (first ++ second)
