-- A thread that goes on asks something next, if all that it may want of what it keeps is answered (thread(n)).
use Rattle.std.specs.Prelude.{◌≡◌, ℕ, false, IsTrue, List, [], ◌∷◌, ◌++◌}
use Rattle.laws_pauses.specs.NextRequest.{is_request}
use Rattle.tt_calls.specs.declared.reply.Reply.{Reply}
use Rattle.tt_calls.specs.declared.request.Request.{Request}
use Rattle.tt_calls.specs.declared.start.Start.{Start}
use Rattle.tt_kept.specs.Answering.{Answers}
use Rattle.tt_kept.specs.Asking.{goes_on}
use Rattle.tt_kept.specs.Beginning.{BeginsThread, IsNext}
use Rattle.tt_kept.specs.declared.kept.Kept.{Kept}
use Rattle.tt_kept.specs.declared.setup.Setup.{Setup}
use Rattle.tt_outcomes.specs.declared.got.Got.{Got}
use Rattle.tt_outcomes.specs.declared.want.Want.{Want}

-- what a thread may keep: at its start, and after it got anything
pub data MayKeep (setup : Setup) (me : ℕ) : Kept → Type 0 where
  at_start : {kept : Kept} → BeginsThread setup me kept → MayKeep setup me kept
  later : {old new : Kept} (wanted : Want) (got : Got) →
      MayKeep setup me old →
      Answers wanted old got new →
      MayKeep setup me new

-- all that it may want of that is answered
abbrev pub AreAnswered : Setup → (me : ℕ) → Type 0
AreAnswered setup me =
    (wanted : Want) (old : Kept) →
    MayKeep setup me old →
    is_request wanted ≡ false →
    (got : Got) × (new : Kept) × Answers wanted old got new

-- it asks something first, and after each reply with which it goes on
pub record AsksOn (setup : Setup) (me : ℕ) (start : Start) : Type 0 where
  pub first : (request : Request) × (serving : List ℕ) × IsNext setup me start [] request serving
  pub next :
      (replies : List Reply) (request : Request) (serving : List ℕ) (reply : Reply) →
      IsNext setup me start replies request serving →
      IsTrue (goes_on request) →
      (following : Request) × (now : List ℕ) × IsNext setup me start (replies ++ reply ∷ []) following now

abbrev pub AsksOnLaw : Type 0
AsksOnLaw =
    (setup : Setup) (me : ℕ) (start : Start) (kept : Kept) →
    BeginsThread setup me kept →
    AreAnswered setup me →
    AsksOn setup me start
