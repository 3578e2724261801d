-- A thread asks for jobs and hands them in as a worker in its turn.
use Rattle.std.proofs.Common.{◌≡◌, ◌∙◌, IsTrue, ℕ, List, [], ◌∷◌, ◌++◌, Option, None, ap, refl, sym, subst}
use Rattle.laws_language.proofs.Asked.{one_request}
use Rattle.laws_working.proofs.Courses.{Hand, InTurn, MayWant, eval_in_turn, fin, hand_after, spent, stop}
use Rattle.laws_working.proofs.Workers.{tcl_keeps}
use Rattle.laws_working.specs.Turns.{HasInHand, IsInTurn, TurnLaw, after_reply as then, at_first, in_hand_after}
use Rattle.tt_calls.specs.declared.outcome.Code.TheVariants as code
use Rattle.tt_calls.specs.declared.outcome.Code.{Code}
use Rattle.tt_calls.specs.declared.reply.Reply.{Reply}
use Rattle.tt_calls.specs.declared.request.Request.{Request}
use Rattle.tt_calls.specs.declared.start.Start.{Start}
use Rattle.tt_evaluation.specs.Evaluation.{eval}
use Rattle.tt_evaluation.specs.Plans.{Fin, Spent, Stop}
use Rattle.tt_frames.specs.Tcl.{plan}
use Rattle.tt_frames.specs.Units.{fresh}
use Rattle.tt_frames.specs.declared.job.Job.TheVariants as job
use Rattle.tt_kept.specs.Answering.{Answers}
use Rattle.tt_kept.specs.Asking.{AsksNext, Coming, after_reply, answered, asks, end_by, ends, goes_on, having}
use Rattle.tt_kept.specs.Beginning.{IsNext}
use Rattle.tt_kept.specs.declared.kept.Kept.{Kept}
use Rattle.tt_kept.specs.declared.setup.Setup.{Setup}
use Rattle.tt_outcomes.specs.Endings.{code_of}
use Rattle.tt_outcomes.specs.declared.got.Got.TheVariants as got
use Rattle.tt_outcomes.specs.declared.got.Got.{Got}
use Rattle.tt_outcomes.specs.declared.want.Want.TheVariants as want
use Rattle.tt_outcomes.specs.declared.want.Want.{Want}
use Rattle.tt_shared.specs.Ends.{pool_of_start}

-- what is in hand when a request comes, if that was in hand before
abbrev reached : {coming : Coming} {kept : Kept} {replies : List Reply} {request : Request} {serving : List ℕ}
    → AsksNext coming kept replies request serving → Hand → Hand
reached (asks is) hand = hand
reached (after_reply {asked = asked} {reply = told} is goes rest) hand = reached rest (in_hand_after hand asked told)
reached (answered it is gives rest) hand = reached rest hand
reached (ends is) hand = hand

-- what is kept answers leaves the hand
unchanged : (wanted : Want) (old new : Kept) (it : Got) (hand : Hand) → Answers wanted old it new → hand_after hand wanted it ≡ hand
unchanged (want.Ask asked) old new it hand answers = absurd answers
unchanged wanted old new it hand answers = refl

-- ---- a request is in its turn ----

module _ (own : Option (List ℕ)) where
  ends_fine : (ended : Code) (hand : Hand) → IsInTurn own hand (end_by ended)
  ends_fine code.Fine hand = tt
  ends_fine code.Failed hand = tt
  ends_fine code.Returned hand = tt
  ends_fine code.Broke hand = tt
  ends_fine code.Continued hand = tt

  -- a course that stops wants what it may, and goes on in turn
  record Stopped (last hand : Hand) (coming : Coming) (wanted : Want) : Type 0 where
    may : MayWant own hand wanted
    on : (it : Got) → InTurn own last (hand_after hand wanted it) (having it coming)

  stopped : {last hand : Hand} {coming : Coming} {wanted : Want} {serving : List ℕ} → InTurn own last hand coming → coming [] ≡ Stop wanted serving
      → Stopped last hand coming wanted
  stopped (spent none) is = let no : Spent ≡ Stop _ _ = sym (none []) ∙ is in absurd (cc no)
  stopped (fin same comes) is = let no : Fin _ _ _ [] ≡ Stop _ _ = sym (comes []) ∙ is in absurd (cc no)
  stopped {last} {hand} {coming} (stop {wanted = found} may at on) is =
      let both : Stop found _ ≡ Stop _ _ = sym at ∙ is in
      let alike : found ≡ _ = cc both in
      subst (Stopped last hand coming) alike (record { may = may; on = on })

  in_turn : {last : Hand} {coming : Coming} {kept : Kept} {replies : List Reply} {request : Request} {serving : List ℕ} (hand : Hand)
      → (next : AsksNext coming kept replies request serving) → InTurn own last hand coming → IsInTurn own (reached next hand) request
  in_turn hand (asks is) turn = (stopped turn is).may
  in_turn hand (after_reply {asked = asked} {reply = told} is goes rest) turn =
      in_turn (in_hand_after hand asked told) rest ((stopped turn is).on (got.Reply told))
  in_turn {last} {coming} {kept} hand (answered {new = new} {want = wanted} it is gives rest) turn =
      in_turn hand rest
      (subst (λ (now : Hand). InTurn own last now (having it coming)) (unchanged wanted kept new it hand gives) ((stopped turn is).on it))
  in_turn hand (ends {ending = ended} is) turn = ends_fine (code_of ended) hand

-- ---- one reply more ----

record IsCut (coming : Coming) (kept : Kept) (replies : List Reply) (told : Reply) (hand now : Hand) : Type 0 where
  asked : Request
  during : List ℕ
  before : AsksNext coming kept replies asked during
  goes_so : IsTrue (goes_on asked)
  is : now ≡ in_hand_after (reached before hand) asked told

at_once : {coming : Coming} {kept : Kept} {replies : List Reply} {request : Request} {serving : List ℕ} (hand : Hand) → replies ≡ []
    → (next : AsksNext coming kept replies request serving) → reached next hand ≡ hand
at_once hand none (asks is) = refl
at_once hand none (after_reply is goes rest) = absurd (cc none)
at_once hand none (answered it is gives rest) = at_once hand none rest
at_once hand none (ends is) = refl

cut : {coming : Coming} {kept : Kept} {all : List Reply} {next : Request} {now : List ℕ} (replies : List Reply) (told : Reply) (hand : Hand)
    → all ≡ replies ++ told ∷ [] → (rest : AsksNext coming kept all next now) → IsCut coming kept replies told hand (reached rest hand)
cut [] told hand same (asks is) = absurd (cc same)
cut (one ∷ replies) told hand same (asks is) = absurd (cc same)
cut [] told hand same (ends is) = absurd (cc same)
cut (one ∷ replies) told hand same (ends is) = absurd (cc same)
cut replies told hand same (answered it is gives rest) =
    let later = cut replies told hand same rest in
    record { asked = later.asked; during = later.during; before = answered it is gives later.before; goes_so = later.goes_so; is = later.is }
cut [] told hand same (after_reply {asked = asked} {during = during} {reply = answer} {replies = others} is goes rest) =
    let first : answer ≡ told = cc same in
    let none : others ≡ [] = cc same in
    record { asked = asked; during = during; before = asks is; goes_so = goes; is = at_once _ none rest ∙ ap (in_hand_after hand asked) first }
cut {coming} {kept} (one ∷ replies) told hand same (after_reply {asked = asked} {reply = answer} {replies = others} is goes rest) =
    let first : answer ≡ one = cc same in
    let rest_same : others ≡ replies ++ told ∷ [] = cc same in
    let later = cut replies told (in_hand_after hand asked answer) rest_same rest in
    subst (λ (first_one : Reply). IsCut coming kept (first_one ∷ replies) told hand (reached rest (in_hand_after hand asked answer))) first
    (record { asked = later.asked; during = later.during; before = after_reply is goes later.before; goes_so = later.goes_so; is = later.is })

-- ---- the law ----

module _ (setup : Setup) (me : ℕ) (start : Start) where
  started : (steps : ℕ) → InTurn (pool_of_start start) None None (eval plan (job.Start start) (fresh me setup.limit) steps)
  started steps =
      eval_in_turn (pool_of_start start) (tcl_keeps (pool_of_start start)) (job.Start start) (fresh me setup.limit) steps None (refl, refl)

  -- that is in hand which the replies say
  is_hand : {replies : List Reply} {hand : Hand} {request : Request} {serving : List ℕ} → HasInHand setup me start replies hand
      → (next : IsNext setup me start replies request serving) → reached next.asks None ≡ hand
  is_hand at_first next = at_once None refl next.asks
  is_hand (then {replies = replies} {hand = hand} {request = request} {serving = serving} told has first) next =
      let found = cut replies told None refl next.asks in
      let before : IsNext setup me start replies found.asked found.during =
      record { kept = next.kept; steps = next.steps; begins = next.begins; asks = found.before } in
      let alike = one_request setup me start replies request found.asked serving found.during first before in
      found.is ∙ ap (λ (one : Hand). in_hand_after one found.asked told) (is_hand has before)
      ∙ ap (λ (one : Request). in_hand_after hand one told) (sym alike.0)

-- who goes on after a reply has not asked for its end
pub went_on : (setup : Setup) (me : ℕ) (start : Start) (replies : List Reply) (told : Reply) (request next : Request) (serving now : List ℕ)
    → IsNext setup me start replies request serving → IsNext setup me start (replies ++ told ∷ []) next now → IsTrue (goes_on request)
went_on setup me start replies told request next serving now first second =
    let found = cut replies told None refl second.asks in
    let alike = one_request setup me start replies request found.asked serving found.during first
    (record { kept = second.kept; steps = second.steps; begins = second.begins; asks = found.before }) in
    subst (λ (one : Request). IsTrue (goes_on one)) (sym alike.0) found.goes_so

pub turn_law : TurnLaw
turn_law setup me start replies hand request serving has next =
    subst (λ (one : Hand). IsInTurn (pool_of_start start) one request) (is_hand setup me start has next)
    (in_turn (pool_of_start start) None next.asks (started setup me start next.steps))
