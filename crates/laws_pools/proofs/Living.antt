-- Who lives goes on living, but for a thread that ends.
use Rattle.std.proofs.Common.{◌≡◌, ◌∙◌, ◌==◌, ◌⊎◌, inl, inr, ℕ, Bool, true, false, List, Option, Some, None, ap, refl, ℤ}
use Rattle.laws_shared.proofs.Deciding.{differs, same}
use Rattle.laws_shared.proofs.Lives as lives
use Rattle.laws_shared.proofs.Mild as mild
use Rattle.tt_calls.specs.declared.chan_call.ChanCall.{ChanCall}
use Rattle.tt_calls.specs.declared.chan_call.ChanCall.TheVariants as chan
use Rattle.tt_calls.specs.declared.event.Event.{Event}
use Rattle.tt_calls.specs.declared.event.Event.TheVariants as event
use Rattle.tt_calls.specs.declared.reply.Reply.{Reply}
use Rattle.tt_calls.specs.declared.reply.Reply.TheVariants as reply
use Rattle.tt_calls.specs.declared.reply.Step.{Step}
use Rattle.tt_calls.specs.declared.reply.Step.TheVariants as step
use Rattle.tt_calls.specs.declared.request.Request.{Request}
use Rattle.tt_calls.specs.declared.request.Request.TheVariants as ask
use Rattle.tt_pools.specs.Calls as pools
use Rattle.tt_pools.specs.declared.step.PoolStep.{PoolStep}
use Rattle.tt_shared.specs.Acts.{act, gives_of, moves}
use Rattle.tt_shared.specs.Mail.{first_of}
use Rattle.tt_shared.specs.Sends.{come, takes, takes_first}
use Rattle.tt_shared.specs.State.{State, is_marked, room}
use Rattle.tt_shared.specs.declared.applied.Line.{Line}
use Rattle.tt_threads.specs.Rows.{is_living}
use Rattle.tt_threads.specs.declared.row.Row.{Row}

rows_come : (state : State) (t : ℕ) (taken : Event) → (come state t taken).rows ≡ state.rows
rows_come state t (event.Moved channel) = refl
rows_come state t taken = refl

rows_take : (state : State) (t : ℕ) → (takes state t).state.rows ≡ state.rows
rows_take state t = go (first_of state.queues t)
  where
    go : (found : Option Event) → (takes_first state t found).state.rows ≡ state.rows
    go None = refl
    go (Some taken) = rows_come _ t taken

rows_moves : (state : State) (call : ChanCall) (target : Option ℕ) (told : Reply) → (moves state call target told).rows ≡ state.rows
rows_moves state (chan.Transfer text channel) (Some target) reply.Go = refl
rows_moves state call target told = refl

in_rows : (old new : List Row) (u : ℕ) → new ≡ old → is_living old u ≡ true → is_living new u ≡ true
in_rows old new u same is = ap (λ rows. is_living rows u) same ∙ is

gives_live : (state : State) (t : ℕ) (gives : PoolStep) (u : ℕ) → is_living state.rows u ≡ true → is_living (gives_of state t gives).state.rows u ≡ true
gives_live state t gives u lives = go gives.step refl
  where
    go : (what : Step) → gives.step ≡ what → is_living (gives_of state t gives).state.rows u ≡ true
    go step.Wait is = rw is (in_rows state.rows (takes state t).state.rows u (rows_take state t) lives)
    go (step.Reply told) is = rw is ((mild.by_starts state gives.start gives.worker).live u lives)

-- the request is the end of thread u
pub record IsEnd (u t : ℕ) (request : Request) : Type 0 where
  pub code : ℤ
  pub is : request ≡ ask.End code
  pub alike : u ≡ t

pub is_end : (u t : ℕ) (request : Request) → IsEnd u t request ⊎ (¬ (IsEnd u t request))
is_end u t (ask.End code) = go (u == t) refl
  where
    go : (b : Bool) → (u == t) ≡ b → IsEnd u t (ask.End code) ⊎ (¬ (IsEnd u t (ask.End code)))
    go true alike = inl (record { code = code; is = refl; alike = same u t alike })
    go false apart = inr (λ end. differs u t apart end.alike)
is_end u t request = inr (λ end. absurd (cc end.is))

pub live_on : (state : State) (t : ℕ) (request : Request) (line : Line) (u : ℕ) → ¬ (IsEnd u t request) → is_living state.rows u ≡ true →
    is_living (act state t request line).state.rows u ≡ true
live_on state t (ask.Tsv call) line u other is = is
live_on state t (ask.Lock call) line u other is = is
live_on state t (ask.Pool call) line u other is =
    let answered = pools.act_or_wait state.pools t (room state) (is_marked state t) call in
    gives_live (record state { pools = answered.table }) t answered.gives u is
live_on state t (ask.Chan call) line u other is = in_rows state.rows _ u (rows_moves _ call _ _) is
live_on state t ask.Take line u other is = in_rows state.rows _ u (rows_take state t) is
live_on state t ask.TakeReady line u other is = in_rows state.rows _ u (rows_take state t) is
live_on state t (ask.End code) line u other is = lives.by_end state.rows t code u (λ alike. other (record { code = code; is = refl; alike = alike })) is
live_on state t request line u other is = (mild.mild state t request line refl).live u is
