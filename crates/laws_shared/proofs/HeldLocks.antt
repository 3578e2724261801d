-- A lock that is held alone has one holder, and a hold stays as it was.
use Rattle.std.proofs.Common.{◌≡◌, ◌∙◌, ℕ, Bool, true, false, if◌then◌else◌, List, [], ◌∷◌, Option, Some, None, IsSome, is_some, ap, refl, sym, subst}
use Rattle.std.proofs.lemmas.List.Elements.{All-append, All-contains, All-head, All-nil, All-tail, All-weaker}
use Rattle.std.specs.List.{All, Contains, flat_map}
use Rattle.tt_calls.specs.declared.request.Request.{Request}
use Rattle.tt_calls.specs.declared.request.Request.TheVariants as ask
use Rattle.laws_shared.proofs.Families.{locks_kept}
use Rattle.laws_shared.proofs.GotHolds.{IsHeld, got_held}
use Rattle.laws_shared.proofs.LockCalls.{one_of, still_after}
use Rattle.laws_shared.proofs.LockHolds.{Still, among, one-alone}
use Rattle.laws_shared.specs.Actions.{Action, Acts, Moment, Reached, after, moments, more, none}
use Rattle.laws_shared.specs.Happenings.{Happening, Happening as happening, happenings_by, happenings, holders_in}
use Rattle.laws_shared.specs.HeldLocks.{HoldsLock, hold_in, hold_of, is_alone}
use Rattle.laws_shared.specs.SharedLaws.{HoldStaysLaw, LocksHaveOneHolder, OneHolderLaw as OneHoldLaw}
use Rattle.tt_locks.proofs.HolderLaw.{one_holder}
use Rattle.tt_locks.specs.LockLaws.{HaveOneHolder}
use Rattle.tt_locks.specs.Lock.{is_among}
use Rattle.tt_locks.specs.Table.{LockTable, lock_of}
use Rattle.tt_locks.specs.declared.lock.Lock.{Lock}
use Rattle.tt_shared.specs.Acts.{act}
use Rattle.tt_shared.specs.State.{State, start_state}
use Rattle.tt_shared.specs.declared.applied.Line.{Line}

-- ---- one holder ----

pub have_after : (state : State) (t : ℕ) (request : Request) (line : Line) → HaveOneHolder state.locks → HaveOneHolder (act state t request line).state.locks
have_after state t (ask.Lock call) line have = one_holder.stays state.locks t call have
have_after state t request line have = subst HaveOneHolder (sym (locks_kept state t request line refl)) have

have_along : (old new : State) (actions : List Action) → HaveOneHolder old.locks → Acts old actions new → HaveOneHolder new.locks
have_along old new [] have none = have
have_along old new (action ∷ actions) have (more can rest) =
    have_along (after old action) new actions (have_after old action.thread action.request action.line have) rest

pub reached_have : (state : State) → Reached state → HaveOneHolder state.locks
reached_have state reached = have_along (start_state reached.main) state reached.actions one_holder.start reached.acts

held_some : (t : ℕ) (lock : Lock) → IsSome (hold_in t (Some lock)) → is_among lock.holders t ≡ true
held_some t lock is = go (is_among lock.holders t) refl is
  where
    go : (b : Bool) → is_among lock.holders t ≡ b → is_some (if b then Some (is_alone lock.kind lock.writing) else None) ≡ true → is_among lock.holders t ≡ true
    go true has is = has
    go false has is = absurd (cc is)

one_in : (table : LockTable) (text : List ℕ) (t other : ℕ) (found : Option Lock) → lock_of table text ≡ found → HaveOneHolder table
    → hold_in t found ≡ Some true → is_among (holders_in found) other ≡ true → other ≡ t
one_in table text t other None is have alone holds = absurd cc
one_in table text t other (Some lock) is have alone holds =
    let mine = among t lock true alone in
    one-alone lock.kind lock.writing lock.holders t other (one_of table text lock have is) mine.1 mine.0 holds

has : (t : ℕ) (found : Option Lock) → IsSome (hold_in t found) → is_among (holders_in found) t ≡ true
has t None is = absurd (cc is)
has t (Some lock) is = held_some t lock is

pub one_in_state : (state : State) → HaveOneHolder state.locks → LocksHaveOneHolder state
one_in_state state have = record {
  have = have;
  one = λ t other text alone holds. one_in state.locks text t other (lock_of state.locks text) refl have alone (has other (lock_of state.locks text) holds);
}

pub one_hold : OneHoldLaw
one_hold state reached = one_in_state state (reached_have state reached)

-- ---- a hold stays ----

still : (state : State) (t u : ℕ) (text : List ℕ) (alone : Bool) (request : Request) (line : Line) → HaveOneHolder state.locks →
    hold_of state t text ≡ Some alone
    → Still t alone (lock_of (act state u request line).state.locks text)
still state t u text alone (ask.Lock call) line have was = still_after state.locks t u text alone have was call
still state t u text alone request line have was =
    subst (λ table. Still t alone (lock_of table text)) (sym (locks_kept state u request line refl))
    (λ now holds. let both : Some now ≡ Some alone = sym holds ∙ was in cc both)

there : (found : Option Bool) (alone : Bool) → IsSome found → ((now : Bool) → found ≡ Some now → now ≡ alone) → found ≡ Some alone
there None alone some is = absurd (cc some)
there (Some now) alone some is = ap Some (is now refl)

pub stays_one : (state : State) (action : Action) (t : ℕ) (text : List ℕ) (alone : Bool) → HaveOneHolder state.locks → hold_of state t text ≡ Some alone
    → HoldsLock (after state action) t text → hold_of (after state action) t text ≡ Some alone
stays_one state action t text alone have was holds =
    there (hold_of (after state action) t text) alone holds (still state t action.thread text alone action.request action.line have was)

-- what is got of a lock that is held alone
Mine : Bool → ℕ → List ℕ → Happening → Type 0
Mine alone t text what = alone ≡ true → (other : ℕ) → what ≡ happening.GetsHold text other → other ≡ t

got_mine : (state : State) (action : Action) (t : ℕ) (text : List ℕ) (alone : Bool) → HaveOneHolder (after state action).locks →
    hold_of (after state action) t text ≡ Some alone
    → All (Mine alone t text) (happenings_by (record { before = state; action = action }))
unfolding Mine
got_mine state action t text alone have holds =
    let table = (after state action).locks in
    All-weaker (IsHeld table) (Mine alone t text)
    (λ what held is other same.
    one_in table text t other (lock_of table text) refl have (holds ∙ ap Some is) (subst (IsHeld table) same held))
    (happenings_by (record { before = state; action = action })) (got_held (record { before = state; action = action }))

pub got_one : (state : State) (action : Action) (t other : ℕ) (text : List ℕ) → HaveOneHolder (after state action).locks →
    hold_of (after state action) t text ≡ Some true
    → Contains (happenings_by (record { before = state; action = action })) (happening.GetsHold text other) → other ≡ t
unfolding Mine
got_one state action t other text have holds got =
    All-contains (Mine true t text) (happenings_by (record { before = state; action = action })) (happening.GetsHold text other)
    (got_mine state action t text true have holds) got refl other refl

record Kept (old : State) (actions : List Action) (new : State) (t : ℕ) (text : List ℕ) (alone : Bool) : Type 0 where
  stays : hold_of new t text ≡ Some alone
  mine : All (Mine alone t text) (happenings old actions)

along : (old new : State) (actions : List Action) (t : ℕ) (text : List ℕ) (alone : Bool) → HaveOneHolder old.locks → Acts old actions new →
    hold_of old t text ≡ Some alone
    → All (λ moment. HoldsLock (after moment.before moment.action) t text) (moments old actions) → Kept old actions new t text alone
along old new [] t text alone have none was holds = record { stays = was; mine = All-nil (Mine alone t text) }
along old new (action ∷ actions) t text alone have (more can rest) was holds =
    let first : Moment = record { before = old; action = action } in
    let next = after old action in
    let others = moments next actions in
    let holding = λ (moment : Moment). HoldsLock (after moment.before moment.action) t text in
    let now = stays_one old action t text alone have was (All-head holding first others holds) in
    let have_next = have_after old action.thread action.request action.line have in
    let later = along next new actions t text alone have_next rest now (All-tail holding first others holds) in
    record {
      stays = later.stays;
      mine = All-append (Mine alone t text) (happenings_by first) (flat_map happenings_by others) (got_mine old action t text alone have_next now) later.mine;
    }

pub hold_stays : HoldStaysLaw
unfolding Mine
hold_stays old new actions t text alone reached acts was holds =
    let kept = along old new actions t text alone (reached_have old reached) acts was holds in
    record {
      stays = kept.stays;
      none = λ is other got. All-contains (Mine alone t text) (happenings old actions) (happening.GetsHold text other) kept.mine got is other refl;
    }
