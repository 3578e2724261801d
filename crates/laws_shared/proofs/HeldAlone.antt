-- What is done on a held array is done by its holder.
use Rattle.std.proofs.Common.{◌≡◌, ◌≢◌, ◌∙◌, ◌≤◌, ◌==◌, ◌&&◌, ℕ, Bool, true, false, not, List, [], ◌∷◌, Option, Some, None, IfSome, ap, refl, sym, subst}
use Rattle.std.proofs.lemmas.List.Elements.{All-cons, All-head, All-nil, All-tail}
use Rattle.tt_calls.specs.declared.request.Request.{Request}
use Rattle.tt_calls.specs.declared.request.Request.TheVariants as ask
use Rattle.tt_calls.specs.declared.tsv_call.TsvCall.{TsvCall}
use Rattle.tt_calls.specs.declared.tsv_call.TsvCall.TheVariants.{Unhold}
use Rattle.laws_shared.proofs.Deciding as deciding
use Rattle.laws_shared.proofs.Families.{arrays_kept}
use Rattle.laws_shared.proofs.HeldStays.{IsDeep, own_call}
use Rattle.laws_shared.specs.Actions.{Action, CanHappen, Moment, after, moments, more, none}
use Rattle.laws_shared.specs.HeldArrays.{EndsHold, HoldsArray, IsOn}
use Rattle.laws_shared.specs.SharedLaws.{HeldAloneLaw, OthersWaitLaw}
use Rattle.tt_shared.specs.Acts.{act}
use Rattle.tt_shared.specs.Enabled.{enabled}
use Rattle.tt_shared.specs.State.{State}
use Rattle.tt_shared.specs.declared.applied.Line.{Line}
use Rattle.tt_tsv.proofs.HeldLaw.{closed_to_others}
use Rattle.tt_tsv.specs.Calls.{is_held_by_other, is_own, table_after, waits_for}
use Rattle.tt_tsv.specs.Arrays.{array_of}
use Rattle.tt_tsv.specs.declared.array.Array.{Array}

-- ---- others ----

by_other : (t other : ℕ) (found : Option Array) → other ≢ t → is_own t found ≡ true → is_held_by_other other found ≡ true
by_other t other None differs own = absurd (cc own)
by_other t other (Some array) differs own = go array.holder own
  where
    go : (holder : Option ℕ) → elim holder [ None ↦ false | Some one ↦ one == t ] ≡ true
        → (elim holder [ None ↦ false | Some one ↦ true ] && not (elim holder [ None ↦ false | Some one ↦ one == other ])) ≡ true
    go None own = absurd (cc own)
    go (Some one) own = ap not (deciding.apart one other (λ is. differs (sym is ∙ deciding.same one t own)))

pub others_wait : OthersWaitLaw
others_wait state t other name (ask.Tsv call) own named differs =
    let waiting = ap (waits_for state.arrays other) named ∙ by_other t other (array_of state.arrays name) differs own in
    ap not waiting
others_wait state t other name request own named differs = absurd (cc named)

-- ---- one action ----

-- the end of the last hold, if the array is not held more than once
deep : (t : ℕ) (name : List ℕ) (moment : Moment) → ¬ (EndsHold t name moment) → moment.action.thread ≡ t
    → (call : TsvCall) → moment.action.request ≡ ask.Tsv call → call ≡ Unhold name → IsDeep moment.before.arrays name
deep t name moment goes thread call asks is array found few =
    goes record {
      thread = thread;
      unhold = asks ∙ ap ask.Tsv is;
      last = subst (λ one. IfSome one (λ array. array.depth ≤ 1)) (sym found) few;
    }

by_call : (state : State) (t other : ℕ) (name : List ℕ) (call : TsvCall) → HoldsArray state t name → (other ≡ t → call ≡ Unhold name → IsDeep state.arrays name)
    → is_own t (array_of (table_after state.arrays other call) name) ≡ true
by_call state t other name call own deep = go (other == t) refl
  where
    go : (b : Bool) → (other == t) ≡ b → is_own t (array_of (table_after state.arrays other call) name) ≡ true
    go true is =
        let me : other ≡ t = deciding.same other t is in
        subst (λ one. is_own t (array_of (table_after state.arrays one call) name) ≡ true) (sym me) (own_call t name state.arrays call (deep me) own)
    go false is =
        let kept = closed_to_others state.arrays name other call (by_other t other (array_of state.arrays name) (deciding.differs other t is) own) in
        subst (λ found. is_own t found ≡ true) (sym kept) own

pub held_after : (state : State) (t other : ℕ) (name : List ℕ) (request : Request) (line : Line) → HoldsArray state t name
    → ¬ (EndsHold t name (record { before = state; action = record { thread = other; request = request; line = line } }))
    → HoldsArray (act state other request line).state t name
held_after state t other name (ask.Tsv call) line own goes = by_call state t other name call own (λ me. deep t name _ goes me call refl)
held_after state t other name request line own goes =
    subst (λ table. is_own t (array_of table name) ≡ true) (sym (arrays_kept state other request line refl)) own

pub by_holder : (state : State) (action : Action) (t : ℕ) (name : List ℕ) → CanHappen state action → HoldsArray state t name → IsOn action name →
    action.thread ≡ t
by_holder state action t name can own on = go (action.thread == t) refl
  where
    go : (b : Bool) → (action.thread == t) ≡ b → action.thread ≡ t
    go true is = deciding.same action.thread t is
    go false is =
        absurd (deciding.not_both (enabled state action.thread action.request) can.enabled
        (others_wait state t action.thread name action.request own on (deciding.differs action.thread t is)))

-- ---- a list of them ----

pub held_alone : HeldAloneLaw
held_alone old new [] t name none own goes = record { alone = All-nil _; held = own }
held_alone old new (action ∷ actions) t name (more can rest) own goes =
    let first : Moment = record { before = old; action = action } in
    let others = moments (after old action) actions in
    let ends = λ (moment : Moment). ¬ (EndsHold t name moment) in
    let next = held_after old t action.thread name action.request action.line own (All-head ends first others goes) in
    let later = held_alone (after old action) new actions t name rest next (All-tail ends first others goes) in
    record {
      alone = All-cons (λ moment. IsOn moment.action name → moment.action.thread ≡ t) first others (by_holder old action t name can own) later.alone;
      held = later.held;
    }
