-- A script is finished after it began.
use Rattle.std.proofs.Common.{◌≡◌, ◌∙◌, ℕ, suc, Bool, true, false, if◌then◌else◌, List, [], ◌∷◌, ◌++◌, Option, Some, None, flat_map}
use Rattle.std.proofs.Common.{ap, append-nil, append_assoc, refl, sym, subst, codes}
use Rattle.std.proofs.lemmas.Grind.{flat_map-append}
use Rattle.std.specs.Bool.{⊤}
use Rattle.laws_runs.proofs.Begun.{BegunBy, served_began}
use Rattle.laws_runs.proofs.Threads.{Serves, serves_on}
use Rattle.laws_runs.specs.Lawful.{HasBegun}
use Rattle.laws_sends.proofs.Actions.{by_owners}
use Rattle.laws_sends.proofs.Cuts.{Along, Every, along-append, every-append, every-on}
use Rattle.laws_sends.proofs.Requests.{by_hold}
use Rattle.laws_sends.proofs.Views.{OfOthers}
use Rattle.laws_serving.proofs.Replies.{deliver_law}
use Rattle.laws_shared.specs.Actions.{Moment, action_result}
use Rattle.laws_shared.specs.Happenings.{Happening, Began, Died, Finished, Frees, GetsHold, Got, Owner, Posted, Recipient, Set, answer_happenings}
use Rattle.laws_shared.specs.Happenings.{begin_happenings, deaths, got, happenings_by, happens, holds_changed, holds_of, lock_named}
use Rattle.laws_shared.specs.Happenings.{others, post_died, post_set, posts_from, recipient_of, report_happenings, send_happenings}
use Rattle.laws_shared.specs.Happenings.{slot_died, slot_happenings, variable_happenings}
use Rattle.tt_calls.specs.declared.event.Event.TheVariants as event
use Rattle.tt_calls.specs.declared.outcome.Outcome.{Outcome}
use Rattle.tt_calls.specs.declared.reply.Reply.{Reply}
use Rattle.tt_calls.specs.declared.reply.Reply.TheVariants as reply
use Rattle.tt_calls.specs.declared.request.Request.{Request}
use Rattle.tt_calls.specs.declared.request.Request.TheVariants as ask
use Rattle.tt_kept.specs.Beginning.{IsNext}
use Rattle.tt_locks.specs.Table.{LockTable}
use Rattle.tt_machine.specs.Machine.{Machine, Runs, Steps, more, none}
use Rattle.tt_machine.specs.RunActions.{run_moments, step_action}
use Rattle.tt_shared.specs.Ends.{hears}
use Rattle.tt_shared.specs.Mail.{is_owed, variable_post}
use Rattle.tt_shared.specs.Sends.{is_due, procedure_in_use}
use Rattle.tt_shared.specs.State.{State}
use Rattle.tt_shared.specs.declared.posts.VariablePost.{VariablePost}
use Rattle.tt_shared.specs.declared.reports.ErrorProcedure.{ErrorProcedure}
use Rattle.tt_slots.specs.Waiting.{slot_of}
use Rattle.tt_slots.specs.declared.slot.Slot.{Slot}
use Rattle.tt_threads.specs.Rows.{is_living, linked_thread}
use Rattle.tt_threads.specs.declared.row.Row.{Row}

-- what a script's end comes after
abbrev pub AfterBegin : (before : List Happening) → Happening → Type 0
AfterBegin before (Finished n outcome) = HasBegun before n
AfterBegin before other = ⊤

-- no script is finished by these
abbrev Unfinished : Happening → Type 0
Unfinished (Finished n outcome) = ⊥
Unfinished other = ⊤

unfinished : (seen hs : List Happening) → Every Unfinished hs → Along AfterBegin seen hs
unfinished seen [] every = tt
unfinished seen (one ∷ hs) every = (go one every.0, unfinished (seen ++ one ∷ []) hs every.1)
  where
    go : (what : Happening) → Unfinished what → AfterBegin seen what
    go (Finished n outcome) is = absurd is
    go other is = tt

of_others : (hs : List Happening) → Every OfOthers hs → Every Unfinished hs
of_others hs every = every-on OfOthers Unfinished go hs every
  where
    go : (what : Happening) → OfOthers what → Unfinished what
    go (GetsHold lock t) is = tt
    go (Frees lock t) is = tt
    go (Owner channel owner) is = tt
    go (Posted n from to recipient head) is = tt
    go (Began n t) is = tt
    go (Finished n outcome) is = is
    go (Died n) is = tt
    go (Got n t told) is = tt
    go (Set n t value) is = tt

-- ---- requests ----

by_sends : (t : ℕ) (target : Option ℕ) (recipient : Recipient) (head : Bool) (answered : Reply)
    → Every Unfinished (send_happenings t target recipient head answered)
by_sends t (Some target) recipient head (reply.Posted n) = (tt, tt)
by_sends t target recipient head answered = tt

by_reports : (state : State) (t : ℕ) (procedure : Option ErrorProcedure) → Every Unfinished (report_happenings state t procedure)
by_reports state t None = tt
by_reports state t (Some procedure) = (tt, tt)

by_posts : (n t : ℕ) (targets : List ℕ) → Every Unfinished (posts_from n t targets)
by_posts n t [] = tt
by_posts n t (target ∷ targets) = (tt, by_posts (suc n) t targets)

by_begin : (t : ℕ) (answered : Reply) → Every Unfinished (begin_happenings t answered)
by_begin t (reply.Event (event.Script n script answer plain)) = (tt, tt)
by_begin t answered = tt

by_got : (t n : ℕ) (answered : Reply) → Every Unfinished (got t n answered)
by_got t n reply.Died = (tt, tt)
by_got t n (reply.Answer outcome) = (tt, tt)
by_got t n answered = tt

by_locks : (old new : LockTable) (t : ℕ) (named : Option (List ℕ)) → Every Unfinished (holds_changed old new t named)
by_locks old new t None = tt
by_locks old new t (Some text) = of_others _ (by_hold text t (holds_of old text t) (holds_of new text t))

by_variable : (rows : List Row) (n : ℕ) (value : List ℕ) (post : Option VariablePost) → Every Unfinished (variable_happenings rows n value post)
by_variable rows n value None = tt
by_variable rows n value (Some post) = go (is_living rows post.sender)
  where
    go : (b : Bool) → Every Unfinished (if b then Set n post.sender value ∷ [] else [])
    go true = (tt, tt)
    go false = tt

by_slot : (state : State) (n : ℕ) (value : List ℕ) (slot : Option Slot) → Every Unfinished (slot_happenings state n value slot)
by_slot state n value None = by_variable state.rows n value (variable_post state.posts n)
by_slot state n value (Some slot) = tt

each_flat : {X : Type 0} (f : X → List Happening) → ((x : X) → Every Unfinished (f x)) → (xs : List X) → Every Unfinished (flat_map f xs)
each_flat f each [] = tt
each_flat f each (x ∷ xs) = every-append Unfinished (f x) (flat_map f xs) (each x) (each_flat f each xs)

one_died : (b : Bool) (n : ℕ) → Every Unfinished (if b then Died n ∷ [] else [])
one_died true n = (tt, tt)
one_died false n = tt

one_set : (b : Bool) (n t : ℕ) (value : List ℕ) → Every Unfinished (if b then Set n t value ∷ [] else [])
one_set true n t value = (tt, tt)
one_set false n t value = tt

by_deaths : (state : State) (t : ℕ) → Every Unfinished (deaths state t)
by_deaths state t =
    every-append Unfinished (flat_map (slot_died t) state.posts.slots.open_slots) _
    (each_flat (slot_died t) (λ entry. one_died (is_due t entry.1) entry.0) state.posts.slots.open_slots)
    (every-append Unfinished (flat_map (post_died t) state.posts.variables) _
    (each_flat (post_died t) (λ entry. one_died (is_owed t entry.1) entry.0) state.posts.variables)
    (each_flat (post_set state.rows t)
    (λ entry. one_set (hears state.rows t entry.1) entry.0 entry.1.sender (codes "target thread died")) state.posts.variables))

by_answer : (seen : List Happening) (state : State) (n : ℕ) (outcome : Outcome) (answered : Reply) → HasBegun seen n
    → Along AfterBegin seen (answer_happenings state n outcome answered)
by_answer seen state n outcome (reply.Served stops) begun =
    (begun, unfinished _ _ (by_slot state n outcome.value (slot_of state.posts.slots n)))
by_answer seen state n outcome answered begun = tt

by_request : (seen : List Happening) (old new : State) (t : ℕ) (request : Request) (answered : Reply)
    → ((n : ℕ) (outcome : Outcome) → request ≡ ask.Deliver n outcome → HasBegun seen n)
    → Along AfterBegin seen (happens old new t request answered)
by_request seen old new t (ask.Send text script mode variable head) answered begun =
    unfinished seen _ (by_sends t (linked_thread old.rows text) (recipient_of mode variable) head answered)
by_request seen old new t (ask.Report trace plain) answered begun =
    unfinished seen _ (by_reports old t (procedure_in_use old plain old.error_procedure))
by_request seen old new t (ask.Broadcast script) answered begun = unfinished seen _ (by_posts old.posts.next t (others old t))
by_request seen old new t ask.Take answered begun = unfinished seen _ (by_begin t answered)
by_request seen old new t ask.TakeReady answered begun = unfinished seen _ (by_begin t answered)
by_request seen old new t (ask.Pool call) answered begun = unfinished seen _ (by_begin t answered)
by_request seen old new t (ask.Deliver n outcome) answered begun = by_answer seen old n outcome answered (begun n outcome refl)
by_request seen old new t (ask.Await n) answered begun = unfinished seen _ (by_got t n answered)
by_request seen old new t (ask.Lock call) answered begun = unfinished seen _ (by_locks old.locks new.locks t (lock_named call))
by_request seen old new t (ask.End code) answered begun = unfinished seen _ (by_deaths old t)
by_request seen old new t request answered begun = tt

by_action : (seen : List Happening) (moment : Moment)
    → ((n : ℕ) (outcome : Outcome) → moment.action.request ≡ ask.Deliver n outcome → HasBegun seen n)
    → Along AfterBegin seen (happenings_by moment)
by_action seen moment begun =
    let done = action_result moment.before moment.action in
    along-append AfterBegin seen (happens moment.before done.state moment.action.thread moment.action.request done.gives.reply) _
    (by_request seen moment.before done.state moment.action.thread moment.action.request done.gives.reply begun)
    (unfinished _ _ (of_others _ (by_owners moment.before.channels done.state.channels)))

-- ---- runs ----

-- what a step hands over, its thread has begun
begun_before : (old next : Machine) (number : ℕ) (step : Steps old number next) (seen : List Moment) → Serves old seen
    → (n : ℕ) (outcome : Outcome) → step.can.request ≡ ask.Deliver n outcome → HasBegun (flat_map happenings_by seen) n
begun_before old next number step seen serves n outcome is =
    let asking = step.can.asks.thread in
    let asks = subst (λ (request : Request). IsNext old.setup number asking.start asking.replies request step.can.serving) is step.can.asks.next in
    let innermost = deliver_law old.setup number asking.start asking.replies n outcome step.can.serving asks in
    let served = sym innermost.1 ∙ serves.there number asking step.can.asks.made step.can.request step.can.serving step.can.asks.next in
    let every = subst (Every (BegunBy number (flat_map happenings_by seen))) (sym served) (served_began number seen) in
    record { by = number; began = every.0 }

more_happened : (seen : List Moment) (moment : Moment)
    → flat_map happenings_by (seen ++ moment ∷ []) ≡ flat_map happenings_by seen ++ happenings_by moment
more_happened seen moment =
    flat_map-append happenings_by seen (moment ∷ [])
    ∙ ap (λ (more : List Happening). flat_map happenings_by seen ++ more) (append-nil (happenings_by moment))

along_run : (old new : Machine) (schedule : List ℕ) (ran : Runs old schedule new) (seen : List Moment) → Serves old seen
    → Along AfterBegin [] (flat_map happenings_by seen) → Along AfterBegin [] (flat_map happenings_by (seen ++ run_moments ran))
along_run old new [] none seen serves along = subst (λ (all : List Moment). Along AfterBegin [] (flat_map happenings_by all)) (sym (append-nil seen)) along
along_run old new (number ∷ schedule) (more {next = next} step rest) seen serves along =
    let here : Moment = record { before = old.shared; action = step_action step } in
    subst (λ (all : List Moment). Along AfterBegin [] (flat_map happenings_by all)) (append_assoc seen (here ∷ []) (run_moments rest))
    (along_run next new schedule rest (seen ++ here ∷ []) (serves_on old number step seen serves)
    (subst (Along AfterBegin []) (sym (more_happened seen here))
    (along-append AfterBegin [] (flat_map happenings_by seen) (happenings_by here) along
    (by_action (flat_map happenings_by seen) here (begun_before old next number step seen serves)))))

pub finished_after : (old new : Machine) (schedule : List ℕ) (ran : Runs old schedule new) → Serves old []
    → Along AfterBegin [] (flat_map happenings_by (run_moments ran))
finished_after old new schedule ran serves = along_run old new schedule ran [] serves tt
