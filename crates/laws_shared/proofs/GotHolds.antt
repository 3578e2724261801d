-- Who gets a hold of a lock holds it then.
use Rattle.std.proofs.Common.{◌≡◌, ◌∙◌, ◌+◌, ◌<◌, ◌==◌, ◌||◌, ℕ, suc, Bool, true, false, cond, nat_lt, if◌then◌else◌}
use Rattle.std.proofs.Common.{List, [], ◌∷◌, count_by, Option, Some, None, refl, arith}
use Rattle.std.proofs.lemmas.Bool.Decides.{nat_tests}
use Rattle.std.proofs.lemmas.List.Elements.{All-append, All-cons, All-nil}
use Rattle.std.proofs.lemmas.List.Sums.{sum_by-cons}
use Rattle.std.specs.Bool.{⊤}
use Rattle.std.specs.List.{All, flat_map}
use Rattle.tt_calls.specs.declared.event.Event.TheVariants as event
use Rattle.tt_calls.specs.declared.outcome.Outcome.{Outcome}
use Rattle.tt_calls.specs.declared.reply.Reply.{Reply}
use Rattle.tt_calls.specs.declared.reply.Reply.TheVariants as reply
use Rattle.tt_calls.specs.declared.request.Request.{Request}
use Rattle.tt_calls.specs.declared.request.Request.TheVariants as ask
use Rattle.tt_chans.specs.Channels.{ChannelTable}
use Rattle.tt_chans.specs.declared.channel.Channel.{Channel}
use Rattle.laws_shared.specs.Actions.{Moment, action_result}
use Rattle.laws_shared.specs.Happenings.{Recipient, Happening, Happening as happening, recipient_of, begin_happenings, deaths}
use Rattle.laws_shared.specs.Happenings.{answer_happenings, got, happenings_by, happens, hold_changed, holders_in, holds_changed}
use Rattle.laws_shared.specs.Happenings.{holds_of, is_owner, lock_named, others, owner_changed, owners_changed}
use Rattle.laws_shared.specs.Happenings.{post_died, post_set, posts_from, report_happenings, send_happenings, variable_happenings, slot_happenings, slot_died}
use Rattle.laws_shared.specs.Owners.{owner_at}
use Rattle.tt_locks.specs.Lock.{is_among}
use Rattle.tt_locks.specs.Table.{LockTable, lock_of}
use Rattle.tt_shared.specs.Ends.{hears}
use Rattle.tt_shared.specs.Mail.{is_owed, variable_post}
use Rattle.tt_shared.specs.Sends.{is_due, procedure_in_use}
use Rattle.tt_shared.specs.State.{State}
use Rattle.tt_shared.specs.declared.posts.VariablePost.{VariablePost}
use Rattle.tt_shared.specs.declared.reports.ErrorProcedure.{ErrorProcedure}
use Rattle.tt_slots.specs.Waiting.{slot_of}
use Rattle.tt_slots.specs.declared.slot.Slot.{Slot}
use Rattle.tt_threads.specs.Rows.{is_living, linked_thread}
use Rattle.tt_threads.specs.declared.row.Row.{Row}

-- ---- a count of holds ----

none_counted : (holders : List ℕ) (t : ℕ) → is_among holders t ≡ false → count_by (λ holder. holder == t) holders ≡ 0
none_counted [] t none = refl
none_counted (one ∷ holders) t none = sum_by-cons (λ holder. cond (holder == t) 1 0) one holders ∙ go (one == t) none (none_counted holders t)
  where
    go : (b : Bool) → (b || is_among holders t) ≡ false → (is_among holders t ≡ false → count_by (λ holder. holder == t) holders ≡ 0)
        → cond b 1 0 + count_by (λ holder. holder == t) holders ≡ 0
    go true none later = absurd (cc none)
    go false none later = omega (arith, later none)

among_more : (old : ℕ) (holders : List ℕ) (t : ℕ) → nat_lt old (count_by (λ holder. holder == t) holders) ≡ true → is_among holders t ≡ true
among_more old holders t more = go (is_among holders t) refl
  where
    go : (b : Bool) → is_among holders t ≡ b → is_among holders t ≡ true
    go true is = is
    go false is =
        let none = none_counted holders t is in
        let above : old < count_by (λ holder. holder == t) holders = grind (arith, nat_tests, more) in
        absurd (omega (arith, none, above))

-- ---- happenings ----

-- a hold that was got is there
abbrev pub IsHeld : LockTable → Happening → Type 0
IsHeld table (happening.GetsHold text t) = is_among (holders_in (lock_of table text)) t ≡ true
IsHeld table other = ⊤

module _ (new : LockTable) where
  one : (what : Happening) → IsHeld new what → All (IsHeld new) (what ∷ [])
  one what is = All-cons (IsHeld new) what [] is (All-nil (IsHeld new))

  nothing : All (IsHeld new) []
  nothing = All-nil (IsHeld new)

  if_one : (b : Bool) (what : Happening) → IsHeld new what → All (IsHeld new) (if b then what ∷ [] else [])
  if_one true what is = one what is
  if_one false what is = nothing

  each : {X : Type 0} (f : X → List Happening) → ((x : X) → All (IsHeld new) (f x)) → (xs : List X) → All (IsHeld new) (flat_map f xs)
  each f holds [] = nothing
  each f holds (x ∷ xs) = All-append (IsHeld new) (f x) (flat_map f xs) (holds x) (each f holds xs)

  by_sent : (t : ℕ) (target : Option ℕ) (asks : Recipient) (head : Bool) (told : Reply) → All (IsHeld new) (send_happenings t target asks head told)
  by_sent t (Some target) asks head (reply.Posted n) = one _ tt
  by_sent t target asks head told = nothing

  by_reported : (state : State) (t : ℕ) (procedure : Option ErrorProcedure) → All (IsHeld new) (report_happenings state t procedure)
  by_reported state t None = nothing
  by_reported state t (Some procedure) = one _ tt

  by_posted : (n t : ℕ) (targets : List ℕ) → All (IsHeld new) (posts_from n t targets)
  by_posted n t [] = nothing
  by_posted n t (target ∷ targets) = All-cons (IsHeld new) _ _ tt (by_posted (suc n) t targets)

  by_began : (t : ℕ) (told : Reply) → All (IsHeld new) (begin_happenings t told)
  by_began t (reply.Event (event.Script n script answer plain)) = one _ tt
  by_began t told = nothing

  by_got : (t n : ℕ) (told : Reply) → All (IsHeld new) (got t n told)
  by_got t n reply.Died = one _ tt
  by_got t n (reply.Answer outcome) = one _ tt
  by_got t n told = nothing

  by_set : (rows : List Row) (n : ℕ) (value : List ℕ) (post : Option VariablePost) → All (IsHeld new) (variable_happenings rows n value post)
  by_set rows n value None = nothing
  by_set rows n value (Some post) = if_one (is_living rows post.sender) _ tt

  by_where : (state : State) (n : ℕ) (value : List ℕ) (slot : Option Slot) → All (IsHeld new) (slot_happenings state n value slot)
  by_where state n value None = by_set state.rows n value (variable_post state.posts n)
  by_where state n value (Some slot) = nothing

  by_delivered : (state : State) (n : ℕ) (outcome : Outcome) (told : Reply) → All (IsHeld new) (answer_happenings state n outcome told)
  by_delivered state n outcome (reply.Served stops) = All-cons (IsHeld new) _ _ tt (by_where state n outcome.value (slot_of state.posts.slots n))
  by_delivered state n outcome told = nothing

  by_deaths : (state : State) (t : ℕ) → All (IsHeld new) (deaths state t)
  by_deaths state t =
      All-append (IsHeld new) _ _ (each (slot_died t) (λ entry. if_one (is_due t entry.1) _ tt) state.posts.slots.open_slots)
      (All-append (IsHeld new) _ _ (each (post_died t) (λ entry. if_one (is_owed t entry.1) _ tt) state.posts.variables)
      (each (post_set state.rows t) (λ entry. if_one (hears state.rows t entry.1) _ tt) state.posts.variables))

  by_owners : (old after : ChannelTable) → All (IsHeld new) (owners_changed old after)
  by_owners old after = each (owner_changed old) (λ entry. go entry (is_owner (owner_at old entry.0) entry.1.owner)) after.channels
    where
      go : (entry : List ℕ × Channel) (b : Bool) → All (IsHeld new) (if b then [] else happening.Owner entry.0 entry.1.owner ∷ [])
      go entry true = nothing
      go entry false = one _ tt

  by_hold : (old : LockTable) (text : List ℕ) (t : ℕ) → All (IsHeld new) (hold_changed text t (holds_of old text t) (holds_of new text t))
  by_hold old text t = go (nat_lt before later) refl
    where
      before : ℕ
      before = holds_of old text t

      later : ℕ
      later = holds_of new text t

      go : (b : Bool) → nat_lt (holds_of old text t) (holds_of new text t) ≡ b
          → All (IsHeld new)
          (if b then happening.GetsHold text t ∷ [] else (if nat_lt (holds_of new text t) (holds_of old text t) then happening.Frees text t ∷ [] else []))
      go true is = one _ (among_more (holds_of old text t) (holders_in (lock_of new text)) t is)
      go false is = if_one (nat_lt (holds_of new text t) (holds_of old text t)) _ tt

  by_locks : (old : LockTable) (t : ℕ) (named : Option (List ℕ)) → All (IsHeld new) (holds_changed old new t named)
  by_locks old t None = nothing
  by_locks old t (Some text) = by_hold old text t

by_table : (old new : State) (t : ℕ) (request : Request) (told : Reply) → All (IsHeld new.locks) (happens old new t request told)
by_table old new t (ask.Send text script mode variable head) told = by_sent new.locks t (linked_thread old.rows text) (recipient_of mode variable) head told
by_table old new t (ask.Report trace plain) told = by_reported new.locks old t (procedure_in_use old plain old.error_procedure)
by_table old new t (ask.Broadcast script) told = by_posted new.locks old.posts.next t (others old t)
by_table old new t ask.Take told = by_began new.locks t told
by_table old new t ask.TakeReady told = by_began new.locks t told
by_table old new t (ask.Pool call) told = by_began new.locks t told
by_table old new t (ask.Deliver n outcome) told = by_delivered new.locks old n outcome told
by_table old new t (ask.Await n) told = by_got new.locks t n told
by_table old new t (ask.Lock call) told = by_locks new.locks old.locks t (lock_named call)
by_table old new t (ask.End code) told = by_deaths new.locks old t
by_table old new t request told = nothing new.locks

pub got_held : (moment : Moment) → All (IsHeld (action_result moment.before moment.action).state.locks) (happenings_by moment)
got_held moment =
    let old = moment.before in
    let done = action_result old moment.action in
    All-append (IsHeld done.state.locks) (happens old done.state moment.action.thread moment.action.request done.gives.reply)
    (owners_changed old.channels done.state.channels)
    (by_table old done.state moment.action.thread moment.action.request done.gives.reply)
    (by_owners done.state.locks old.channels done.state.channels)
