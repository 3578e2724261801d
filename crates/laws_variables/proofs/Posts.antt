-- What holds of the posts of variables holds of them after a request, if it holds of a new one.
use Rattle.std.proofs.Common.{◌≡◌, ◌∙◌, ◌==◌, ℕ, suc, Bool, true, false, not, List, [], ◌∷◌, Option, Some, None, if◌then◌else◌}
use Rattle.std.proofs.Common.{ap, refl, sym, subst, arith}
use Rattle.laws_sends.proofs.Actions.{by_action, by_owners}
use Rattle.laws_sends.proofs.Cuts.{Every}
use Rattle.laws_sends.proofs.Entries.{every-filter, every-insert, every-remove}
use Rattle.laws_sends.proofs.Moves.{AreWithPost, Move, Moves, begins, both, ends, fills, gets, one, quiet, sent, sets}
use Rattle.laws_sends.proofs.Numbers.{deaths_none, none_if}
use Rattle.laws_sends.proofs.Requests.{by_hold}
use Rattle.laws_sends.proofs.Totals.{total, total-append}
use Rattle.laws_sends.proofs.Weights.{others_none}
use Rattle.laws_shared.proofs.Mild.{HaveQueues}
use Rattle.laws_shared.specs.Actions.{CanHappen, Moment, action_result, after}
use Rattle.laws_shared.specs.Happenings.{Happening, Nobody, Posted, Recipient, Set, Variable, Waiting}
use Rattle.laws_shared.specs.Happenings.{answer_happenings, begin_happenings, got, happenings_by, happens}
use Rattle.laws_shared.specs.Happenings.{holds_changed, holds_of, lock_named, others, owners_changed, posts_from, report_happenings, slot_happenings}
use Rattle.laws_shared.specs.Happenings.{variable_happenings}
use Rattle.tt_calls.specs.declared.event.Event.TheVariants as event
use Rattle.tt_calls.specs.declared.outcome.Outcome.{Outcome}
use Rattle.tt_calls.specs.declared.reply.Reply.{Reply}
use Rattle.tt_calls.specs.declared.reply.Reply.TheVariants as reply
use Rattle.tt_calls.specs.declared.request.Mode.{Mode}
use Rattle.tt_calls.specs.declared.request.Mode.TheVariants.{Waits, Later}
use Rattle.tt_calls.specs.declared.request.Request.{Request}
use Rattle.tt_calls.specs.declared.request.Request.TheVariants as ask
use Rattle.tt_shared.specs.Acts.{act}
use Rattle.tt_shared.specs.Mail.{Posts, is_owed, variable_of, variable_post}
use Rattle.tt_shared.specs.Sends.{is_asked, procedure_in_use, sends, sends_linked, sends_named, sends_to}
use Rattle.tt_shared.specs.State.{Acted, State, is_not_asked}
use Rattle.tt_shared.specs.declared.posts.VariablePost.{VariablePost}
use Rattle.tt_shared.specs.declared.reports.ErrorProcedure.{ErrorProcedure}
use Rattle.tt_slots.specs.Waiting.{slot_of}
use Rattle.tt_slots.specs.declared.slot.Slot.{Slot}
use Rattle.tt_threads.specs.Rows.{is_living, linked_thread}
use Rattle.tt_threads.specs.declared.row.Row.{Row}

-- ---- posts for variables ----

abbrev pub for_variable : Happening → ℕ
for_variable (Posted n from to Variable head) = 1
for_variable other = 0

abbrev pub NoneFor : List Happening → Type 0
NoneFor happened = total for_variable happened ≡ 0

module _ (P : ℕ × VariablePost → Type 0) where
  by_post : (recipient : Recipient) (old new : Posts) (from to n : ℕ) (head : Bool) → AreWithPost recipient old new from to
      → NoneFor (Posted n from to recipient head ∷ []) → Every P old.variables → Every P new.variables
  by_post Nobody old new from to n head is none every = subst (Every P) (sym (ap (λ p. p.variables) is)) every
  by_post Waiting old new from to n head is none every = subst (Every P) (sym (ap (λ p. p.variables) is)) every
  by_post Variable old new from to n head is none every = absurd (omega (arith, none))

  on_move : (old new : State) (happened : List Happening) → Move old new happened → NoneFor happened → Every P old.posts.variables → Every P new.posts.variables
  on_move old new _ (quiet happened others scripts is rows) none every = subst (λ p. Every P p.variables) (sym is) every
  on_move old new _ (sent from to recipient head but is rows) none every = by_post recipient old.posts new.posts from to old.posts.next head is none every
  on_move old new _ (begins m t rest there but lives is rows) none every = subst (λ p. Every P p.variables) (sym is) every
  on_move old new _ (fills m outcome slot there waits queues is rows) none every = subst (Every P) (sym (ap (λ p. p.variables) is)) every
  on_move old new _ (sets m outcome post told there scripts is rows) none every =
      subst (Every P) (sym (ap (λ p. p.variables) is)) (every-remove P m old.posts.variables every)
  on_move old new _ (gets m t slot told there mine fits queues is rows) none every = subst (Every P) (sym (ap (λ p. p.variables) is)) every
  on_move old new _ (ends t but is has_ended rows) none every =
      subst (Every P) (sym (ap (λ p. p.variables) is)) (every-filter P (λ entry. not (is_owed t entry.1)) old.posts.variables every)

  on_moves : (old new : State) (happened : List Happening) → Moves old new happened → NoneFor happened → Every P old.posts.variables
      → Every P new.posts.variables
  on_moves old new happened (one move) none every = on_move old new happened move none every
  on_moves old new _ (both {middle = middle} {first = first} {second = second} here there) none every =
      let sum = total-append for_variable first second in
      on_moves middle new second there (omega (arith, sum, none)) (on_moves old middle first here (omega (arith, sum, none)) every)

-- ---- what posts nothing for a variable ----

none_reported : (state : State) (t : ℕ) (procedure : Option ErrorProcedure) → NoneFor (report_happenings state t procedure)
none_reported state t None = refl
none_reported state t (Some procedure) = refl

none_from : (n t : ℕ) (targets : List ℕ) → NoneFor (posts_from n t targets)
none_from n t [] = refl
none_from n t (target ∷ targets) = omega (arith, none_from (suc n) t targets)

none_begun : (t : ℕ) (answered : Reply) → NoneFor (begin_happenings t answered)
none_begun t (reply.Event (event.Script n script answer plain)) = refl
none_begun t answered = refl

none_got : (t n : ℕ) (answered : Reply) → NoneFor (got t n answered)
none_got t n reply.Died = refl
none_got t n (reply.Answer outcome) = refl
none_got t n answered = refl

none_held : (old new : State) (t : ℕ) (named : Option (List ℕ)) → NoneFor (holds_changed old.locks new.locks t named)
none_held old new t None = refl
none_held old new t (Some text) =
    others_none for_variable (λ lock u. refl) (λ lock u. refl) (λ channel owner. refl) _
    (by_hold text t (holds_of old.locks text t) (holds_of new.locks text t))

none_variable : (rows : List Row) (n : ℕ) (value : List ℕ) (found : Option VariablePost) → NoneFor (variable_happenings rows n value found)
none_variable rows n value None = refl
none_variable rows n value (Some post) = none_if for_variable (is_living rows post.sender) (Set n post.sender value) refl

none_slot : (state : State) (n : ℕ) (value : List ℕ) (found : Option Slot) → NoneFor (slot_happenings state n value found)
none_slot state n value None = none_variable state.rows n value (variable_post state.posts n)
none_slot state n value (Some slot) = refl

none_answered : (state : State) (n : ℕ) (outcome : Outcome) (answered : Reply) → NoneFor (answer_happenings state n outcome answered)
none_answered state n outcome (reply.Served stops) = omega (arith, none_slot state n outcome.value (slot_of state.posts.slots n))
none_answered state n outcome answered = refl

abbrev pub is_send : Request → Bool
is_send (ask.Send text script mode variable head) = true
is_send request = false

none_by_request : (old new : State) (t : ℕ) (request : Request) (answered : Reply) → is_send request ≡ false → NoneFor (happens old new t request answered)
none_by_request old new t (ask.Send text script mode variable head) answered is = absurd (cc is)
none_by_request old new t (ask.Report trace plain) answered is = none_reported old t (procedure_in_use old plain old.error_procedure)
none_by_request old new t (ask.Broadcast script) answered is = none_from old.posts.next t (others old t)
none_by_request old new t ask.Take answered is = none_begun t answered
none_by_request old new t ask.TakeReady answered is = none_begun t answered
none_by_request old new t (ask.Pool call) answered is = none_begun t answered
none_by_request old new t (ask.Deliver n outcome) answered is = none_answered old n outcome answered
none_by_request old new t (ask.Await n) answered is = none_got t n answered
none_by_request old new t (ask.Lock call) answered is = none_held old new t (lock_named call)
none_by_request old new t (ask.End code) answered is = deaths_none for_variable old t (λ n. refl) (λ n u value. refl)
none_by_request old new t request answered is = refl

none_by : (moment : Moment) → is_send moment.action.request ≡ false → NoneFor (happenings_by moment)
none_by moment is =
    let old = moment.before in
    let done = action_result old moment.action in
    let moved = owners_changed old.channels done.state.channels in
    omega (
      arith,
      total-append for_variable (happens old done.state moment.action.thread moment.action.request done.gives.reply) moved,
      none_by_request old done.state moment.action.thread moment.action.request done.gives.reply is,
      others_none for_variable (λ lock u. refl) (λ lock u. refl) (λ channel owner. refl) moved (by_owners old.channels done.state.channels),
    )

-- ---- sends ----

module _ (P : ℕ × VariablePost → Type 0) (state : State) (t : ℕ) (every : Every P state.posts.variables) where
  either : (b : Bool) (first second : Acted) → Every P first.state.posts.variables → Every P second.state.posts.variables
      → Every P (if b then first else second).state.posts.variables
  either true first second here there = here
  either false first second here there = there

  -- for no variable
  by_plain : (text script : List ℕ) (mode : Mode) (variable : Option (List ℕ)) (head : Bool)
      → ((target : ℕ) → Every P (sends_linked state t target script mode variable head).state.posts.variables)
      → Every P (sends state t text script mode variable head).state.posts.variables
  by_plain text script mode variable head each =
      either (is_asked mode variable) (sends_named state t text script mode variable head (linked_thread state.rows text)) (is_not_asked state)
      (go (linked_thread state.rows text)) every
    where
      go : (found : Option ℕ) → Every P (sends_named state t text script mode variable head found).state.posts.variables
      go None = every
      go (Some target) = each target

  by_sends : (text script : List ℕ) (mode : Mode) (variable : Option (List ℕ)) (head : Bool)
      → ((name : List ℕ) (target : ℕ) → mode ≡ Later → variable ≡ Some name
      → (sends state t text script mode variable head).gives.reply ≡ reply.Posted state.posts.next → P (state.posts.next, variable_of t target name))
      → Every P (sends state t text script mode variable head).state.posts.variables
  by_sends text script Waits variable head new =
      by_plain text script Waits variable head
      (λ target. either (target == t) (is_not_asked state) (sends_to state t target script Waits variable head) every every)
  by_sends text script Later None head new = by_plain text script Later None head (λ target. every)
  by_sends text script Later (Some name) head new = go (linked_thread state.rows text) refl
    where
      go : (found : Option ℕ) → linked_thread state.rows text ≡ found
          → Every P (sends_named state t text script Later (Some name) head found).state.posts.variables
      go None is = every
      go (Some target) is =
          every-insert P state.posts.variables state.posts.next (variable_of t target name) every
          (new name target refl refl (ap (λ found. (sends_named state t text script Later (Some name) head found).gives.reply) is))

-- ---- actions ----

-- a post that is new, and the send that made it
abbrev pub IsNew : Moment → (n : ℕ) (name : List ℕ) → Type 0
IsNew moment n name =
    (text : List ℕ) × (script : List ℕ) × (head : Bool) × (moment.action.request ≡ ask.Send text script Later (Some name) head)
    × ((action_result moment.before moment.action).gives.reply ≡ reply.Posted n)

pub posts_after : (P : ℕ × VariablePost → Type 0) (moment : Moment) → HaveQueues moment.before → CanHappen moment.before moment.action
    → ((n target : ℕ) (name : List ℕ) → IsNew moment n name → P (n, variable_of moment.action.thread target name))
    → Every P moment.before.posts.variables
    → Every P (after moment.before moment.action).posts.variables
posts_after P moment have can new every = go moment.action.request refl
  where
    state : State
    state = moment.before

    sending : (text script : List ℕ) (mode : Mode) (variable : Option (List ℕ)) (head : Bool)
        → moment.action.request ≡ ask.Send text script mode variable head → Every P (after moment.before moment.action).posts.variables
    sending text script mode variable head is =
        let acted : action_result moment.before moment.action ≡ sends moment.before moment.action.thread text script mode variable head
        = ap (λ request. act moment.before moment.action.thread request moment.action.line) is in
        subst (λ (done : Acted). Every P done.state.posts.variables) (sym acted)
        (by_sends P moment.before moment.action.thread every text script mode variable head
        (λ name target later named posted. new moment.before.posts.next target name (
          text,
          script,
          head,
          is ∙ ap (λ m. ask.Send text script m variable head) later ∙ ap (λ v. ask.Send text script Later v head) named,
          ap (λ (done : Acted). done.gives.reply) acted ∙ posted,
        )))

    other : is_send moment.action.request ≡ false → Every P (after moment.before moment.action).posts.variables
    other is =
        on_moves P moment.before (after moment.before moment.action) (happenings_by moment) (by_action moment have can.lives) (none_by moment is) every

    go : (request : Request) → moment.action.request ≡ request → Every P (after moment.before moment.action).posts.variables
    go (ask.Send text script mode variable head) is = sending text script mode variable head is
    go request is = other (ap is_send is)
