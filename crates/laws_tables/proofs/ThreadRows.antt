-- What requests on streams, threads, sends and events are answered: a property of replies holds of each row's.
use Rattle.std.proofs.Common.{◌≡◌, ◌==◌, ℕ, Bool, true, false, not, nat_lt, if◌then◌else◌, List, Option, Some, None, length, refl}
use Rattle.laws_tables.proofs.Cases.{Empty, Refuses, Values, by_if}
use Rattle.tt_calls.specs.declared.event.Event.{Event}
use Rattle.tt_calls.specs.declared.outcome.Outcome.{Outcome}
use Rattle.tt_calls.specs.declared.reply.Reply.{Reply}
use Rattle.tt_calls.specs.declared.reply.Reply.TheVariants as reply
use Rattle.tt_calls.specs.declared.request.Mode.{Mode}
use Rattle.tt_calls.specs.declared.request.Mode.TheVariants.{Waits, Later}
use Rattle.tt_shared.specs.Acts.{creates, has_newline, reads}
use Rattle.tt_shared.specs.Mail.{first_of, variable_post}
use Rattle.tt_shared.specs.Sends.{awaits, awaits_at, delivers, delivers_at, delivers_value, is_asked, is_due, is_target, names_procedure, reports, reports_to}
use Rattle.tt_shared.specs.Sends.{procedure_in_use, sends, sends_linked, sends_named, sends_to, slot_reply, takes, takes_answer, takes_first}
use Rattle.tt_shared.specs.State.{Acted, State, is_not_asked}
use Rattle.tt_shared.specs.declared.applied.Line.{Line}
use Rattle.tt_shared.specs.declared.applied.Line.TheVariants as given
use Rattle.tt_shared.specs.declared.posts.VariablePost.{VariablePost}
use Rattle.tt_shared.specs.declared.reports.ErrorProcedure.{ErrorProcedure}
use Rattle.tt_slots.specs.Waiting.{slot_of}
use Rattle.tt_slots.specs.declared.slot.Slot.{Slot}
use Rattle.tt_slots.specs.declared.slot.SlotState.{SlotState}
use Rattle.tt_slots.specs.declared.slot.SlotState.TheVariants as slot
use Rattle.tt_threads.specs.Requests as threads
use Rattle.tt_threads.specs.Rows.{linked_thread, row_of}
use Rattle.tt_threads.specs.declared.row.Life.{Life}
use Rattle.tt_threads.specs.declared.row.Life.TheVariants.{Live, Marked, Ended}
use Rattle.tt_threads.specs.declared.row.Row.{Row}

module _ (P : Reply → Type 0) where
  abbrev pub Gives : Acted → Type 0
  Gives acted = P acted.gives.reply

  -- ---- streams ----

  pub by_reads : (state : State) (line : Line) → ((text : List ℕ) → P (reply.Line text)) → P reply.LineEnd → Refuses P → (line ≡ given.NotRead → Empty P) →
      Gives (reads state line)
  by_reads state given.NotRead lines ended refuses none = none refl
  by_reads state (given.Read text) lines ended refuses none = by_if Gives (has_newline text) _ _ (lines _) (lines _)
  by_reads state given.End lines ended refuses none = ended
  by_reads state given.TooLong lines ended refuses none = refuses _ _

  -- ---- threads ----

  pub by_creates : (state : State) (joinable preserved : Bool) (script : List ℕ) → Values P → Refuses P → Gives (creates state joinable preserved script)
  by_creates state joinable preserved script values refuses = by_if Gives _ _ _ (values _) (refuses _ _)

  abbrev pub Tells : threads.Answered → Type 0
  Tells answered = P answered.reply

  module _ (rows : List Row) (refuses : Refuses P) where
    pub by_counts : (change : Row → Row) (text : List ℕ) (target : Option ℕ) → Values P → ((n : ℕ) → target ≡ Some n → row_of rows n ≡ None → Empty P) →
        Tells (threads.counts change rows text target)
    by_counts change text None values none = refuses _ _
    by_counts change text (Some n) values none = go (row_of rows n) refl
      where
        go : (found : Option Row) → row_of rows n ≡ found → Tells (threads.counts_at change rows n found)
        go None is = none n refl is
        go (Some row) is = values _

    pub by_joins : (t : ℕ) (text : List ℕ) (target : Option ℕ) → ((n : ℕ) → P (reply.Waits n)) → ((n : ℕ) → target ≡ Some n → row_of rows n ≡ None → Empty P) →
        Tells (threads.joins rows t text target)
    by_joins t text None waits none = refuses _ _
    by_joins t text (Some n) waits none = by_if Tells (n == t) _ _ (refuses _ _) (go (row_of rows n) refl)
      where
        go : (found : Option Row) → row_of rows n ≡ found → Tells (threads.joins_at rows text n found)
        go None is = none n refl is
        go (Some row) is = by_if Tells (not row.joinable) _ _ (refuses _ _) (by_if Tells row.joined _ _ (refuses _ _) (waits n))

    pub by_exits : (found : Option Row) → Values P → Empty P → Tells (threads.exits rows found)
    by_exits None values none = none
    by_exits (Some row) values none = go row.life refl
      where
        go : (life : Life) → row.life ≡ life → Tells (threads.exits rows (Some row))
        go Live is = rw (is, threads.exits) none
        go Marked is = rw (is, threads.exits) none
        go (Ended code) is = rw (is, threads.exits) (values _)

    -- thread::configure: a report of settings, or new ones
    pub by_configures : (text : List ℕ) (words : List (List ℕ)) (target : Option ℕ) → P reply.Go
        → ((n : ℕ) → target ≡ Some n → row_of rows n ≡ None → Empty P)
        → ((now : _) → nat_lt (length words) 2 ≡ true → P (threads.settings_report now words))
        → ((now : _) → nat_lt (length words) 2 ≡ false → threads.with_settings words now ≡ None → Empty P)
        → Tells (threads.configures rows text words target)
    by_configures text words None goes none tells unset = refuses _ _
    by_configures text words (Some n) goes none tells unset = go (row_of rows n) refl
      where
        sets : (row : Row) → nat_lt (length words) 2 ≡ false → (now : Option _) → threads.with_settings words (threads.settings_of row) ≡ now →
            Tells (threads.sets rows n row now)
        sets row many None is = unset (threads.settings_of row) many is
        sets row many (Some now) is = goes

        either : (row : Row) (b : Bool) → nat_lt (length words) 2 ≡ b
            → Tells (if b then record { rows = rows; reply = threads.settings_report (threads.settings_of row) words } else
            threads.sets rows n row (threads.with_settings words (threads.settings_of row)))
        either row true few = tells (threads.settings_of row) few
        either row false many = sets row many (threads.with_settings words (threads.settings_of row)) refl

        go : (found : Option Row) → row_of rows n ≡ found → Tells (threads.configures_at rows n words found)
        go None is = none n refl is
        go (Some row) is = either row (nat_lt (length words) 2) refl

  pub by_names : (state : State) (t : ℕ) (name : Option (List ℕ)) → Values P → P reply.Go → Gives (names_procedure state t name)
  by_names state t None values goes = values _
  by_names state t (Some name) values goes = goes

  -- ---- sends ----

  module _ (state : State) (t : ℕ) where
    by_linked : (target : ℕ) (script : List ℕ) (mode : Mode) (variable : Option (List ℕ)) (head : Bool) → ((n : ℕ) → P (reply.Posted n))
        → (mode ≡ Waits → (target == t) ≡ true → Empty P) → Gives (sends_linked state t target script mode variable head)
    by_linked target script Later variable head posted own = posted _
    by_linked target script Waits variable head posted own = go (target == t) refl
      where
        go : (b : Bool) → (target == t) ≡ b → Gives (if b then is_not_asked state else sends_to state t target script Waits variable head)
        go true is = own refl is
        go false is = posted _

    pub by_sends : (text script : List ℕ) (mode : Mode) (variable : Option (List ℕ)) (head : Bool) → ((n : ℕ) → P (reply.Posted n)) → Refuses P
        → (is_asked mode variable ≡ false → Empty P)
        → (mode ≡ Waits → (target : ℕ) → linked_thread state.rows text ≡ Some target → (target == t) ≡ true → Empty P)
        → Gives (sends state t text script mode variable head)
    by_sends text script mode variable head posted refuses not_asked own = go (is_asked mode variable) refl
      where
        named : (target : Option ℕ) → linked_thread state.rows text ≡ target → Gives (sends_named state t text script mode variable head target)
        named None is = refuses _ _
        named (Some target) is = by_linked target script mode variable head posted (λ waits me. own waits target is me)

        go : (b : Bool) → is_asked mode variable ≡ b
            → Gives (if b then sends_named state t text script mode variable head (linked_thread state.rows text) else is_not_asked state)
        go true is = named (linked_thread state.rows text) refl
        go false is = not_asked is

    pub by_awaits : (n : ℕ) → ((outcome : Outcome) → P (reply.Answer outcome)) → P reply.Died → Empty P → Gives (awaits state t n)
    by_awaits n answers died none = go (slot_of state.posts.slots n)
      where
        taken : (found : SlotState) → P (slot_reply found)
        taken slot.Waiting = none
        taken (slot.Result outcome) = answers outcome
        taken slot.Died = died

        go : (found : Option Slot) → Gives (awaits_at state t n found)
        go None = none
        go (Some found) = by_if Gives (found.sender == t) (takes_answer state n found.state) _ (taken found.state) none

    pub by_delivers : (n : ℕ) (outcome : Outcome) → ((stops : Bool) → P (reply.Served stops)) → Empty P → Gives (delivers state t n outcome)
    by_delivers n outcome served none = go (slot_of state.posts.slots n)
      where
        value : (found : Option VariablePost) → Gives (delivers_value state t n outcome found)
        value None = none
        value (Some post) = by_if Gives (is_target t (Some post)) _ _ (served _) none

        go : (found : Option Slot) → Gives (delivers_at state t n outcome found)
        go None = value (variable_post state.posts n)
        go (Some found) = by_if Gives (is_due t found) _ _ (served _) none

    pub by_reports : (trace : List ℕ) (plain : Bool) → ((stops : Bool) → P (reply.Served stops)) → Gives (reports state t trace plain)
    by_reports trace plain served = go (procedure_in_use state plain state.error_procedure)
      where
        go : (procedure : Option ErrorProcedure) → Gives (reports_to state t trace procedure)
        go None = served _
        go (Some procedure) = served _

    -- ---- events ----

    pub by_takes : ((event : Event) → P (reply.Event event)) → (first_of state.queues t ≡ None → P reply.NoEvent) → Gives (takes state t)
    by_takes events none = go (first_of state.queues t) refl
      where
        go : (found : Option Event) → first_of state.queues t ≡ found → Gives (takes_first state t found)
        go None is = none is
        go (Some event) is = events event
