-- What waits for an answer was posted so, and what is filled has come to its end.
use Rattle.std.proofs.Common.{◌≡◌, ℕ, zero, suc, Bool, true, false, not, List, [], ◌∷◌, ◌++◌, Contains, map, flat_map}
use Rattle.std.proofs.Common.{Some, if◌then◌else◌, refl, sym, subst, arith}
use Rattle.std.proofs.lemmas.List.Elements.{Contains-append_left, Contains-append_right, Contains-push}
use Rattle.std.specs.Bool.{⊤}
use Rattle.laws_sends.proofs.Cuts.{Every, every-on}
use Rattle.laws_sends.proofs.Deaths.{after_end_at}
use Rattle.laws_sends.proofs.Entries.{every-at, every-filter, every-insert, every-remove, every-set}
use Rattle.laws_sends.proofs.Moves.{AreWithPost, Move, begins, ends, fills, gets, quiet, sent, sets}
use Rattle.laws_sends.proofs.Weights.{first_of, later_of}
use Rattle.laws_sends.specs.Sends.{IsAskedBy}
use Rattle.laws_shared.specs.Happenings.{Died, Finished, Happening, Nobody, Posted, Recipient, Variable, Waiting, deaths, post_died, slot_died}
use Rattle.tt_calls.specs.declared.outcome.Outcome.{Outcome}
use Rattle.tt_shared.specs.Mail.{Posts, is_owed}
use Rattle.tt_shared.specs.Sends.{is_due}
use Rattle.tt_shared.specs.State.{State}
use Rattle.tt_shared.specs.declared.posts.VariablePost.{VariablePost}
use Rattle.tt_slots.specs.Waiting.{after_take, put_state, slot_of, with_state, with_state_at}
use Rattle.tt_slots.specs.declared.slot.Slot.{Slot}
use Rattle.tt_slots.specs.declared.slot.SlotState.{SlotState}
use Rattle.tt_slots.specs.declared.slot.SlotState.TheVariants as slot

abbrev pub HasCome : List Happening → ℕ → SlotState → Type 0
HasCome hs n slot.Waiting = ⊤
HasCome hs n (slot.Result outcome) = Contains hs (Finished n outcome)
HasCome hs n slot.Died = Contains hs (Died n)

pub record SlotTrue (hs : List Happening) (entry : ℕ × Slot) : Type 0 where
  pub asked : IsAskedBy hs entry.0 entry.1.sender Waiting
  pub come : HasCome hs entry.0 entry.1.state

abbrev pub VariableTrue : List Happening → ℕ × VariablePost → Type 0
VariableTrue hs entry = IsAskedBy hs entry.0 entry.1.sender Variable

pub record Waits (hs : List Happening) (posts : Posts) : Type 0 where
  pub slots : Every (SlotTrue hs) posts.slots.open_slots
  pub variables : Every (VariableTrue hs) posts.variables

-- ---- after more has happened ----

pub asked_on : (hs more : List Happening) (n t : ℕ) (recipient : Recipient) → IsAskedBy hs n t recipient → IsAskedBy (hs ++ more) n t recipient
asked_on hs more n t recipient is = record { to = is.to; head = is.head; posted = Contains-append_left hs more _ is.posted }

come_on : (hs more : List Happening) (n : ℕ) (state : SlotState) → HasCome hs n state → HasCome (hs ++ more) n state
come_on hs more n slot.Waiting is = tt
come_on hs more n (slot.Result outcome) is = Contains-append_left hs more _ is
come_on hs more n slot.Died is = Contains-append_left hs more _ is

slot_on : (hs more : List Happening) (entry : ℕ × Slot) → SlotTrue hs entry → SlotTrue (hs ++ more) entry
slot_on hs more entry is = record {
  asked = asked_on hs more entry.0 entry.1.sender Waiting is.asked;
  come = come_on hs more entry.0 entry.1.state is.come;
}

waits_on : (hs more : List Happening) (posts : Posts) → Waits hs posts → Waits (hs ++ more) posts
waits_on hs more posts waits = record {
  slots = every-on (SlotTrue hs) (SlotTrue (hs ++ more)) (slot_on hs more) posts.slots.open_slots waits.slots;
  variables =
      every-on (VariableTrue hs) (VariableTrue (hs ++ more)) (λ entry. asked_on hs more entry.0 entry.1.sender Variable) posts.variables waits.variables;
}

-- ---- the end of a thread ----

pub contains_flat : {X Y : Type 0} (f : X → List Y) (xs : List X) (x : X) (y : Y) → Contains xs x → Contains (f x) y → Contains (flat_map f xs) y
contains_flat f [] x y there is = absurd (let no : ⊥ = omega (arith, there.1) in no)
contains_flat f (z ∷ zs) x y (zero, within, at) is = Contains-append_left (f z) (flat_map f zs) y (subst (λ one. Contains (f one) y) (sym at) is)
contains_flat f (z ∷ zs) x y (suc k, within, at) is =
    Contains-append_right (f z) (flat_map f zs) y (contains_flat f zs x y (k, omega (arith, within), at) is)

slots_end : (t : ℕ) (hs : List Happening) (es : List (ℕ × Slot)) →
    ((entry : ℕ × Slot) → Contains es entry → is_due t entry.1 ≡ true → Contains hs (Died entry.0))
    → Every (SlotTrue hs) es → Every (SlotTrue hs) (map (after_end_at t) es)
slots_end t hs [] dies every = tt
slots_end t hs (entry ∷ es) dies every = (go (is_due t entry.1) refl, slots_end t hs es (λ one there. dies one (later_of entry es one there)) every.1)
  where
    go : (b : Bool) → is_due t entry.1 ≡ b → SlotTrue hs (entry.0, (if b then put_state slot.Died entry.1 else entry.1))
    go true due = record { asked = every.0.asked; come = dies entry (first_of entry es) due }
    go false not_due = record { asked = every.0.asked; come = every.0.come }

died_one : (b : Bool) (n : ℕ) → b ≡ true → Contains (if b then Died n ∷ [] else []) (Died n)
died_one true n is = first_of (Died n) []
died_one false n is = absurd (cc is)

pub dies : (state : State) (t : ℕ) (entry : ℕ × Slot) → Contains state.posts.slots.open_slots entry → is_due t entry.1 ≡ true
    → Contains (deaths state t) (Died entry.0)
dies state t entry there due =
    Contains-append_left (flat_map (slot_died t) state.posts.slots.open_slots) _ _
    (contains_flat (slot_died t) state.posts.slots.open_slots entry (Died entry.0) there (died_one (is_due t entry.1) entry.0 due))

pub variable_dies : (state : State) (t : ℕ) (entry : ℕ × VariablePost) → Contains state.posts.variables entry → is_owed t entry.1 ≡ true →
    Contains (flat_map (post_died t) state.posts.variables) (Died entry.0)
variable_dies state t entry there owed =
    contains_flat (post_died t) state.posts.variables entry (Died entry.0) there (died_one (is_owed t entry.1) entry.0 owed)

-- ---- moves ----

with_posts : (hs : List Happening) (old new : Posts) → new ≡ old → Waits hs old → Waits hs new
with_posts hs old new is waits = subst (Waits hs) (sym is) waits

by_post : (hs : List Happening) (recipient : Recipient) (old new : Posts) (from to : ℕ) (head : Bool) → AreWithPost recipient old new from to →
    Waits hs old → Waits (hs ++ Posted old.next from to recipient head ∷ []) new
by_post hs Nobody old new from to head is waits =
    subst (Waits (hs ++ Posted old.next from to Nobody head ∷ [])) (sym is)
    (let on = waits_on hs (Posted old.next from to Nobody head ∷ []) old waits in record { slots = on.slots; variables = on.variables })
by_post hs Waiting old new from to head is waits =
    let more = hs ++ Posted old.next from to Waiting head ∷ [] in
    let on = waits_on hs (Posted old.next from to Waiting head ∷ []) old waits in
    subst (Waits more) (sym is)
    (record {
      slots = every-insert (SlotTrue more) old.slots.open_slots old.next _ on.slots
          (record { asked = record { to = to; head = head; posted = Contains-push hs (Posted old.next from to Waiting head) }; come = tt });
      variables = on.variables;
    })
by_post hs Variable old new from to head (name, is) waits =
    let more = hs ++ Posted old.next from to Variable head ∷ [] in
    let on = waits_on hs (Posted old.next from to Variable head ∷ []) old waits in
    subst (Waits more) (sym is)
    (record {
      slots = on.slots;
      variables = every-insert (VariableTrue more) old.variables old.next _ on.variables
          (record { to = to; head = head; posted = Contains-push hs (Posted old.next from to Variable head) });
    })

by_fill : (hs : List Happening) (old new : Posts) (n : ℕ) (outcome : Outcome) (found : Slot) → slot_of old.slots n ≡ Some found
    → new ≡ record old { slots = with_state old.slots n (slot.Result outcome) } → Waits hs old → Waits (hs ++ Finished n outcome ∷ []) new
by_fill hs old new n outcome found there is waits =
    let more = hs ++ Finished n outcome ∷ [] in
    let on = waits_on hs (Finished n outcome ∷ []) old waits in
    let was = every-at (SlotTrue more) n old.slots.open_slots found on.slots there in
    let slots : Every (SlotTrue more) (with_state_at old.slots n (slot.Result outcome) (Some found)).open_slots =
    every-set (SlotTrue more) n old.slots.open_slots (put_state (slot.Result outcome) found) on.slots
    (record { asked = was.asked; come = Contains-push hs (Finished n outcome) }) in
    subst (Waits more) (sym is)
    (record {
      slots = subst (λ one. Every (SlotTrue more) (with_state_at old.slots n (slot.Result outcome) one).open_slots) (sym there) slots;
      variables = on.variables;
    })

taken : (P : ℕ × Slot → Type 0) (old : Posts) (n : ℕ) (state : SlotState) → Every P old.slots.open_slots → Every P (after_take old.slots n state).open_slots
taken P old n slot.Waiting every = every
taken P old n (slot.Result outcome) every = every-remove P n old.slots.open_slots every
taken P old n slot.Died every = every-remove P n old.slots.open_slots every

pub waits_after : (hs : List Happening) (old new : State) (happened : List Happening) → Move old new happened → Waits hs old.posts
    → Waits (hs ++ happened) new.posts
waits_after hs old new _ (quiet happened others scripts is rows) waits =
    with_posts (hs ++ happened) old.posts new.posts is (waits_on hs happened old.posts waits)
waits_after hs old new _ (sent from to recipient head but is rows) waits = by_post hs recipient old.posts new.posts from to head is waits
waits_after hs old new _ (begins n t rest there but lives is rows) waits = with_posts _ old.posts new.posts is (waits_on hs _ old.posts waits)
waits_after hs old new _ (fills n outcome found there still queues is rows) waits = by_fill hs old.posts new.posts n outcome found there is waits
waits_after hs old new _ (sets n outcome post told there scripts is rows) waits =
    let on = waits_on hs _ old.posts waits in
    subst (Waits (hs ++ _)) (sym is) (record { slots = on.slots; variables = every-remove (VariableTrue (hs ++ _)) n old.posts.variables on.variables })
waits_after hs old new _ (gets n t found told there mine fits queues is rows) waits =
    let on = waits_on hs _ old.posts waits in
    subst (Waits (hs ++ _)) (sym is) (record { slots = taken (SlotTrue (hs ++ _)) old.posts n found.state on.slots; variables = on.variables })
waits_after hs old new _ (ends t but is ended rows) waits =
    let on = waits_on hs (deaths old t) old.posts waits in
    subst (Waits (hs ++ deaths old t)) (sym is)
    (record {
      slots = slots_end t (hs ++ deaths old t) old.posts.slots.open_slots
          (λ entry there due. Contains-append_right hs (deaths old t) _ (dies old t entry there due)) on.slots;
      variables = every-filter (VariableTrue (hs ++ deaths old t)) (λ entry. not (is_owed t entry.1)) old.posts.variables on.variables;
    })
