-- The queue of a thread after an event was put at the end of one, and the events that set variables.
use Rattle.std.proofs.Common.{◌≡◌, ◌≢◌, ◌∙◌, ◌==◌, ℕ, Bool, true, false, List, [], ◌∷◌, ◌++◌, length, flat_map, Option, Some, None, if◌then◌else◌}
use Rattle.std.proofs.Common.{ap, refl, sym, subst, append-nil, arith}
use Rattle.std.proofs.lemmas.Bool.Decides.{nat_tests}
use Rattle.std.proofs.lemmas.Grind.{flat_map-append}
use Rattle.laws_sends.proofs.Cuts.{Every}
use Rattle.laws_sends.proofs.Queues.{has_queue}
use Rattle.laws_sends.proofs.Views.{OfOthers}
use Rattle.laws_shared.proofs.Deciding.{same}
use Rattle.laws_shared.proofs.Numbered.{by_number, put_here}
use Rattle.laws_shared.specs.Happenings.{Happening, Posted, Began, Finished, Died, Got, Set, GetsHold, Frees, Owner}
use Rattle.laws_shared.specs.KeptChannels.{events_in}
use Rattle.laws_variables.specs.VariableEvents.{set_event, set_events}
use Rattle.tt_calls.specs.declared.event.Event.{Event}
use Rattle.tt_shared.specs.Mail.{Queues, queue_of, queues_with_event, queues_with_event_in, queues_without_events, queues_without_events_in, with_queue}
use Rattle.tt_shared.specs.State.{State}
use Rattle.tt_threads.specs.Rows.{is_living, is_living_at, row_of}
use Rattle.tt_threads.specs.declared.row.Row.{Row}

-- ---- queues ----

-- an event more, at the end of one queue
pub mail_at : (queues : Queues) (u t : ℕ) (one : Event) (events : List Event) → queue_of queues u ≡ Some events
    → events_in (queue_of (queues_with_event queues u false one) t) ≡ events_in (queue_of queues t) ++ (if u == t then one ∷ [] else [])
mail_at queues u t one events there =
    subst (λ found. events_in (queue_of (queues_with_event_in queues u false one found) t) ≡ events_in (queue_of queues t) ++ (if u == t then one ∷ [] else []))
    (sym there) (go (u == t) refl)
  where
    go : (b : Bool) → (u == t) ≡ b
        → events_in (queue_of (with_queue queues u (events ++ one ∷ [])) t) ≡ events_in (queue_of queues t) ++ (if b then one ∷ [] else [])
    go true is =
        let here = put_here queues u (events ++ one ∷ []) events there in
        subst (λ n. events_in (queue_of (with_queue queues u (events ++ one ∷ [])) n) ≡ events_in (queue_of queues n) ++ one ∷ []) (same u t is)
        (ap events_in here ∙ ap (λ found. events_in found ++ one ∷ []) (sym there))
    go false is =
        by_number (λ found. events_in found ≡ events_in (queue_of queues t) ++ []) queues u t (events ++ one ∷ []) events there
        (λ alike. absurd (differs alike is)) (sym (append-nil (events_in (queue_of queues t))))
      where
        differs : t ≡ u → (u == t) ≡ false → ⊥
        differs alike is = grind (arith, nat_tests, alike, is)

-- a queue is emptied
pub emptied_others : (queues : Queues) (u t : ℕ) → t ≢ u → events_in (queue_of (queues_without_events queues u) t) ≡ events_in (queue_of queues t)
emptied_others queues u t other = go (queue_of queues u) refl
  where
    go : (found : Option (List Event)) → queue_of queues u ≡ found
        → events_in (queue_of (queues_without_events_in queues u found) t) ≡ events_in (queue_of queues t)
    go None there = refl
    go (Some events) there =
        by_number (λ found. events_in found ≡ events_in (queue_of queues t)) queues u t [] events there (λ alike. absurd (other alike)) refl

-- who lives has a queue
row_living : (found : Option Row) → is_living_at found ≡ true → (row : Row) × (found ≡ Some row)
row_living None is = absurd (cc is)
row_living (Some row) is = (row, refl)

pub living_queue : (queues : Queues) (rows : List Row) (t : ℕ) → length queues ≡ length rows → is_living rows t ≡ true
    → (events : List Event) × (queue_of queues t ≡ Some events)
living_queue queues rows t have lives =
    let row = row_living (row_of rows t) lives in
    has_queue queues rows t row.0 have row.1

-- ---- the events that set variables ----

module _ (state : State) (t : ℕ) where
  pub set-append : (xs ys : List Happening) → set_events state t (xs ++ ys) ≡ set_events state t xs ++ set_events state t ys
  set-append xs ys = flat_map-append (set_event state t) xs ys

  pub others_set_none : (happened : List Happening) → Every OfOthers happened → set_events state t happened ≡ []
  others_set_none [] others = refl
  others_set_none (GetsHold lock u ∷ happened) others = others_set_none happened others.1
  others_set_none (Frees lock u ∷ happened) others = others_set_none happened others.1
  others_set_none (Owner channel owner ∷ happened) others = others_set_none happened others.1
  others_set_none (Posted n from to recipient head ∷ happened) others = absurd others.0
  others_set_none (Began n u ∷ happened) others = absurd others.0
  others_set_none (Finished n outcome ∷ happened) others = absurd others.0
  others_set_none (Died n ∷ happened) others = absurd others.0
  others_set_none (Got n u told ∷ happened) others = absurd others.0
  others_set_none (Set n u value ∷ happened) others = absurd others.0

  pub flat_set_none : {X : Type 0} (f : X → List Happening) → ((x : X) → set_events state t (f x) ≡ []) → (xs : List X)
      → set_events state t (flat_map f xs) ≡ []
  flat_set_none f none [] = refl
  flat_set_none f none (x ∷ xs) =
      set-append (f x) (flat_map f xs) ∙ ap (λ events. events ++ set_events state t (flat_map f xs)) (none x) ∙ flat_set_none f none xs

  -- nothing comes after, of what sets no variable
  pub then_others : (xs ys : List Happening) → Every OfOthers ys → set_events state t (xs ++ ys) ≡ set_events state t xs
  then_others xs ys others =
      set-append xs ys ∙ ap (λ events. set_events state t xs ++ events) (others_set_none ys others) ∙ append-nil (set_events state t xs)
