-- The scripts in queues after an event was put or taken.
use Rattle.std.proofs.Common.{◌≡◌, ◌∙◌, ◌-◌, ◌==◌, ℕ, zero, suc, Bool, true, false, List, [], ◌∷◌, ◌++◌, length, slice_get, Option, Some, None}
use Rattle.std.proofs.Common.{if◌then◌else◌, ap, refl, sym, subst, append-nil}
use Rattle.laws_sends.proofs.Views.{SameBut, SameScripts, number_then, placed, scripts, scripts_at, scripts_in}
use Rattle.laws_shared.proofs.Numbered.{by_more, by_number, put_here}
use Rattle.tt_calls.specs.declared.event.Event.{Event}
use Rattle.tt_calls.specs.declared.event.Event.TheVariants as event
use Rattle.tt_shared.specs.Mail.{Queues, queue_of, queues_with_event, queues_with_event_in, queues_without_events, queues_without_events_in, with_event}
use Rattle.tt_shared.specs.Mail.{with_queue}

-- ---- lists of events ----

scripts-append : (xs ys : List Event) → scripts (xs ++ ys) ≡ scripts xs ++ scripts ys
scripts-append [] ys = refl
scripts-append (event.Script n script answer plain ∷ xs) ys = ap (λ ns. n ∷ ns) (scripts-append xs ys)
scripts-append (event.SetVar name value ∷ xs) ys = scripts-append xs ys
scripts-append (event.Moved channel ∷ xs) ys = scripts-append xs ys
scripts-append (event.Timer n script ∷ xs) ys = scripts-append xs ys
scripts-append (event.Stop ∷ xs) ys = scripts-append xs ys

-- it is no script
abbrev pub IsNoScript : Event → Type 0
IsNoScript one = (numbers : List ℕ) → number_then one numbers ≡ numbers

with_other : (head : Bool) (one : Event) (events : List Event) → IsNoScript one → scripts (with_event head one events) ≡ scripts events
with_other true one events is = is (scripts events)
with_other false one events is = scripts-append events (one ∷ []) ∙ ap (λ ns. scripts events ++ ns) (is []) ∙ append-nil (scripts events)

with_script : (head : Bool) (n : ℕ) (text : List ℕ) (answer plain : Bool) (events : List Event) →
    scripts (with_event head (event.Script n text answer plain) events) ≡ placed head n (scripts events)
with_script true n text answer plain events = refl
with_script false n text answer plain events = scripts-append events (event.Script n text answer plain ∷ [])

-- ---- queues ----

-- another queue, for one thread
put : (queues : Queues) (t : ℕ) (old new : List Event) → queue_of queues t ≡ Some old → SameBut queues (with_queue queues t new) t (scripts new)
put queues t old new there = record {
  here = ap scripts_in (put_here queues t new old there);
  others = λ u other. by_number (λ found. scripts_in found ≡ scripts_at queues u) queues t u new old there (λ same. absurd (other same)) refl;
}

with_numbers : (old new : Queues) (t : ℕ) (one other : List ℕ) → one ≡ other → SameBut old new t one → SameBut old new t other
with_numbers old new t one other is but = record { here = but.here ∙ is; others = but.others }

pub other_mail : (queues : Queues) (t : ℕ) (head : Bool) (one : Event) → IsNoScript one → SameScripts queues (queues_with_event queues t head one)
other_mail queues t head one is = go (queue_of queues t) refl
  where
    go : (found : Option (List Event)) → queue_of queues t ≡ found → SameScripts queues (queues_with_event_in queues t head one found)
    go None there u = refl
    go (Some events) there u =
        by_number (λ found. scripts_in found ≡ scripts_at queues u) queues t u (with_event head one events) events there
        (λ same. with_other head one events is ∙ sym (ap (scripts_at queues) same ∙ ap scripts_in there)) refl

pub script_mail : (queues : Queues) (t : ℕ) (head : Bool) (n : ℕ) (text : List ℕ) (answer plain : Bool) (events : List Event) → queue_of queues t ≡ Some events
    → SameBut queues (queues_with_event queues t head (event.Script n text answer plain)) t (placed head n (scripts_at queues t))
script_mail queues t head n text answer plain events there =
    let one = event.Script n text answer plain in
    let numbers : placed head n (scripts events) ≡ placed head n (scripts_at queues t) = ap (λ found. placed head n (scripts_in found)) (sym there) in
    let changed =
    with_numbers queues _ t _ _ (with_script head n text answer plain events ∙ numbers) (put queues t events (with_event head one events) there) in
    subst (λ found. SameBut queues (queues_with_event_in queues t head one found) t (placed head n (scripts_at queues t))) (sym there) changed

pub new_queue : (queues : Queues) → SameScripts queues (queues ++ [] ∷ [])
new_queue queues u = by_more (λ found. scripts_in found ≡ scripts_at queues u) queues u [] (λ none last. none) refl

pub taken : (queues : Queues) (t : ℕ) (one : Event) (events : List Event) → queue_of queues t ≡ Some (one ∷ events) →
    SameBut queues (with_queue queues t events) t (scripts events)
taken queues t one events there = put queues t (one ∷ events) events there

pub emptied : (queues : Queues) (t : ℕ) → SameBut queues (queues_without_events queues t) t []
emptied queues t = go (queue_of queues t) refl
  where
    go : (found : Option (List Event)) → queue_of queues t ≡ found → SameBut queues (queues_without_events_in queues t found) t []
    go None there = record { here = ap scripts_in there; others = λ u other. refl }
    go (Some events) there = put queues t events [] there

-- ---- a thread that is there has a queue ----

as_long : {X Y : Type 0} (xs : List X) (ys : List Y) (i : ℕ) (x : X) → length ys ≡ length xs → slice_get xs i ≡ Some x → (y : Y) × (slice_get ys i ≡ Some y)
as_long [] ys i x same there = absurd (cc there)
as_long (z ∷ xs) [] i x same there = absurd (cc same)
as_long (z ∷ xs) (y ∷ ys) zero x same there = (y, refl)
as_long (z ∷ xs) (y ∷ ys) (suc i) x same there = as_long xs ys i x (cc same) there

pub has_queue : {X : Type 0} (queues : Queues) (xs : List X) (n : ℕ) (x : X) → length queues ≡ length xs →
    Rattle.tt_calls.specs.Numbers.at_number xs n ≡ Some x
    → (events : List Event) × (queue_of queues n ≡ Some events)
has_queue queues xs n x same there = go (n == 0) refl there
  where
    go : (b : Bool) → (n == 0) ≡ b → (if b then None else slice_get xs (n - 1)) ≡ Some x
        → (events : List Event) × ((if b then None else slice_get queues (n - 1)) ≡ Some events)
    go true is there = absurd (cc there)
    go false is there = as_long xs queues (n - 1) x same there
