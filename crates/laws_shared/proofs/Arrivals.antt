-- How many events bring a channel, after the queues were changed.
use Rattle.std.proofs.Common.{◌≡◌, ◌≢◌, ◌∙◌, ◌-◌, ◌+◌, ◌==◌, ℕ, Bool, true, false, cond, List, [], ◌∷◌, ◌++◌, count_by}
use Rattle.std.proofs.Common.{length, Option, Some, None, if◌then◌else◌, ap, refl, sym, arith}
use Rattle.std.proofs.lemmas.Bool.Decides.{nat_tests}
use Rattle.std.proofs.lemmas.List.Sums.{sum_by-cons, sum_by_push}
use Rattle.tt_calls.specs.declared.event.Event.{Event}
use Rattle.tt_calls.specs.declared.event.Event.TheVariants as event
use Rattle.laws_shared.proofs.Deciding as deciding
use Rattle.laws_shared.proofs.Numbered.{by_more, by_number, length-put, put_here}
use Rattle.laws_shared.specs.KeptChannels.{arrivals, brings, events_in}
use Rattle.tt_shared.specs.Mail.{Queues, queues_without_events, queues_without_events_in, with_event, queue_of, queues_with_event, queues_with_event_in, with_queue}

abbrev pub weight : (text : List ℕ) → Event → ℕ
weight text event = cond (brings text event) 1 0

abbrev pub count : (text : List ℕ) → List Event → ℕ
count text events = count_by (brings text) events

pub count-cons : (text : List ℕ) (event : Event) (events : List Event) → count text (event ∷ events) ≡ weight text event + count text events
count-cons text event events = sum_by-cons (weight text) event events

count-placed : (text : List ℕ) (head : Bool) (event : Event) (events : List Event) →
    count text (with_event head event events) ≡ count text events + weight text event
count-placed text true event events = count-cons text event events ∙ omega arith
count-placed text false event events = sum_by_push (weight text) events event

-- the same number for each thread
abbrev pub SameArrivals : Queues → Queues → Type 0
SameArrivals old new = (u : ℕ) (text : List ℕ) → arrivals new u text ≡ arrivals old u text

-- another queue, for one thread
pub by_queue : (queues : Queues) (t u : ℕ) (text : List ℕ) (old new : List Event) (expected : ℕ) → queue_of queues t ≡ Some old
    → (u ≡ t → count text new ≡ expected) → (u ≢ t → arrivals queues u text ≡ expected) → arrivals (with_queue queues t new) u text ≡ expected
by_queue queues t u text old new expected there here other = go (u == t) refl
  where
    go : (b : Bool) → (u == t) ≡ b → arrivals (with_queue queues t new) u text ≡ expected
    go true is =
        let same : u ≡ t = deciding.same u t is in
        ap (λ one. arrivals (with_queue queues t new) one text) same ∙ ap (λ found. count text (events_in found)) (put_here queues t new old there) ∙ here same
    go false is =
        let differs : u ≢ t = deciding.differs u t is in
        by_number (λ found. count text (events_in found) ≡ expected) queues t u new old there (λ same. absurd (differs same)) (other differs)

-- ---- quiet changes ----

-- an event that brings none is put into a queue
pub by_mail : (queues : Queues) (t : ℕ) (head : Bool) (event : Event) → ((text : List ℕ) → brings text event ≡ false) →
    SameArrivals queues (queues_with_event queues t head event)
by_mail queues t head event quiet = go (queue_of queues t) refl
  where
    go : (found : Option (List Event)) → queue_of queues t ≡ found → SameArrivals queues (queues_with_event_in queues t head event found)
    go None there u text = refl
    go (Some events) there u text =
        by_queue queues t u text events (with_event head event events) (arrivals queues u text) there
        (λ same.
        let none : weight text event ≡ 0 = ap (λ b. cond b 1 0) (quiet text) in
        let had : arrivals queues u text ≡ count text events = ap (λ one. arrivals queues one text) same ∙ ap (λ found. count text (events_in found)) there in
        omega (arith, count-placed text head event events, none, had))
        (λ differs. refl)

pub many_mail : (queues : Queues) (t : ℕ) (head : Bool) (event : Event) → length (queues_with_event queues t head event) ≡ length queues
many_mail queues t head event = go (queue_of queues t)
  where
    go : (found : Option (List Event)) → length (queues_with_event_in queues t head event found) ≡ length queues
    go None = refl
    go (Some events) = length-put queues (t - 1) (with_event head event events)

-- a queue more
pub by_new : (queues : Queues) → SameArrivals queues (queues ++ [] ∷ [])
by_new queues u text =
    by_more (λ found. count text (events_in found) ≡ arrivals queues u text) queues u [] (λ none last. none) refl

-- ---- a channel that is sent ----

-- an event that brings a channel is put into the queue of a thread
pub by_sending : (queues : Queues) (t u : ℕ) (events : List Event) (channel text : List ℕ) → queue_of queues t ≡ Some events
    → arrivals (queues_with_event queues t false (event.Moved channel)) u text ≡ arrivals queues u text + (if u == t then weight text (event.Moved channel) else 0)
by_sending queues t u events channel text there =
    ap (λ found. arrivals (queues_with_event_in queues t false (event.Moved channel) found) u text) there
    ∙ by_queue queues t u text events (with_event false (event.Moved channel) events) _ there
    (λ same.
    let had : arrivals queues u text ≡ count text events = ap (λ one. arrivals queues one text) same ∙ ap (λ found. count text (events_in found)) there in
    let at : (u == t) ≡ true = grind (arith, nat_tests, same) in
    count-placed text false (event.Moved channel) events ∙ ap (λ n. n + weight text (event.Moved channel)) (sym had)
    ∙ ap (λ b. arrivals queues u text + (if b then weight text (event.Moved channel) else 0)) (sym at))
    (λ differs.
    let at : (u == t) ≡ false = deciding.apart u t differs in
    sym (ap (λ b. arrivals queues u text + (if b then weight text (event.Moved channel) else 0)) at ∙ omega arith))

-- ---- an event that is taken, and a queue that is emptied ----

pub by_taking : (queues : Queues) (t u : ℕ) (event : Event) (events : List Event) (text : List ℕ) → queue_of queues t ≡ Some (event ∷ events)
    → arrivals (with_queue queues t events) u text + (if u == t then weight text event else 0) ≡ arrivals queues u text
by_taking queues t u event events text there = go (u == t) refl
  where
    go : (b : Bool) → (u == t) ≡ b → arrivals (with_queue queues t events) u text + (if b then weight text event else 0) ≡ arrivals queues u text
    go true is =
        let same : u ≡ t = deciding.same u t is in
        let had : arrivals queues u text ≡ count text (event ∷ events) =
        ap (λ one. arrivals queues one text) same ∙ ap (λ found. count text (events_in found)) there in
        let has : arrivals (with_queue queues t events) u text ≡ count text events =
        by_queue queues t u text (event ∷ events) events (count text events) there (λ one. refl) (λ differs. absurd (differs same)) in
        omega (arith, had, has, count-cons text event events)
    go false is =
        let has : arrivals (with_queue queues t events) u text ≡ arrivals queues u text =
        by_queue queues t u text (event ∷ events) events (arrivals queues u text) there (λ one. absurd (deciding.differs u t is one)) (λ differs. refl) in
        omega (arith, has)

pub by_emptying : (queues : Queues) (t u : ℕ) (text : List ℕ) → arrivals (queues_without_events queues t) u text ≡ (if u == t then 0 else arrivals queues u text)
by_emptying queues t u text = go (queue_of queues t) refl
  where
    at : (found : Option (List Event)) → queue_of queues t ≡ found → (b : Bool) → (u == t) ≡ b →
        arrivals (queues_without_events_in queues t found) u text ≡ (if b then 0 else arrivals queues u text)
    at None there true is =
        let same : u ≡ t = deciding.same u t is in
        ap (λ one. arrivals queues one text) same ∙ ap (λ found. count text (events_in found)) there
    at None there false is = refl
    at (Some events) there true is =
        by_queue queues t u text events [] 0 there (λ same. refl) (λ differs. let same : u ≡ t = deciding.same u t is in absurd (differs same))
    at (Some events) there false is =
        by_queue queues t u text events [] (arrivals queues u text) there (λ same. absurd (deciding.differs u t is same)) (λ differs. refl)

    go : (found : Option (List Event)) → queue_of queues t ≡ found →
        arrivals (queues_without_events_in queues t found) u text ≡ (if u == t then 0 else arrivals queues u text)
    go found there = at found there (u == t) refl

pub many_emptied : (queues : Queues) (t : ℕ) → length (queues_without_events queues t) ≡ length queues
many_emptied queues t = go (queue_of queues t)
  where
    go : (found : Option (List Event)) → length (queues_without_events_in queues t found) ≡ length queues
    go None = refl
    go (Some events) = length-put queues (t - 1) []
