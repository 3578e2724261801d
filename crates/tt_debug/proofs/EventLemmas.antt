-- The lines of a queue.
use Rattle.std.proofs.Common.{◌≡◌, ◌∙◌, ◌+◌, ℕ, zero, suc, List, [], ◌∷◌, ◌++◌, Some, add-one, ap, append-nil, append_assoc, refl, slice_get, sym, take}
use Rattle.tt_calls.specs.declared.event.Event.{Event}
use Rattle.tt_debug.specs.Lines.{event_lines, event_text, line}

one-more : (events : List Event) (place : ℕ) (event : Event) → slice_get events place ≡ Some event
    → event_lines (take (suc place) events) ≡ event_lines (take place events) ++ line (event_text event)
one-more [] place event is = absurd (cc is)
one-more (first ∷ events) zero event is =
    let same : first ≡ event = cc is in
    append-nil (line (event_text first)) ∙ ap (λ (one : Event). line (event_text one)) same
one-more (first ∷ events) (suc place) event is =
    ap (λ (text : List ℕ). line (event_text first) ++ text) (one-more events place event is)
    ∙ sym (append_assoc (line (event_text first)) (event_lines (take place events)) (line (event_text event)))

pub more-lines : (events : List Event) (place : ℕ) (event : Event) (old new : List ℕ) → slice_get events place ≡ Some event
    → old ≡ event_lines (take place events) → new ≡ old ++ line (event_text event) → new ≡ event_lines (take (place + 1) events)
more-lines events place event old new is before pushed =
    rw (add-one place) (pushed ∙ (ap (λ (text : List ℕ). text ++ line (event_text event)) before ∙ sym (one-more events place event is)))
