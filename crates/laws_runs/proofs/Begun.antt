-- What a thread serves it has begun.
use Rattle.std.proofs.Common.{◌≡◌, ◌==◌, ℕ, Bool, true, false, if◌then◌else◌, List, [], ◌∷◌, ◌++◌, drop, Option, Some, None, flat_map, fold}
use Rattle.std.proofs.Common.{append-nil, append_assoc, refl, sym, subst, Contains}
use Rattle.std.proofs.lemmas.List.Elements.{Contains-append_left, Contains-append_right}
use Rattle.laws_sends.proofs.Cuts.{Every, every-append, every-on}
use Rattle.laws_sends.proofs.Weights.{first_of}
use Rattle.laws_runs.specs.Serving.{serving_after, serving_of}
use Rattle.laws_serving.specs.Duties.{served_by}
use Rattle.laws_serving.specs.Requests.{delivered, is_look}
use Rattle.laws_serving.specs.Serving.{post_taken}
use Rattle.laws_shared.proofs.Deciding.{same}
use Rattle.laws_shared.specs.Actions.{Moment, action_result}
use Rattle.laws_shared.specs.Happenings.{Happening, Began, begin_happenings, happenings_by, happens, owners_changed}
use Rattle.tt_calls.specs.declared.event.Event.{Event}
use Rattle.tt_calls.specs.declared.event.Event.TheVariants as event
use Rattle.tt_calls.specs.declared.reply.Reply.{Reply}
use Rattle.tt_calls.specs.declared.reply.Reply.TheVariants as reply
use Rattle.tt_calls.specs.declared.request.Request.{Request}
use Rattle.tt_calls.specs.declared.request.Request.TheVariants as ask
use Rattle.tt_evaluation.specs.Plans.{posts_of}
use Rattle.tt_frames.specs.Events.{post_of}
use Rattle.tt_shared.specs.State.{Acted, State}

-- a thread has begun a script
abbrev pub BegunBy : (t : ℕ) → List Happening → ℕ → Type 0
BegunBy t hs n = Contains hs (Began n t)

all_begun : (t : ℕ) (hs more : List Happening) (ns : List ℕ) → Every (BegunBy t hs) ns → Every (BegunBy t (hs ++ more)) ns
all_begun t hs more ns every = every-on (BegunBy t hs) (BegunBy t (hs ++ more)) (λ n is. Contains-append_left hs more (Began n t) is) ns every

-- ---- an event ----

event_begins : (t : ℕ) (one : Event) → Every (BegunBy t (begin_happenings t (reply.Event one))) (posts_of (post_of one))
event_begins t (event.Script n script true plain) = (first_of (Began n t) [], tt)
event_begins t (event.Script n script false plain) = tt
event_begins t other = tt

look_begins : (t : ℕ) (one : Event) (b : Bool) → Every (BegunBy t (begin_happenings t (reply.Event one))) (posts_of (if b then post_of one else None))
look_begins t one true = event_begins t one
look_begins t one false = tt

taken_begins : (old new : State) (t : ℕ) (request : Request) (answered : Reply)
    → Every (BegunBy t (happens old new t request answered)) (posts_of (post_taken request answered))
taken_begins old new t ask.Take (reply.Event one) = event_begins t one
taken_begins old new t ask.TakeReady (reply.Event one) = event_begins t one
taken_begins old new t (ask.Pool call) (reply.Event one) = look_begins t one (is_look call)
taken_begins old new t request (reply.Event one) = tt
taken_begins old new t request other = tt

-- ---- actions ----

fewer : {X : Type 0} (P : X → Type 0) (xs : List X) → Every P xs → Every P (drop 1 xs)
fewer P [] every = tt
fewer P (x ∷ xs) every = every.1

served_begun : (t : ℕ) (hs : List Happening) (handed taken : Option ℕ) (serving : List ℕ)
    → Every (BegunBy t hs) (posts_of taken) → Every (BegunBy t hs) serving → Every (BegunBy t hs) (served_by handed taken serving)
served_begun t hs (Some n) taken serving first others = fewer (BegunBy t hs) serving others
served_begun t hs None taken serving first others = every-append (BegunBy t hs) (posts_of taken) serving first others

action_begins : (t : ℕ) (hs : List Happening) (serving : List ℕ) (moment : Moment) → Every (BegunBy t hs) serving
    → Every (BegunBy t (hs ++ happenings_by moment)) (serving_after t serving moment)
action_begins t hs serving moment every = go (moment.action.thread == t) refl
  where
    done : Acted
    done = action_result moment.before moment.action

    new : List ℕ
    new = posts_of (post_taken moment.action.request done.gives.reply)

    its : Every (BegunBy moment.action.thread (happenings_by moment)) new
    its =
        all_begun moment.action.thread (happens moment.before done.state moment.action.thread moment.action.request done.gives.reply)
        (owners_changed moment.before.channels done.state.channels) new
        (taken_begins moment.before done.state moment.action.thread moment.action.request done.gives.reply)

    mine : moment.action.thread ≡ t → Every (BegunBy t (hs ++ happenings_by moment)) new
    mine is =
        every-on (BegunBy t (happenings_by moment)) (BegunBy t (hs ++ happenings_by moment))
        (λ n there. Contains-append_right hs (happenings_by moment) (Began n t) there) new
        (subst (λ (u : ℕ). Every (BegunBy u (happenings_by moment)) new) is its)

    go : (b : Bool) → (moment.action.thread == t) ≡ b → Every (BegunBy t (hs ++ happenings_by moment))
        (if b then served_by (delivered moment.action.request) (post_taken moment.action.request done.gives.reply) serving else serving)
    go true is =
        served_begun t (hs ++ happenings_by moment) (delivered moment.action.request) (post_taken moment.action.request done.gives.reply) serving
        (mine (same moment.action.thread t is)) (all_begun t hs (happenings_by moment) serving every)
    go false is = all_begun t hs (happenings_by moment) serving every

began_along : (t : ℕ) (hs : List Happening) (serving : List ℕ) (seen : List Moment) → Every (BegunBy t hs) serving
    → Every (BegunBy t (hs ++ flat_map happenings_by seen)) (fold (serving_after t) serving seen)
began_along t hs serving [] every = subst (λ (all : List Happening). Every (BegunBy t all) serving) (sym (append-nil hs)) every
began_along t hs serving (moment ∷ seen) every =
    subst (λ (all : List Happening). Every (BegunBy t all) (fold (serving_after t) serving (moment ∷ seen)))
    (append_assoc hs (happenings_by moment) (flat_map happenings_by seen))
    (began_along t (hs ++ happenings_by moment) (serving_after t serving moment) seen (action_begins t hs serving moment every))

-- all that it serves
pub served_began : (t : ℕ) (seen : List Moment) → Every (BegunBy t (flat_map happenings_by seen)) (serving_of t seen)
served_began t seen = began_along t [] [] seen tt
