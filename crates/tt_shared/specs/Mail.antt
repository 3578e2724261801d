-- The queues of the threads, and the posts that wait for an answer (thread(n), thread::send).
use Rattle.std.specs.Prelude.{ℕ, ◌+◌, ◌==◌, not, Bool, true, false, List, [], ◌∷◌, ◌++◌, Option, Some, None, is_some}
use Rattle.std.specs.BTreeMap.{insert_entry, is_at}
use Rattle.std.specs.List.{filter}
use Rattle.std.specs.Map.{lookup, remove_entry}
use Rattle.std.specs.Ordering.{nat_cmp}
use Rattle.tt_calls.specs.Numbers.{at_number, with_at}
use Rattle.tt_calls.specs.declared.event.Event.{Event}
use Rattle.tt_calls.specs.declared.request.Mode.{Mode}
use Rattle.tt_calls.specs.declared.request.Mode.TheVariants.{Waits, Later}
use Rattle.tt_queue.specs.Events.{pending}
use Rattle.tt_shared.specs.declared.posts.VariablePost.{VariablePost}
use Rattle.tt_slots.specs.Waiting.{OpenSlots, after_end, no_slots, with_slot}

-- ---- queues ----

-- the queue of each thread, by number from 1
abbrev pub Queues : Type 0
Queues = List (List Event)

-- the queue of a thread
abbrev pub queue_of : Queues → ℕ → Option (List Event)
queue_of queues thread = at_number queues thread

abbrev pub with_queue : Queues → ℕ → List Event → Queues
with_queue queues thread events = with_at queues thread events

-- an event more for a thread, at the tail of its queue or at its head
abbrev pub with_event : (head : Bool) → Event → List Event → List Event
with_event true event events = event ∷ events
with_event false event events = events ++ event ∷ []

abbrev pub queues_with_event_in : Queues → ℕ → (head : Bool) → Event → Option (List Event) → Queues
queues_with_event_in queues thread head event None = queues
queues_with_event_in queues thread head event (Some events) = with_queue queues thread (with_event head event events)

abbrev pub queues_with_event : Queues → ℕ → (head : Bool) → Event → Queues
queues_with_event queues thread head event = queues_with_event_in queues thread head event (queue_of queues thread)

-- a thread's queue is emptied
abbrev pub queues_without_events_in : Queues → ℕ → Option (List Event) → Queues
queues_without_events_in queues thread None = queues
queues_without_events_in queues thread (Some events) = with_queue queues thread []

abbrev pub queues_without_events : Queues → ℕ → Queues
queues_without_events queues thread = queues_without_events_in queues thread (queue_of queues thread)

-- the event that a thread takes next, and the queues after that
abbrev pub first_in : Option (List Event) → Option Event
first_in None = None
first_in (Some []) = None
first_in (Some (event ∷ events)) = Some event

abbrev pub without_first_in : Queues → ℕ → Option (List Event) → Queues
without_first_in queues thread None = queues
without_first_in queues thread (Some []) = queues
without_first_in queues thread (Some (event ∷ events)) = with_queue queues thread events

abbrev pub first_of : Queues → ℕ → Option Event
first_of queues thread = first_in (queue_of queues thread)

abbrev pub without_first : Queues → ℕ → Queues
without_first queues thread = without_first_in queues thread (queue_of queues thread)

-- how many scripts wait in a queue
abbrev pub scripts_in : Option (List Event) → ℕ
scripts_in None = 0
scripts_in (Some events) = pending events

abbrev pub scripts_of : Queues → ℕ → ℕ
scripts_of queues thread = scripts_in (queue_of queues thread)

-- ---- posts ----

-- The posts that wait for an answer: the slots of those whose senders wait, those whose answer goes to a variable of
-- the sender, under their numbers; and the number that the next post draws.
pub record Posts : Type 0 where
  pub slots : OpenSlots
  pub variables : List (ℕ × VariablePost)
  pub next : ℕ

abbrev pub no_posts : Posts
no_posts = record { slots = no_slots; variables = []; next = 1 }

-- the post of a number whose answer goes to a variable
abbrev pub variable_post : Posts → ℕ → Option VariablePost
variable_post posts n = lookup (is_at (nat_cmp n)) posts.variables

-- the next post is one whose sender waits
abbrev pub with_wait : Posts → (sender target : ℕ) → Posts
with_wait posts sender target =
    record posts { slots = with_slot posts.slots posts.next sender target; next = posts.next + 1 }

-- it is one whose answer goes to a variable
abbrev pub variable_of : (sender target : ℕ) → (name : List ℕ) → VariablePost
variable_of sender target name = record { sender = sender; target = target; name = name }

abbrev pub with_variable : Posts → (sender target : ℕ) → (name : List ℕ) → Posts
with_variable posts sender target name = record posts {
  variables = insert_entry nat_cmp posts.variables posts.next (variable_of sender target name);
  next = posts.next + 1;
}

-- it is one that nobody asks the answer of
abbrev pub with_plain : Posts → Posts
with_plain posts = record posts { next = posts.next + 1 }

abbrev pub without_variable : Posts → ℕ → Posts
without_variable posts n = record posts { variables = remove_entry (is_at (nat_cmp n)) posts.variables }

-- the posts with the next one: its sender waits, or the answer goes to a variable, or nobody asks for it
abbrev pub posts_with_next : Posts → (sender target : ℕ) → Mode → (variable : Option (List ℕ)) → Posts
posts_with_next posts sender target Waits variable = with_wait posts sender target
posts_with_next posts sender target Later None = with_plain posts
posts_with_next posts sender target Later (Some name) = with_variable posts sender target name

-- whether somebody asks for the answer
abbrev pub is_answered : Mode → (variable : Option (List ℕ)) → Bool
is_answered Waits variable = true
is_answered Later variable = is_some variable

-- the end of a thread: the slots that wait for it have died, and it answers no variable
abbrev pub is_owed : (target : ℕ) → VariablePost → Bool
is_owed target post = post.target == target

abbrev pub posts_after : Posts → (target : ℕ) → Posts
posts_after posts target = record posts {
  slots = after_end posts.slots target;
  variables = filter (λ entry. not (is_owed target entry.1)) posts.variables;
}
