-- The slots that wait for the results of posts (thread(n), thread::send without -async).
use Rattle.std.specs.Prelude.{ℕ, Bool, true, false, List, [], map, Option, Some, None, ◌==◌, ◌&&◌, if◌then◌else◌}
use Rattle.std.specs.Prelude.{option_map}
use Rattle.std.specs.Ordering.{nat_cmp}
use Rattle.std.specs.BTreeMap.{insert_entry, is_at}
use Rattle.std.specs.Map.{lookup, remove_entry, set_value}
use Rattle.tt_slots.specs.declared.slot.Slot.{Slot}
use Rattle.tt_slots.specs.declared.slot.SlotState.{SlotState}
use Rattle.tt_slots.specs.declared.slot.SlotState.TheVariants.{Waiting, Result, Died}

-- the open slots under their posts' numbers, in order, and the greatest number that was opened so far, 0 at first
pub record OpenSlots : Type 0 where
  pub open_slots : List (ℕ × Slot)
  pub greatest : ℕ

-- no slot was opened yet
abbrev pub no_slots : OpenSlots
no_slots = record { open_slots = []; greatest = 0 }

-- the slot of a number, and what it has; none if it isn't open
abbrev pub slot_of : OpenSlots → ℕ → Option Slot
slot_of slots n = lookup (is_at (nat_cmp n)) slots.open_slots

abbrev pub state_of : OpenSlots → ℕ → Option SlotState
state_of slots n = option_map (λ slot. slot.state) (slot_of slots n)

abbrev pub is_waiting : SlotState → Bool
is_waiting Waiting = true
is_waiting (Result outcome) = false
is_waiting Died = false

-- a slot that waits
abbrev pub new_slot : (sender target : ℕ) → Slot
new_slot sender target = record { sender = sender; target = target; state = Waiting }

-- the slot with another state
abbrev pub put_state : SlotState → Slot → Slot
put_state state slot = record slot { state = state }

-- a slot of this number more, which waits
abbrev pub with_slot : OpenSlots → (n sender target : ℕ) → OpenSlots
with_slot slots n sender target =
    record { open_slots = insert_entry nat_cmp slots.open_slots n (new_slot sender target); greatest = n }

-- the slots with another state of that number's
abbrev pub with_state_at : OpenSlots → ℕ → SlotState → Option Slot → OpenSlots
with_state_at slots n state None = slots
with_state_at slots n state (Some slot) =
    record slots { open_slots = set_value (is_at (nat_cmp n)) slots.open_slots (put_state state slot) }

abbrev pub with_state : OpenSlots → ℕ → SlotState → OpenSlots
with_state slots n state = with_state_at slots n state (slot_of slots n)

-- the slots without the one of that number
abbrev pub without_slot : OpenSlots → ℕ → OpenSlots
without_slot slots n = record slots { open_slots = remove_entry (is_at (nat_cmp n)) slots.open_slots }

-- a waiting slot stays; any other is closed by its answer
abbrev pub after_take : OpenSlots → ℕ → SlotState → OpenSlots
after_take slots n Waiting = slots
after_take slots n answer = without_slot slots n

-- the end of a thread: each slot that waits for it has died
abbrev pub slot_after_end : ℕ → Slot → Slot
slot_after_end target slot = if slot.target == target && is_waiting slot.state then put_state Died slot else slot

abbrev pub after_end : OpenSlots → ℕ → OpenSlots
after_end slots target =
    record slots { open_slots = map (λ entry. (entry.0, slot_after_end target entry.1)) slots.open_slots }
