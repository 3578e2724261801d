-- What an interpreter keeps of variables: levels and watches; and what is done to one variable (set(n), vwait(n)).
use Rattle.std.specs.Prelude.{◌≡◌, ◌<◌, ◌-◌, ◌++◌, ℕ, Bool, true, false, length, take, slice_get, slice_index_or}
use Rattle.std.specs.Prelude.{◌||◌, List, [], ◌∷◌, Result, Ok, Err, Option, Some, None}
use Rattle.tt_calls.specs.declared.outcome.Outcome.{Outcome}
use Rattle.tt_calls.specs.Outcomes.{error_outcome, fine}
use Rattle.tt_procedures.specs.declared.calling.Argument.{Argument}
use Rattle.tt_vars.specs.declared.answers.Linked.{Linked}
use Rattle.tt_vars.specs.declared.answers.VarFault.{VarFault}
use Rattle.tt_vars.specs.declared.answers.VarFault.TheVariants.{IsArray}
use Rattle.tt_vars.specs.declared.answers.Written.{Written}
use Rattle.tt_vars.specs.declared.answers.Written.TheVariants.{Yes, No}
use Rattle.tt_vars.specs.declared.variable.Place.{Place}
use Rattle.tt_vars.specs.Links as variables
use Rattle.tt_vars.specs.Variables.{Frame, Name}
use Rattle.tt_store.specs.declared.spot.Spot.{Spot}
use Rattle.tt_store.specs.declared.watch.Watch.{Watch}
use Rattle.tt_store.specs.Levels.{Levels, with_script_in, with_procedure_level, global_level, levels_after_end}
use Rattle.tt_store.specs.Levels.{with_frames}
use Rattle.tt_calls.specs.Usages.{wrong_number}
use Rattle.tt_store.specs.Messages.{cannot_read, cannot_set}
use Rattle.tt_store.specs.Spots.{place_in, spot, spot_of, full_name}

pub record Held : Type 0 where
  pub levels : Levels
  -- the innermost last
  pub watches : List Watch

abbrev pub nothing_held : Held
nothing_held = record { levels = global_level; watches = [] }

abbrev pub with_levels : Held → Levels → Held
with_levels held levels = record held { levels = levels }

-- a script at global level begins
abbrev pub with_global_script : Held → Held
with_global_script held = with_levels held (with_script_in 0 held.levels)

-- a script in a frame begins
abbrev pub with_script_at : (frame : ℕ) → Held → Held
with_script_at frame held = with_levels held (with_script_in frame held.levels)

-- what was begun last has ended
abbrev pub after_end : Held → Held
after_end held = with_levels held (levels_after_end held.levels)

abbrev pub place : Held → Spot → Place
place held spot = place_in held.levels.current spot

-- ---- reading ----

abbrev pub Finds : Held → Spot → Result (List ℕ) VarFault → Type 0
Finds held spot found = variables.Reads held.levels.frames (place held spot) found

-- ---- writing ----

-- a watch after what a place stands for was written: was it its variable?
abbrev pub IsMarked : List Frame → Place → Watch → Watch → Type 0
IsMarked frames place old new =
    (same : Bool)
    × variables.AreSame frames place (variables.place_of 0 old.name old.index) same
    × (new ≡ record old { seen = old.seen || same })

pub record AreMarked (frames : List Frame) (place : Place) (old new : List Watch) : Type 0 where
  pub counted : length new ≡ length old
  pub each : (k : ℕ) (watch : Watch) →
      k < length old →
      IsMarked frames place (slice_index_or old k watch) (slice_index_or new k watch)

-- what was written is seen by the watches
abbrev pub Marks : Written → List Frame → Place → List Watch → List Watch → Type 0
Marks Yes frames place old new = AreMarked frames place old new
Marks (No fault) frames place old new = new ≡ old

-- a text is written to what a spot stands for, or the fault is the answer
pub record Sets (old : Held) (spot : Spot) (text : List ℕ) (new : Held) (written : Written) : Type 0 where
  pub writes : variables.Writes old.levels.frames (place old spot) text new.levels.frames written
  pub marks : Marks written new.levels.frames (place old spot) old.watches new.watches
  pub rest : new ≡ record old { levels = with_frames old.levels new.levels.frames; watches = new.watches }

-- ---- links, and what is there ----

-- a local name becomes a link to what a word names in a frame (upvar(n))
pub record LinksTo (old : Held) (local : Name) (frame : ℕ) (word : Name) (new : Held) (answer : Linked) : Type 0 where
  pub links :
      variables.Links old.levels.frames old.levels.current local
      (place_in frame (spot_of word)) new.levels.frames answer
  pub rest : new ≡ with_levels old (with_frames old.levels new.levels.frames)

-- a scalar, an array or an element was found
abbrev pub is_there : Result (List ℕ) VarFault → Bool
is_there (Ok text) = true
is_there (Err IsArray) = true
is_there (Err fault) = false

-- whether what a word names is there (info(n))
abbrev pub IsThere : (word : Name) → Held → Bool → Type 0
IsThere word held answer =
    (found : Result (List ℕ) VarFault)
    × Finds held (spot_of word) found
    × (answer ≡ is_there found)

-- the indices of the array that a name stands for, in order; None if it stands for none (array(n))
abbrev pub HasIndices : Held → Name → Option (List Name) → Type 0
HasIndices held name indices = variables.HasNames held.levels.frames (place held (spot name None)) indices

-- how many elements it has
abbrev pub HasSize : Held → Name → Option ℕ → Type 0
HasSize held name size = variables.HasSize held.levels.frames (place held (spot name None)) size

-- what a spot stands for is removed, or the fault is the answer (unset(n))
abbrev pub Drops : (old : Held) → Spot → (new : Held) → Result Unit VarFault → Type 0
Drops old spot new removed =
    variables.Removes old.levels.frames (place old spot) new.levels.frames removed
    × (new ≡ with_levels old (with_frames old.levels new.levels.frames))

-- ---- a procedure's frame ----

-- its variables are set, one after the other
pub data AreSet : List Argument → (old new : Held) → Type 0 where
  none : {held : Held} → AreSet [] held held
  more : {argument : Argument} {arguments : List Argument} {old next new : Held} {written : Written} →
      Sets old (spot argument.name None) argument.value next written →
      AreSet arguments next new →
      AreSet (argument ∷ arguments) old new

-- a procedure is called: its parameters have these values in a frame of its own (proc(n))
abbrev pub Calls : List Argument → (old new : Held) → Type 0
Calls arguments old new = AreSet arguments (with_levels old (with_procedure_level old.levels)) new

-- ---- what commands answer ----

abbrev pub value_of : (word : List ℕ) → Result (List ℕ) VarFault → Outcome
value_of word (Ok text) = fine text
value_of word (Err fault) = error_outcome (cannot_read word fault)

abbrev pub write_outcome : (word text : List ℕ) → Written → Outcome
write_outcome word text Yes = fine text
write_outcome word text (No fault) = error_outcome (cannot_set word fault)

-- what `$name` and `$name(index)` give
abbrev pub IsRead : Held → Name → Option Name → Outcome → Type 0
IsRead held name index outcome =
    (found : Result (List ℕ) VarFault)
    × Finds held (spot name index) found
    × (outcome ≡ value_of (full_name name index) found)

-- a text is given to the same
abbrev pub IsWritten : (old : Held) → Name → Option Name → (text : List ℕ) → Outcome → (new : Held) → Type 0
IsWritten old name index text outcome new =
    (written : Written)
    × Sets old (spot name index) text new written
    × (outcome ≡ write_outcome (full_name name index) text written)

-- what a command's word names is read
abbrev pub ReadsWord : (word : Name) → Held → Outcome → Type 0
ReadsWord word held outcome =
    (found : Result (List ℕ) VarFault)
    × Finds held (spot_of word) found
    × (outcome ≡ value_of word found)

-- a text is given to it
abbrev pub Gives : (word : Name) → (text : List ℕ) → (old : Held) → Outcome → (new : Held) → Type 0
Gives word text old outcome new =
    (written : Written)
    × Sets old (spot_of word) text new written
    × (outcome ≡ write_outcome word text written)

-- a command fails, and changes nothing
abbrev pub Fails : (message : List ℕ) → (old : Held) → Outcome → (new : Held) → Type 0
Fails message old outcome new = (outcome ≡ error_outcome message) × (new ≡ old)

-- what words mean after a command's name: how it ends, and what is held then
abbrev pub Meaning : Type 1
Meaning = (usage : List ℕ) → (words : List (List ℕ)) → (old : Held) → Outcome → (new : Held) → Type 0

abbrev pub Refuses : (usage : List ℕ) → (old : Held) → Outcome → (new : Held) → Type 0
Refuses usage old outcome new = Fails (wrong_number usage) old outcome new

-- ---- watches ----

-- a wait for a global variable begins (vwait(n))
abbrev pub watch_by : Spot → Watch
watch_by spot = record { name = spot.name; index = spot.index; seen = false }

abbrev pub with_watch : (word : Name) → Held → Held
with_watch word held = record held { watches = held.watches ++ watch_by (spot_of word) ∷ [] }

-- the innermost has ended
abbrev pub without_watch : Held → Held
without_watch held = record held { watches = take (length held.watches - 1) held.watches }

-- whether the variable of the innermost was written
abbrev pub watch_result : Option Watch → Bool
watch_result None = false
watch_result (Some watch) = watch.seen

abbrev pub is_seen : Held → Bool
is_seen held = watch_result (slice_get held.watches (length held.watches - 1))
