-- Frames of variables, which of them is current, who called which, and what was begun (proc(n), upvar(n), uplevel(n)).
use Rattle.std.specs.Prelude.{◌≡◌, ℕ, zero, suc, ◌<◌, ◌-◌, Bool, false, ◌&&◌, ◌==◌, nat_lt, IsTrue, List, [], ◌∷◌}
use Rattle.std.specs.Prelude.{◌++◌, Option, Some, None, length, take, slice_index_or}
use Rattle.tt_vars.specs.Variables.{Frame}
use Rattle.tt_store.specs.declared.nesting.Begun.{Begun}
use Rattle.tt_store.specs.declared.nesting.Begun.TheVariants.{Procedure, Script}

pub record Levels : Type 0 where
  -- the frames, from the global one: one for each procedure that was called
  pub frames : List Frame
  -- for each the frame that was current when its procedure was called
  pub callers : List ℕ
  -- the frame that names are looked for in
  pub current : ℕ
  -- what was begun and has not ended, the last first
  pub begun : List Begun

abbrev pub global_level : Levels
global_level = record { frames = [] ∷ []; callers = 0 ∷ []; current = 0; begun = [] }

abbrev pub with_frames : Levels → List Frame → Levels
with_frames levels frames = record levels { frames = frames }

-- the frame that was current when a frame's procedure was called
abbrev pub caller_of : Levels → (frame : ℕ) → ℕ
caller_of levels frame = slice_index_or levels.callers frame 0

-- the frame that is so many callers up; None if there are fewer (uplevel(n))
abbrev pub above : Levels → (count frame : ℕ) → Option ℕ
above levels zero frame = Some frame
above levels (suc count) zero = None
above levels (suc count) (suc frame) = above levels count (caller_of levels (suc frame))

-- the global frame is so many callers up from the current one (info(n))
abbrev pub HasDepth : Levels → (depth : ℕ) → Type 0
HasDepth levels depth = above levels depth levels.current ≡ Some 0

-- a procedure is called: it has a frame of its own
abbrev pub with_procedure_level : Levels → Levels
with_procedure_level levels = record {
  frames = levels.frames ++ [] ∷ [];
  callers = levels.callers ++ levels.current ∷ [];
  current = length levels.frames;
  begun = Procedure ∷ levels.begun;
}

-- a script begins in a frame
abbrev pub with_script_in : (frame : ℕ) → Levels → Levels
with_script_in frame levels = record levels { current = frame; begun = Script levels.current ∷ levels.begun }

-- what was begun last has ended
abbrev pub levels_after : Levels → List Begun → Levels
levels_after levels [] = levels
levels_after levels (Script back ∷ begun) = record levels { current = back; begun = begun }
levels_after levels (Procedure ∷ begun) = record {
  frames = take (length levels.frames - 1) levels.frames;
  callers = take (length levels.frames - 1) levels.callers;
  current = caller_of levels (length levels.frames - 1);
  begun = begun;
}

abbrev pub levels_after_end : Levels → Levels
levels_after_end levels = levels_after levels levels.begun

-- ---- what keeps frames there ----

-- as many frames as there are called procedures, and one; a script came from a frame that is there still
abbrev pub fits : List Begun → (frames : ℕ) → Bool
fits [] frames = frames == 1
fits (Script back ∷ begun) frames = nat_lt back frames && fits begun frames
fits (Procedure ∷ begun) zero = false
fits (Procedure ∷ begun) (suc frames) = nat_lt 0 frames && fits begun frames

pub record IsNested (levels : Levels) : Type 0 where
  pub counted : length levels.callers ≡ length levels.frames
  pub there : levels.current < length levels.frames
  pub lower : (frame : ℕ) → 0 < frame → frame < length levels.callers → caller_of levels frame < frame
  pub ends : IsTrue (fits levels.begun (length levels.frames))
