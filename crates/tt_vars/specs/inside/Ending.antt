-- Why following links ends (upvar(n)), and what keeps it so.
use Rattle.std.specs.Prelude.{◌≡◌, ℕ, ◌<◌, ◌≤◌, false, List, Option, None, Some, bytes_eq}
use Rattle.std.specs.List.{position_or_len}
use Rattle.std.specs.Map.{keys_of}
use Rattle.tt_vars.specs.declared.variable.Place.{Place}
use Rattle.tt_vars.specs.Variables.{Name, Frame, variable_named, leads, is_set}
use Rattle.tt_vars.specs.Links.{frame_at, at, is_of}

-- how many names stand before this one
abbrev pub rank : Name → Frame → ℕ
rank name frame = position_or_len (bytes_eq name) (keys_of frame)

-- the links of the new frame are links of the old one, in the same order
abbrev pub KeepsLinks : Frame → Frame → Type 0
KeepsLinks old new =
    (name : Name) (to : Option Place) →
    leads (variable_named new name) ≡ Some to →
    (leads (variable_named old name) ≡ Some to)
    × ((other : Name) (next : Option Place) →
    leads (variable_named new other) ≡ Some next →
    rank name old < rank other old →
    rank name new < rank other new)

-- a link leads to a lower frame, or in its own to a name that is no link or that was inserted after it
pub record LeadsOn (frames : List Frame) (frame : ℕ) (name : Name) (to : Place) : Type 0 where
  pub within : to.frame ≤ frame
  pub later : to.frame ≡ frame →
      (next : Option Place) →
      leads (at frames to) ≡ Some next →
      rank name (frame_at frames frame) < rank to.name (frame_at frames frame)

-- every link does
abbrev pub LinksEnd : List Frame → Type 0
LinksEnd frames =
    (frame : ℕ) (name : Name) (to : Place) →
    leads (variable_named (frame_at frames frame) name) ≡ Some (Some to) →
    LeadsOn frames frame name to

-- a name that is no scalar and no array may lead to what is no link, in no higher frame, and not to itself
abbrev pub CanLink : List Frame → ℕ → Name → Option Place → Type 0
CanLink frames frame name None = is_set (variable_named (frame_at frames frame) name) ≡ false
CanLink frames frame name (Some to) =
    (is_set (variable_named (frame_at frames frame) name) ≡ false)
    × (to.frame ≤ frame)
    × (leads (at frames to) ≡ None)
    × (is_of frame name (Some to) ≡ false)
