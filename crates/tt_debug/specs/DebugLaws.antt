-- What holds of debugging sessions.
use Rattle.std.specs.Prelude.{◌≡◌, ℕ, List}
use Rattle.tt_debug.specs.Shown.{IsShownAt}
use Rattle.tt_kept.specs.declared.setup.Setup.{Setup}

-- What a line shows at a place, and where it leads, is the same whenever one comes there.
abbrev pub ShownOnceLaw : Type 0
ShownOnceLaw =
    (setup : Setup) (given : List ℕ) (place : ℕ) (line text other : List ℕ) (later last : ℕ) →
    IsShownAt setup given place line text later →
    IsShownAt setup given place line other last →
    (text ≡ other) × (later ≡ last)
