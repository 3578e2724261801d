-- The classes of bytes that scans stop at and those that commands are read by are the same (Tcl(n), string(n)).
use Rattle.std.specs.Prelude.{◌≡◌, ℕ}
use Rattle.tt_lanes.specs.Classes as lanes
use Rattle.tt_text.specs.Characters as characters

-- each of the four that both sides name
pub record ByteClassLaw : Type 0 where
  pub white_space : (b : ℕ) → lanes.is_white_space b ≡ characters.is_white_space b
  pub newlines : (b : ℕ) → lanes.is_newline b ≡ characters.is_newline b
  pub blanks : (b : ℕ) → lanes.is_blank b ≡ characters.is_blank b
  pub first_bytes : (b : ℕ) → lanes.begins_character b ≡ characters.begins_character b
