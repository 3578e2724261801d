-- Where characters begin in a text (string(n)).
use Rattle.std.specs.Prelude.{◌≡◌, ℕ, ◌<◌, ◌==◌, Bool, true, false, not, ◌&&◌, ◌||◌, List, [], ◌∷◌, length, drop}
use Rattle.std.specs.Prelude.{slice_index}
use Rattle.tt_text.specs.Characters.{continues_character}

-- a character begins at this byte, and the later bytes go on it
pub record IsLastStart (text : List ℕ) (start : ℕ) : Type 0 where
  pub begins : 0 < start → continues_character (slice_index text start) ≡ false
  pub goes_on : (k : ℕ) → start < k → k < length text → continues_character (slice_index text k) ≡ true

-- whether a text's first byte goes on a character that began before it
abbrev pub goes_on : List ℕ → Bool
goes_on [] = false
goes_on (b ∷ text) = continues_character b

-- whether the bytes from `start` to `end` are whole characters: characters begin at both places
abbrev pub is_whole : List ℕ → ℕ → ℕ → Bool
is_whole text start end = not (goes_on (drop end text)) && (start == 0 || not (goes_on (drop start text)))
