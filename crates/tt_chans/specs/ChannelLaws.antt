-- What is taken from a pipe (gets(n)).
use Rattle.std.specs.Prelude.{◌≡◌, ℕ, true, List, ◌∷◌, ◌++◌}
use Rattle.tt_chans.specs.Lines.{first_line, has_line, later_lines}

-- The line that is taken, its newline, and what is left are the bytes that were there: so what is taken from a pipe is
-- the front of what was put into it.
abbrev pub LineLaw : Type 0
LineLaw = (bytes : List ℕ) → has_line bytes ≡ true → first_line bytes ++ 10 ∷ later_lines bytes ≡ bytes
