-- The lines of the bytes in a pipe (gets(n)).
use Rattle.std.specs.Prelude.{ℕ, Bool, ◌==◌, not, nat_lt, List, take, drop, count_by}
use Rattle.std.specs.List.{prefix_len}

abbrev pub is_newline : ℕ → Bool
is_newline byte = byte == 10

-- how many bytes stand before the first newline; all of them if there is none
abbrev pub line_length : List ℕ → ℕ
line_length bytes = prefix_len (λ byte. not (is_newline byte)) bytes

abbrev pub has_line : List ℕ → Bool
has_line bytes = nat_lt 0 (count_by is_newline bytes)

-- the first line, without its newline, and what comes after that
abbrev pub first_line : List ℕ → List ℕ
first_line bytes = take (line_length bytes) bytes

abbrev pub later_lines : List ℕ → List ℕ
later_lines bytes = drop 1 (drop (line_length bytes) bytes)
