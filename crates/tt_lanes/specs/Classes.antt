-- The bytes that the scans stop at and the counts count.
use Rattle.std.specs.Prelude.{ℕ, ◌+◌, Bool, not, ◌&&◌, ◌||◌, ◌==◌, List, [], ◌∷◌, count_by}
use Rattle.std.specs.Int.{is_in_range}

-- a byte that the words of a command may be parted by: 9 to 13 and 32 (Tcl(n))
abbrev pub is_white_space : ℕ → Bool
is_white_space b = is_in_range 9 13 b || b == 32

-- the end of a line (Tcl(n), rule 1)
abbrev pub is_newline : ℕ → Bool
is_newline b = b == 10

-- white space that ends no command (Tcl(n), rule 3)
abbrev pub is_blank : ℕ → Bool
is_blank b = is_white_space b && not (is_newline b)

-- a byte that means something in a command (Tcl(n), rules 1 to 9): white space, or one of `; " { } [ ] $ \`
abbrev pub is_special : ℕ → Bool
is_special b =
    is_white_space b || b == 59 || b == 34 || b == 123 || b == 125 || b == 91 || b == 93 || b == 36 || b == 92

-- a byte that counts in braces: `{`, `}` or a backslash (Tcl(n), rule 6)
abbrev pub is_brace_or_backslash : ℕ → Bool
is_brace_or_backslash b = b == 123 || b == 125 || b == 92

-- a byte that begins a substitution: `$`, `[` or a backslash (Tcl(n), rules 7 to 9)
abbrev pub begins_substitution : ℕ → Bool
begins_substitution b = b == 36 || b == 91 || b == 92

-- a byte that means something in quotes: the closing quote, or one that begins a substitution (Tcl(n), rule 4)
abbrev pub is_special_in_quotes : ℕ → Bool
is_special_in_quotes b = b == 34 || begins_substitution b

-- a byte that means something in an index: the closing `)`, or one that begins a substitution (Tcl(n), rule 8)
abbrev pub is_special_in_index : ℕ → Bool
is_special_in_index b = b == 41 || begins_substitution b

-- a byte that begins a character wherever it stands (string(n))
abbrev pub begins_character : ℕ → Bool
begins_character b = not (is_in_range 0x80 0xBF b)

-- how many characters a text has: one begins at its first byte, and at each later one that begins one
abbrev pub character_count : List ℕ → ℕ
character_count [] = 0
character_count (b ∷ text) = 1 + count_by begins_character text
