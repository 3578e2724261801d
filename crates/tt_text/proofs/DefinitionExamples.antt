-- The definitions, computed.
use Rattle.std.proofs.Common.{◌≡◌, [], ◌∷◌, refl}
use Rattle.std.specs.Prelude.{codes, Some, None, true, false}
use Rattle.std.specs.Char.{encode_utf8}
use Rattle.tt_text.specs.Characters.{characters}
use Rattle.tt_text.specs.Backslash.{backslash}
use Rattle.tt_text.specs.Braces.{matching_brace, is_balanced}

accents : characters (0xC3 ∷ 0xA9 ∷ 97 ∷ []) ≡ (0xC3 ∷ 0xA9 ∷ []) ∷ (97 ∷ []) ∷ []
accents = refl

stray : characters (0x80 ∷ 0x80 ∷ 97 ∷ []) ≡ (0x80 ∷ 0x80 ∷ []) ∷ (97 ∷ []) ∷ []
stray = refl

tab : backslash (codes "tx") ≡ record { value = 9 ∷ []; takes = 1 }
tab = refl

newline : backslash (10 ∷ codes "  \tx") ≡ record { value = 32 ∷ []; takes = 4 }
newline = refl

octal : backslash (codes "3512") ≡ record { value = 0xC3 ∷ 0xA9 ∷ []; takes = 3 }
unfolding encode_utf8
octal = refl

short_octal : backslash (codes "400") ≡ record { value = 32 ∷ []; takes = 2 }
unfolding encode_utf8
short_octal = refl

hexadecimal : backslash (codes "x41f") ≡ record { value = 65 ∷ []; takes = 3 }
unfolding encode_utf8
hexadecimal = refl

surrogate : backslash (codes "uD800x") ≡ record { value = 0xEF ∷ 0xBF ∷ 0xBD ∷ []; takes = 5 }
unfolding encode_utf8
surrogate = refl

letter : backslash (codes "xg") ≡ record { value = 120 ∷ []; takes = 1 }
letter = refl

large_u : backslash (codes "U41") ≡ record { value = 85 ∷ []; takes = 1 }
large_u = refl

last : backslash [] ≡ record { value = 92 ∷ []; takes = 0 }
last = refl

inner_group : matching_brace (codes "a{b}c}d") ≡ Some 5
inner_group = refl

escaped_brace : matching_brace (codes "a\\}b}") ≡ Some 4
escaped_brace = refl

two_backslashes : matching_brace (codes "a\\\\}") ≡ Some 3
two_backslashes = refl

unclosed : matching_brace (codes "a{}") ≡ None
unclosed = refl

lone_backslash : is_balanced (codes "a\\") ≡ false
lone_backslash = refl

closes_first : is_balanced (codes "}{") ≡ false
closes_first = refl

pairs : is_balanced (codes "{a}\\{b") ≡ true
pairs = refl
