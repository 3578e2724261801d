-- A line is the front of the bytes.
use Rattle.std.proofs.Common.{◌≡◌, ◌∙◌, ℕ, suc, Bool, true, false, List, [], ◌∷◌, ◌++◌, ap, refl, sym, rules}
use Rattle.std.proofs.Math.Numerals.{one-add}
use Rattle.tt_chans.specs.ChannelLaws.{LineLaw}
use Rattle.tt_chans.specs.Lines.{first_line, has_line, is_newline, later_lines, line_length}

-- by the count of bytes before the newline
length-here : (b : ℕ) (bytes : List ℕ) → is_newline b ≡ true → line_length (b ∷ bytes) ≡ 0
length-here b bytes e = rw e refl

length-later : (b : ℕ) (bytes : List ℕ) → is_newline b ≡ false → line_length (b ∷ bytes) ≡ suc (line_length bytes)
length-later b bytes e = rw e (one-add (line_length bytes))

has-later : (b : ℕ) (bytes : List ℕ) → is_newline b ≡ false → has_line (b ∷ bytes) ≡ has_line bytes
has-later b bytes e = rw e refl

pub line : LineLaw
line [] has = absurd (cc has)
line (b ∷ bytes) has = go (is_newline b) refl (line bytes)
  where
    go : (here : Bool) → is_newline b ≡ here → (has_line bytes ≡ true → first_line bytes ++ 10 ∷ later_lines bytes ≡ bytes) →
        first_line (b ∷ bytes) ++ 10 ∷ later_lines (b ∷ bytes) ≡ b ∷ bytes
    go true e later =
        let is : b ≡ 10 = search (rules, e) in
        rw (length-here b bytes e) (ap (λ one. one ∷ bytes) (sym is))
    go false e later = rw (length-later b bytes e) (ap (λ rest. b ∷ rest) (later (sym (has-later b bytes e) ∙ has)))
