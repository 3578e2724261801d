-- Limits of characters.
use Rattle.std.proofs.Common.{◌≡◌, ℕ, ◌-◌, ◌^◌, ◌<◌, min, List, Option, Some, None, length, take, sym, ap, ◌∙◌, arith}
use Rattle.std.specs.Option.{option_map, unwrap_or, is_some}
use Rattle.std.proofs.lemmas.Bool.{false≢true}
use Rattle.std.proofs.lemmas.List.{take_min}
use Rattle.tt_text.specs.Characters.{characters}
use Rattle.tt_strings.specs.Places.{bytes_of}
use Rattle.tt_strings.proofs.Ranges.{no_more_characters}
use Rattle.tt_format.specs.Fields.{at_most}
use Rattle.tt_format.specs.inside.Reading.{at_most_greatest}

-- a limit that was cut at the length limits alike
pub limited : (limit : Option ℕ) (count n : ℕ) (value result : List ℕ) → Some count ≡ option_map at_most_greatest limit → n ≡ min count (length value) →
    length value < 2 ^ 64
    → result ≡ bytes_of (take n (characters value)) → result ≡ at_most limit value
limited None count n value result e f short g = absurd (false≢true (sym (ap is_some e)))
limited (Some m) count n value result e f short g =
    let counted : count ≡ min m (2 ^ 64 - 1) = ap (λ o. unwrap_or o 0) e in
    let same : min n (length (characters value)) ≡ min m (length (characters value)) = omega (arith, no_more_characters value, counted, f, short) in
    g ∙ ap bytes_of (sym (take_min n (characters value)) ∙ ap (λ k. take k (characters value)) same ∙ take_min m (characters value))
