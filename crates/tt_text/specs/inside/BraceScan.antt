-- The search for a closing brace (Tcl(n), rule 6), said so that it can go on after the text.
use Rattle.std.specs.Prelude.{◌≡◌, ℕ, ◌+◌, ◌<◌, ◌≤◌, false, List, ◌++◌, length, drop, Some}
use Rattle.tt_text.specs.Braces.{closing_brace, further, matching_brace}
use Rattle.tt_text.specs.declared.braces.Scan.{Scan}
use Rattle.tt_text.specs.declared.braces.Scan.TheVariants.{Closes, Ends}

-- whatever follows the text, the search has ended in it, or goes on so after it
abbrev pub IsScan : List ℕ → Scan → Type 0
IsScan text (Closes place) =
    (place < length text) × ((more : List ℕ) → matching_brace (text ++ more) ≡ Some place)
IsScan text (Ends depth at) =
    (length text ≤ at) × (at ≤ length text + 1) ×
    ((more : List ℕ) → matching_brace (text ++ more) ≡ further at (closing_brace false depth (drop at (text ++ more))))
