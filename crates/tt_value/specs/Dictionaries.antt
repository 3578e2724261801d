-- What a value is after the pairs were changed that it is read as (dict(n)).
use Rattle.std.specs.Prelude.{ℕ, List, Result, Ok, Err}
use Rattle.tt_pairs.specs.Pairs.{Pairs, text_of}
use Rattle.tt_pairs.specs.Reading.{Reading}

-- their canonical text, or what keeps it from being a dictionary
abbrev pub after : (Pairs → Pairs) → Reading → Result (List ℕ) (List ℕ)
after change (Ok pairs) = Ok (text_of (change pairs))
after change (Err message) = Err message
