-- Parts in the making.
use Rattle.std.specs.Prelude.{◌≡◌, ℕ, List, [], ◌∷◌, drop, Result, Ok, Err}
use Rattle.tt_script.specs.Words.{letters, PlainParts, more, with_letters}
use Rattle.tt_script.specs.inside.Parsing.{Refuses}
use Rattle.tt_script.specs.Reading.{after, map_read, takes, Level, parts}
use Rattle.tt_script.specs.Plain.{plain_part, plain_parts}
use Rattle.tt_script.specs.declared.command.Part.{Part}
use Rattle.tt_script.specs.declared.command.Ending.{Ending}
use Rattle.tt_script.specs.declared.mode.Mode.TheVariants.{Keep}
use Rattle.tt_script.specs.declared.stop.Stop.{Stop}
use Rattle.tt_script.specs.declared.builder.Builder.{Builder}

-- parts before others
abbrev pub before : List Part → PlainParts → PlainParts
before [] rest = rest
before (part ∷ parts) rest = more (plain_part part) (before parts rest)

-- what a builder has so far, before the parts that are still to come
abbrev pub so_far : Builder → PlainParts → PlainParts
so_far builder rest = before builder.done.items (with_letters builder.letters rest)

-- letters as a part of their own, if there are any
abbrev pub apart : List ℕ → PlainParts → PlainParts
apart [] rest = rest
apart (b ∷ bs) rest = more (letters (b ∷ bs)) rest

-- it went on to a place, and added to the builder, if that keeps them, what stands before that place
abbrev pub Adds : Level → Ending → List ℕ → Builder → Builder → Result ℕ Stop → ℕ → Type 0
Adds level ending text old new (Ok next) at =
    (add : PlainParts → PlainParts)
    × (after at (parts level ending 0 (drop at text))
    ≡ map_read add (after next (parts level ending 0 (drop next text))))
    × (old.mode ≡ Keep → (rest : PlainParts) → so_far new rest ≡ so_far old (add rest))
Adds level ending text old new (Err stop) at = Refuses stop (after at (parts level ending 0 (drop at text)))

-- it went on to where parts end, and added to the builder, where that keeps them, all that stand before, as whole parts
abbrev pub Ends : Level → Ending → List ℕ → Builder → Builder → Result ℕ Stop → ℕ → Type 0
Ends level ending text old new (Ok end) from =
    (value : PlainParts)
    × (after from (parts level ending 0 (drop from text)) ≡ takes value end)
    × (old.mode ≡ Keep → plain_parts new.done.items ≡ so_far old value)
Ends level ending text old new (Err stop) from = Refuses stop (after from (parts level ending 0 (drop from text)))
