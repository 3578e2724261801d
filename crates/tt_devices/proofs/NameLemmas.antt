-- What a disk's calls say together of the bytes under a name.
use Rattle.std.proofs.Common.{◌≡◌, ◌<◌, ℕ, List, ◌++◌, length, Option, None, Some, ap, ◌∙◌, append-nil, length-append, arith}
use Rattle.tt_devices.specs.Names.{HasName, HoldsNamed, Names, Tells}
use Rattle.tt_devices.specs.Streams.{Empties, LosesMore}
use Rattle.tt_devices.specs.inside.Reading.{IsLonger}

-- what a file gave to its end is what the map has
pub read_named :
    (told : Option Names) (name bytes : List ℕ) (held new : Option (List ℕ)) →
    HoldsNamed told name held → Empties held new bytes → Tells told name (Some bytes)
read_named None name bytes held new h e = tt
read_named (Some map) name bytes None new h e = absurd h
read_named (Some map) name bytes (Some all) None h e = absurd e.0
read_named (Some map) name bytes (Some all) (Some rest) h e =
    let whole : all ≡ bytes = e.0 ∙ (ap (λ (r : List ℕ). bytes ++ r) e.1 ∙ append-nil bytes) in
    h ∙ ap (λ (b : List ℕ). Some b) whole

-- a name that a file was opened under has bytes
pub held_named : (told : Option Names) (name : List ℕ) (held : Option (List ℕ)) → HoldsNamed told name held → HasName told name
held_named None name held h = tt
held_named (Some map) name None h = absurd h
held_named (Some map) name (Some all) h = cc

-- and so has one that more than a count of bytes is under
pub longer_named : (told : Option Names) (name : List ℕ) (count : ℕ) → IsLonger told name count → HasName told name
longer_named None name count h = tt
longer_named (Some map) name count (bytes, is, more) = cc

-- a file that gave more than a count of bytes has more
pub read_longer :
    (told : Option Names) (name : List ℕ) (held new : Option (List ℕ)) (count : ℕ) →
    HoldsNamed told name held → LosesMore held new count → IsLonger told name count
read_longer None name held new count h lost = tt
read_longer (Some map) name None new count h lost = absurd h
read_longer (Some map) name (Some all) None count h lost = absurd lost.lost
read_longer (Some map) name (Some all) (Some rest) count h lost =
    (all, h, omega (arith, lost.more, ap length lost.lost, length-append lost.part rest))
