-- What reads take from a source.
use Rattle.std.proofs.Common.{◌≡◌, ℕ, List, [], ◌++◌, Option, Some, None, refl}
use Rattle.std.specs.Io.KnownBytes.{Consumes}
use Rattle.tt_devices.proofs.StreamLemmas.{loses-more}
use Rattle.tt_devices.specs.Streams.{LosesPart, Stays}

nothing-lost : (old new : Option (List ℕ)) → Stays old new → Consumes old new []
nothing-lost None new stays = tt
nothing-lost (Some old) None stays = absurd stays
nothing-lost (Some old) (Some new) stays = rw stays refl

-- a source that stays loses nothing
pub loses-stays : (old new : Option (List ℕ)) → Stays old new → LosesPart old new
loses-stays old new stays = record { part = []; lost = nothing-lost old new stays }

pub loses-none : (held : Option (List ℕ)) → LosesPart held held
loses-none None = record { part = []; lost = tt }
loses-none (Some bytes) = record { part = []; lost = refl }

pub loses-trans : (old mid new : Option (List ℕ)) → LosesPart old mid → LosesPart mid new → LosesPart old new
loses-trans old mid new one other = loses-more old mid new one.part other.part one.lost other.lost
