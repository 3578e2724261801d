-- The bytes under each name of a set of files, if they are shown. Nothing is said of a map that isn't shown.
use Rattle.std.specs.Prelude.{◌≡◌, ◌≢◌, ℕ, List, [], Option, Some, None, IsSome}

-- the bytes under each name, or none
abbrev pub Names : Type 0
Names = List ℕ → Option (List ℕ)

-- under this name the map has this
abbrev pub Tells : Option Names → List ℕ → Option (List ℕ) → Type 0
Tells None name found = Unit {0}
Tells (Some map) name found = map name ≡ found

-- the map has bytes under this name
abbrev pub HasName : Option Names → List ℕ → Type 0
HasName None name = Unit {0}
HasName (Some map) name = IsSome (map name)

-- every name but this one has what it had
abbrev pub KeepsOthers : Option Names → Option Names → List ℕ → Type 0
KeepsOthers None None name = Unit {0}
KeepsOthers (Some old) (Some new) name = (other : List ℕ) → other ≢ name → new other ≡ old other
KeepsOthers None (Some new) name = ⊥
KeepsOthers (Some old) None name = ⊥

-- a file has the bytes that the map has under this name
abbrev pub HoldsNamed : Option Names → List ℕ → (bytes : Option (List ℕ)) → Type 0
HoldsNamed None name bytes = Unit {0}
HoldsNamed (Some map) name None = ⊥
HoldsNamed (Some map) name (Some bytes) = map name ≡ Some bytes

-- a new file of a map that is shown has no bytes
abbrev pub StartsEmpty : Option Names → (bytes : Option (List ℕ)) → Type 0
StartsEmpty None bytes = Unit {0}
StartsEmpty (Some map) bytes = bytes ≡ Some []
