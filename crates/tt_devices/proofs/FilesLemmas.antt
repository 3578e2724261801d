use Rattle.std.proofs.Common.{◌≡◌, ◌≢◌, ◌<◌, ◌+◌, ℕ, zero, suc, List, [], ◌∷◌, ◌++◌, length, drop, get_or, Bool, true}
use Rattle.std.proofs.Common.{false, Option, Some, None, refl, sym, ap, ◌∙◌, arith, add-one, drop-cons, add-zero}
use Rattle.std.proofs.Common.{if◌then◌else◌}
use Rattle.std.specs.Str.{bytes_eq}
use Rattle.std.proofs.Math.ListN.{set}
use Rattle.std.proofs.lemmas.Slice.Eq.{bytes_eq-Decides}
use Rattle.tt_devices.specs.Memory.{NamedBytes, bytes_under}
use Rattle.tt_devices.specs.inside.MemoryNames.{IsFirstNamed}

-- the first file of a name has the bytes under it
pub first_found : (files : List NamedBytes) (name : List ℕ) (place : ℕ) (d : NamedBytes) → IsFirstNamed files name place →
    bytes_under files name ≡ Some (get_or files place d).bytes
first_found [] name place d h = absurd h
first_found (file ∷ files) name zero d h = rw h refl
first_found (file ∷ files) name (suc place) d h = rw h.0 (first_found files name place d h.1)

-- a file of another name stands before those that are looked at
pub under-drop : (files : List NamedBytes) (name : List ℕ) (i : ℕ) (file : NamedBytes) → i < length files → file ≡ get_or files i file →
    bytes_eq file.name name ≡ false → bytes_under (drop i files) name ≡ bytes_under (drop (i + 1) files) name
under-drop files name i file h e other = rw (add-one, drop-cons files i file, ← e, other) refl

pub first-drop : (files : List NamedBytes) (name : List ℕ) (i place : ℕ) (file : NamedBytes) → i < length files → file ≡ get_or files i file →
    bytes_eq file.name name ≡ false → IsFirstNamed (drop (i + 1) files) name place → IsFirstNamed (drop i files) name (suc place)
first-drop files name i place file h e other first = rw (drop-cons files i file, ← e) (other, rw add-one at first)

pub first-here : (files : List NamedBytes) (name : List ℕ) (i : ℕ) (file : NamedBytes) → i < length files → file ≡ get_or files i file →
    bytes_eq file.name name ≡ true → IsFirstNamed (drop i files) name 0
first-here files name i file h e same = rw (drop-cons files i file, ← e) same

-- none of the files before this place has the name
pub record IsPassed (files : List NamedBytes) (name : List ℕ) (i : ℕ) : Type 0 where
  pub same : bytes_under (drop i files) name ≡ bytes_under files name
  pub first : (place : ℕ) → IsFirstNamed (drop i files) name place → IsFirstNamed files name (i + place)

pub passed-more : (files : List NamedBytes) (name : List ℕ) (i : ℕ) (file : NamedBytes) → i < length files → file ≡ get_or files i file →
    bytes_eq file.name name ≡ false → IsPassed files name i → IsPassed files name (i + 1)
passed-more files name i file h e other passed = record {
  same = sym (under-drop files name i file h e other) ∙ passed.same;
  first = λ place first.
      let at : IsFirstNamed files name (i + suc place) = passed.first (suc place) (first-drop files name i place file h e other first) in
      let same : i + suc place ≡ i + 1 + place = omega arith in
      rw same at at;
}

pub passed-here : (files : List NamedBytes) (name : List ℕ) (i : ℕ) (file : NamedBytes) → i < length files → file ≡ get_or files i file →
    bytes_eq file.name name ≡ true → IsPassed files name i → IsFirstNamed files name i
passed-here files name i file h e same passed =
    let first : IsFirstNamed files name (i + 0) = passed.first 0 (first-here files name i file h e same) in
    rw add-zero at first

-- other bytes for the first file of a name
pub under-set : (files : List NamedBytes) (name named bytes : List ℕ) (place : ℕ) (d : NamedBytes) → IsFirstNamed files name place →
    named ≡ (get_or files place d).name → bytes_under (set files place (record { name = named; bytes = bytes })) name ≡ Some bytes
under-set [] name named bytes place d h e = absurd h
under-set (file ∷ files) name named bytes zero d h e = rw (e, h) refl
under-set (file ∷ files) name named bytes (suc place) d h e = rw h.0 (under-set files name named bytes place d h.1 e)

-- a test of what isn't so
false_from : (b : Bool) → (b ≡ true → ⊥) → b ≡ false
false_from true never = absurd (never refl)
false_from false never = refl

bytes_eq-same : (xs : List ℕ) → bytes_eq xs xs ≡ true
bytes_eq-same xs = (bytes_eq-Decides xs xs).1 refl

bytes_eq-other : (xs ys : List ℕ) → ys ≢ xs → bytes_eq xs ys ≡ false
bytes_eq-other xs ys differs = false_from (bytes_eq xs ys) (λ same. differs (sym ((bytes_eq-Decides xs ys).0 same)))

-- a name that is this one is no other
other-eq : (named name other : List ℕ) → bytes_eq named name ≡ true → other ≢ name → bytes_eq named other ≡ false
other-eq named name other same differs = bytes_eq-other named other (λ e. differs (e ∙ (bytes_eq-Decides named name).0 same))

-- no file is found if the first isn't the one and the others have none
none_split : (b : Bool) (here : List ℕ) (later : Option (List ℕ)) → (if b then Some here else later) ≡ None → (b ≡ false) × (later ≡ None)
none_split true here later e = cc
none_split false here later e = (refl, e)

pub others-set : (files : List NamedBytes) (name named bytes other : List ℕ) (place : ℕ) (d : NamedBytes) → IsFirstNamed files name place →
    named ≡ (get_or files place d).name → other ≢ name → bytes_under (set files place (record { name = named; bytes = bytes })) other ≡ bytes_under files other
others-set [] name named bytes other place d h e differs = absurd h
others-set (file ∷ files) name named bytes other zero d h e differs = rw (e, other-eq file.name name other h differs) refl
others-set (file ∷ files) name named bytes other (suc place) d h e differs =
    ap (λ (found : Option (List ℕ)). if bytes_eq file.name other then Some file.bytes else found)
    (others-set files name named bytes other place d h.1 e differs)

-- a new file at the end
pub under-more : (files : List NamedBytes) (name bytes : List ℕ) → bytes_under files name ≡ None →
    bytes_under (files ++ (record { name = name; bytes = bytes }) ∷ []) name ≡ Some bytes
under-more [] name bytes none = rw bytes_eq-same refl
under-more (file ∷ files) name bytes none =
    let split = none_split (bytes_eq file.name name) file.bytes (bytes_under files name) none in
    rw split.0 (under-more files name bytes split.1)

pub others-more : (files : List NamedBytes) (name bytes other : List ℕ) → other ≢ name →
    bytes_under (files ++ (record { name = name; bytes = bytes }) ∷ []) other ≡ bytes_under files other
others-more [] name bytes other differs = rw (bytes_eq-other name other differs) refl
others-more (file ∷ files) name bytes other differs =
    ap (λ (found : Option (List ℕ)). if bytes_eq file.name other then Some file.bytes else found) (others-more files name bytes other differs)
