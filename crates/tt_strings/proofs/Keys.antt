-- A key at the front of a text.
use Rattle.std.proofs.Common.{◌≡◌, ◌≢◌, ℕ, suc, ◌+◌, ◌<◌, Bool, true, false, List, [], ◌∷◌, ◌++◌, length, drop, refl, sym, ap, subst, ◌∙◌, arith, length-append}
use Rattle.std.specs.List.{AllByRecursion}
use Rattle.std.proofs.Math.Seq.{drop-append_seam}
use Rattle.tt_text.specs.Characters.{Character, characters, BeginsAnywhere, continues_character, later_characters, begin_with}
use Rattle.tt_text.proofs.CharacterLemmas.{character_laws}
use Rattle.tt_strings.specs.inside.Ends.{goes_on}
use Rattle.tt_strings.specs.Mapping.{IsAtFront, IsNotAtFront}
use Rattle.tt_strings.specs.Places.{bytes_of}
use Rattle.tt_strings.proofs.Cuts.{IsFresh, Begins, all_back, all_fresh, append_fresh, cut_at, fresh_of, whole_text}

-- the characters of a text that isn't empty
pub record First (text : List ℕ) : Type 0 where
  pub first : Character
  pub later : List Character
  pub cut : characters text ≡ first ∷ later

-- the same of a byte before characters
record BeginsWith (b : ℕ) (more : List Character) : Type 0 where
  first : Character
  later : List Character
  cut : begin_with b more ≡ first ∷ later

more_first : (b n : ℕ) (more : List ℕ) (cut : List Character) (v : Bool) → continues_character n ≡ v → BeginsWith b ((n ∷ more) ∷ cut)
more_first b n more cut true e = record { first = b ∷ n ∷ more; later = cut; cut = rw (e, begin_with) }
more_first b n more cut false e = record { first = b ∷ []; later = (n ∷ more) ∷ cut; cut = rw (e, begin_with) }

begin_first : (b : ℕ) (cut : List Character) → BeginsWith b cut
begin_first b [] = record { first = b ∷ []; later = []; cut = refl }
begin_first b ([] ∷ cut) = record { first = b ∷ []; later = cut; cut = refl }
begin_first b ((n ∷ more) ∷ cut) = more_first b n more cut (continues_character n) refl

pub first_of : (text : List ℕ) → text ≢ [] → First text
first_of [] some = absurd (some refl)
first_of (b ∷ text) some = let h = begin_first b (characters text) in record { first = h.first; later = h.later; cut = h.cut }

pub fresh_begins : (cut : List Character) → IsFresh cut → Begins (bytes_of cut)
fresh_begins [] h = tt
fresh_begins ([] ∷ cut) h = absurd h
fresh_begins ((b ∷ more) ∷ cut) h = h

after_first : (first : Character) (later rest : List Character) → AllByRecursion BeginsAnywhere (later_characters ((first ∷ later) ++ rest)) → IsFresh rest
after_first first later rest h = all_fresh rest (all_back BeginsAnywhere later rest h)

-- what follows the whole characters of a text begins a character
pub rest_fresh : (text key : List ℕ) (rest : List Character) → key ≢ [] → characters text ≡ characters key ++ rest → IsFresh rest
rest_fresh text key rest some e =
    let first : First key = first_of key some in
    let P : List Character → Type 0 = λ cut. AllByRecursion BeginsAnywhere (later_characters cut) in
    after_first first.first first.later rest (subst P (e ∙ ap (λ k. k ++ rest) first.cut) (character_laws.cut text).apart)

key_bytes : (text key : List ℕ) (rest : List Character) → characters text ≡ characters key ++ rest → text ≡ key ++ bytes_of rest
key_bytes text key rest e = (cut_at text (characters key) rest e).bytes ∙ ap (λ k. k ++ bytes_of rest) (whole_text key)

clash : true ≡ false → ⊥
clash e = let P : Bool → Type 0 = λ b. elim b [ true ↦ Unit {0} | false ↦ ⊥ ] in subst P e tt

pub begins_no : (text : List ℕ) → Begins text → goes_on text ≡ false
begins_no [] h = refl
begins_no (b ∷ text) h = h

pub no_begins : (text : List ℕ) → goes_on text ≡ false → Begins text
no_begins [] h = tt
no_begins (b ∷ text) h = h

pub empty_nowhere : (text key : List ℕ) → length key < 1 → IsNotAtFront key (characters text)
empty_nowhere text [] h rest at = at.some refl
empty_nowhere text (b ∷ key) h rest at = absurd (omega arith)

-- if its bytes don't stand, it doesn't
pub no_bytes : (text key : List ℕ) → ((rest : List ℕ) → text ≢ key ++ rest) → IsNotAtFront key (characters text)
no_bytes text key none rest at = none (bytes_of rest) (key_bytes text key rest at.cut)

-- if its bytes end in a character, it doesn't
pub cut_character : (text key after : List ℕ) → text ≡ key ++ after → goes_on after ≡ true → IsNotAtFront key (characters text)
cut_character text key after e goes rest at =
    let same : after ≡ bytes_of rest =
    sym (drop-append_seam key after) ∙ ap (drop (length key)) (sym e ∙ key_bytes text key rest at.cut) ∙ drop-append_seam key (bytes_of rest) in
    let stops : goes_on after ≡ false = ap goes_on same ∙ begins_no (bytes_of rest) (fresh_begins rest (rest_fresh text key rest at.some at.cut)) in
    absurd (clash (sym goes ∙ stops))

one_more_byte : {n : ℕ} → suc n ≡ 0 → ⊥
one_more_byte e = omega (arith, e)

pub found : (text key after : List ℕ) → 0 < length key → text ≡ key ++ after → goes_on after ≡ false → IsAtFront key (characters text) (characters after)
found text [] after some e stops = absurd (omega arith)
found text (b ∷ key) after some e stops =
    record { some = λ n. absurd (one_more_byte (ap length n)); cut = ap characters e ∙ append_fresh (b ∷ key) after (fresh_of after (no_begins after stops)) }

pub found_shorter : (text key after : List ℕ) → 0 < length key → text ≡ key ++ after → length after < length text
found_shorter text key after some e = let long : length text ≡ length key + length after = ap length e ∙ length-append key after in omega (arith, long)
