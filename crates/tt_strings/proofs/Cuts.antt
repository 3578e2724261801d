-- How the characters of a text go with its parts.
use Rattle.std.proofs.Common.{◌≡◌, ℕ, Bool, true, false, not, List, [], ◌∷◌, ◌++◌, refl, sym, ap, subst, ◌∙◌}
use Rattle.std.specs.Prelude.{IsTrue}
use Rattle.std.specs.List.{AllByRecursion}
use Rattle.std.proofs.lemmas.List.Concat.{flat_map-append}
use Rattle.tt_text.specs.Characters.{Character, characters, begin_with, continues_character, begins_character, IsCharacter, BeginsAnywhere, later_characters}
use Rattle.tt_text.proofs.CharacterLemmas.{character_laws}
use Rattle.tt_strings.specs.Places.{bytes_of}

-- characters of which the first begins wherever it stands
abbrev pub IsFresh : List Character → Type 0
IsFresh [] = Unit {0}
IsFresh ([] ∷ more) = ⊥
IsFresh ((b ∷ c) ∷ more) = continues_character b ≡ false

-- a text whose first byte, if there is one, begins a character
abbrev pub Begins : List ℕ → Type 0
Begins [] = Unit {0}
Begins (b ∷ text) = continues_character b ≡ false

begin_fresh : (b : ℕ) (more : List Character) → IsFresh more → begin_with b more ≡ (b ∷ []) ∷ more
begin_fresh b [] f = refl
begin_fresh b ([] ∷ more) f = absurd f
begin_fresh b ((c ∷ rest) ∷ more) f = rw (f, begin_with)

begin_append_cases : (b n : ℕ) (more : List ℕ) (front back : List Character) (v : Bool) → continues_character n ≡ v
    → begin_with b (((n ∷ more) ∷ front) ++ back) ≡ begin_with b ((n ∷ more) ∷ front) ++ back
begin_append_cases b n more front back true e = rw (e, begin_with)
begin_append_cases b n more front back false e = rw (e, begin_with)

begin_append : (b : ℕ) (front back : List Character) → IsFresh back → begin_with b (front ++ back) ≡ begin_with b front ++ back
begin_append b [] back f = begin_fresh b back f
begin_append b ([] ∷ front) back f = refl
begin_append b ((n ∷ more) ∷ front) back f = begin_append_cases b n more front back (continues_character n) refl

-- a text is cut between two of its characters
pub append_fresh : (front back : List ℕ) → IsFresh (characters back) → characters (front ++ back) ≡ characters front ++ characters back
append_fresh [] back f = refl
append_fresh (b ∷ front) back f = ap (begin_with b) (append_fresh front back f) ∙ begin_append b (characters front) (characters back) f

fresh_cases : (b n : ℕ) (more : List ℕ) (later : List Character) (v : Bool) → continues_character n ≡ v
    → continues_character b ≡ false → IsFresh (begin_with b ((n ∷ more) ∷ later))
fresh_cases b n more later true e h = rw (e, begin_with) h
fresh_cases b n more later false e h = rw (e, begin_with) h

begin_is_fresh : (b : ℕ) (later : List Character) → continues_character b ≡ false → IsFresh (begin_with b later)
begin_is_fresh b [] h = h
begin_is_fresh b ([] ∷ later) h = h
begin_is_fresh b ((n ∷ more) ∷ later) h = fresh_cases b n more later (continues_character n) refl h

pub fresh_of : (text : List ℕ) → Begins text → IsFresh (characters text)
fresh_of [] h = tt
fresh_of (b ∷ text) h = begin_is_fresh b (characters text) h

-- characters as a text is cut into them
pub record IsCut (cut : List Character) : Type 0 where
  pub each : AllByRecursion IsCharacter cut
  pub apart : AllByRecursion BeginsAnywhere (later_characters cut)

begins_not : (b : ℕ) → IsTrue (begins_character b) → continues_character b ≡ false
begins_not b h = not_true (continues_character b) h where
  not_true : (v : Bool) → not v ≡ true → v ≡ false
  not_true true e = sym e
  not_true false e = refl

pub all_fresh : (cut : List Character) → AllByRecursion BeginsAnywhere cut → IsFresh cut
all_fresh [] h = tt
all_fresh ([] ∷ cut) h = h.0
all_fresh ((b ∷ more) ∷ cut) h = begins_not b h.0

later_all : (cut : List Character) → AllByRecursion BeginsAnywhere cut → AllByRecursion BeginsAnywhere (later_characters cut)
later_all [] h = tt
later_all (c ∷ cut) h = h.1

goes_on : (b c : ℕ) (more : List ℕ) → continues_character c ≡ true → begin_with b ((c ∷ more) ∷ []) ≡ (b ∷ c ∷ more) ∷ []
goes_on b c more e = rw (e, begin_with)

one_character : (b : ℕ) (more : List ℕ) → AllByRecursion (λ c. IsTrue (continues_character c)) more → characters (b ∷ more) ≡ (b ∷ more) ∷ []
one_character b [] h = refl
one_character b (c ∷ more) h = ap (begin_with b) (one_character c more h.1) ∙ goes_on b c more h.0

-- a character is the only one of its text
pub one_of : (c : Character) → IsCharacter c → characters c ≡ c ∷ []
one_of [] h = absurd h
one_of (b ∷ more) h = one_character b more h

-- characters that may stand side by side are those of the text that they make
pub cut_again : (cut : List Character) → IsCut cut → characters (bytes_of cut) ≡ cut
cut_again [] h = refl
cut_again (c ∷ cut) h =
    let later : characters (bytes_of cut) ≡ cut = cut_again cut (record { each = h.each.1; apart = later_all cut h.apart }) in
    let fresh : IsFresh (characters (bytes_of cut)) = let P : List Character → Type 0 = IsFresh in subst P (sym later) (all_fresh cut h.apart) in
    append_fresh c (bytes_of cut) fresh ∙ ap (λ t. t ++ characters (bytes_of cut)) (one_of c h.each.0) ∙ ap (λ t. c ∷ t) later

pub all_front : (P : Character → Type 0) (front back : List Character) → AllByRecursion P (front ++ back) → AllByRecursion P front
all_front P [] back h = tt
all_front P (c ∷ front) back h = (h.0, all_front P front back h.1)

pub all_back : (P : Character → Type 0) (front back : List Character) → AllByRecursion P (front ++ back) → AllByRecursion P back
all_back P [] back h = h
all_back P (c ∷ front) back h = all_back P front back h.1

front_apart : (front back : List Character) → AllByRecursion BeginsAnywhere (later_characters (front ++ back)) →
    AllByRecursion BeginsAnywhere (later_characters front)
front_apart [] back h = tt
front_apart (c ∷ front) back h = all_front BeginsAnywhere front back h

back_apart : (front back : List Character) → AllByRecursion BeginsAnywhere (later_characters (front ++ back)) →
    AllByRecursion BeginsAnywhere (later_characters back)
back_apart [] back h = h
back_apart (c ∷ front) back h = later_all back (all_back BeginsAnywhere front back h)

-- a text is what its characters make
pub whole_text : (text : List ℕ) → bytes_of (characters text) ≡ text
whole_text text = (character_laws.cut text).joined

cut_of_text : (text : List ℕ) → IsCut (characters text)
cut_of_text text = record { each = (character_laws.cut text).each; apart = (character_laws.cut text).apart }

-- if a text's characters are cut in two, the bytes before and after make the same characters
pub record IsCutAt (text : List ℕ) (front back : List Character) : Type 0 where
  pub bytes : text ≡ bytes_of front ++ bytes_of back
  pub front_is : characters (bytes_of front) ≡ front
  pub back_is : characters (bytes_of back) ≡ back

pub cut_at : (text : List ℕ) (front back : List Character) → characters text ≡ front ++ back → IsCutAt text front back
cut_at text front back e =
    let P : List Character → Type 0 = IsCut in
    let cut : IsCut (front ++ back) = subst P e (cut_of_text text) in
    record {
      bytes = sym (whole_text text) ∙ ap bytes_of e ∙ flat_map-append (λ c. c) front back;
      front_is = cut_again front (record { each = all_front IsCharacter front back cut.each; apart = front_apart front back cut.apart });
      back_is = cut_again back (record { each = all_back IsCharacter front back cut.each; apart = back_apart front back cut.apart });
    }
