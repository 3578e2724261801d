-- How a text is cut into characters.
use Rattle.std.proofs.Common.{◌≡◌, ℕ, suc, ◌+◌, Bool, true, false, cond, not, List, [], ◌∷◌, length, take, drop, refl, sym, ap, subst, ◌∙◌, arith, zero-add}
use Rattle.std.specs.Prelude.{take_while, count_by}
use Rattle.std.specs.List.{prefix_len}
use Rattle.std.proofs.lemmas.List.Folds.{length-prefix_len}
use Rattle.std.proofs.lemmas.List.Sums.{sum_by-cons}
use Rattle.tt_lanes.specs.Classes.{character_count}
use Rattle.tt_text.specs.Characters.{CharacterLaws, IsCutInto, Character, characters, begin_with, continues_character, begins_character}

joins : (b next : ℕ) (more : List ℕ) (characters : List Character) → continues_character next ≡ true
    → begin_with b ((next ∷ more) ∷ characters) ≡ (b ∷ next ∷ more) ∷ characters
joins b next more characters e = rw (e, begin_with)

stays : (b next : ℕ) (more : List ℕ) (characters : List Character) → continues_character next ≡ false
    → begin_with b ((next ∷ more) ∷ characters) ≡ (b ∷ []) ∷ (next ∷ more) ∷ characters
stays b next more characters e = rw (e, begin_with)

begin_more : (b c n : ℕ) (text : List ℕ) (continues : Bool) → continues_character c ≡ continues
    → characters (c ∷ text) ≡ (c ∷ take n text) ∷ characters (drop n text)
    → characters (b ∷ c ∷ text) ≡ (b ∷ take (cond continues (1 + n) 0) (c ∷ text)) ∷ characters (drop (cond continues (1 + n) 0) (c ∷ text))
begin_more b c n text true e cut =
    let one : 1 + n ≡ suc n = omega arith in
    ap (begin_with b) cut ∙ joins b c (take n text) (characters (drop n text)) e
    ∙ ap (λ k. (b ∷ take k (c ∷ text)) ∷ characters (drop k (c ∷ text))) (sym one)
begin_more b c n text false e cut =
    ap (begin_with b) cut ∙ stays b c (take n text) (characters (drop n text)) e ∙ ap (λ r. (b ∷ []) ∷ r) (sym cut)

cut_after : (b : ℕ) (text : List ℕ)
    → characters (b ∷ text) ≡ (b ∷ take (prefix_len continues_character text) text) ∷ characters (drop (prefix_len continues_character text) text)
cut_after b [] = refl
cut_after b (c ∷ text) = begin_more b c (prefix_len continues_character text) text (continues_character c) refl (cut_after c text)

-- the first character of a text whose first byte has n continuing bytes after it
pub first_character : (b n : ℕ) (text rest : List ℕ) → text ≡ b ∷ rest → n ≡ length (take_while continues_character rest)
    → characters text ≡ take (1 + n) text ∷ characters (drop (1 + n) text)
first_character b n text rest e long =
    let counted : n ≡ prefix_len continues_character rest = long ∙ length-prefix_len continues_character rest in
    let one : 1 + n ≡ suc n = omega arith in
    ap characters e ∙ cut_after b rest
    ∙ ap (λ k. take (suc k) (b ∷ rest) ∷ characters (drop (suc k) (b ∷ rest))) (sym counted)
    ∙ ap (λ t. take (suc n) t ∷ characters (drop (suc n) t)) (sym e)
    ∙ ap (λ k. take k text ∷ characters (drop k text)) (sym one)

count_more : (b c : ℕ) (text : List ℕ) (continues : Bool) → continues_character c ≡ continues
    → length (characters (b ∷ c ∷ text)) ≡ cond continues 0 1 + length (characters (c ∷ text))
count_more b c text true e =
    ap (λ r. length (begin_with b r)) (cut_after c text)
    ∙ ap length (joins b c _ (characters (drop (prefix_len continues_character text) text)) e)
    ∙ sym (ap length (cut_after c text)) ∙ sym (zero-add _)
count_more b c text false e =
    ap (λ r. length (begin_with b r)) (cut_after c text)
    ∙ ap length (stays b c _ (characters (drop (prefix_len continues_character text) text)) e)
    ∙ ap suc (sym (ap length (cut_after c text))) ∙ omega arith

either : (b : Bool) (n : ℕ) → cond b 0 1 + (1 + n) ≡ 1 + (cond (not b) 1 0 + n)
either true n = omega arith
either false n = omega arith

-- one character for the first byte, and one for each that begins one
pub count_characters : (b : ℕ) (text : List ℕ) → length (characters (b ∷ text)) ≡ 1 + count_by begins_character text
count_characters b [] = refl
count_characters b (c ∷ text) =
    count_more b c text (continues_character c) refl ∙ ap (λ n. cond (continues_character c) 0 1 + n) (count_characters c text)
    ∙ either (continues_character c) (count_by begins_character text)
    ∙ ap (λ n. 1 + n) (sym (sum_by-cons (λ x. cond (begins_character x) 1 0) c text))

-- what the lanes count is how many characters there are
pub by_lanes : (text : List ℕ) → character_count text ≡ length (characters text)
by_lanes [] = refl
by_lanes (b ∷ text) = sym (count_characters b text)

-- one byte more before a text that is cut into characters

join_cut : (b n : ℕ) (more text : List ℕ) (cut : List Character) → continues_character n ≡ true → IsCutInto text ((n ∷ more) ∷ cut)
    → IsCutInto (b ∷ text) ((b ∷ n ∷ more) ∷ cut)
join_cut b n more text cut e h =
    record { joined = ap (λ t. b ∷ t) h.joined; each = ((e, h.each.0), h.each.1); apart = h.apart }

stay_cut : (b n : ℕ) (more text : List ℕ) (cut : List Character) → continues_character n ≡ false → IsCutInto text ((n ∷ more) ∷ cut)
    → IsCutInto (b ∷ text) ((b ∷ []) ∷ (n ∷ more) ∷ cut)
stay_cut b n more text cut e h =
    record { joined = ap (λ t. b ∷ t) h.joined; each = (tt, h.each); apart = (ap not e, h.apart) }

more_cut : (b n : ℕ) (more text : List ℕ) (cut : List Character) (continues : Bool) → continues_character n ≡ continues
    → IsCutInto text ((n ∷ more) ∷ cut) → IsCutInto (b ∷ text) (begin_with b ((n ∷ more) ∷ cut))
more_cut b n more text cut true e h = subst (IsCutInto (b ∷ text)) (sym (joins b n more cut e)) (join_cut b n more text cut e h)
more_cut b n more text cut false e h = subst (IsCutInto (b ∷ text)) (sym (stays b n more cut e)) (stay_cut b n more text cut e h)

begin_cut : (b : ℕ) (text : List ℕ) (cut : List Character) → IsCutInto text cut → IsCutInto (b ∷ text) (begin_with b cut)
begin_cut b text [] h = record { joined = ap (λ t. b ∷ t) h.joined; each = (tt, tt); apart = tt }
begin_cut b text ([] ∷ cut) h = absurd h.each.0
begin_cut b text ((n ∷ more) ∷ cut) h = more_cut b n more text cut (continues_character n) refl h

cut_of : (text : List ℕ) → IsCutInto text (characters text)
cut_of [] = record { joined = refl; each = tt; apart = tt }
cut_of (b ∷ text) = begin_cut b text (characters text) (cut_of text)

pub character_laws : CharacterLaws
character_laws = record { cut = cut_of; count = count_characters }
