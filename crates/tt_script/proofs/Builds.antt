-- Parts in the making, and the plain form of parts.
use Rattle.std.proofs.Common.{◌≡◌, ℕ, List, [], ◌∷◌, ◌++◌, refl, ap, sym, ◌∙◌, append-nil, append_assoc, length, ◌==◌, false}
use Rattle.tt_script.specs.Words.{PlainPart, letters, variable, element, script, PlainParts, none, more, with_letters, with_part}
use Rattle.tt_script.specs.Plain.{plain_step, plain_part, plain_parts, plain_word, plain_words}
use Rattle.tt_script.specs.declared.command.Word.{Word}
use Rattle.tt_script.specs.inside.Building.{before, apart}
use Rattle.tt_script.specs.declared.command.Part.{Part}
use Rattle.tt_script.specs.declared.command.Part.TheVariants.{Letters, Variable, Element, Script, rolls-Letters, rolls-Variable, rolls-Element, rolls-Script}
use Rattle.tt_script.specs.declared.command.Part.TheOpen.{Part-F}
use Rattle.tt_script.specs.declared.command.Part.TheViews.{roll-Part, out-Part, roll-out-Part}
use Rattle.tt_script.specs.declared.command.Part.TheFolds.{fold-roll-Part}
use Rattle.std.specs.Prelude.{Vec}
use Rattle.std.specs.declared.alloc.Global.{Global}

pub plain_letters : (text : List ℕ) → plain_part (Letters text) ≡ letters text
plain_letters text = ap plain_part (sym (rolls-Letters text)) ∙ fold-roll-Part PlainPart plain_step (Part-F.Letters text)

pub plain_variable : (name : List ℕ) → plain_part (Variable name) ≡ variable name
plain_variable name = ap plain_part (sym (rolls-Variable name)) ∙ fold-roll-Part PlainPart plain_step (Part-F.Variable name)

pub plain_element : (name : List ℕ) (index : Vec Part Global) → plain_part (Element name index) ≡ element name (plain_parts index.items)
plain_element name index = ap plain_part (sym (rolls-Element name index)) ∙ fold-roll-Part PlainPart plain_step (Part-F.Element name index)

pub plain_script : (text : List ℕ) → plain_part (Script text) ≡ script text
plain_script text = ap plain_part (sym (rolls-Script text)) ∙ fold-roll-Part PlainPart plain_step (Part-F.Script text)

-- a part after others
pub before-push : (parts : List Part) (part : Part) (rest : PlainParts) → before (parts ++ part ∷ []) rest ≡ before parts (more (plain_part part) rest)
before-push [] part rest = refl
before-push (first ∷ parts) part rest = ap (more (plain_part first)) (before-push parts part rest)

pub before-none : (parts : List Part) → before parts none ≡ plain_parts parts
before-none [] = refl
before-none (part ∷ parts) = ap (more (plain_part part)) (before-none parts)

pub apart-none : (bs : List ℕ) → with_letters bs none ≡ apart bs none
apart-none [] = refl
apart-none (b ∷ bs) = refl

-- letters before parts that begin with no letters
apart-more : (bs : List ℕ) (part : PlainPart) (rest : PlainParts) → ((text : List ℕ) → part ≡ letters text → ⊥) →
    with_letters bs (with_part part rest) ≡ apart bs (more part rest)
apart-more bs (letters text) rest h = absurd (h text refl)
apart-more [] (variable name) rest h = refl
apart-more [] (element name index) rest h = refl
apart-more [] (script text) rest h = refl
apart-more (b ∷ bs) (variable name) rest h = refl
apart-more (b ∷ bs) (element name index) rest h = refl
apart-more (b ∷ bs) (script text) rest h = refl

-- more letters
pub with_letters-++ : (xs ys : List ℕ) (rest : PlainParts) → with_letters (xs ++ ys) rest ≡ with_letters xs (with_letters ys rest)
with_letters-++ [] ys rest = refl
with_letters-++ (x ∷ xs) [] rest = ap (λ bs. with_letters (x ∷ bs) rest) (append-nil xs)
with_letters-++ (x ∷ xs) (y ∷ ys) none = refl
with_letters-++ (x ∷ xs) (y ∷ ys) (more (letters text) rest) = ap (λ bs. more (letters (x ∷ bs)) rest) (append_assoc xs (y ∷ ys) text)
with_letters-++ (x ∷ xs) (y ∷ ys) (more (variable name) rest) = refl
with_letters-++ (x ∷ xs) (y ∷ ys) (more (element name index) rest) = refl
with_letters-++ (x ∷ xs) (y ∷ ys) (more (script text) rest) = refl

-- a part that is no letters
pub other_part : (part : Part) → ((text : List ℕ) → part ≡ Letters text → ⊥) → (bs : List ℕ) (rest : PlainParts) →
    with_letters bs (with_part (plain_part part) rest) ≡ apart bs (more (plain_part part) rest)
other_part part h bs rest = apart-more bs (plain_part part) rest (different (out-Part part) (roll-out-Part part))
  where
    different : (layer : Part-F Part) → roll-Part layer ≡ part → (text : List ℕ) → plain_part part ≡ letters text → ⊥
    different (Part-F.Letters t) e text is = h t (sym e ∙ rolls-Letters t)
    different (Part-F.Variable name) e text is = let seen = ap plain_part (sym e) ∙ fold-roll-Part PlainPart plain_step (Part-F.Variable name) in cc
    different (Part-F.Element name index) e text is = let seen = ap plain_part (sym e) ∙ fold-roll-Part PlainPart plain_step (Part-F.Element name index) in cc
    different (Part-F.Script t) e text is = let seen = ap plain_part (sym e) ∙ fold-roll-Part PlainPart plain_step (Part-F.Script t) in cc

pub apart-letters : (bs : List ℕ) (rest : PlainParts) → (length bs == 0) ≡ false → apart bs rest ≡ more (letters bs) rest
apart-letters [] rest e = cc
apart-letters (b ∷ bs) rest e = refl

-- a word after others
pub plain_words-push : (words : List Word) (word : Word) → plain_words (words ++ word ∷ []) ≡ plain_words words ++ plain_word word ∷ []
plain_words-push [] word = refl
plain_words-push (first ∷ words) word = ap (λ others. plain_word first ∷ others) (plain_words-push words word)
