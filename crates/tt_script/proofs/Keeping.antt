-- What is kept of what was read, and what is added on the way.
use Rattle.std.proofs.Common.{◌≡◌, ℕ, List, [], ◌∷◌, ◌++◌, drop, refl, ap, sym, ◌∙◌, Ok}
use Rattle.std.proofs.lemmas.List.{append_assoc}
use Rattle.tt_script.specs.Words.{PlainWord}
use Rattle.tt_script.specs.inside.Parsing.{Answers}
use Rattle.tt_script.specs.Plain.{plain_word, plain_words}
use Rattle.tt_script.specs.Reading.{Read, takes, fails, after, map_read, Level, words}
use Rattle.tt_script.specs.declared.command.Place.{Place}
use Rattle.tt_script.specs.declared.command.Word.{Word}
use Rattle.tt_script.specs.declared.mode.Mode.{Mode}
use Rattle.tt_script.specs.declared.mode.Mode.TheVariants.{Keep}
use Rattle.tt_script.proofs.Builds.{plain_words-push}

-- what is kept is the value that the text reads as
pub kept : {X A : Type 0} (view : X → A) (x : X × ℕ) (read : Read A) → Answers Keep view (Ok x) read → read ≡ takes (view x.0) x.1
kept view x read answer = answer.1 ∙ ap (λ value. takes value x.1) (sym (answer.2 refl))

pub mapped-itself : {A : Type 0} (read : Read A) → read ≡ map_read (λ value. value) read
mapped-itself (takes value n) = refl
mapped-itself (fails fault) = refl

-- the words from a place on are those from another on with what was added before them
abbrev pub Gathered : Place → Level → List ℕ → Mode → List Word → ℕ → ℕ → Type 0
Gathered place level text mode gathered from at =
    (add : List PlainWord → List PlainWord)
    × (after from (words place level 0 (drop from text)) ≡ map_read add (after at (words place level 0 (drop at text))))
    × (mode ≡ Keep → (rest : List PlainWord) → plain_words gathered ++ rest ≡ add rest)

-- a word more
pub gathered-word : (gathered more : List Word) (word : Word) (value : PlainWord) (rest : List PlainWord) → more ≡ gathered ++ word ∷ [] →
    plain_word word ≡ value → plain_words more ++ rest ≡ plain_words gathered ++ (value ∷ rest)
gathered-word gathered more word value rest pushed is =
    ap (λ ws. plain_words ws ++ rest) pushed
    ∙ ap (λ ws. ws ++ rest) (plain_words-push gathered word)
    ∙ append_assoc (plain_words gathered) (plain_word word ∷ []) rest
    ∙ ap (λ w. plain_words gathered ++ (w ∷ rest)) is
