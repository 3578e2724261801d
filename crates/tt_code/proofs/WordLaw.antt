-- The code of words needs what the words need.
use Rattle.std.proofs.Common.{◌≡◌, ℕ, Bool, true, false, List, [], ◌∷◌, ◌++◌, reverse, refl, ap, ◌∙◌}
use Rattle.std.proofs.lemmas.List.{reverse-append, reverse-reverse}
use Rattle.tt_lists.specs.Reading.{split_of}
use Rattle.tt_lists.specs.declared.items.Split.{Split}
use Rattle.tt_lists.specs.declared.items.Split.TheVariants.{Items, Bad}
use Rattle.tt_script.specs.Words.{PlainPart, letters, variable, element, script, PlainParts, none, more, PlainWord}
use Rattle.tt_code.specs.Code.{needs_from}
use Rattle.tt_code.specs.Making.{Instructions, part_code, later_code, parts_code, expansion, words_code}
use Rattle.tt_code.specs.Needs.{Needs, UseAll, with_items}
use Rattle.tt_code.specs.Substitution.{part, parts, word_values, words}
use Rattle.tt_code.specs.declared.code.Instruction.TheVariants as code

pub same_use : {A : Type 0} (f g : A → Needs) → ((v : A) → f v ≡ g v) → f ≡ g
same_use f g same = λ i v. same v i

mutual
  pub part_law : (p : PlainPart) (rest : Instructions) (vs : List (List ℕ)) → needs_from (part_code p rest) 0 vs ≡ part p (λ v. needs_from rest 0 (v ∷ vs))
  part_law (letters text) rest vs = refl
  part_law (variable name) rest vs = refl
  part_law (element name index) rest vs = parts_law index (code.Element name ∷ rest) vs
  part_law (script text) rest vs = refl

  pub later_law : (ps : PlainParts) (rest : Instructions) (done : List ℕ) (vs : List (List ℕ)) →
      needs_from (later_code ps rest) 0 (done ∷ vs) ≡ parts done ps (λ v. needs_from rest 0 (v ∷ vs))
  later_law none rest done vs = refl
  later_law (more p ps) rest done vs =
      part_law p (code.Append ∷ later_code ps rest) (done ∷ vs)
      ∙ ap (part p)
      (same_use (λ v. needs_from (later_code ps rest) 0 ((done ++ v) ∷ vs)) (λ v. parts (done ++ v) ps (λ w. needs_from rest 0 (w ∷ vs)))
      (λ v. later_law ps rest (done ++ v) vs))

  pub parts_law : (ps : PlainParts) (rest : Instructions) (vs : List (List ℕ)) → needs_from (parts_code ps rest) 0 vs ≡ parts [] ps (λ v. needs_from rest 0 (v ∷ vs))
  parts_law none rest vs = refl
  parts_law (more p ps) rest vs =
      part_law p (later_code ps rest) vs
      ∙ ap (part p) (same_use (λ v. needs_from (later_code ps rest) 0 (v ∷ vs)) (λ v. parts v ps (λ w. needs_from rest 0 (w ∷ vs))) (λ v. later_law ps rest v vs))

same_items : (split : Split) (f g : UseAll) → ((items : List (List ℕ)) → f items ≡ g items) → with_items split f ≡ with_items split g
same_items (Items items) f g same = same items
same_items (Bad fault) f g same = refl

word_law : (expand : Bool) (v : List ℕ) (ws : List PlainWord) (vs : List (List ℕ)) →
    ((us : List (List ℕ)) → needs_from (words_code ws []) 0 us ≡ words (reverse us) ws) →
    needs_from (expansion expand (words_code ws [])) 0 (v ∷ vs) ≡ word_values expand v (λ items. words (reverse vs ++ items) ws)
word_law true v ws vs later =
    same_items (split_of v) (λ items. needs_from (words_code ws []) 0 (reverse items ++ vs)) (λ items. words (reverse vs ++ items) ws)
    (λ items. later (reverse items ++ vs) ∙ ap (λ us. words us ws) (reverse-append (reverse items) vs ∙ ap (λ us. reverse vs ++ us) (reverse-reverse items)))
word_law false v ws vs later = later (v ∷ vs) ∙ ap (λ us. words us ws) (reverse-append (v ∷ []) vs)

pub words_law : (ws : List PlainWord) (vs : List (List ℕ)) → needs_from (words_code ws []) 0 vs ≡ words (reverse vs) ws
words_law [] vs = refl
words_law (word ∷ ws) vs =
    parts_law word.parts (expansion word.expand (words_code ws [])) vs
    ∙ ap (parts [] word.parts)
    (same_use (λ v. needs_from (expansion word.expand (words_code ws [])) 0 (v ∷ vs))
    (λ v. word_values word.expand v (λ items. words (reverse vs ++ items) ws)) (λ v. word_law word.expand v ws vs (words_law ws)))
