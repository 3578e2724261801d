-- Bare words of one part that is no letters.
use Rattle.std.proofs.Common.{◌≡◌, ℕ, ◌+◌, ◌-◌, ◌<◌, ◌≤◌, true, false, List, [], ◌∷◌, length, get_or, drop, take, refl, ap, sym, ◌∙◌, arith}
use Rattle.std.proofs.lemmas.List.{drop_more}
use Rattle.std.proofs.lemmas.Bool.{ne_eqb, eqb-true}
use Rattle.tt_script.specs.Words.{PlainPart, variable, script, none, more, with_part}
use Rattle.tt_script.specs.Plain.{plain_part, plain_parts}
use Rattle.tt_script.specs.Reading.{takes, fails, after, map_read, begins, Level, parts, separates, name_length}
use Rattle.tt_script.specs.declared.command.Part.{Part}
use Rattle.tt_script.specs.declared.command.ParseFault.{ParseFault}
use Rattle.tt_script.specs.declared.command.Place.{Place}
use Rattle.tt_script.specs.declared.command.Place.TheVariants as places
use Rattle.tt_script.specs.declared.command.Ending.TheVariants as endings
use Rattle.tt_script.proofs.Scanning.{begins_at}
use Rattle.tt_script.proofs.PartSteps.{part_at-dollar, part_at-script, part_at-script_fault, dollar_at-variable, parts_at-part, parts_at-fault, ended_at}

-- the one part
pub lone_part : (parts : List Part) (part : Part) (value : PlainPart) → parts ≡ part ∷ [] → plain_part part ≡ value → plain_parts parts ≡ more value none
lone_part parts part value e f = ap plain_parts e ∙ ap (λ p. more p none) f

-- the byte that stands if a text begins with it
byte_at : (c : ℕ) (text : List ℕ) (i : ℕ) → begins c (drop i text) ≡ true → get_or text i 0 ≡ c
byte_at c text i e = eqb-true _ _ (ap (begins c) (sym (drop_more text i 0 (begins_at c text i e))) ∙ e)

-- a byte that begins a substitution ends no bare word
substitutes : (c : ℕ) (place : Place) → ((rest : List ℕ) → separates place (c ∷ rest) ≡ false) → (text : List ℕ) (i : ℕ) → begins c (drop i text) ≡ true →
    separates place (drop i text) ≡ false
substitutes c place unended text i e =
    ap (separates place) (drop_more text i 0 (begins_at c text i e)) ∙ ap (λ b. separates place (b ∷ drop (i + 1) text)) (byte_at c text i e)
    ∙ unended (drop (i + 1) text)

dollar_on : (place : Place) (rest : List ℕ) → separates place (36 ∷ rest) ≡ false
dollar_on places.Script rest = refl
dollar_on places.Brackets rest = refl

bracket_on : (place : Place) (rest : List ℕ) → separates place (91 ∷ rest) ≡ false
bracket_on places.Script rest = refl
bracket_on places.Brackets rest = refl

-- a brace begins no name
brace-nameless : (rest : List ℕ) → name_length 0 (123 ∷ rest) ≡ 0
unfolding name_length
brace-nameless rest = refl

named-braceless : (text : List ℕ) → 0 < name_length 0 text → begins 123 text ≡ false
named-braceless [] h = refl
named-braceless (b ∷ text) h = ne_eqb b 123 (λ same. absurd (omega (arith, ap (λ c. name_length 0 (c ∷ text)) same, brace-nameless text)))

-- what ends a bare word is no parenthesis
separates-parenless : (place : Place) (text : List ℕ) → separates place text ≡ true → begins 40 text ≡ false
separates-parenless place [] e = refl
separates-parenless place (b ∷ text) e = ne_eqb b 40 (λ same. differs place (ap (λ c. separates place (c ∷ text)) (sym same) ∙ e))
  where
    differs : (place : Place) → separates place (40 ∷ text) ≡ true → ⊥
    differs places.Script f = cc
    differs places.Brackets f = cc

module _ (level : Level) (place : Place) (text : List ℕ) (from : ℕ) where
  -- `$` and a name
  pub lone_variable_at : (end : ℕ) → begins 36 (drop from text) ≡ true → end ≡ from + 1 + name_length 0 (drop (from + 1) text) → from + 1 < end →
      end ≤ length text → separates place (drop end text) ≡ true
      → after from (parts level (endings.Word place) 0 (drop from text)) ≡ takes (more (variable (take (end - (from + 1)) (drop (from + 1) text))) none) end
  lone_variable_at end e f later within ends =
      let name : List ℕ = take (end - (from + 1)) (drop (from + 1) text) in
      parts_at-part level (endings.Word place) text from end (variable name) (begins_at 36 text from e) (substitutes 36 place (dollar_on place) text from e)
      (ap (after (from + 1)) (part_at-dollar level text from (byte_at 36 text from e))
      ∙ dollar_at-variable level text (from + 1) end (named-braceless (drop (from + 1) text) (omega arith)) f (omega arith)
      (separates-parenless place (drop end text) ends))
      (omega arith)
      ∙ ap (map_read (with_part (variable name))) (ended_at (endings.Word place) text end within ends level)

  module _ (bracket : begins 91 (drop from text) ≡ true) where
    -- a script in brackets, and the parts after it
    pub more_script_at : (inside : List ℕ) (close : ℕ) → after (from + 1) (level.brackets (drop (from + 1) text)) ≡ takes inside close → from < close
        → after from (parts level (endings.Word place) 0 (drop from text)) ≡ map_read (with_part (script inside))
        (after (close + 1) (parts level (endings.Word place) 0 (drop (close + 1) text)))
    more_script_at inside close e later =
        parts_at-part level (endings.Word place) text from (close + 1) (script inside) (begins_at 91 text from bracket)
        (substitutes 91 place (bracket_on place) text from bracket)
        (part_at-script level text from inside close (byte_at 91 text from bracket) e) (omega arith)

    -- a script in brackets alone
    pub lone_script_at : (inside : List ℕ) (close : ℕ) → after (from + 1) (level.brackets (drop (from + 1) text)) ≡ takes inside close → from < close →
        close + 1 ≤ length text → separates place (drop (close + 1) text) ≡ true
        → after from (parts level (endings.Word place) 0 (drop from text)) ≡ takes (more (script inside) none) (close + 1)
    lone_script_at inside close e later within ends =
        more_script_at inside close e later ∙ ap (map_read (with_part (script inside))) (ended_at (endings.Word place) text (close + 1) within ends level)

    pub script_at-fault : (fault : ParseFault) → after (from + 1) (level.brackets (drop (from + 1) text)) ≡ fails fault →
        after from (parts level (endings.Word place) 0 (drop from text)) ≡ fails fault
    script_at-fault fault e =
        parts_at-fault level (endings.Word place) text from fault (begins_at 91 text from bracket) (substitutes 91 place (bracket_on place) text from bracket)
        (part_at-script_fault level text from fault (byte_at 91 text from bracket) e)
