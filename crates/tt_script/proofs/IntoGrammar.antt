-- What the readers read stands in the grammar.
use Rattle.std.proofs.Common.{◌≡◌, ℕ, zero, suc, pred, ◌+◌, ◌-◌, ◌<◌, ◌≤◌, Bool, true, false, ◌==◌, ◌&&◌, ◌||◌, List}
use Rattle.std.proofs.Common.{[], ◌∷◌, ◌++◌, length, drop, take, refl, ap, sym, ◌∙◌, subst, arith, Option, Some, None}
use Rattle.std.proofs.lemmas.List.{drop-drop, length-drop, length-take, take_at, drop_at}
use Rattle.std.proofs.lemmas.List.Sums.{prefix_len-le-length}
use Rattle.std.proofs.lemmas.Bool.{ne_eqb, ltb-true, ltb-false, eqb-true, eqb-false}
use Rattle.std.specs.Prelude.{nat_lt, if◌then◌else◌}
use Rattle.std.specs.List.{position_or_len, prefix_len}
use Rattle.tt_text.specs.Characters.{is_white_space, is_blank}
use Rattle.tt_text.specs.Braces.{matching_brace}
use Rattle.tt_text.proofs.BraceLemmas.{matching_brace_law}
use Rattle.tt_script.specs.Words.{PlainPart, element, script, PlainParts, with_part, PlainWord}
use Rattle.tt_script.specs.Reading.{Read, takes, fails, after, map_read, and_then, begins, separates, before_separator}
use Rattle.tt_script.specs.Reading.{continues_line, ends_command, ends_parts, expands, letters_of, joined_lines}
use Rattle.tt_script.specs.Reading.{name_length, is_name_byte, part_of_name, Level, level, part, parts, parts_at_end, dollar}
use Rattle.tt_script.specs.Reading.{braced_variable, word_parts, quoted_word, braced, word, words, gap, skipped, commands}
use Rattle.tt_script.specs.Grammar.{IsGap, begins_gap, begins_skipped, IsNamed, IsPart, byte_part, escape_part}
use Rattle.tt_script.specs.Grammar.{script_part, variable_part, element_part, braced_part, dollar_part, IsParts}
use Rattle.tt_script.specs.Grammar.{parts_end, parts_more, IsWordParts, in_quotes, in_braces, bare, IsWord, expanded}
use Rattle.tt_script.specs.Grammar.{whole_word, IsWords, last_word, next_word, IsCommands, no_command, one_command}
use Rattle.tt_script.specs.declared.command.ParseFault.{ParseFault}
use Rattle.tt_script.specs.declared.command.ParseFault.TheVariants.{AfterQuote, VariableBrace, CloseBracket}
use Rattle.tt_script.specs.declared.command.Place.{Place}
use Rattle.tt_script.specs.declared.command.Place.TheVariants as places
use Rattle.tt_script.specs.declared.command.Ending.{Ending}
use Rattle.tt_script.specs.declared.command.Ending.TheVariants as endings
use Rattle.tt_script.proofs.IntoCuts.{gap_is, gap_end-none, skipped_is, skipped_end-none, drop_none, or_both}
use Rattle.tt_script.proofs.NameCuts.{name_is, named-none}
use Rattle.tt_script.proofs.Naming.{name-letter, name-colons, name-none}
use Rattle.tt_script.proofs.Readers.{braced-closed, braced-after, braced-open}
use Rattle.tt_script.proofs.PartSteps.{index-too_deep, brackets-too_deep, index-deeper, dollar-braced, dollar-named}
use Rattle.tt_script.proofs.PartSteps.{dollar-itself, named-element, named-variable, part-dollar, part-brackets}
use Rattle.tt_script.proofs.PartSteps.{part-escape, part-letter, parts-end, parts-part, parts-fault}
use Rattle.tt_script.proofs.CommandSteps.{brackets-deeper, quoted-on, separated-yes, separated-none, parts-quoted}
use Rattle.tt_script.proofs.CommandSteps.{parts-braced, parts-bare, made, word-expands, word-plain, words-one}
use Rattle.tt_script.proofs.CommandSteps.{words-more, words-fault, commands-closed, commands-ended, commands-more}
use Rattle.tt_script.proofs.CommandSteps.{commands-fault, after-takes, no-separator, no_white, no_newline}
use Rattle.tt_script.proofs.FromGrammar.{mapped-takes, word_parts_some}

-- ---- reads that answer ----

pub takes-value : {A : Type 0} {v w : A} {m n : ℕ} → takes v m ≡ takes w n → v ≡ w
takes-value e = cc

pub takes-count : {A : Type 0} {v w : A} {m n : ℕ} → takes v m ≡ takes w n → m ≡ n
takes-count e = cc

pub no_takes : {A : Type 0} {fault : ParseFault} {v : A} {n : ℕ} → fails fault ≡ takes v n → ⊥
no_takes e = cc

and_then-takes : {A B : Type 0} (r : Read A) (f : A → ℕ → Read B) (v : B) (n : ℕ) → and_then r f ≡ takes v n → (w : A) × (m : ℕ) × (r ≡ takes w m)
    × (f w m ≡ takes v n)
and_then-takes (takes w m) f v n e = (w, m, refl, e)
and_then-takes (fails fault) f v n e = absurd (no_takes e)

-- ---- cuts ----

joined : (n : ℕ) (text : List ℕ) → text ≡ take n text ++ drop n text
joined zero text = refl
joined (suc n) [] = refl
joined (suc n) (b ∷ text) = ap (λ t. b ∷ t) (joined n text)

begins-cons : (c : ℕ) (text : List ℕ) → begins c text ≡ true → (d : ℕ) × (d ≡ c) × (text ≡ d ∷ drop 1 text)
begins-cons c [] e = cc
begins-cons c (b ∷ text) e = (b, eqb-true b c e, refl)

-- a place with a byte, and the text after it
pub byte_at : (n c : ℕ) (text : List ℕ) → begins c (drop n text) ≡ true → (d : ℕ) × (d ≡ c) × (drop n text ≡ d ∷ drop (n + 1) text)
byte_at n c text e =
    let b = begins-cons c (drop n text) e in
    (b.0, b.1, b.2 ∙ ap (λ t. b.0 ∷ t) (drop-drop 1 n text))

name_within : (k : ℕ) (text : List ℕ) → k ≤ length text → name_length k text ≤ length text
unfolding name_length
name_within k [] h = h
name_within (suc k) (b ∷ text) h = omega (arith, name_within k text (omega arith))
name_within zero (b ∷ text) h =
    go (is_name_byte b) ((b == 58) && begins 58 text) refl refl (name_within 0 text (omega arith))
    (name_within (prefix_len (λ c. c == 58) text) text (prefix_len-le-length (λ c. c == 58) text))
  where
    go : (v w : Bool) → is_name_byte b ≡ v → (b == 58) && begins 58 text ≡ w → name_length 0 text ≤ length text →
        name_length (prefix_len (λ c. c == 58) text) text ≤ length text → name_length 0 (b ∷ text) ≤ suc (length text)
    go true w e f one two = omega (arith, name-letter b text e)
    go false true e f one two = omega (arith, name-colons b text e f)
    go false false e f one two = omega (arith, name-none b text e f)

-- ---- what `$` begins ----

-- the name that is read is the longest, and isn't empty
pub named_is : (text : List ℕ) → nat_lt 0 (name_length 0 text) ≡ true → IsNamed text (take (name_length 0 text) text) (drop (name_length 0 text) text)
named_is text e =
    let n : ℕ = name_length 0 text in
    let size : length (take n text) ≡ n = omega (arith, length-take n text, name_within 0 text (omega arith)) in
    record {
      cut = joined n text;
      longest = name_is 0 text;
      some = λ none_left. no_length (take n text) none_left (omega (arith, size, ltb-true 0 n e));
    }
  where
    no_length : (xs : List ℕ) → xs ≡ [] → 0 < length xs → ⊥
    no_length xs e h = omega (arith, ap length e)

position-none : (p : ℕ → Bool) (b : ℕ) (text : List ℕ) → p b ≡ true → position_or_len p (b ∷ text) ≡ 0
position-none p b text e = rw e

position-more : (p : ℕ → Bool) (b : ℕ) (text : List ℕ) → p b ≡ false → position_or_len p (b ∷ text) ≡ suc (position_or_len p text)
position-more p b text e = rw e (omega arith)

-- the first byte of a kind stands at its place, and none before it
position_stop : (text : List ℕ) → position_or_len (λ x. x == 125) text < length text → begins 125 (drop (position_or_len (λ x. x == 125) text) text) ≡ true
position_stop [] h = absurd (omega arith)
position_stop (b ∷ text) h = go (b == 125) refl (position_stop text)
  where
    go : (v : Bool) → (b == 125) ≡ v →
        (position_or_len (λ x. x == 125) text < length text → begins 125 (drop (position_or_len (λ x. x == 125) text) text) ≡ true) →
        begins 125 (drop (position_or_len (λ x. x == 125) (b ∷ text)) (b ∷ text)) ≡ true
    go true e next = ap (λ k. begins 125 (drop k (b ∷ text))) (position-none (λ x. x == 125) b text e) ∙ e
    go false e next =
        ap (λ k. begins 125 (drop k (b ∷ text))) (position-more (λ x. x == 125) b text e) ∙ next (omega (arith, position-more (λ x. x == 125) b text e))

position_take : (text : List ℕ) →
    position_or_len (λ x. x == 125) (take (position_or_len (λ x. x == 125) text) text) ≡ length (take (position_or_len (λ x. x == 125) text) text)
position_take [] = refl
position_take (b ∷ text) = go (b == 125) refl (position_take text)
  where
    F : List ℕ → ℕ
    F = position_or_len (λ x. x == 125)

    go : (v : Bool) → (b == 125) ≡ v → F (take (F text) text) ≡ length (take (F text) text) →
        F (take (F (b ∷ text)) (b ∷ text)) ≡ length (take (F (b ∷ text)) (b ∷ text))
    go true e next =
        ap (λ k. F (take k (b ∷ text))) (position-none (λ x. x == 125) b text e)
        ∙ sym (ap (λ k. length (take k (b ∷ text))) (position-none (λ x. x == 125) b text e))
    go false e next =
        ap (λ k. F (take k (b ∷ text))) (position-more (λ x. x == 125) b text e) ∙ position-more (λ x. x == 125) b (take (F text) text) e ∙ ap suc next
        ∙ sym (ap (λ k. length (take k (b ∷ text))) (position-more (λ x. x == 125) b text e))

braced_is : (depth b c : ℕ) (text : List ℕ) (p : PlainPart) (n : ℕ) → b ≡ 36 → c ≡ 123 → braced_variable text ≡ takes p n →
    IsPart depth (b ∷ c ∷ text) p (drop n text)
braced_is depth b c text p n e f r = go (nat_lt m (length text)) refl
  where
    m : ℕ
    m = position_or_len (λ x. x == 125) text

    go : (v : Bool) → nat_lt m (length text) ≡ v → IsPart depth (b ∷ c ∷ text) p (drop n text)
    go false g = absurd (no_takes (sym (ap (λ v. if v then takes (part_of_name (take m text)) (m + 1) else fails VariableBrace) g) ∙ r))
    go true g =
        let same = sym (ap (λ v. if v then takes (part_of_name (take m text)) (m + 1) else fails VariableBrace) g) ∙ r in
        let count : m + 1 ≡ n = takes-count same in
        let closing = byte_at m 125 text (position_stop text (ltb-true m (length text) g)) in
        braced_part (take m text) e f closing.1 (joined m text ∙ ap (λ t. take m text ++ t) (closing.2 ∙ ap (λ k. closing.0 ∷ drop k text) count))
        (position_take text) (sym (takes-value same))

-- ---- a level in ----

pub parts-passes_one : (level : Level) (ending : Ending) (k b : ℕ) (text : List ℕ) → parts level ending (suc k) (b ∷ text) ≡ after 1 (parts level ending k text)
unfolding parts
parts-passes_one level ending k b text = refl

pub words-passes_one : (place : Place) (level : Level) (k b : ℕ) (text : List ℕ) → words place level (suc k) (b ∷ text) ≡ after 1 (words place level k text)
unfolding words
words-passes_one place level k b text = refl

pub commands-passes_one : (level : Level) (k b : ℕ) (text : List ℕ) → commands level (suc k) (b ∷ text) ≡ after 1 (commands level k text)
unfolding commands
commands-passes_one level k b text = refl

pub commands-none : (level : Level) (k : ℕ) → commands level k [] ≡ fails CloseBracket
unfolding commands
commands-none level k = refl

pub parts-none : (level : Level) (ending : Ending) (k : ℕ) → parts level ending k [] ≡ after k (parts_at_end ending)
unfolding parts
parts-none level ending k = refl

-- the readers of a level read what the grammar has one level in
abbrev pub IndexIs : ℕ → List ℕ → PlainParts → ℕ → Type 0
IndexIs zero text value n = ⊥
IndexIs (suc depth) text value n = IsParts depth endings.Parenthesis text value (drop n text)

abbrev pub BracketsIs : ℕ → List ℕ → List ℕ → ℕ → Type 0
BracketsIs zero text inside n = ⊥
BracketsIs (suc depth) text inside n = (inside ≡ take n text) × IsCommands depth text (drop n text) × (begins 93 (drop n text) ≡ true)

pub record Sound (depth : ℕ) : Type 0 where
  pub index : (text : List ℕ) (value : PlainParts) (n : ℕ) → (level depth).index text ≡ takes value n → IndexIs depth text value n
  pub brackets : (text inside : List ℕ) (n : ℕ) → (level depth).brackets text ≡ takes inside n → BracketsIs depth text inside n

pub parts_closed : {depth : ℕ} {ending : Ending} {text rest : List ℕ} {value : PlainParts} → IsParts depth ending text value rest →
    ends_parts ending rest ≡ true
parts_closed (parts_end e) = e
parts_closed (parts_more e p ps w) = parts_closed ps

element_is : (depth b : ℕ) (text : List ℕ) (index : PlainParts) (m n : ℕ) → b ≡ 36 → IsNamed text (take n text) (drop n text) →
    begins 40 (drop n text) ≡ true → IndexIs depth (drop (n + 1) text) index m →
    IsPart depth (b ∷ text) (element (take n text) index) (drop (n + 1 + m + 1) text)
element_is zero b text index m n e h f i = absurd i
element_is (suc depth) b text index m n e h f i =
    let opening = byte_at n 40 text f in
    let named_cut : IsNamed text (take n text) (opening.0 ∷ drop (n + 1) text) = subst (IsNamed text (take n text)) opening.2 h in
    let closing = byte_at m 41 (drop (n + 1) text) (parts_closed i) in
    let rest : drop (m + 1) (drop (n + 1) text) ≡ drop (n + 1 + m + 1) text = drop-drop (m + 1) (n + 1) text ∙ ap (λ k. drop k text) (sums (n + 1) m) in
    element_part e opening.1 closing.1 named_cut
    (subst (IsParts depth endings.Parenthesis (drop (n + 1) text) index) (closing.2 ∙ ap (λ t. closing.0 ∷ t) rest) i)
  where
    sums : (a b : ℕ) → a + (b + 1) ≡ a + b + 1
    sums a b = omega arith

script_is : (depth b : ℕ) (text inside : List ℕ) (n : ℕ) → b ≡ 91 → BracketsIs depth text inside n → IsPart depth (b ∷ text) (script inside) (drop (n + 1) text)
script_is zero b text inside n e i = absurd i
script_is (suc depth) b text inside n e i =
    let closing = byte_at n 93 text i.2 in
    script_part e closing.1 (joined n text ∙ ap (λ xs. xs ++ drop n text) (sym i.0) ∙ ap (λ t. inside ++ t) closing.2)
    (subst (IsCommands depth text) closing.2 i.1)

or_none : (p q : Bool) → p || q ≡ false → (p ≡ false) × (q ≡ false)
or_none false q e = (refl, e)
or_none true q e = cc

-- a word begins if neither a gap nor a terminator stands
pub word_begins : (place : Place) (text : List ℕ) → begins_gap text ≡ false → ends_command place text ≡ false → separates place text ≡ false
word_begins place [] e f = cc
word_begins place (b ∷ text) e f =
    let both = or_none (is_blank b) (continues_line b text) e in
    no-separator place b text (no_white b both.0 (no_newline place b f)) f both.1

-- a command begins if nothing is skipped
pub script_begins : (text : List ℕ) → begins_skipped text ≡ false → 0 < length text → separates places.Script text ≡ false
script_begins [] e h = absurd (omega arith)
script_begins (b ∷ text) e h =
    let outer = or_none ((is_white_space b || b == 59) || continues_line b text) (b == 35) e in
    let inner = or_none (is_white_space b || b == 59) (continues_line b text) outer.0 in
    let both = or_none (is_white_space b) (b == 59) inner.0 in
    no-separator places.Script b text both.0 (or_both (b == 10) (b == 59) (ne_eqb b 10 (λ same. white_newline b same both.0)) both.1) inner.1
  where
    white_newline : (b : ℕ) → b ≡ 10 → is_white_space b ≡ false → ⊥
    white_newline b same white = let true_here : is_white_space b ≡ true = ap is_white_space same in cc

pub command_begins : (text : List ℕ) → begins_skipped text ≡ false → begins 93 text ≡ false → 0 < length text → separates places.Brackets text ≡ false
command_begins [] e f h = absurd (omega arith)
command_begins (b ∷ text) e f h =
    let outer = or_none ((is_white_space b || b == 59) || continues_line b text) (b == 35) e in
    let inner = or_none (is_white_space b || b == 59) (continues_line b text) outer.0 in
    let both = or_none (is_white_space b) (b == 59) inner.0 in
    no-separator places.Brackets b text both.0
    (or_both (b == 10 || b == 59) (b == 93) (or_both (b == 10) (b == 59) (ne_eqb b 10 (λ same. white_newline b same both.0)) both.1) f) inner.1
  where
    white_newline : (b : ℕ) → b ≡ 10 → is_white_space b ≡ false → ⊥
    white_newline b same white = let true_here : is_white_space b ≡ true = ap is_white_space same in cc

module _ (depth : ℕ) (sound : Sound depth) where
  dollar_is : (b : ℕ) (text : List ℕ) (p : PlainPart) (n : ℕ) → b ≡ 36 → dollar (level depth) text ≡ takes p n → IsPart depth (b ∷ text) p (drop n text)
  dollar_is b text p n e r = go (begins 123 text) (nat_lt 0 (name_length 0 text)) (begins 40 (drop (name_length 0 text) text)) refl refl refl
    where
      k : ℕ
      k = name_length 0 text

      brace : (xs : List ℕ) → begins 123 xs ≡ true → (m : ℕ) → after 1 (braced_variable (drop 1 xs)) ≡ takes p m → IsPart depth (b ∷ xs) p (drop m xs)
      brace [] f m g = cc
      brace (c ∷ xs) f m g =
          let read = after-takes 1 m (braced_variable xs) p g in
          let count : suc (m - 1) ≡ m = omega (arith, read.1) in
          subst (λ j. IsPart depth (b ∷ c ∷ xs) p (drop j (c ∷ xs))) count (braced_is depth b c xs p (m - 1) e (eqb-true c 123 f) read.0)

      go : (u v w : Bool) → begins 123 text ≡ u → nat_lt 0 k ≡ v → begins 40 (drop k text) ≡ w → IsPart depth (b ∷ text) p (drop n text)
      go true v w f g h = brace text f n (sym (dollar-braced (level depth) text f) ∙ r)
      go false false w f g h =
          let same = sym (dollar-itself (level depth) text f g) ∙ r in
          let none_named : k ≡ 0 = omega (arith, ltb-false 0 k g) in
          subst (λ j. IsPart depth (b ∷ text) p (drop j text)) (takes-count same)
          (subst (λ q. IsPart depth (b ∷ text) q text) (takes-value same) (dollar_part e f (named-none text none_named)))
      go false true false f g h =
          let same = sym (dollar-named (level depth) text f g ∙ named-variable (level depth) text k h) ∙ r in
          subst (λ j. IsPart depth (b ∷ text) p (drop j text)) (takes-count same)
          (subst (λ q. IsPart depth (b ∷ text) q (drop k text)) (takes-value same) (variable_part e (named_is text g) h))
      go false true true f g h =
          let found = and_then-takes _ _ p n (sym (dollar-named (level depth) text f g ∙ named-element (level depth) text k h) ∙ r) in
          let read = after-takes (k + 1) found.1 ((level depth).index (drop (k + 1) text)) found.0 found.2 in
          let count : k + 1 + (found.1 - (k + 1)) + 1 ≡ n = omega (arith, read.1, takes-count found.3) in
          subst (λ j. IsPart depth (b ∷ text) p (drop j text)) count
          (subst (λ q. IsPart depth (b ∷ text) q (drop (k + 1 + (found.1 - (k + 1)) + 1) text)) (takes-value found.3)
          (element_is depth b text found.0 (found.1 - (k + 1)) k e (named_is text g) h
          (sound.index (drop (k + 1) text) found.0 (found.1 - (k + 1)) read.0)))

  pub part_is : (b : ℕ) (text : List ℕ) (p : PlainPart) (n : ℕ) → part (level depth) b text ≡ takes p n → IsPart depth (b ∷ text) p (drop n text)
  part_is b text p n r = go (b == 36) (b == 91) (b == 92) refl refl refl
    where
      go : (u v w : Bool) → (b == 36) ≡ u → (b == 91) ≡ v → (b == 92) ≡ w → IsPart depth (b ∷ text) p (drop n text)
      go true v w e f g = dollar_is b text p n (eqb-true b 36 e) (sym (part-dollar (level depth) b text e) ∙ r)
      go false true w e f g =
          let found = and_then-takes _ _ p n (sym (part-brackets (level depth) b text e f) ∙ r) in
          subst (λ j. IsPart depth (b ∷ text) p (drop j text)) (takes-count found.3)
          (subst (λ q. IsPart depth (b ∷ text) q (drop (found.1 + 1) text)) (takes-value found.3)
          (script_is depth b text found.0 found.1 (eqb-true b 91 f) (sound.brackets text found.0 found.1 found.2)))
      go false false true e f g =
          let same = sym (part-escape (level depth) b text e f g) ∙ r in
          escape_part (eqb-true b 92 g) (sym (takes-value same)) (ap (λ j. drop j text) (sym (takes-count same)))
      go false false false e f g =
          let same = sym (part-letter (level depth) b text e f g) ∙ r in
          subst (λ j. IsPart depth (b ∷ text) p (drop j text)) (takes-count same)
          (subst (λ q. IsPart depth (b ∷ text) q text) (takes-value same) (byte_part (eqb-false b 36 e) (eqb-false b 91 f) (eqb-false b 92 g)))

  pub parts_is : (ending : Ending) (k : ℕ) (text : List ℕ) (value : PlainParts) (n : ℕ) → parts (level depth) ending k text ≡ takes value n →
      IsParts depth ending (drop k text) value (drop n text)
  parts_is ending k [] value n r = at_all ending (sym (parts-none (level depth) ending k) ∙ r)
    where
      at_all : (e : Ending) → after k (parts_at_end e) ≡ takes value n → IsParts depth e (drop k []) value (drop n [])
      at_all (endings.Word place) q =
          subst (λ xs. IsParts depth (endings.Word place) xs value (drop n [])) (sym (drop_none k))
          (subst (λ xs. IsParts depth (endings.Word place) [] value xs) (sym (drop_none n))
          (subst (λ v. IsParts depth (endings.Word place) [] v []) (takes-value q) (parts_end refl)))
      at_all endings.Quote q = absurd (no_takes q)
      at_all endings.Parenthesis q = absurd (no_takes q)
  parts_is ending (suc k) (b ∷ text) value n r =
      let read = after-takes 1 n (parts (level depth) ending k text) value (sym (parts-passes_one (level depth) ending k b text) ∙ r) in
      let count : suc (n - 1) ≡ n = omega (arith, read.1) in
      subst (λ j. IsParts depth ending (drop k text) value (drop j (b ∷ text))) count (parts_is ending k text value (n - 1) read.0)
  parts_is ending zero (b ∷ text) value n r =
      go (ends_parts ending (b ∷ text)) refl (part (level depth) b text) refl (λ j others m. parts_is ending j text others m)
    where
      go : (v : Bool) → ends_parts ending (b ∷ text) ≡ v → (q : Read PlainPart) → part (level depth) b text ≡ q →
          ((j : ℕ) (others : PlainParts) (m : ℕ) → parts (level depth) ending j text ≡ takes others m →
          IsParts depth ending (drop j text) others (drop m text)) → IsParts depth ending (b ∷ text) value (drop n (b ∷ text))
      go true e q f next =
          let same = sym (parts-end (level depth) ending b text e) ∙ r in
          subst (λ j. IsParts depth ending (b ∷ text) value (drop j (b ∷ text))) (takes-count same)
          (subst (λ v. IsParts depth ending (b ∷ text) v (b ∷ text)) (takes-value same) (parts_end e))
      go false e (fails fault) f next = absurd (no_takes (sym (parts-fault (level depth) ending b text fault e f) ∙ r))
      go false e (takes first m) f next =
          let outer = after-takes 1 n (map_read (with_part first) (parts (level depth) ending m text)) value
          (sym (parts-part (level depth) ending b text first m e f) ∙ r) in
          let inner = mapped-takes (with_part first) (parts (level depth) ending m text) value (n - 1) outer.0 in
          let count : suc (n - 1) ≡ n = omega (arith, outer.1) in
          subst (λ j. IsParts depth ending (b ∷ text) value (drop j (b ∷ text))) count
          (parts_more e (part_is b text first m f) (next m inner.0 (n - 1) inner.1) (sym inner.2))

  -- ---- words ----

  closed_quote : (place : Place) (text : List ℕ) (value : PlainParts) (m : ℕ) → parts (level depth) endings.Quote 0 text ≡ takes value m →
      separates place (drop (m + 1) text) ≡ true → (b : ℕ) → b ≡ 34 → IsWordParts depth place (b ∷ text) value (drop (m + 1) text)
  closed_quote place text value m r f b e =
      let derived = parts_is endings.Quote 0 text value m r in
      let closing = byte_at m 34 text (parts_closed derived) in
      in_quotes e closing.1 (subst (IsParts depth endings.Quote text value) closing.2 derived) f

  quoted_is : (place : Place) (b : ℕ) (text : List ℕ) (value : PlainParts) (n : ℕ) → b ≡ 34 → quoted_word place (level depth) text ≡ takes value n →
      IsWordParts depth place (b ∷ text) value (drop n text)
  quoted_is place b text value n e r =
      let found = and_then-takes (parts (level depth) endings.Quote 0 text) _ value n (sym (quoted-on place (level depth) text) ∙ r) in
      go found.0 found.1 found.2 found.3 (separates place (drop (found.1 + 1) text)) refl
    where
      go : (w : PlainParts) (m : ℕ) → parts (level depth) endings.Quote 0 text ≡ takes w m → before_separator place AfterQuote text w (m + 1) ≡ takes value n →
          (v : Bool) → separates place (drop (m + 1) text) ≡ v → IsWordParts depth place (b ∷ text) value (drop n text)
      go w m f g false h = absurd (no_takes (sym (separated-none place AfterQuote text w (m + 1) h) ∙ g))
      go w m f g true h =
          let same = sym (separated-yes place AfterQuote text w (m + 1) h) ∙ g in
          subst (λ j. IsWordParts depth place (b ∷ text) value (drop j text)) (takes-count same)
          (subst (λ v. IsWordParts depth place (b ∷ text) v (drop (m + 1) text)) (takes-value same) (closed_quote place text w m f h b e))

  brace_is : (place : Place) (b : ℕ) (text : List ℕ) (value : PlainParts) (n : ℕ) → b ≡ 123 → braced place text ≡ takes value n →
      IsWordParts depth place (b ∷ text) value (drop n text)
  brace_is place b text value n e r = go (matching_brace text) refl
    where
      closes : (m : ℕ) → matching_brace text ≡ Some m → (v : Bool) → separates place (drop (m + 1) text) ≡ v →
          IsWordParts depth place (b ∷ text) value (drop n text)
      closes m f false h = absurd (no_takes (sym (braced-after place text m f h) ∙ r))
      closes m f true h =
          let same = sym (braced-closed place text m f h) ∙ r in
          let at_brace = (matching_brace_law text m).0 f in
          let inner : take m text ≡ at_brace.inner = ap (take m) at_brace.cut ∙ take_at at_brace.inner (125 ∷ at_brace.rest) m at_brace.place in
          let rest : drop (m + 1) text ≡ at_brace.rest =
          sym (drop-drop 1 m text) ∙ ap (λ t. drop 1 (drop m t)) at_brace.cut
          ∙ ap (drop 1) (drop_at at_brace.inner (125 ∷ at_brace.rest) m at_brace.place) in
          subst (λ j. IsWordParts depth place (b ∷ text) value (drop j text)) (takes-count same)
          (subst (λ t. IsWordParts depth place (b ∷ text) value t) (sym rest)
          (in_braces at_brace.inner e refl at_brace.cut at_brace.balanced (ap (separates place) (sym rest) ∙ h)
          (sym (takes-value same) ∙ ap (λ xs. letters_of (joined_lines 0 xs)) inner)))

      go : (o : Option ℕ) → matching_brace text ≡ o → IsWordParts depth place (b ∷ text) value (drop n text)
      go None f = absurd (no_takes (sym (braced-open place text f) ∙ r))
      go (Some m) f = closes m f (separates place (drop (m + 1) text)) refl

  word_parts_is : (place : Place) (text : List ℕ) (value : PlainParts) (n : ℕ) → word_parts place (level depth) text ≡ takes value n →
      IsWordParts depth place text value (drop n text)
  word_parts_is place [] value n r = bare refl refl (parts_is (endings.Word place) 0 [] value n (sym (parts-bare place (level depth) [] refl refl) ∙ r))
  word_parts_is place (b ∷ text) value n r = go (b == 34) (b == 123) refl refl
    where
      go : (v w : Bool) → (b == 34) ≡ v → (b == 123) ≡ w → IsWordParts depth place (b ∷ text) value (drop n (b ∷ text))
      go true w e f =
          let read = after-takes 1 n (quoted_word place (level depth) text) value (sym (parts-quoted place (level depth) (b ∷ text) e) ∙ r) in
          let count : suc (n - 1) ≡ n = omega (arith, read.1) in
          subst (λ j. IsWordParts depth place (b ∷ text) value (drop j (b ∷ text))) count (quoted_is place b text value (n - 1) (eqb-true b 34 e) read.0)
      go false true e f =
          let read = after-takes 1 n (braced place text) value (sym (parts-braced place (level depth) (b ∷ text) e f) ∙ r) in
          let count : suc (n - 1) ≡ n = omega (arith, read.1) in
          subst (λ j. IsWordParts depth place (b ∷ text) value (drop j (b ∷ text))) count (brace_is place b text value (n - 1) (eqb-true b 123 f) read.0)
      go false false e f = bare e f (parts_is (endings.Word place) 0 (b ∷ text) value n (sym (parts-bare place (level depth) (b ∷ text) e f) ∙ r))

  pub word_is : (place : Place) (text : List ℕ) (w : PlainWord) (n : ℕ) → separates place text ≡ false → word place (level depth) text ≡ takes w n →
      IsWord depth place text w (drop n text) × (0 < n)
  word_is place text w n h r = go (expands text) refl
    where
      go : (v : Bool) → expands text ≡ v → IsWord depth place text w (drop n text) × (0 < n)
      go true e =
          let outer = after-takes 3 n (map_read (made true) (word_parts place (level depth) (drop 3 text))) w
          (sym (word-expands place (level depth) text e) ∙ r) in
          let inner = mapped-takes (made true) (word_parts place (level depth) (drop 3 text)) w (n - 3) outer.0 in
          let count : 3 + (n - 3) ≡ n = omega (arith, outer.1) in (
            subst (λ t. IsWord depth place text w t) (drop-drop (n - 3) 3 text ∙ ap (λ j. drop j text) count)
                (subst (λ q. IsWord depth place text q (drop (n - 3) (drop 3 text))) inner.2
                (expanded e (word_parts_is place (drop 3 text) inner.0 (n - 3) inner.1))),
            omega (arith, outer.1),
          )
      go false e =
          let inner = mapped-takes (made false) (word_parts place (level depth) text) w n (sym (word-plain place (level depth) text e) ∙ r) in (
            subst (λ q. IsWord depth place text q (drop n text)) inner.2
                (whole_word h e (word_parts_is place text inner.0 n inner.1)),
            word_parts_some place (level depth) text inner.0 n h inner.1,
          )

  pub words_is : (place : Place) (k : ℕ) (text : List ℕ) (ws : List PlainWord) (n : ℕ) → separates place (drop k text) ≡ false →
      words place (level depth) k text ≡ takes ws n → IsWords depth place (drop k text) ws (drop n text) × (k < n)
  words_is place k [] ws n h r = let here : separates place [] ≡ false = ap (separates place) (sym (drop_none k)) ∙ h in cc
  words_is place (suc k) (b ∷ text) ws n h r =
      let read = after-takes 1 n (words place (level depth) k text) ws (sym (words-passes_one place (level depth) k b text) ∙ r) in
      let count : suc (n - 1) ≡ n = omega (arith, read.1) in
      let rest = words_is place k text ws (n - 1) h read.0 in
      (subst (λ j. IsWords depth place (drop k text) ws (drop j (b ∷ text))) count rest.0, omega (arith, rest.1))
  words_is place zero (b ∷ text) ws n h r = go (word place (level depth) (b ∷ text)) refl (λ j others m. words_is place j text others m)
    where
      xs : List ℕ
      xs = b ∷ text

      go : (q : Read PlainWord) → word place (level depth) (b ∷ text) ≡ q →
          ((j : ℕ) (others : List PlainWord) (m : ℕ) → separates place (drop j text) ≡ false → words place (level depth) j text ≡ takes others m →
          IsWords depth place (drop j text) others (drop m text) × (j < m)) → IsWords depth place (b ∷ text) ws (drop n (b ∷ text)) × (0 < n)
      go (fails fault) e next = absurd (no_takes (sym (words-fault place (level depth) b text fault e) ∙ r))
      go (takes first m) e next =
          after_word first m e (word_is place (b ∷ text) first m h e) (ends_command place (drop (m + gap 0 (drop m (b ∷ text))) (b ∷ text))) refl
        where
          after_word : (first : PlainWord) (m : ℕ) → word place (level depth) (b ∷ text) ≡ takes first m →
              IsWord depth place (b ∷ text) first (drop m (b ∷ text)) × (0 < m) → (v : Bool) →
              ends_command place (drop (m + gap 0 (drop m (b ∷ text))) (b ∷ text)) ≡ v → IsWords depth place (b ∷ text) ws (drop n (b ∷ text)) × (0 < n)
          after_word first m e this true f =
              let same = sym (words-one place (level depth) b text first m e f) ∙ r in
              let next_place : drop (gap 0 (drop m xs)) (drop m xs) ≡ drop (m + gap 0 (drop m xs)) xs = drop-drop (gap 0 (drop m xs)) m xs in (
                subst (λ j. IsWords depth place xs ws (drop j xs)) (takes-count same)
                    (subst (λ v. IsWords depth place xs v (drop m xs)) (takes-value same)
                    (last_word this.0 (gap_is 0 (drop m xs)) (ap (ends_command place) next_place ∙ f))),
                omega (arith, takes-count same, this.1),
              )
          after_word first m e this false f =
              let g : ℕ = gap 0 (drop m xs) in
              let j : ℕ = pred (m + g) in
              let count : suc j ≡ m + g = omega (arith, this.1) in
              let next_place : drop g (drop m xs) ≡ drop (m + g) xs = drop-drop g m xs in
              let front : drop (m + g) xs ≡ drop j text = ap (λ i. drop i xs) (sym count) in
              let gap_here : IsGap (drop m xs) (drop j text) = subst (IsGap (drop m xs)) (next_place ∙ front) (gap_is 0 (drop m xs)) in
              let unended : ends_command place (drop j text) ≡ false = ap (ends_command place) (sym front) ∙ f in
              let begins_word : separates place (drop j text) ≡ false = word_begins place (drop j text) (gap_end-none gap_here) unended in
              let outer = after-takes 1 n (map_read (λ others. first ∷ others) (words place (level depth) j text)) ws
              (sym (words-more place (level depth) b text first m e f) ∙ r) in
              let inner = mapped-takes (λ others. first ∷ others) (words place (level depth) j text) ws (n - 1) outer.0 in
              let size : suc (n - 1) ≡ n = omega (arith, outer.1) in
              let rest = next j inner.0 (n - 1) begins_word inner.1 in (
                subst (λ i. IsWords depth place xs ws (drop i xs)) size
                    (subst (λ v. IsWords depth place xs v (drop (n - 1) text)) inner.2 (next_word this.0 gap_here unended rest.0)),
                omega (arith, outer.1),
              )

  -- ---- commands ----

  pub commands_is : (k : ℕ) (text : List ℕ) (n : ℕ) → commands (level depth) k text ≡ takes tt n → IsCommands depth (drop k text) (drop n text)
      × (begins 93 (drop n text) ≡ true)
  commands_is k [] n r = absurd (no_takes (sym (commands-none (level depth) k) ∙ r))
  commands_is (suc k) (b ∷ text) n r =
      let read = after-takes 1 n (commands (level depth) k text) tt (sym (commands-passes_one (level depth) k b text) ∙ r) in
      let count : suc (n - 1) ≡ n = omega (arith, read.1) in
      let rest = commands_is k text (n - 1) read.0 in
      (subst (λ j. IsCommands depth (drop k text) (drop j (b ∷ text))) count rest.0, subst (λ j. begins 93 (drop j (b ∷ text)) ≡ true) count rest.1)
  commands_is zero (b ∷ text) n r =
      go (begins 93 start) refl (nat_lt s (length xs)) refl (words places.Brackets (level depth) 0 start) refl (λ j m. commands_is j text m)
    where
      xs : List ℕ
      xs = b ∷ text

      s : ℕ
      s = skipped 0 (b ∷ text)

      start : List ℕ
      start = drop s (b ∷ text)

      go : (v : Bool) → begins 93 (drop (skipped 0 (b ∷ text)) (b ∷ text)) ≡ v → (u : Bool) → nat_lt (skipped 0 (b ∷ text)) (length (b ∷ text)) ≡ u →
          (q : Read (List PlainWord)) → words places.Brackets (level depth) 0 (drop (skipped 0 (b ∷ text)) (b ∷ text)) ≡ q →
          ((j m : ℕ) → commands (level depth) j text ≡ takes tt m → IsCommands depth (drop j text) (drop m text) × (begins 93 (drop m text) ≡ true)) →
          IsCommands depth (b ∷ text) (drop n (b ∷ text)) × (begins 93 (drop n (b ∷ text)) ≡ true)
      go true e u f q g next =
          let same = takes-count (sym (commands-closed (level depth) b text e) ∙ r) in
          (subst (λ j. IsCommands depth xs (drop j xs)) same (no_command (skipped_is 0 xs) e), subst (λ j. begins 93 (drop j xs) ≡ true) same e)
      go false e false f q g next = absurd (no_takes (sym (commands-ended (level depth) b text e f) ∙ r))
      go false e true f (fails fault) g next = absurd (no_takes (sym (commands-fault (level depth) b text fault e f g) ∙ r))
      go false e true f (takes ws m) g next =
          let room : 0 < length start = omega (arith, ltb-true s (length xs) f, length-drop s xs) in
          let found = words_is places.Brackets 0 start ws m (command_begins start (skipped_end-none (skipped_is 0 xs)) e room) g in
          let j : ℕ = pred (s + m) in
          let count : suc j ≡ s + m = omega (arith, found.1) in
          let rest_at : drop m start ≡ drop j text = drop-drop m s xs ∙ ap (λ i. drop i xs) (sym count) in
          let read = after-takes 1 n (commands (level depth) j text) tt (sym (commands-more (level depth) b text ws m e f g) ∙ r) in
          let size : suc (n - 1) ≡ n = omega (arith, read.1) in
          let rest = next j (n - 1) read.0 in (
            subst (λ i. IsCommands depth xs (drop i xs)) size
                (one_command (skipped_is 0 xs) e (subst (IsWords depth places.Brackets start ws) rest_at found.0) rest.0),
            subst
                (λ i. begins 93 (drop i xs) ≡ true) size rest.1,
          )

-- every level reads what the grammar has
pub sound : (depth : ℕ) → Sound depth
sound zero = record {
  index = λ text value n r. absurd (no_takes (sym (index-too_deep text) ∙ r));
  brackets = λ text inside n r. absurd (no_takes (sym (brackets-too_deep text) ∙ r));
}
sound (suc depth) = record {
  index = λ text value n r. parts_is depth (sound depth) endings.Parenthesis 0 text value n (sym (index-deeper depth text) ∙ r);
  brackets = λ text inside n r.
      (let found = and_then-takes (commands (level depth) 0 text) (λ _ m. takes (take m text) m) inside n (sym (brackets-deeper depth text) ∙ r) in
      let size = takes-count found.3 in
      let here = commands_is depth (sound depth) 0 text found.1 found.2 in (
        sym (takes-value found.3)
            ∙ ap (λ m. take m text) size,
        subst (λ m. IsCommands depth text (drop m text)) size here.0,
        subst (λ m. begins 93 (drop m text) ≡ true) size here.1,
      ));
}

pub words_stand : (depth : ℕ) (text : List ℕ) (ws : List PlainWord) (n : ℕ) → separates places.Script text ≡ false →
    words places.Script (level depth) 0 text ≡ takes ws n → IsWords depth places.Script text ws (drop n text) × (0 < n)
words_stand depth text ws n h r = words_is depth (sound depth) places.Script 0 text ws n h r
