-- The fault that the readers meet, the text has.
use Rattle.std.proofs.Common.{◌≡◌, ℕ, zero, suc, pred, ◌+◌, ◌<◌, ◌≤◌, Bool, true, false, ◌==◌, List, [], ◌∷◌, ◌++◌}
use Rattle.std.proofs.Common.{length, drop, take, refl, ap, sym, ◌∙◌, subst, arith, Option, Some, None}
use Rattle.std.proofs.lemmas.List.{drop-drop, length-drop, drop_all, drop_at}
use Rattle.std.proofs.lemmas.Bool.{ltb-true, ltb-false, eqb-true}
use Rattle.std.specs.Prelude.{nat_lt, if◌then◌else◌}
use Rattle.std.specs.List.{position_or_len}
use Rattle.tt_text.specs.Braces.{matching_brace}
use Rattle.tt_text.proofs.BraceLemmas.{matching_brace_law}
use Rattle.tt_script.specs.Words.{PlainPart, element, script, PlainParts, with_part, PlainWord}
use Rattle.tt_script.specs.Reading.{Read, takes, fails, after, map_read, and_then, begins, separates, before_separator}
use Rattle.tt_script.specs.Reading.{ends_command, ends_parts, expands, name_length, part_of_name, level, part, parts}
use Rattle.tt_script.specs.Reading.{parts_at_end, dollar, braced_variable, word_parts, quoted_word, braced, word, words, gap}
use Rattle.tt_script.specs.Reading.{skipped, commands}
use Rattle.tt_script.specs.Grammar.{IsGap, IsSkipped, skip_ends, IsNamed, IsParts, IsWord, IsWords}
use Rattle.tt_script.specs.FaultGrammar.{IsUnclosed, IsPartFault, bracket_too_deep, bracket_fault, index_too_deep}
use Rattle.tt_script.specs.FaultGrammar.{index_fault, name_unclosed, IsPartsFault, quote_unclosed, index_unclosed}
use Rattle.tt_script.specs.FaultGrammar.{this_part, later_part, IsWordPartsFault, quotes_fault, after_quotes}
use Rattle.tt_script.specs.FaultGrammar.{braces_unclosed, after_braces, bare_fault, IsWordFault, expanded_fault}
use Rattle.tt_script.specs.FaultGrammar.{whole_fault, IsWordsFault, this_word, later_word, IsCommandsFault}
use Rattle.tt_script.specs.FaultGrammar.{bracket_unclosed, this_command, later_command}
use Rattle.tt_script.specs.declared.command.ParseFault.{ParseFault}
use Rattle.tt_script.specs.declared.command.ParseFault.TheVariants.{AfterQuote, VariableBrace, TooDeep}
use Rattle.tt_script.specs.declared.command.Place.{Place}
use Rattle.tt_script.specs.declared.command.Place.TheVariants as places
use Rattle.tt_script.specs.declared.command.Ending.{Ending}
use Rattle.tt_script.specs.declared.command.Ending.TheVariants as endings
use Rattle.tt_script.proofs.IntoCuts.{gap_is, gap_end-none, skipped_is, skipped_end-none, drop_none}
use Rattle.tt_script.proofs.Readers.{braced-closed, braced-after, braced-open}
use Rattle.tt_script.proofs.PartSteps.{index-too_deep, brackets-too_deep, index-deeper, dollar-braced, dollar-named}
use Rattle.tt_script.proofs.PartSteps.{dollar-itself, named-element, named-variable, part-dollar, part-brackets}
use Rattle.tt_script.proofs.PartSteps.{part-escape, part-letter, parts-end, parts-part, parts-fault}
use Rattle.tt_script.proofs.CommandSteps.{brackets-deeper, quoted-on, separated-yes, separated-none, parts-quoted}
use Rattle.tt_script.proofs.CommandSteps.{parts-braced, parts-bare, made, word-expands, word-plain, words-one}
use Rattle.tt_script.proofs.CommandSteps.{words-more, words-fault, commands-closed, commands-ended, commands-more}
use Rattle.tt_script.proofs.CommandSteps.{commands-fault, after-fails}
use Rattle.tt_script.proofs.IntoGrammar.{byte_at, named_is, parts-passes_one, words-passes_one, commands-passes_one}
use Rattle.tt_script.proofs.IntoGrammar.{commands-none, parts-none, parts_closed, word_begins, command_begins, sound}
use Rattle.tt_script.proofs.IntoGrammar.{part_is, parts_is, word_is, words_is}

-- ---- reads that fail ----

no_fails : {A : Type 0} {fault : ParseFault} {v : A} {n : ℕ} → takes v n ≡ fails fault → ⊥
no_fails e = cc

same_fault : {A : Type 0} {fault other : ParseFault} → ◌≡◌ {A = Read A} (fails fault) (fails other) → fault ≡ other
same_fault e = cc

-- if what comes after can't fail, what is before does
and_then-fails : {A B : Type 0} (r : Read A) (f : A → ℕ → Read B) (fault : ParseFault) → ((v : A) (n : ℕ) → f v n ≡ fails fault → ⊥) →
    and_then r f ≡ fails fault → r ≡ fails fault
and_then-fails (takes v n) f fault never e = absurd (never v n e)
and_then-fails (fails other) f fault never e = ap fails (same_fault e)

mapped-fails : {A B : Type 0} (f : A → B) (r : Read A) (fault : ParseFault) → map_read f r ≡ fails fault → r ≡ fails fault
mapped-fails f (takes v n) fault e = absurd (no_fails e)
mapped-fails f (fails other) fault e = ap fails (same_fault e)

-- ---- what `$` begins ----

position-none : (p : ℕ → Bool) (b : ℕ) (text : List ℕ) → p b ≡ true → position_or_len p (b ∷ text) ≡ 0
position-none p b text e = rw e

position-more : (p : ℕ → Bool) (b : ℕ) (text : List ℕ) → p b ≡ false → position_or_len p (b ∷ text) ≡ suc (position_or_len p text)
position-more p b text e = rw e (omega arith)

position_within : (p : ℕ → Bool) (text : List ℕ) → position_or_len p text ≤ length text
position_within p [] = omega arith
position_within p (b ∷ text) = go (p b) refl (position_within p text)
  where
    go : (v : Bool) → p b ≡ v → position_or_len p text ≤ length text → position_or_len p (b ∷ text) ≤ suc (length text)
    go true e next = omega (arith, position-none p b text e)
    go false e next = omega (arith, position-more p b text e)

unclosed_name : (depth b c : ℕ) (text : List ℕ) (fault : ParseFault) → b ≡ 36 → c ≡ 123 → braced_variable text ≡ fails fault →
    IsPartFault depth (b ∷ c ∷ text) fault
unclosed_name depth b c text fault e f r = go (nat_lt m (length text)) refl
  where
    m : ℕ
    m = position_or_len (λ x. x == 125) text

    here : (v : Bool) → nat_lt m (length text) ≡ v → (if v then takes (part_of_name (take m text)) (m + 1) else fails VariableBrace) ≡ fails fault
    here v g = sym (ap (λ v. if v then takes (part_of_name (take m text)) (m + 1) else fails VariableBrace) g) ∙ r

    go : (v : Bool) → nat_lt m (length text) ≡ v → IsPartFault depth (b ∷ c ∷ text) fault
    go true g = absurd (no_fails (here true g))
    go false g =
        let beyond = ltb-false m (length text) g in
        let within = position_within (λ x. x == 125) text in
        let last : m ≡ length text = omega arith in
        subst (IsPartFault depth (b ∷ c ∷ text)) (same_fault (here false g)) (name_unclosed e f last)

-- the text after a cut and the byte that follows it
rest_is : (inner rest : List ℕ) (m : ℕ) (text : List ℕ) → text ≡ inner ++ (125 ∷ rest) → length inner ≡ m → drop (m + 1) text ≡ rest
rest_is inner rest m text cut size = sym (drop-drop 1 m text) ∙ ap (λ t. drop 1 (drop m t)) cut ∙ ap (drop 1) (drop_at inner (125 ∷ rest) m size)

-- ---- a level in ----

-- the readers of a level fail if the text has that fault one level in
abbrev pub IndexFails : ℕ → List ℕ → ParseFault → Type 0
IndexFails zero text fault = TooDeep ≡ fault
IndexFails (suc depth) text fault = IsPartsFault depth endings.Parenthesis text fault

abbrev pub BracketsFail : ℕ → List ℕ → ParseFault → Type 0
BracketsFail zero text fault = TooDeep ≡ fault
BracketsFail (suc depth) text fault = IsCommandsFault depth text fault

pub record Faulty (depth : ℕ) : Type 0 where
  pub index : (text : List ℕ) (fault : ParseFault) → (level depth).index text ≡ fails fault → IndexFails depth text fault
  pub brackets : (text : List ℕ) (fault : ParseFault) → (level depth).brackets text ≡ fails fault → BracketsFail depth text fault

element_fault : (depth b : ℕ) (text : List ℕ) (n : ℕ) (fault : ParseFault) → b ≡ 36 → IsNamed text (take n text) (drop n text) →
    begins 40 (drop n text) ≡ true → IndexFails depth (drop (n + 1) text) fault → IsPartFault depth (b ∷ text) fault
element_fault zero b text n fault e h f i =
    let opening = byte_at n 40 text f in
    subst (IsPartFault zero (b ∷ text)) i (index_too_deep e opening.1 (subst (IsNamed text (take n text)) opening.2 h))
element_fault (suc depth) b text n fault e h f i =
    let opening = byte_at n 40 text f in
    index_fault e opening.1 (subst (IsNamed text (take n text)) opening.2 h) i

script_fault : (depth b : ℕ) (text : List ℕ) (fault : ParseFault) → b ≡ 91 → BracketsFail depth text fault → IsPartFault depth (b ∷ text) fault
script_fault zero b text fault e i = subst (IsPartFault zero (b ∷ text)) i (bracket_too_deep e)
script_fault (suc depth) b text fault e i = bracket_fault e i

module _ (depth : ℕ) (faulty : Faulty depth) where
  dollar_fault : (b : ℕ) (text : List ℕ) (fault : ParseFault) → b ≡ 36 → dollar (level depth) text ≡ fails fault → IsPartFault depth (b ∷ text) fault
  dollar_fault b text fault e r = go (begins 123 text) (nat_lt 0 (name_length 0 text)) (begins 40 (drop (name_length 0 text) text)) refl refl refl
    where
      k : ℕ
      k = name_length 0 text

      brace : (xs : List ℕ) → begins 123 xs ≡ true → after 1 (braced_variable (drop 1 xs)) ≡ fails fault → IsPartFault depth (b ∷ xs) fault
      brace [] f g = cc
      brace (c ∷ xs) f g = unclosed_name depth b c xs fault e (eqb-true c 123 f) (after-fails 1 (braced_variable xs) fault g)

      go : (u v w : Bool) → begins 123 text ≡ u → nat_lt 0 k ≡ v → begins 40 (drop k text) ≡ w → IsPartFault depth (b ∷ text) fault
      go true v w f g h = brace text f (sym (dollar-braced (level depth) text f) ∙ r)
      go false false w f g h = absurd (no_fails (sym (dollar-itself (level depth) text f g) ∙ r))
      go false true false f g h = absurd (no_fails (sym (dollar-named (level depth) text f g ∙ named-variable (level depth) text k h) ∙ r))
      go false true true f g h =
          let inside =
          and_then-fails _ (λ index m. takes (element (take k text) index) (m + 1)) fault (λ v n. no_fails)
          (sym (dollar-named (level depth) text f g ∙ named-element (level depth) text k h) ∙ r) in
          element_fault depth b text k fault e (named_is text g) h
          (faulty.index (drop (k + 1) text) fault (after-fails (k + 1) ((level depth).index (drop (k + 1) text)) fault inside))

  part_fault : (b : ℕ) (text : List ℕ) (fault : ParseFault) → part (level depth) b text ≡ fails fault → IsPartFault depth (b ∷ text) fault
  part_fault b text fault r = go (b == 36) (b == 91) (b == 92) refl refl refl
    where
      go : (u v w : Bool) → (b == 36) ≡ u → (b == 91) ≡ v → (b == 92) ≡ w → IsPartFault depth (b ∷ text) fault
      go true v w e f g = dollar_fault b text fault (eqb-true b 36 e) (sym (part-dollar (level depth) b text e) ∙ r)
      go false true w e f g =
          let inside =
          and_then-fails ((level depth).brackets text) (λ inside n. takes (script inside) (n + 1)) fault (λ v n. no_fails)
          (sym (part-brackets (level depth) b text e f) ∙ r) in
          script_fault depth b text fault (eqb-true b 91 f) (faulty.brackets text fault inside)
      go false false true e f g = absurd (no_fails (sym (part-escape (level depth) b text e f g) ∙ r))
      go false false false e f g = absurd (no_fails (sym (part-letter (level depth) b text e f g) ∙ r))

  parts_fault : (ending : Ending) (k : ℕ) (text : List ℕ) (fault : ParseFault) → parts (level depth) ending k text ≡ fails fault →
      IsPartsFault depth ending (drop k text) fault
  parts_fault ending k [] fault r =
      subst (λ xs. IsPartsFault depth ending xs fault) (sym (drop_none k)) (at_all ending (sym (parts-none (level depth) ending k) ∙ r))
    where
      at_all : (e : Ending) → after k (parts_at_end e) ≡ fails fault → IsPartsFault depth e [] fault
      at_all (endings.Word place) q = absurd (no_fails q)
      at_all endings.Quote q = subst (IsPartsFault depth endings.Quote []) (same_fault q) quote_unclosed
      at_all endings.Parenthesis q = subst (IsPartsFault depth endings.Parenthesis []) (same_fault q) index_unclosed
  parts_fault ending (suc k) (b ∷ text) fault r =
      parts_fault ending k text fault (after-fails 1 (parts (level depth) ending k text) fault (sym (parts-passes_one (level depth) ending k b text) ∙ r))
  parts_fault ending zero (b ∷ text) fault r = go (ends_parts ending (b ∷ text)) refl (part (level depth) b text) refl (λ j. parts_fault ending j text fault)
    where
      go : (v : Bool) → ends_parts ending (b ∷ text) ≡ v → (q : Read PlainPart) → part (level depth) b text ≡ q →
          ((j : ℕ) → parts (level depth) ending j text ≡ fails fault → IsPartsFault depth ending (drop j text) fault) →
          IsPartsFault depth ending (b ∷ text) fault
      go true e q f next = absurd (no_fails (sym (parts-end (level depth) ending b text e) ∙ r))
      go false e (fails other) f next =
          this_part e (part_fault b text fault (f ∙ ap fails (same_fault (sym (parts-fault (level depth) ending b text other e f) ∙ r))))
      go false e (takes first m) f next =
          let outer = after-fails 1 (map_read (with_part first) (parts (level depth) ending m text)) fault
          (sym (parts-part (level depth) ending b text first m e f) ∙ r) in
          later_part e (part_is depth (sound depth) b text first m f) (next m (mapped-fails (with_part first) (parts (level depth) ending m text) fault outer))

  -- ---- words ----

  quoted_fault : (place : Place) (b : ℕ) (text : List ℕ) (fault : ParseFault) → b ≡ 34 → quoted_word place (level depth) text ≡ fails fault →
      IsWordPartsFault depth place (b ∷ text) fault
  quoted_fault place b text fault e r = go (parts (level depth) endings.Quote 0 text) refl
    where
      closed : (w : PlainParts) (m : ℕ) → parts (level depth) endings.Quote 0 text ≡ takes w m → before_separator place AfterQuote text w (m + 1) ≡ fails fault →
          (v : Bool) → separates place (drop (m + 1) text) ≡ v → IsWordPartsFault depth place (b ∷ text) fault
      closed w m f g true h = absurd (no_fails (sym (separated-yes place AfterQuote text w (m + 1) h) ∙ g))
      closed w m f g false h =
          let derived = parts_is depth (sound depth) endings.Quote 0 text w m f in
          let closing = byte_at m 34 text (parts_closed derived) in
          subst (IsWordPartsFault depth place (b ∷ text)) (same_fault (sym (separated-none place AfterQuote text w (m + 1) h) ∙ g))
          (after_quotes e closing.1 (subst (IsParts depth endings.Quote text w) closing.2 derived) h)

      here : (q : Read PlainParts) → parts (level depth) endings.Quote 0 text ≡ q →
          and_then q (λ value n. before_separator place AfterQuote text value (n + 1)) ≡ fails fault
      here q f = ap (λ x. and_then x (λ value n. before_separator place AfterQuote text value (n + 1))) (sym f) ∙ sym (quoted-on place (level depth) text) ∙ r

      go : (q : Read PlainParts) → parts (level depth) endings.Quote 0 text ≡ q → IsWordPartsFault depth place (b ∷ text) fault
      go (fails other) f = quotes_fault e (parts_fault endings.Quote 0 text fault (f ∙ ap fails (same_fault (here (fails other) f))))
      go (takes w m) f = closed w m f (here (takes w m) f) (separates place (drop (m + 1) text)) refl

  brace_fault : (place : Place) (b : ℕ) (text : List ℕ) (fault : ParseFault) → b ≡ 123 → braced place text ≡ fails fault →
      IsWordPartsFault depth place (b ∷ text) fault
  brace_fault place b text fault e r = go (matching_brace text) refl
    where
      closes : (m : ℕ) → matching_brace text ≡ Some m → (v : Bool) → separates place (drop (m + 1) text) ≡ v → IsWordPartsFault depth place (b ∷ text) fault
      closes m f true h = absurd (no_fails (sym (braced-closed place text m f h) ∙ r))
      closes m f false h =
          let at_brace = (matching_brace_law text m).0 f in
          let rest : drop (m + 1) text ≡ at_brace.rest = rest_is at_brace.inner at_brace.rest m text at_brace.cut at_brace.place in
          subst (IsWordPartsFault depth place (b ∷ text)) (same_fault (sym (braced-after place text m f h) ∙ r))
          (after_braces at_brace.inner at_brace.rest e refl at_brace.cut at_brace.balanced (ap (separates place) (sym rest) ∙ h))

      some_none : (n : ℕ) → Some n ≡ None → ⊥
      some_none n g = cc

      unclosed : matching_brace text ≡ None → IsUnclosed text
      unclosed f =
          λ inside rest cut balanced. some_none (length inside)
          (sym ((matching_brace_law text (length inside)).1 (record { inner = inside; rest = rest; cut = cut; place = refl; balanced = balanced })) ∙ f)

      go : (o : Option ℕ) → matching_brace text ≡ o → IsWordPartsFault depth place (b ∷ text) fault
      go None f = subst (IsWordPartsFault depth place (b ∷ text)) (same_fault (sym (braced-open place text f) ∙ r)) (braces_unclosed e (unclosed f))
      go (Some m) f = closes m f (separates place (drop (m + 1) text)) refl

  word_parts_fault : (place : Place) (text : List ℕ) (fault : ParseFault) → word_parts place (level depth) text ≡ fails fault →
      IsWordPartsFault depth place text fault
  word_parts_fault place [] fault r = bare_fault refl refl (parts_fault (endings.Word place) 0 [] fault (sym (parts-bare place (level depth) [] refl refl) ∙ r))
  word_parts_fault place (b ∷ text) fault r = go (b == 34) (b == 123) refl refl
    where
      go : (v w : Bool) → (b == 34) ≡ v → (b == 123) ≡ w → IsWordPartsFault depth place (b ∷ text) fault
      go true w e f =
          quoted_fault place b text fault (eqb-true b 34 e)
          (after-fails 1 (quoted_word place (level depth) text) fault (sym (parts-quoted place (level depth) (b ∷ text) e) ∙ r))
      go false true e f =
          brace_fault place b text fault (eqb-true b 123 f)
          (after-fails 1 (braced place text) fault (sym (parts-braced place (level depth) (b ∷ text) e f) ∙ r))
      go false false e f = bare_fault e f (parts_fault (endings.Word place) 0 (b ∷ text) fault (sym (parts-bare place (level depth) (b ∷ text) e f) ∙ r))

  word_fault : (place : Place) (text : List ℕ) (fault : ParseFault) → separates place text ≡ false → word place (level depth) text ≡ fails fault →
      IsWordFault depth place text fault
  word_fault place text fault h r = go (expands text) refl
    where
      go : (v : Bool) → expands text ≡ v → IsWordFault depth place text fault
      go true e =
          let outer = after-fails 3 (map_read (made true) (word_parts place (level depth) (drop 3 text))) fault
          (sym (word-expands place (level depth) text e) ∙ r) in
          expanded_fault e (word_parts_fault place (drop 3 text) fault (mapped-fails (made true) (word_parts place (level depth) (drop 3 text)) fault outer))
      go false e =
          whole_fault h e
          (word_parts_fault place text fault
          (mapped-fails (made false) (word_parts place (level depth) text) fault (sym (word-plain place (level depth) text e) ∙ r)))

  pub words_fault : (place : Place) (k : ℕ) (text : List ℕ) (fault : ParseFault) → separates place (drop k text) ≡ false →
      words place (level depth) k text ≡ fails fault → IsWordsFault depth place (drop k text) fault
  words_fault place k [] fault h r = let here : separates place [] ≡ false = ap (separates place) (sym (drop_none k)) ∙ h in cc
  words_fault place (suc k) (b ∷ text) fault h r =
      words_fault place k text fault h (after-fails 1 (words place (level depth) k text) fault (sym (words-passes_one place (level depth) k b text) ∙ r))
  words_fault place zero (b ∷ text) fault h r = go (word place (level depth) (b ∷ text)) refl (λ j. words_fault place j text fault)
    where
      xs : List ℕ
      xs = b ∷ text

      go : (q : Read PlainWord) → word place (level depth) (b ∷ text) ≡ q →
          ((j : ℕ) → separates place (drop j text) ≡ false → words place (level depth) j text ≡ fails fault →
          IsWordsFault depth place (drop j text) fault) → IsWordsFault depth place (b ∷ text) fault
      go (fails other) e next =
          this_word (word_fault place (b ∷ text) fault h (e ∙ ap fails (same_fault (sym (words-fault place (level depth) b text other e) ∙ r))))
      go (takes first m) e next =
          after_word first m e (word_is depth (sound depth) place (b ∷ text) first m h e)
          (ends_command place (drop (m + gap 0 (drop m (b ∷ text))) (b ∷ text))) refl
        where
          after_word : (first : PlainWord) (m : ℕ) → word place (level depth) (b ∷ text) ≡ takes first m →
              IsWord depth place (b ∷ text) first (drop m (b ∷ text)) × (0 < m) → (v : Bool) →
              ends_command place (drop (m + gap 0 (drop m (b ∷ text))) (b ∷ text)) ≡ v → IsWordsFault depth place (b ∷ text) fault
          after_word first m e this true f = absurd (no_fails (sym (words-one place (level depth) b text first m e f) ∙ r))
          after_word first m e this false f =
              let g : ℕ = gap 0 (drop m xs) in
              let j : ℕ = pred (m + g) in
              let count : suc j ≡ m + g = omega (arith, this.1) in
              let next_place : drop g (drop m xs) ≡ drop (m + g) xs = drop-drop g m xs in
              let front : drop (m + g) xs ≡ drop j text = ap (λ i. drop i xs) (sym count) in
              let gap_here : IsGap (drop m xs) (drop j text) = subst (IsGap (drop m xs)) (next_place ∙ front) (gap_is 0 (drop m xs)) in
              let unended : ends_command place (drop j text) ≡ false = ap (ends_command place) (sym front) ∙ f in
              let begins_word : separates place (drop j text) ≡ false = word_begins place (drop j text) (gap_end-none gap_here) unended in
              let outer = after-fails 1 (map_read (λ others. first ∷ others) (words place (level depth) j text)) fault
              (sym (words-more place (level depth) b text first m e f) ∙ r) in
              later_word this.0 gap_here unended (next j begins_word (mapped-fails (λ others. first ∷ others) (words place (level depth) j text) fault outer))

  -- ---- commands ----

  commands_fault : (k : ℕ) (text : List ℕ) (fault : ParseFault) → commands (level depth) k text ≡ fails fault → IsCommandsFault depth (drop k text) fault
  commands_fault k [] fault r =
      subst (λ xs. IsCommandsFault depth xs fault) (sym (drop_none k))
      (subst (IsCommandsFault depth []) (same_fault (sym (commands-none (level depth) k) ∙ r)) (bracket_unclosed (skip_ends refl)))
  commands_fault (suc k) (b ∷ text) fault r =
      commands_fault k text fault (after-fails 1 (commands (level depth) k text) fault (sym (commands-passes_one (level depth) k b text) ∙ r))
  commands_fault zero (b ∷ text) fault r =
      go (begins 93 start) refl (nat_lt s (length xs)) refl (words places.Brackets (level depth) 0 start) refl (λ j. commands_fault j text fault)
    where
      xs : List ℕ
      xs = b ∷ text

      s : ℕ
      s = skipped 0 (b ∷ text)

      start : List ℕ
      start = drop s (b ∷ text)

      begun : begins 93 start ≡ false → nat_lt s (length xs) ≡ true → separates places.Brackets start ≡ false
      begun e f = command_begins start (skipped_end-none (skipped_is 0 xs)) e (omega (arith, ltb-true s (length xs) f, length-drop s xs))

      go : (v : Bool) → begins 93 (drop (skipped 0 (b ∷ text)) (b ∷ text)) ≡ v → (u : Bool) → nat_lt (skipped 0 (b ∷ text)) (length (b ∷ text)) ≡ u →
          (q : Read (List PlainWord)) → words places.Brackets (level depth) 0 (drop (skipped 0 (b ∷ text)) (b ∷ text)) ≡ q →
          ((j : ℕ) → commands (level depth) j text ≡ fails fault → IsCommandsFault depth (drop j text) fault) → IsCommandsFault depth (b ∷ text) fault
      go true e u f q g next = absurd (no_fails (sym (commands-closed (level depth) b text e) ∙ r))
      go false e false f q g next =
          let whole : drop s xs ≡ [] = drop_all s xs (ltb-false s (length xs) f) in
          subst (IsCommandsFault depth xs) (same_fault (sym (commands-ended (level depth) b text e f) ∙ r))
          (bracket_unclosed (subst (IsSkipped xs) whole (skipped_is 0 xs)))
      go false e true f (fails other) g next =
          this_command (skipped_is 0 xs) e
          (words_fault places.Brackets 0 start fault (begun e f) (g ∙ ap fails (same_fault (sym (commands-fault (level depth) b text other e f g) ∙ r))))
      go false e true f (takes ws m) g next =
          let found = words_is depth (sound depth) places.Brackets 0 start ws m (begun e f) g in
          let j : ℕ = pred (s + m) in
          let count : suc j ≡ s + m = omega (arith, found.1) in
          let rest_at : drop m start ≡ drop j text = drop-drop m s xs ∙ ap (λ i. drop i xs) (sym count) in
          let inner = after-fails 1 (commands (level depth) j text) fault (sym (commands-more (level depth) b text ws m e f g) ∙ r) in
          later_command (skipped_is 0 xs) e (subst (IsWords depth places.Brackets start ws) rest_at found.0) (next j inner)

-- every level fails if the text has a fault
pub faulty : (depth : ℕ) → Faulty depth
faulty zero = record {
  index = λ text fault r. same_fault (sym (index-too_deep text) ∙ r);
  brackets = λ text fault r. same_fault (sym (brackets-too_deep text) ∙ r);
}
faulty (suc depth) = record {
  index = λ text fault r. parts_fault depth (faulty depth) endings.Parenthesis 0 text fault (sym (index-deeper depth text) ∙ r);
  brackets = λ text fault r. commands_fault depth (faulty depth) 0 text fault
      (and_then-fails (commands (level depth) 0 text) (λ _ m. takes (take m text) m) fault (λ v n. no_fails) (sym (brackets-deeper depth text) ∙ r));
}

pub words_faulty : (depth : ℕ) (text : List ℕ) (fault : ParseFault) → separates places.Script text ≡ false →
    words places.Script (level depth) 0 text ≡ fails fault → IsWordsFault depth places.Script text fault
words_faulty depth text fault h r = words_fault depth (faulty depth) places.Script 0 text fault h r
