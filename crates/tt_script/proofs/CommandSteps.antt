-- One step of reading words and commands.
use Rattle.std.proofs.Common.{◌≡◌, ◌≢◌, ℕ, zero, suc, ◌+◌, ◌-◌, ◌<◌, ◌≤◌, Bool, true, false, not, ◌==◌, ◌&&◌, ◌||◌}
use Rattle.std.proofs.Common.{List, [], ◌∷◌, length, get_or, drop, take, pred, refl, ap, sym, ◌∙◌, arith}
use Rattle.std.proofs.lemmas.List.{drop_more, drop-drop, length-drop}
use Rattle.std.proofs.lemmas.Bool.{eq-eqb, ne_eqb, lt-ltb, le-ltb}
use Rattle.std.specs.Prelude.{nat_lt}
use Rattle.tt_text.specs.Characters.{is_white_space, is_blank}
use Rattle.tt_script.specs.Words.{PlainParts, PlainWord}
use Rattle.tt_script.specs.Reading.{Read, takes, fails, after, map_read, and_then, begins, Level, level, parts, separates}
use Rattle.tt_script.specs.Reading.{before_separator, is_terminator, continues_line, ends_command, quoted_word, braced, word_parts}
use Rattle.tt_script.specs.Reading.{expands, begins_black, word, words, gap, skipped, commands}
use Rattle.tt_script.specs.declared.command.ParseFault.{ParseFault}
use Rattle.tt_script.specs.declared.command.ParseFault.TheVariants.{AfterQuote, CloseBracket}
use Rattle.tt_script.specs.declared.command.Place.{Place}
use Rattle.tt_script.specs.declared.command.Place.TheVariants as places
use Rattle.tt_script.specs.declared.command.Ending.TheVariants as endings
use Rattle.tt_script.proofs.PartSteps.{index-deeper}
use Rattle.tt_script.proofs.Readers.{after-after, after-zero, after-mapped}

-- ---- words in quotes ----

pub quoted-on : (place : Place) (level : Level) (text : List ℕ) →
    quoted_word place level text ≡ and_then (parts level endings.Quote 0 text) (λ value n. before_separator place AfterQuote text value (n + 1))
unfolding quoted_word
quoted-on place level text = refl

pub separated-yes : (place : Place) (fault : ParseFault) (text : List ℕ) (value : PlainParts) (n : ℕ) → separates place (drop n text) ≡ true →
    before_separator place fault text value n ≡ takes value n
separated-yes place fault text value n e = rw (e, before_separator)

pub separated-none : (place : Place) (fault : ParseFault) (text : List ℕ) (value : PlainParts) (n : ℕ) → separates place (drop n text) ≡ false →
    before_separator place fault text value n ≡ fails fault
separated-none place fault text value n e = rw (e, before_separator)

separated-moved : (place : Place) (fault : ParseFault) (text : List ℕ) (from : ℕ) (value : PlainParts) (n : ℕ) →
    after from (before_separator place fault (drop from text) value (n + 1)) ≡ before_separator place fault text value (from + n + 1)
separated-moved place fault text from value n = go (separates place (drop (from + n + 1) text)) refl
  where
    order : from + (n + 1) ≡ from + n + 1
    order = omega arith

    same : drop (n + 1) (drop from text) ≡ drop (from + n + 1) text
    same = drop-drop (n + 1) from text ∙ ap (λ k. drop k text) order

    go : (v : Bool) → separates place (drop (from + n + 1) text) ≡ v →
        after from (before_separator place fault (drop from text) value (n + 1)) ≡ before_separator place fault text value (from + n + 1)
    go true e = ap (after from) (separated-yes place fault (drop from text) value (n + 1) (ap (separates place) same ∙ e)) ∙ ap (takes value) order
        ∙ sym (separated-yes place fault text value (from + n + 1) e)
    go false e =
        ap (after from) (separated-none place fault (drop from text) value (n + 1) (ap (separates place) same ∙ e))
        ∙ sym (separated-none place fault text value (from + n + 1) e)

module _ (place : Place) (level : Level) (text : List ℕ) (from : ℕ) where
  pub quoted_at : after from (quoted_word place level (drop from text)) ≡ and_then (after from (parts level endings.Quote 0 (drop from text)))
      (λ value n. before_separator place AfterQuote text value (n + 1))
  quoted_at = ap (after from) (quoted-on place level (drop from text)) ∙ go (parts level endings.Quote 0 (drop from text))
    where
      go : (r : Read PlainParts) →
          after from (and_then r (λ value n. before_separator place AfterQuote (drop from text) value (n + 1))) ≡ and_then (after from r)
          (λ value n. before_separator place AfterQuote text value (n + 1))
      go (fails fault) = refl
      go (takes value n) = separated-moved place AfterQuote text from value n

  pub quoted_at-closed : (value : PlainParts) (end : ℕ) → after from (parts level endings.Quote 0 (drop from text)) ≡ takes value end →
      separates place (drop (end + 1) text) ≡ true → after from (quoted_word place level (drop from text)) ≡ takes value (end + 1)
  quoted_at-closed value end e f =
      quoted_at ∙ ap (λ r. and_then r (λ v n. before_separator place AfterQuote text v (n + 1))) e ∙ separated-yes place AfterQuote text value (end + 1) f

  pub quoted_at-fault : (fault : ParseFault) → after from (parts level endings.Quote 0 (drop from text)) ≡ fails fault →
      after from (quoted_word place level (drop from text)) ≡ fails fault
  quoted_at-fault fault e = quoted_at ∙ ap (λ r. and_then r (λ v n. before_separator place AfterQuote text v (n + 1))) e

  pub quoted_at-after : (value : PlainParts) (end : ℕ) → after from (parts level endings.Quote 0 (drop from text)) ≡ takes value end →
      separates place (drop (end + 1) text) ≡ false → after from (quoted_word place level (drop from text)) ≡ fails AfterQuote
  quoted_at-after value end e f =
      quoted_at ∙ ap (λ r. and_then r (λ v n. before_separator place AfterQuote text v (n + 1))) e ∙ separated-none place AfterQuote text value (end + 1) f

-- ---- the parts of a word ----

module _ (place : Place) (level : Level) (text : List ℕ) where
  pub parts-quoted : begins 34 text ≡ true → word_parts place level text ≡ after 1 (quoted_word place level (drop 1 text))
  unfolding word_parts
  parts-quoted e = rw (e, word_parts)

  pub parts-braced : begins 34 text ≡ false → begins 123 text ≡ true → word_parts place level text ≡ after 1 (braced place (drop 1 text))
  unfolding word_parts
  parts-braced e f = rw (e, word_parts, f)

  pub parts-bare : begins 34 text ≡ false → begins 123 text ≡ false → word_parts place level text ≡ parts level (endings.Word place) 0 text
  unfolding word_parts
  parts-bare e f = rw (e, word_parts, f)

module _ (place : Place) (level : Level) (text : List ℕ) (from : ℕ) where
  pub parts_at-quoted : begins 34 (drop from text) ≡ true →
      after from (word_parts place level (drop from text)) ≡ after (from + 1) (quoted_word place level (drop (from + 1) text))
  parts_at-quoted e =
      ap (after from) (parts-quoted place level (drop from text) e) ∙ after-after from 1 (quoted_word place level (drop 1 (drop from text)))
      ∙ ap (λ rest. after (from + 1) (quoted_word place level rest)) (drop-drop 1 from text)

  pub parts_at-braced : begins 34 (drop from text) ≡ false → begins 123 (drop from text) ≡ true →
      after from (word_parts place level (drop from text)) ≡ after (from + 1) (braced place (drop (from + 1) text))
  parts_at-braced e f =
      ap (after from) (parts-braced place level (drop from text) e f) ∙ after-after from 1 (braced place (drop 1 (drop from text)))
      ∙ ap (λ rest. after (from + 1) (braced place rest)) (drop-drop 1 from text)

  pub parts_at-bare : begins 34 (drop from text) ≡ false → begins 123 (drop from text) ≡ false →
      after from (word_parts place level (drop from text)) ≡ after from (parts level (endings.Word place) 0 (drop from text))
  parts_at-bare e f = ap (after from) (parts-bare place level (drop from text) e f)

-- ---- a word ----

abbrev pub made : Bool → PlainParts → PlainWord
made expand parts = record { expand = expand; parts = parts }

module _ (place : Place) (level : Level) (text : List ℕ) where
  pub word-expands : expands text ≡ true → word place level text ≡ after 3 (map_read (made true) (word_parts place level (drop 3 text)))
  unfolding word
  word-expands e = rw (e, word)

  pub word-plain : expands text ≡ false → word place level text ≡ map_read (made false) (word_parts place level text)
  unfolding word
  word-plain e = rw (e, word)

module _ (place : Place) (level : Level) (text : List ℕ) (from : ℕ) where
  pub word_at-expands : expands (drop from text) ≡ true →
      after from (word place level (drop from text)) ≡ map_read (made true) (after (from + 3) (word_parts place level (drop (from + 3) text)))
  word_at-expands e =
      ap (after from) (word-expands place level (drop from text) e)
      ∙ after-after from 3 (map_read (made true) (word_parts place level (drop 3 (drop from text))))
      ∙ ap (λ rest. after (from + 3) (map_read (made true) (word_parts place level rest))) (drop-drop 3 from text)
      ∙ after-mapped (from + 3) (made true) (word_parts place level (drop (from + 3) text))

  pub word_at-plain : expands (drop from text) ≡ false →
      after from (word place level (drop from text)) ≡ map_read (made false) (after from (word_parts place level (drop from text)))
  word_at-plain e = ap (after from) (word-plain place level (drop from text) e) ∙ after-mapped from (made false) (word_parts place level (drop from text))

and-both : (p q : Bool) → p && q ≡ true → (p ≡ true) × (q ≡ true)
and-both true q e = (refl, e)
and-both false q e = cc

black-length : (text : List ℕ) → begins_black text ≡ true → 0 < length text
black-length [] e = cc
black-length (b ∷ text) e = omega arith

-- a word that expands has three bytes before its parts
pub expands-room : (text : List ℕ) (from : ℕ) → expands (drop from text) ≡ true → from + 3 < length text
expands-room text from e =
    let last = (and-both (begins 125 (drop 2 (drop from text))) (begins_black (drop 3 (drop from text)))
    (and-both (begins 123 (drop from text) && begins 42 (drop 1 (drop from text))) _ e).1).1 in
    omega (arith, black-length (drop 3 (drop from text)) last, length-drop 3 (drop from text), length-drop from text)

-- where a word's parts begin
module _ (place : Place) (text : List ℕ) (from start : ℕ) where
  pub word_at : (level : Level) (expand : Bool) → expands (drop from text) ≡ expand → (expand ≡ true → start ≡ from + 3) → (expand ≡ false → start ≡ from)
      → after from (word place level (drop from text)) ≡ map_read (made expand) (after start (word_parts place level (drop start text)))
  word_at level true e f g =
      word_at-expands place level text from e ∙ ap (λ k. map_read (made true) (after k (word_parts place level (drop k text)))) (sym (f refl))
  word_at level false e f g =
      word_at-plain place level text from e ∙ ap (λ k. map_read (made false) (after k (word_parts place level (drop k text)))) (sym (g refl))

  pub start-within : (expand : Bool) → expands (drop from text) ≡ expand → (expand ≡ true → start ≡ from + 3) → (expand ≡ false → start ≡ from) →
      from < length text → (from ≤ start) × (start ≤ length text)
  start-within true e f g h = let three : start ≡ from + 3 = f refl in (omega arith, omega (arith, expands-room text from e))
  start-within false e f g h = let same : start ≡ from = g refl in (omega arith, omega arith)

  pub word-later : (expand : Bool) (end : ℕ) → (expand ≡ true → start ≡ from + 3) → (expand ≡ false → start ≡ from) →
      separates place (drop from text) ≡ false → start ≤ end → (separates place (drop start text) ≡ false → start < end) → from < end
  word-later true end f g e h later = let three : start ≡ from + 3 = f refl in omega arith
  word-later false end f g e h later = let same : start ≡ from = g refl in omega (arith, later (ap (λ k. separates place (drop k text)) same ∙ e))

-- ---- words ----

pub words-one : (place : Place) (level : Level) (b : ℕ) (text : List ℕ) (first : PlainWord) (n : ℕ) → word place level (b ∷ text) ≡ takes first n →
    ends_command place (drop (n + gap 0 (drop n (b ∷ text))) (b ∷ text)) ≡ true → words place level 0 (b ∷ text) ≡ takes (first ∷ []) n
unfolding words
words-one place level b text first n e f = rw (e, words, f)

pub words-more : (place : Place) (level : Level) (b : ℕ) (text : List ℕ) (first : PlainWord) (n : ℕ) → word place level (b ∷ text) ≡ takes first n →
    ends_command place (drop (n + gap 0 (drop n (b ∷ text))) (b ∷ text)) ≡ false →
    words place level 0 (b ∷ text) ≡ after 1 (map_read (λ others. first ∷ others) (words place level (pred (n + gap 0 (drop n (b ∷ text)))) text))
unfolding words
words-more place level b text first n e f = rw (e, words, f)

pub words-fault : (place : Place) (level : Level) (b : ℕ) (text : List ℕ) (fault : ParseFault) → word place level (b ∷ text) ≡ fails fault →
    words place level 0 (b ∷ text) ≡ fails fault
unfolding words
words-fault place level b text fault e = rw (e, words)

pub words_passes : (place : Place) (level : Level) (k : ℕ) (text : List ℕ) → words place level k text ≡ after k (words place level 0 (drop k text))
unfolding words
words_passes place level zero text = sym (after-zero (words place level 0 text))
words_passes place level (suc k) [] = ap (takes []) (omega arith)
words_passes place level (suc k) (b ∷ text) =
    ap (after 1) (words_passes place level k text) ∙ after-after 1 k (words place level 0 (drop k text))
    ∙ ap (λ n. after n (words place level 0 (drop k text))) (omega arith)

pub after-takes : {A : Type 0} (m k : ℕ) (r : Read A) (value : A) → after m r ≡ takes value k → (r ≡ takes value (k - m)) × (m ≤ k)
after-takes m k (takes v n) value e =
    let same : m + n ≡ k = cc in
    let size : n ≡ k - m = omega arith in
    let values : v ≡ value = cc in
    (ap (λ x. takes x n) values ∙ ap (takes value) size, omega arith)
after-takes m k (fails fault) value e = cc

pub after-fails : {A : Type 0} (m : ℕ) (r : Read A) (fault : ParseFault) → after m r ≡ fails fault → r ≡ fails fault
after-fails m (takes v n) fault e = cc
after-fails m (fails f) fault e = e

module _ (place : Place) (level : Level) (text : List ℕ) (from : ℕ) (h : from < length text) where
  -- the rest of a text from a place within it
  rest_at : (n end : ℕ) → end ≡ from + n → drop n (get_or text from 0 ∷ drop (from + 1) text) ≡ drop end text
  rest_at n end e = ap (drop n) (sym (drop_more text from 0 h)) ∙ drop-drop n from text ∙ ap (λ k. drop k text) (sym e)

  module _ (first : PlainWord) (end next : ℕ) (e : after from (word place level (drop from text)) ≡ takes first end) (f : next ≡ end + gap 0 (drop end text)) where
    at_word : word place level (get_or text from 0 ∷ drop (from + 1) text) ≡ takes first (end - from)
    at_word = ap (word place level) (sym (drop_more text from 0 h)) ∙ (after-takes from end (word place level (drop from text)) first e).0

    at_gap : end - from + gap 0 (drop (end - from) (get_or text from 0 ∷ drop (from + 1) text)) ≡ next - from
    at_gap =
        let order = (after-takes from end (word place level (drop from text)) first e).1 in
        let same : gap 0 (drop (end - from) (get_or text from 0 ∷ drop (from + 1) text)) ≡ gap 0 (drop end text) =
        ap (gap 0) (rest_at (end - from) end (omega arith)) in
        omega arith

    at_next : drop (end - from + gap 0 (drop (end - from) (get_or text from 0 ∷ drop (from + 1) text)))
        (get_or text from 0 ∷ drop (from + 1) text) ≡ drop next text
    at_next =
        let order = (after-takes from end (word place level (drop from text)) first e).1 in
        ap (λ k. drop k (get_or text from 0 ∷ drop (from + 1) text)) at_gap ∙ rest_at (next - from) next (omega arith)

    pub words_at-last : ends_command place (drop next text) ≡ true → after from (words place level 0 (drop from text)) ≡ takes (first ∷ []) end
    words_at-last g =
        let order = (after-takes from end (word place level (drop from text)) first e).1 in
        let same : from + (end - from) ≡ end = omega arith in
        ap (λ r. after from (words place level 0 r)) (drop_more text from 0 h)
        ∙ ap (after from) (words-one place level _ (drop (from + 1) text) first (end - from) at_word (ap (ends_command place) at_next ∙ g))
        ∙ ap (takes (first ∷ [])) same

    pub words_at-more : from < end → ends_command place (drop next text) ≡ false →
        after from (words place level 0 (drop from text)) ≡ map_read (λ others. first ∷ others) (after next (words place level 0 (drop next text)))
    words_at-more later g =
        let k : ℕ = pred (end - from + gap 0 (drop (end - from) (get_or text from 0 ∷ drop (from + 1) text))) in
        let count : from + 1 + k ≡ next = omega (arith, at_gap) in
        let more_words : Read (List PlainWord) = words place level k (drop (from + 1) text) in
        let cons : List PlainWord → List PlainWord = λ others. first ∷ others in
        ap (λ r. after from (words place level 0 r)) (drop_more text from 0 h)
        ∙ ap (after from) (words-more place level _ (drop (from + 1) text) first (end - from) at_word (ap (ends_command place) at_next ∙ g))
        ∙ after-after from 1 (map_read cons more_words)
        ∙ after-mapped (from + 1) cons more_words
        ∙ ap (map_read cons)
        (ap (after (from + 1)) (words_passes place level k (drop (from + 1) text))
        ∙ after-after (from + 1) k (words place level 0 (drop k (drop (from + 1) text)))
        ∙ ap (λ r. after (from + 1 + k) (words place level 0 r)) (drop-drop k (from + 1) text)
        ∙ ap (λ n. after n (words place level 0 (drop n text))) count)

  pub words_at-fault : (fault : ParseFault) → after from (word place level (drop from text)) ≡ fails fault →
      after from (words place level 0 (drop from text)) ≡ fails fault
  words_at-fault fault e =
      ap (λ r. after from (words place level 0 r)) (drop_more text from 0 h)
      ∙ ap (after from)
      (words-fault place level _ (drop (from + 1) text) fault
      (ap (word place level) (sym (drop_more text from 0 h)) ∙ after-fails from (word place level (drop from text)) fault e))

-- ---- commands in brackets ----

module _ (level : Level) where
  pub commands-closed : (b : ℕ) (text : List ℕ) → begins 93 (drop (skipped 0 (b ∷ text)) (b ∷ text)) ≡ true →
      commands level 0 (b ∷ text) ≡ takes tt (skipped 0 (b ∷ text))
  unfolding commands
  commands-closed b text e = rw (e, commands)

  pub commands-ended : (b : ℕ) (text : List ℕ) → begins 93 (drop (skipped 0 (b ∷ text)) (b ∷ text)) ≡ false →
      nat_lt (skipped 0 (b ∷ text)) (length (b ∷ text)) ≡ false → commands level 0 (b ∷ text) ≡ fails CloseBracket
  unfolding commands
  commands-ended b text e f = rw (e, commands, f)

  pub commands-more : (b : ℕ) (text : List ℕ) (ws : List PlainWord) (n : ℕ) → begins 93 (drop (skipped 0 (b ∷ text)) (b ∷ text)) ≡ false →
      nat_lt (skipped 0 (b ∷ text)) (length (b ∷ text)) ≡ true → words places.Brackets level 0 (drop (skipped 0 (b ∷ text)) (b ∷ text)) ≡ takes ws n →
      commands level 0 (b ∷ text) ≡ after 1 (commands level (pred (skipped 0 (b ∷ text) + n)) text)
  unfolding commands
  commands-more b text ws n e f g = rw (e, commands, f, g)

  pub commands-fault : (b : ℕ) (text : List ℕ) (fault : ParseFault) → begins 93 (drop (skipped 0 (b ∷ text)) (b ∷ text)) ≡ false →
      nat_lt (skipped 0 (b ∷ text)) (length (b ∷ text)) ≡ true → words places.Brackets level 0 (drop (skipped 0 (b ∷ text)) (b ∷ text)) ≡ fails fault →
      commands level 0 (b ∷ text) ≡ fails fault
  unfolding commands
  commands-fault b text fault e f g = rw (e, commands, f, g)

  commands_passes : (k : ℕ) (text : List ℕ) → commands level k text ≡ after k (commands level 0 (drop k text))
  unfolding commands
  commands_passes zero text = sym (after-zero (commands level 0 text))
  commands_passes (suc k) [] = refl
  commands_passes (suc k) (b ∷ text) =
      ap (after 1) (commands_passes k text) ∙ after-after 1 k (commands level 0 (drop k text))
      ∙ ap (λ n. after n (commands level 0 (drop k text))) (omega arith)

  pub closed-on : (xs : List ℕ) → begins 93 (drop (skipped 0 xs) xs) ≡ true → commands level 0 xs ≡ takes tt (skipped 0 xs)
  unfolding skipped
  closed-on [] e = cc
  closed-on (b ∷ text) e = commands-closed b text e

  pub ended-on : (xs : List ℕ) → begins 93 (drop (skipped 0 xs) xs) ≡ false → length xs ≤ skipped 0 xs → commands level 0 xs ≡ fails CloseBracket
  unfolding commands
  ended-on [] e h = refl
  ended-on (b ∷ text) e h = commands-ended b text e (le-ltb (skipped 0 (b ∷ text)) (length (b ∷ text)) h)

  pub fault-on : (xs : List ℕ) (fault : ParseFault) → begins 93 (drop (skipped 0 xs) xs) ≡ false → skipped 0 xs < length xs →
      words places.Brackets level 0 (drop (skipped 0 xs) xs) ≡ fails fault → commands level 0 xs ≡ fails fault
  fault-on [] fault e h f = absurd (omega arith)
  fault-on (b ∷ text) fault e h f = commands-fault b text fault e (lt-ltb (skipped 0 (b ∷ text)) (length (b ∷ text)) h) f

  pub more-on : (xs : List ℕ) (ws : List PlainWord) (n : ℕ) → begins 93 (drop (skipped 0 xs) xs) ≡ false → skipped 0 xs < length xs →
      words places.Brackets level 0 (drop (skipped 0 xs) xs) ≡ takes ws n → 0 < n →
      commands level 0 xs ≡ after (skipped 0 xs + n) (commands level 0 (drop (skipped 0 xs + n) xs))
  more-on [] ws n e h f some = absurd (omega arith)
  more-on (b ∷ text) ws n e h f some =
      let k : ℕ = pred (skipped 0 (b ∷ text) + n) in
      let count : suc k ≡ skipped 0 (b ∷ text) + n = omega arith in
      commands-more b text ws n e (lt-ltb (skipped 0 (b ∷ text)) (length (b ∷ text)) h) f
      ∙ ap (after 1) (commands_passes k text) ∙ after-after 1 k (commands level 0 (drop k text))
      ∙ ap (λ m. after m (commands level 0 (drop k text))) (omega arith)
      ∙ ap (λ m. after m (commands level 0 (drop m (b ∷ text)))) count

  module _ (text : List ℕ) (from start : ℕ) (e : start ≡ from + skipped 0 (drop from text)) where
    at_start : drop (skipped 0 (drop from text)) (drop from text) ≡ drop start text
    at_start = drop-drop (skipped 0 (drop from text)) from text ∙ ap (λ k. drop k text) (sym e)

    pub commands_at-closed : begins 93 (drop start text) ≡ true → after from (commands level 0 (drop from text)) ≡ takes tt start
    commands_at-closed f = ap (after from) (closed-on (drop from text) (ap (begins 93) at_start ∙ f)) ∙ ap (takes tt) (sym e)

    pub commands_at-ended : start ≡ length text → begins 93 (drop start text) ≡ false → after from (commands level 0 (drop from text)) ≡ fails CloseBracket
    commands_at-ended f g = ap (after from) (ended-on (drop from text) (ap (begins 93) at_start ∙ g) (omega (arith, length-drop from text)))

    module _ (room : start < length text) (unclosed : begins 93 (drop start text) ≡ false) where
      pub commands_at-more : (ws : List PlainWord) (end : ℕ) → after start (words places.Brackets level 0 (drop start text)) ≡ takes ws end → start < end →
          after from (commands level 0 (drop from text)) ≡ after end (commands level 0 (drop end text))
      commands_at-more ws end f later =
          let s : ℕ = skipped 0 (drop from text) in
          let read = after-takes start end (words places.Brackets level 0 (drop start text)) ws f in
          let count : from + (s + (end - start)) ≡ end = omega arith in
          ap (after from)
          (more-on (drop from text) ws (end - start) (ap (begins 93) at_start ∙ unclosed) (omega (arith, length-drop from text))
          (ap (words places.Brackets level 0) at_start ∙ read.0) (omega arith))
          ∙ after-after from (s + (end - start)) (commands level 0 (drop (s + (end - start)) (drop from text)))
          ∙ ap (λ r. after (from + (s + (end - start))) (commands level 0 r)) (drop-drop (s + (end - start)) from text)
          ∙ ap (λ k. after k (commands level 0 (drop k text))) count

      pub commands_at-fault : (fault : ParseFault) → after start (words places.Brackets level 0 (drop start text)) ≡ fails fault →
          after from (commands level 0 (drop from text)) ≡ fails fault
      commands_at-fault fault f =
          ap (after from)
          (fault-on (drop from text) fault (ap (begins 93) at_start ∙ unclosed) (omega (arith, length-drop from text))
          (ap (words places.Brackets level 0) at_start ∙ after-fails start (words places.Brackets level 0 (drop start text)) fault f))

-- ---- the script in brackets ----

pub brackets-deeper : (depth : ℕ) (text : List ℕ) → (level (suc depth)).brackets text ≡ and_then (commands (level depth) 0 text) (λ _ n. takes (take n text) n)
unfolding level
brackets-deeper depth text = refl

module _ (depth : ℕ) (text : List ℕ) (from : ℕ) (h : depth ≢ 0) where
  one_less : depth ≡ suc (depth - 1)
  one_less = omega arith

  pub brackets_at-closed : (end : ℕ) → after from (commands (level (depth - 1)) 0 (drop from text)) ≡ takes tt end →
      after from ((level depth).brackets (drop from text)) ≡ takes (take (end - from) (drop from text)) end
  brackets_at-closed end e =
      let read = after-takes from end (commands (level (depth - 1)) 0 (drop from text)) tt e in
      let order = read.1 in
      let same : from + (end - from) ≡ end = omega arith in
      ap (λ d. after from ((level d).brackets (drop from text))) one_less
      ∙ ap (after from) (brackets-deeper (depth - 1) (drop from text) ∙ ap (λ r. and_then r (λ _ n. takes (take n (drop from text)) n)) read.0)
      ∙ ap (takes (take (end - from) (drop from text))) same

  pub brackets_at-fault : (fault : ParseFault) → after from (commands (level (depth - 1)) 0 (drop from text)) ≡ fails fault →
      after from ((level depth).brackets (drop from text)) ≡ fails fault
  brackets_at-fault fault e =
      ap (λ d. after from ((level d).brackets (drop from text))) one_less
      ∙ ap (after from)
      (brackets-deeper (depth - 1) (drop from text)
      ∙ ap (λ r. and_then r (λ _ n. takes (take n (drop from text)) n)) (after-fails from (commands (level (depth - 1)) 0 (drop from text)) fault e))

-- ---- where a word begins ----

pub no-separator : (place : Place) (b : ℕ) (text : List ℕ) → is_white_space b ≡ false → is_terminator place b ≡ false → continues_line b text ≡ false →
    separates place (b ∷ text) ≡ false
no-separator place b text x y z = join (is_white_space b) (is_terminator place b) (continues_line b text) x y z
  where
    join : (p q r : Bool) → p ≡ false → q ≡ false → r ≡ false → (p || q) || r ≡ false
    join p q r x y z = rw (x, y, z)

or-none : (p q : Bool) → p || q ≡ false → (p ≡ false) × (q ≡ false)
or-none false q e = (refl, e)
or-none true q e = cc

-- white space is what is blank or a newline
pub no_white : (b : ℕ) → is_blank b ≡ false → b ≢ 10 → is_white_space b ≡ false
no_white b e f = go (is_white_space b) refl
  where
    go : (v : Bool) → is_white_space b ≡ v → is_white_space b ≡ false
    go false g = g
    go true g = let blank : is_blank b ≡ true = ap (λ v. v && not (b == 10)) g ∙ ap not (ne_eqb b 10 f) in cc

pub no_newline : (place : Place) (b : ℕ) → is_terminator place b ≡ false → b ≢ 10
no_newline places.Script b e same = let newline : (b == 10) ≡ true = eq-eqb b 10 same in let here = (or-none (b == 10) (b == 59) e).0 in absurd (apart here newline)
  where
    apart : {v : Bool} → v ≡ false → v ≡ true → ⊥
    apart p q = cc
no_newline places.Brackets b e same = let newline : (b == 10) ≡ true = eq-eqb b 10 same in let here = (or-none (b == 10) (b == 59) (or-none (b == 10 || b == 59) (b == 93) e).0).0 in absurd (apart here newline)
  where
    apart : {v : Bool} → v ≡ false → v ≡ true → ⊥
    apart p q = cc

-- if a command doesn't end there is a byte
pub ends_command-room : (place : Place) (text : List ℕ) (i : ℕ) → ends_command place (drop i text) ≡ false → i < length text
ends_command-room place text i e = omega (arith, there (drop i text) e, length-drop i text)
  where
    there : (xs : List ℕ) → ends_command place xs ≡ false → 0 < length xs
    there [] f = cc
    there (b ∷ xs) f = omega arith

-- a word begins after a gap that no terminator follows
pub after_gap-word : (place : Place) (text : List ℕ) (i : ℕ) → i < length text → is_blank (get_or text i 0) ≡ false →
    continues_line (get_or text i 0) (drop (i + 1) text) ≡ false → ends_command place (drop i text) ≡ false → separates place (drop i text) ≡ false
after_gap-word place text i h e f g =
    let terminator : is_terminator place (get_or text i 0) ≡ false = ap (ends_command place) (sym (drop_more text i 0 h)) ∙ g in
    ap (separates place) (drop_more text i 0 h) ∙ no-separator place _ (drop (i + 1) text) (no_white _ e (no_newline place _ terminator)) terminator f

-- a command begins after what is skipped
pub after_skip-word : (text : List ℕ) (i : ℕ) → i < length text → is_white_space (get_or text i 0) || get_or text i 0 == 59 ≡ false →
    continues_line (get_or text i 0) (drop (i + 1) text) ≡ false → separates places.Script (drop i text) ≡ false
after_skip-word text i h e f =
    let b : ℕ = get_or text i 0 in
    let white = (or-none (is_white_space b) (b == 59) e).0 in
    ap (separates places.Script) (drop_more text i 0 h)
    ∙ no-separator places.Script b (drop (i + 1) text) white (ap (λ v. v || b == 59) (not_newline b white) ∙ (or-none (is_white_space b) (b == 59) e).1) f
  where
    not_newline : (b : ℕ) → is_white_space b ≡ false → (b == 10) ≡ false
    not_newline b white = ne_eqb b 10 (λ same. apart (ap is_white_space same) white)
      where
        apart : {v : Bool} → v ≡ true → v ≡ false → ⊥
        apart p q = cc

-- and in brackets if no `]` stands
pub in_brackets-word : (text : List ℕ) (i : ℕ) → i < length text → separates places.Script (drop i text) ≡ false → begins 93 (drop i text) ≡ false →
    separates places.Brackets (drop i text) ≡ false
in_brackets-word text i h e f =
    let b : ℕ = get_or text i 0 in
    let rest : List ℕ = drop (i + 1) text in
    let all_three =
    or-none (is_white_space b || (b == 10 || b == 59)) (continues_line b rest) (ap (separates places.Script) (sym (drop_more text i 0 h)) ∙ e) in
    let both = or-none (is_white_space b) (b == 10 || b == 59) all_three.0 in
    let bracket : (b == 93) ≡ false = ap (begins 93) (sym (drop_more text i 0 h)) ∙ f in
    ap (separates places.Brackets) (drop_more text i 0 h) ∙ no-separator places.Brackets b rest both.0 (ap (λ v. v || b == 93) both.1 ∙ bracket) all_three.1

-- ---- an index ----

pub index_at : (depth : ℕ) (text : List ℕ) (from : ℕ) → depth ≢ 0 →
    after from ((level depth).index (drop from text)) ≡ after from (parts (level (depth - 1)) endings.Parenthesis 0 (drop from text))
index_at depth text from h =
    let one_fewer : depth ≡ suc (depth - 1) = omega arith in
    ap (λ d. after from ((level d).index (drop from text))) one_fewer ∙ ap (after from) (index-deeper (depth - 1) (drop from text))
