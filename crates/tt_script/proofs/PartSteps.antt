-- One step of reading parts.
use Rattle.std.proofs.Common.{◌≡◌, ◌≢◌, ℕ, zero, suc, ◌+◌, ◌-◌, ◌<◌, ◌≤◌, Bool, true, false, not, ◌==◌, ◌&&◌, ◌||◌}
use Rattle.std.proofs.Common.{List, [], ◌∷◌, length, get_or, drop, take, refl, ap, sym, ◌∙◌, arith, ◌⊎◌, inl, inr}
use Rattle.std.proofs.lemmas.List.{drop_more, drop-drop, drop_all, length-drop, length-take}
use Rattle.std.proofs.lemmas.Bool.{eq-eqb, ne_eqb, lt-ltb, cases_lt}
use Rattle.std.specs.Prelude.{nat_lt, if◌then◌else◌}
use Rattle.std.specs.List.{prefix_len, position_or_len}
use Rattle.tt_text.specs.Backslash.{backslash}
use Rattle.tt_script.specs.Words.{PlainPart, letters, variable, element, script, PlainParts, none, with_letters, with_part}
use Rattle.tt_script.specs.Reading.{Read, takes, fails, after, map_read, and_then, begins, Level, level, part, parts}
use Rattle.tt_script.specs.Reading.{parts_at_end, ends_parts, separates, is_terminator, continues_line, dollar}
use Rattle.tt_script.specs.Reading.{named_variable, braced_variable, part_of_name, name_length, letters_of}
use Rattle.tt_lanes.specs.Classes.{is_special, is_special_in_quotes, is_special_in_index}
use Rattle.tt_script.specs.inside.Scanning.{ends_run, is_letter}
use Rattle.tt_script.specs.declared.command.ParseFault.{ParseFault}
use Rattle.tt_script.specs.declared.command.ParseFault.TheVariants.{TooDeep, VariableBrace}
use Rattle.tt_script.specs.declared.command.Place.{Place}
use Rattle.tt_script.specs.declared.command.Place.TheVariants as places
use Rattle.tt_text.specs.Characters.{is_white_space}
use Rattle.tt_script.specs.declared.command.Ending.{Ending}
use Rattle.tt_script.specs.declared.command.Ending.TheVariants as endings
use Rattle.tt_script.proofs.Runs.{passes, all}
use Rattle.tt_script.proofs.Readers.{after-after, after-zero, after-mapped, mapped-mapped, mapped-same}
use Rattle.tt_script.proofs.Scanning.{unlike, begins_at}
use Rattle.tt_script.specs.inside.Parsing.{ends_within}
use Rattle.tt_script.proofs.Builds.{with_letters-++}
use Rattle.tt_script.proofs.Joining.{slice-more}

-- ---- a level in ----

pub index-too_deep : (text : List ℕ) → (level 0).index text ≡ fails TooDeep
unfolding level
index-too_deep text = refl

pub brackets-too_deep : (text : List ℕ) → (level 0).brackets text ≡ fails TooDeep
unfolding level
brackets-too_deep text = refl

pub index-deeper : (depth : ℕ) (text : List ℕ) → (level (suc depth)).index text ≡ parts (level depth) endings.Parenthesis 0 text
unfolding level
index-deeper depth text = refl

-- ---- what `$` begins ----

module _ (level : Level) (text : List ℕ) where
  pub dollar-braced : begins 123 text ≡ true → dollar level text ≡ after 1 (braced_variable (drop 1 text))
  unfolding dollar
  dollar-braced e = rw (e, dollar)

  pub dollar-named : begins 123 text ≡ false → nat_lt 0 (name_length 0 text) ≡ true → dollar level text ≡ named_variable level (name_length 0 text) text
  unfolding dollar
  dollar-named e f = rw (e, dollar, f)

  pub dollar-itself : begins 123 text ≡ false → nat_lt 0 (name_length 0 text) ≡ false → dollar level text ≡ takes (letters (36 ∷ [])) 0
  unfolding dollar
  dollar-itself e f = rw (e, dollar, f)

  pub named-element : (n : ℕ) → begins 40 (drop n text) ≡ true →
      named_variable level n text ≡ and_then (after (n + 1) (level.index (drop (n + 1) text))) (λ index m. takes (element (take n text) index) (m + 1))
  unfolding named_variable
  named-element n e = rw (e, named_variable)

  pub named-variable : (n : ℕ) → begins 40 (drop n text) ≡ false → named_variable level n text ≡ takes (variable (take n text)) n
  unfolding named_variable
  named-variable n e = rw (e, named_variable)

-- ---- a part ----

pub part-dollar : (level : Level) (b : ℕ) (text : List ℕ) → (b == 36) ≡ true → part level b text ≡ dollar level text
unfolding part
part-dollar level b text e = rw (e, part)

pub part-brackets : (level : Level) (b : ℕ) (text : List ℕ) → (b == 36) ≡ false → (b == 91) ≡ true →
    part level b text ≡ and_then (level.brackets text) (λ inside n. takes (script inside) (n + 1))
unfolding part
part-brackets level b text e f = rw (e, part, f)

pub part-escape : (level : Level) (b : ℕ) (text : List ℕ) → (b == 36) ≡ false → (b == 91) ≡ false → (b == 92) ≡ true →
    part level b text ≡ takes (letters (backslash text).value) (backslash text).takes
unfolding part
part-escape level b text e f g = rw (e, part, f, g)

pub part-letter : (level : Level) (b : ℕ) (text : List ℕ) → (b == 36) ≡ false → (b == 91) ≡ false → (b == 92) ≡ false →
    part level b text ≡ takes (letters (b ∷ [])) 0
unfolding part
part-letter level b text e f g = rw (e, part, f, g)

-- ---- parts ----

module _ (level : Level) (ending : Ending) where
  pub parts_passes : (k : ℕ) (text : List ℕ) → parts level ending k text ≡ after k (parts level ending 0 (drop k text))
  unfolding parts
  parts_passes zero text = sym (after-zero (parts level ending 0 text))
  parts_passes (suc k) [] = sym (after-after (suc k) 0 (parts_at_end ending) ∙ ap (λ n. after n (parts_at_end ending)) (omega arith))
  parts_passes (suc k) (b ∷ text) =
      ap (after 1) (parts_passes k text) ∙ after-after 1 k (parts level ending 0 (drop k text))
      ∙ ap (λ n. after n (parts level ending 0 (drop k text))) (omega arith)

  pub parts-end : (b : ℕ) (text : List ℕ) → ends_parts ending (b ∷ text) ≡ true → parts level ending 0 (b ∷ text) ≡ takes none 0
  unfolding parts
  parts-end b text e = rw (e, parts)

  pub parts-part : (b : ℕ) (text : List ℕ) (first : PlainPart) (n : ℕ) → ends_parts ending (b ∷ text) ≡ false → part level b text ≡ takes first n →
      parts level ending 0 (b ∷ text) ≡ after 1 (map_read (with_part first) (parts level ending n text))
  unfolding parts
  parts-part b text first n e f = rw (e, parts, f)

  pub parts-fault : (b : ℕ) (text : List ℕ) (fault : ParseFault) → ends_parts ending (b ∷ text) ≡ false → part level b text ≡ fails fault →
      parts level ending 0 (b ∷ text) ≡ fails fault
  unfolding parts
  parts-fault b text fault e f = rw (e, parts, f)

  -- a part, and the parts after it
  parts-on : (b : ℕ) (text : List ℕ) (i : ℕ) → ends_parts ending (b ∷ text) ≡ false →
      after i (parts level ending 0 (b ∷ text)) ≡ and_then (after (i + 1) (part level b text))
      (λ first n. map_read (with_part first) (after n (parts level ending 0 (drop (n - (i + 1)) text))))
  parts-on b text i e = go (part level b text) refl
    where
      go : (r : Read PlainPart) → part level b text ≡ r →
          after i (parts level ending 0 (b ∷ text)) ≡ and_then (after (i + 1) r)
          (λ first n. map_read (with_part first) (after n (parts level ending 0 (drop (n - (i + 1)) text))))
      go (fails fault) f = ap (after i) (parts-fault b text fault e f)
      go (takes first n) f =
          let rest : ℕ → Read PlainParts = λ k. parts level ending 0 (drop k text) in
          let same : i + 1 + n - (i + 1) ≡ n = omega arith in
          ap (after i) (parts-part b text first n e f)
          ∙ after-after i 1 (map_read (with_part first) (parts level ending n text))
          ∙ ap (λ r. after (i + 1) (map_read (with_part first) r)) (parts_passes n text)
          ∙ after-mapped (i + 1) (with_part first) (after n (rest n))
          ∙ ap (map_read (with_part first)) (after-after (i + 1) n (rest n))
          ∙ ap (λ k. map_read (with_part first) (after (i + 1 + n) (rest k))) (sym same)

  parts_at : (text : List ℕ) (i : ℕ) → i < length text → ends_parts ending (drop i text) ≡ false →
      after i (parts level ending 0 (drop i text)) ≡ and_then (after (i + 1) (part level (get_or text i 0) (drop (i + 1) text)))
      (λ first n. map_read (with_part first) (after n (parts level ending 0 (drop (n - (i + 1)) (drop (i + 1) text)))))
  parts_at text i h e =
      let front = drop_more text i 0 h in
      ap (λ rest. after i (parts level ending 0 rest)) front ∙ parts-on (get_or text i 0) (drop (i + 1) text) i (ap (ends_parts ending) (sym front) ∙ e)

  -- a part that is read, up to a place
  pub parts_at-part : (text : List ℕ) (i next : ℕ) (first : PlainPart) → i < length text → ends_parts ending (drop i text) ≡ false →
      after (i + 1) (part level (get_or text i 0) (drop (i + 1) text)) ≡ takes first next → i < next →
      after i (parts level ending 0 (drop i text)) ≡ map_read (with_part first) (after next (parts level ending 0 (drop next text)))
  parts_at-part text i next first h e f later =
      let same : i + 1 + (next - (i + 1)) ≡ next = omega arith in
      parts_at text i h e
      ∙ ap (λ r. and_then r (λ v n. map_read (with_part v) (after n (parts level ending 0 (drop (n - (i + 1)) (drop (i + 1) text)))))) f
      ∙ ap (λ rest. map_read (with_part first) (after next (parts level ending 0 rest))) (drop-drop (next - (i + 1)) (i + 1) text ∙ ap (λ k. drop k text) same)

  pub parts_at-fault : (text : List ℕ) (i : ℕ) (fault : ParseFault) → i < length text → ends_parts ending (drop i text) ≡ false →
      after (i + 1) (part level (get_or text i 0) (drop (i + 1) text)) ≡ fails fault → after i (parts level ending 0 (drop i text)) ≡ fails fault
  parts_at-fault text i fault h e f =
      parts_at text i h e ∙ ap (λ r. and_then r (λ v n. map_read (with_part v) (after n (parts level ending 0 (drop (n - (i + 1)) (drop (i + 1) text)))))) f

  pub parts_at-end : (text : List ℕ) (i : ℕ) → i < length text → ends_parts ending (drop i text) ≡ true →
      after i (parts level ending 0 (drop i text)) ≡ takes none i
  parts_at-end text i h e =
      let front = drop_more text i 0 h in
      ap (λ rest. after i (parts level ending 0 rest)) front
      ∙ ap (after i) (parts-end (get_or text i 0) (drop (i + 1) text) (ap (ends_parts ending) (sym front) ∙ e)) ∙ ap (takes none) (omega arith)

  pub parts_at-all : (text : List ℕ) (i : ℕ) → i ≡ length text → after i (parts level ending 0 (drop i text)) ≡ after i (parts_at_end ending)
  unfolding parts
  parts_at-all text i h = ap (λ rest. after i (parts level ending 0 rest)) (drop_all i text (omega arith)) ∙ ap (after i) (after-zero (parts_at_end ending))

-- ---- letters ----

or-false : (p q : Bool) → p || q ≡ false → (p ≡ false) × (q ≡ false)
or-false false q e = (refl, e)
or-false true q e = cc

and-true : (p q : Bool) → p && q ≡ true → (p ≡ true) × (q ≡ true)
and-true true q e = (refl, e)
and-true false q e = cc

not-true : (p : Bool) → not p ≡ true → p ≡ false
not-true false e = refl
not-true true e = cc

no_white : (b : ℕ) → is_special b ≡ false → is_white_space b ≡ false
no_white b e = go (is_white_space b) refl
  where
    go : (v : Bool) → is_white_space b ≡ v → is_white_space b ≡ false
    go false f = f
    go true f = let special : is_special b ≡ true = simp f in cc

no_separator : (place : Place) (b : ℕ) (text : List ℕ) → not (is_special b) ≡ true → separates place (b ∷ text) ≡ false
no_separator place b text e = join (is_white_space b) (is_terminator place b) (continues_line b text) white (terminator place) line
  where
    join : (p q r : Bool) → p ≡ false → q ≡ false → r ≡ false → (p || q) || r ≡ false
    join p q r x y z = rw (x, y, z)

    white : is_white_space b ≡ false
    white = no_white b (not-true (is_special b) e)

    line : continues_line b text ≡ false
    line = ap (λ p. p && begins 10 text) (unlike is_special b 92 e refl)

    terminator : (place : Place) → is_terminator place b ≡ false
    terminator places.Script = ap (λ p. p || b == 59) (unlike is_special b 10 e refl) ∙ unlike is_special b 59 e refl
    terminator places.Brackets =
        ap (λ p. (p || b == 59) || b == 93) (unlike is_special b 10 e refl) ∙ ap (λ p. p || b == 93) (unlike is_special b 59 e refl)
        ∙ unlike is_special b 93 e refl

-- a byte that begins a substitution ends each run of letters
ends_each : (ending : Ending) → (ends_run ending 36 ≡ true) × (ends_run ending 91 ≡ true) × (ends_run ending 92 ≡ true)
ends_each (endings.Word place) = (refl, refl, refl)
ends_each endings.Quote = (refl, refl, refl)
ends_each endings.Parenthesis = (refl, refl, refl)

-- a byte that stands for itself ends no parts
letter-on : (ending : Ending) (b : ℕ) (text : List ℕ) → is_letter ending b ≡ true → ends_parts ending (b ∷ text) ≡ false
letter-on (endings.Word place) b text e = no_separator place b text e
letter-on endings.Quote b text e = unlike is_special_in_quotes b 34 e refl
letter-on endings.Parenthesis b text e = unlike is_special_in_index b 41 e refl

-- letters before a read
one_letter : ℕ → Read PlainParts → Read PlainParts
one_letter b r = after 1 (map_read (with_letters (b ∷ [])) r)

module _ (level : Level) (ending : Ending) where
  letter_step : (b : ℕ) (text : List ℕ) → is_letter ending b ≡ true → parts level ending 0 (b ∷ text) ≡ one_letter b (parts level ending 0 text)
  unfolding one_letter
  letter_step b text e =
      let ends = ends_each ending in
      let p : ℕ → Bool = ends_run ending in
      parts-part level ending b text (letters (b ∷ [])) 0 (letter-on ending b text e)
      (part-letter level b text (unlike p b 36 e ends.0) (unlike p b 91 e ends.1) (unlike p b 92 e ends.2))

  letters_all : (bs : List ℕ) (r : Read PlainParts) → all one_letter bs r ≡ after (length bs) (map_read (with_letters bs) r)
  unfolding one_letter
  letters_all [] (takes value k) = ap (takes value) (omega arith)
  letters_all [] (fails fault) = refl
  letters_all (b ∷ bs) r =
      ap (one_letter b) (letters_all bs r)
      ∙ ap (after 1) (sym (after-mapped (length bs) (with_letters (b ∷ [])) (map_read (with_letters bs) r)))
      ∙ after-after 1 (length bs) (map_read (with_letters (b ∷ [])) (map_read (with_letters bs) r))
      ∙ ap (after (1 + length bs))
      (mapped-mapped (with_letters (b ∷ [])) (with_letters bs) r ∙ mapped-same _ (with_letters (b ∷ bs)) (λ ps. sym (with_letters-++ (b ∷ []) bs ps)) r)
      ∙ ap (λ n. after n (map_read (with_letters (b ∷ bs)) r)) (omega arith)

  -- a run of letters from one place to another
  letters_run : (text : List ℕ) (i stop : ℕ) → i ≤ stop → stop ≤ length text → stop ≤ i + prefix_len (is_letter ending) (drop i text) →
      after i (parts level ending 0 (drop i text)) ≡ map_read (with_letters (take (stop - i) (drop i text))) (after stop (parts level ending 0 (drop stop text)))
  letters_run text i stop order room run =
      let n : ℕ = stop - i in
      let bs : List ℕ = take n (drop i text) in
      let size : length bs ≡ n = omega (arith, length-take n (drop i text), length-drop i text) in
      let rest : drop n (drop i text) ≡ drop stop text = drop-drop n i text ∙ ap (λ k. drop k text) (omega arith) in
      let tail : Read PlainParts = parts level ending 0 (drop n (drop i text)) in
      ap (after i) (passes (is_letter ending) (parts level ending 0) one_letter letter_step n (drop i text) (omega arith) ∙ letters_all bs tail)
      ∙ after-after i (length bs) (map_read (with_letters bs) tail)
      ∙ ap (λ k. after k (map_read (with_letters bs) tail)) (omega arith)
      ∙ after-mapped stop (with_letters bs) tail
      ∙ ap (λ r. map_read (with_letters bs) (after stop (parts level ending 0 r))) rest

-- ---- where parts end ----

module _ (ending : Ending) (text : List ℕ) (end : ℕ) (within : end ≤ length text) (ends : ends_parts ending (drop end text) ≡ true) where
  pub ended_at : (level : Level) → after end (parts level ending 0 (drop end text)) ≡ takes none end
  ended_at level = go (cases_lt end (length text))
    where
      at_all : (e : Ending) → ending ≡ e → length text ≤ end → after end (parts_at_end e) ≡ takes none end
      at_all (endings.Word place) same last = ap (takes none) (omega arith)
      at_all endings.Quote same last = absurd (omega (arith, begins_at 34 text end (ap (λ e. ends_parts e (drop end text)) (sym same) ∙ ends)))
      at_all endings.Parenthesis same last = absurd (omega (arith, begins_at 41 text end (ap (λ e. ends_parts e (drop end text)) (sym same) ∙ ends)))

      go : ((end < length text) ⊎ (length text ≤ end)) → after end (parts level ending 0 (drop end text)) ≡ takes none end
      go (inl room) = parts_at-end level ending text end room ends
      go (inr last) = parts_at-all level ending text end (omega arith) ∙ at_all ending refl last

  pub ended_within : ends_within ending end (length text)
  ended_within = go ending refl
    where
      go : (e : Ending) → ending ≡ e → ends_within e end (length text)
      go (endings.Word place) same = within
      go endings.Quote same = begins_at 34 text end (ap (λ e. ends_parts e (drop end text)) (sym same) ∙ ends)
      go endings.Parenthesis same = begins_at 41 text end (ap (λ e. ends_parts e (drop end text)) (sym same) ∙ ends)

-- letters alone, up to what ends them
pub plain_parts_at : (level : Level) (ending : Ending) (text : List ℕ) (from end : ℕ) → from ≤ end → end ≤ length text →
    end ≤ from + prefix_len (is_letter ending) (drop from text)
    → ends_parts ending (drop end text) ≡ true →
    after from (parts level ending 0 (drop from text)) ≡ takes (letters_of (take (end - from) (drop from text))) end
plain_parts_at level ending text from end order within run ends =
    letters_run level ending text from end order within run
    ∙ ap (map_read (with_letters (take (end - from) (drop from text)))) (ended_at ending text end within ends level)

-- ---- what `$` begins, at a place ----

none_below : (n : ℕ) → n ≡ 0 → nat_lt 0 n ≡ false
none_below n e = ap (nat_lt 0) e

some_below : (n : ℕ) → 0 < n → nat_lt 0 n ≡ true
some_below n h = lt-ltb 0 n h

and_then-on : {A B : Type 0} (m n : ℕ) (f : A → B) (r : Read A) →
    after m (and_then (after n r) (λ v k. takes (f v) (k + 1))) ≡ and_then (after (m + n) r) (λ v k. takes (f v) (k + 1))
and_then-on m n f (takes value k) = ap (takes (f value)) (omega arith)
and_then-on m n f (fails fault) = refl

module _ (level : Level) (text : List ℕ) (from : ℕ) where
  pub dollar_at-braced : begins 123 (drop from text) ≡ true →
      after from (dollar level (drop from text)) ≡ after (from + 1) (braced_variable (drop (from + 1) text))
  dollar_at-braced e =
      ap (after from) (dollar-braced level (drop from text) e) ∙ after-after from 1 (braced_variable (drop 1 (drop from text)))
      ∙ ap (λ rest. after (from + 1) (braced_variable rest)) (drop-drop 1 from text)

  pub dollar_at-itself : (end : ℕ) → begins 123 (drop from text) ≡ false → end ≡ from + name_length 0 (drop from text) → end ≡ from →
      after from (dollar level (drop from text)) ≡ takes (letters (36 ∷ [])) from
  dollar_at-itself end e f same =
      ap (after from) (dollar-itself level (drop from text) e (none_below _ (omega arith))) ∙ ap (takes (letters (36 ∷ []))) (omega arith)

  module _ (end : ℕ) (e : begins 123 (drop from text) ≡ false) (f : end ≡ from + name_length 0 (drop from text)) (differ : end ≢ from) where
    named_on : after from (dollar level (drop from text)) ≡ after from (named_variable level (end - from) (drop from text))
    named_on =
        let size : name_length 0 (drop from text) ≡ end - from = omega arith in
        ap (after from) (dollar-named level (drop from text) e (some_below _ (omega arith)) ∙ ap (λ n. named_variable level n (drop from text)) size)

    after_name : drop (end - from) (drop from text) ≡ drop end text
    after_name = let same : from + (end - from) ≡ end = omega arith in drop-drop (end - from) from text ∙ ap (λ k. drop k text) same

    pub dollar_at-variable : begins 40 (drop end text) ≡ false →
        after from (dollar level (drop from text)) ≡ takes (variable (take (end - from) (drop from text))) end
    dollar_at-variable g =
        let same : from + (end - from) ≡ end = omega arith in
        named_on ∙ ap (after from) (named-variable level (drop from text) (end - from) (ap (begins 40) after_name ∙ g))
        ∙ ap (takes (variable (take (end - from) (drop from text)))) same

    pub dollar_at-element : begins 40 (drop end text) ≡ true →
        after from (dollar level (drop from text)) ≡ and_then (after (end + 1) (level.index (drop (end + 1) text)))
        (λ index m. takes (element (take (end - from) (drop from text)) index) (m + 1))
    dollar_at-element g =
        let name : List ℕ = take (end - from) (drop from text) in
        let same : from + (end - from + 1) ≡ end + 1 = omega arith in
        named_on
        ∙ ap (after from) (named-element level (drop from text) (end - from) (ap (begins 40) after_name ∙ g))
        ∙ and_then-on from (end - from + 1) (element name) (level.index (drop (end - from + 1) (drop from text)))
        ∙ ap (λ rest. and_then (after (from + (end - from + 1)) (level.index rest)) (λ index m. takes (element name index) (m + 1)))
        (drop-drop (end - from + 1) from text)
        ∙ ap (λ k. and_then (after k (level.index (drop k text))) (λ index m. takes (element name index) (m + 1))) same

    pub dollar_at-read : begins 40 (drop end text) ≡ true → (index : PlainParts) (close : ℕ) →
        after (end + 1) (level.index (drop (end + 1) text)) ≡ takes index close →
        after from (dollar level (drop from text)) ≡ takes (element (take (end - from) (drop from text)) index) (close + 1)
    dollar_at-read g index close h = dollar_at-element g ∙ ap (λ r. and_then r (λ v m. takes (element (take (end - from) (drop from text)) v) (m + 1))) h

    pub dollar_at-fault : begins 40 (drop end text) ≡ true → (fault : ParseFault) → after (end + 1) (level.index (drop (end + 1) text)) ≡ fails fault →
        after from (dollar level (drop from text)) ≡ fails fault
    dollar_at-fault g fault h = dollar_at-element g ∙ ap (λ r. and_then r (λ v m. takes (element (take (end - from) (drop from text)) v) (m + 1))) h

-- what `${` begins, if a `}` closes it
pub braced_variable_at : (text : List ℕ) (from end : ℕ) → end ≡ from + position_or_len (λ b. b == 125) (drop from text) → end ≤ length text → end ≢ length text
    → after from (braced_variable (drop from text)) ≡ takes (part_of_name (take (end - from) (drop from text))) (end + 1)
braced_variable_at text from end e within apart =
    let rest : List ℕ = drop from text in
    let n : ℕ = position_or_len (λ b. b == 125) rest in
    let room : nat_lt n (length rest) ≡ true = lt-ltb n (length rest) (omega (arith, length-drop from text)) in
    let size : n ≡ end - from = omega arith in
    let place : from + (n + 1) ≡ end + 1 = omega arith in
    ap (λ v. after from (if v then takes (part_of_name (take n rest)) (n + 1) else fails VariableBrace)) room
    ∙ ap (takes (part_of_name (take n rest))) place ∙ ap (λ k. takes (part_of_name (take k rest)) (end + 1)) size

-- ---- a part at a place ----

module _ (level : Level) (text : List ℕ) (at : ℕ) where
  pub part_at-dollar : get_or text at 0 ≡ 36 → part level (get_or text at 0) (drop (at + 1) text) ≡ dollar level (drop (at + 1) text)
  part_at-dollar e = part-dollar level _ (drop (at + 1) text) (eq-eqb _ _ e)

  pub part_at-brackets : get_or text at 0 ≡ 91 →
      part level (get_or text at 0) (drop (at + 1) text) ≡ and_then (level.brackets (drop (at + 1) text)) (λ inside n. takes (script inside) (n + 1))
  part_at-brackets e = part-brackets level _ (drop (at + 1) text) (ap (λ b. b == 36) e) (eq-eqb _ _ e)

  pub part_at-script : (inside : List ℕ) (end : ℕ) → get_or text at 0 ≡ 91 → after (at + 1) (level.brackets (drop (at + 1) text)) ≡ takes inside end →
      after (at + 1) (part level (get_or text at 0) (drop (at + 1) text)) ≡ takes (script inside) (end + 1)
  part_at-script inside end e f =
      ap (after (at + 1)) (part_at-brackets e) ∙ script-on (level.brackets (drop (at + 1) text)) ∙ ap (λ r. and_then r (λ v n. takes (script v) (n + 1))) f
    where
      script-on : (r : Read (List ℕ)) →
          after (at + 1) (and_then r (λ v n. takes (script v) (n + 1))) ≡ and_then (after (at + 1) r) (λ v n. takes (script v) (n + 1))
      script-on (takes v n) = ap (takes (script v)) (omega arith)
      script-on (fails fault) = refl

  pub part_at-script_fault : (fault : ParseFault) → get_or text at 0 ≡ 91 → after (at + 1) (level.brackets (drop (at + 1) text)) ≡ fails fault →
      after (at + 1) (part level (get_or text at 0) (drop (at + 1) text)) ≡ fails fault
  part_at-script_fault fault e f = ap (after (at + 1)) (part_at-brackets e) ∙ fault-on (level.brackets (drop (at + 1) text)) f
    where
      fault-on : (r : Read (List ℕ)) → after (at + 1) r ≡ fails fault → after (at + 1) (and_then r (λ v n. takes (script v) (n + 1))) ≡ fails fault
      fault-on (takes v n) g = cc
      fault-on (fails f) g = let same : f ≡ fault = cc in ap fails same

  pub part_at-escape : get_or text at 0 ≡ 92 →
      part level (get_or text at 0) (drop (at + 1) text) ≡ takes (letters (backslash (drop (at + 1) text)).value) (backslash (drop (at + 1) text)).takes
  part_at-escape e = part-escape level _ (drop (at + 1) text) (ap (λ b. b == 36) e) (ap (λ b. b == 91) e) (eq-eqb _ _ e)

  pub part_at-letter : get_or text at 0 ≢ 36 → get_or text at 0 ≢ 91 → get_or text at 0 ≢ 92 →
      part level (get_or text at 0) (drop (at + 1) text) ≡ takes (letters (get_or text at 0 ∷ [])) 0
  part_at-letter e f g = part-letter level _ (drop (at + 1) text) (ne_eqb _ _ e) (ne_eqb _ _ f) (ne_eqb _ _ g)

-- ---- a run of letters at a place ----

module _ (level : Level) (ending : Ending) (text : List ℕ) (at : ℕ) (h : at < length text) (goes_on : ends_parts ending (drop at text) ≡ false) where
  pub parts_at-letters : (next : ℕ) → get_or text at 0 ≢ 36 → get_or text at 0 ≢ 91 → get_or text at 0 ≢ 92
      → at + 1 ≤ next → next ≤ length text → next ≤ at + 1 + prefix_len (is_letter ending) (drop (at + 1) text)
      → after at (parts level ending 0 (drop at text)) ≡ map_read (with_letters (take (next - at) (drop at text)))
      (after next (parts level ending 0 (drop next text)))
  parts_at-letters next e f g later room run =
      let b : ℕ = get_or text at 0 in
      let bs : List ℕ = take (next - (at + 1)) (drop (at + 1) text) in
      let rest : Read PlainParts = after next (parts level ending 0 (drop next text)) in
      let one : after (at + 1) (part level b (drop (at + 1) text)) ≡ takes (letters (b ∷ [])) (at + 1) =
      ap (after (at + 1)) (part_at-letter level text at e f g) ∙ ap (takes (letters (b ∷ []))) (omega arith) in
      let bytes : take (next - at) (drop at text) ≡ b ∷ bs = slice-more text at next h (omega arith) in
      parts_at-part level ending text at (at + 1) (letters (b ∷ [])) h goes_on one (omega arith)
      ∙ ap (map_read (with_letters (b ∷ []))) (letters_run level ending text (at + 1) next later room run)
      ∙ mapped-mapped (with_letters (b ∷ [])) (with_letters bs) rest
      ∙ mapped-same _ (with_letters (take (next - at) (drop at text)))
      (λ ps. sym (with_letters-++ (b ∷ []) bs ps) ∙ ap (λ cs. with_letters cs ps) (sym bytes)) rest
