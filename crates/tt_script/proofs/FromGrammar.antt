-- What the grammar cuts a text into, the readers read.
use Rattle.std.proofs.Common.{◌≡◌, ◌≢◌, ℕ, suc, pred, ◌+◌, ◌<◌, ◌≤◌, Bool, true, false, ◌==◌, ◌&&◌, List, [], ◌∷◌, ◌++◌}
use Rattle.std.proofs.Common.{length, drop, take, refl, ap, sym, ◌∙◌, arith, Some}
use Rattle.std.proofs.lemmas.List.{drop-drop, length-drop, length-append, take_at, drop_at}
use Rattle.std.proofs.lemmas.Bool.{eq-eqb, ne_eqb, lt-ltb, eqb-true}
use Rattle.std.specs.Prelude.{nat_lt, if◌then◌else◌}
use Rattle.std.specs.List.{position_or_len}
use Rattle.tt_text.specs.Backslash.{backslash}
use Rattle.tt_text.specs.Braces.{IsBalanced, IsClosedAt, matching_brace}
use Rattle.tt_text.proofs.BraceLemmas.{matching_brace_law}
use Rattle.tt_script.specs.Words.{PlainPart, variable, element, script, PlainParts, none, with_part, PlainWord}
use Rattle.tt_script.specs.Reading.{Read, takes, fails, after, map_read, and_then, begins, separates, before_separator}
use Rattle.tt_script.specs.Reading.{ends_command, ends_parts, expands, letters_of, joined_lines, name_length, part_of_name}
use Rattle.tt_script.specs.Reading.{Level, level, part, parts, braced_variable, named_variable, word_parts, quoted_word}
use Rattle.tt_script.specs.Reading.{braced, word, words, gap, skipped, commands}
use Rattle.tt_script.specs.Grammar.{IsGap, IsSkipped, IsNamed, IsPart, byte_part, escape_part, script_part}
use Rattle.tt_script.specs.Grammar.{variable_part, element_part, braced_part, dollar_part, IsParts, parts_end}
use Rattle.tt_script.specs.Grammar.{parts_more, IsWordParts, in_quotes, in_braces, bare, IsWord, expanded, whole_word}
use Rattle.tt_script.specs.Grammar.{IsWords, last_word, next_word, IsCommands, no_command, one_command}
use Rattle.tt_script.specs.declared.command.ParseFault.TheVariants.{AfterQuote, VariableBrace}
use Rattle.tt_script.specs.declared.command.Place.{Place}
use Rattle.tt_script.specs.declared.command.Place.TheVariants as places
use Rattle.tt_script.specs.declared.command.Ending.{Ending}
use Rattle.tt_script.specs.declared.command.Ending.TheVariants as endings
use Rattle.tt_script.proofs.Cuts.{Cut, cut_none, cut_more, cut_same, cut_cut, gap_cut, skipped_cut}
use Rattle.tt_script.proofs.Escapes.{backslash_within}
use Rattle.tt_script.proofs.NameCuts.{none-named, name_size}
use Rattle.tt_script.proofs.Readers.{braced-closed}
use Rattle.tt_script.proofs.PartSteps.{index-deeper, dollar-braced, dollar-named, dollar-itself, named-element}
use Rattle.tt_script.proofs.PartSteps.{named-variable, part-dollar, part-brackets, part-escape, part-letter, parts-end}
use Rattle.tt_script.proofs.PartSteps.{parts-part, parts-fault, parts_passes}
use Rattle.tt_script.proofs.CommandSteps.{brackets-deeper, quoted-on, separated-yes, parts-quoted, parts-braced}
use Rattle.tt_script.proofs.CommandSteps.{parts-bare, made, word-expands, word-plain, words-one, words-more}
use Rattle.tt_script.proofs.CommandSteps.{words_passes, closed-on, more-on, after-takes}

-- a reader answers this value, and cuts the text there
pub record ReadAs {A : Type 0} (r : Read A) (value : A) (text rest : List ℕ) : Type 0 where
  pub n : ℕ
  pub read : r ≡ takes value n
  pub cut : Cut n text rest

-- the same of a part, behind its first byte
abbrev pub PartRead : ℕ → List ℕ → PlainPart → List ℕ → Type 0
PartRead depth [] p rest = ⊥
PartRead depth (b ∷ text) p rest = ReadAs (part (level depth) b text) p text rest

-- a reader answers this value, and takes a byte at least
abbrev pub ReadsSome : {A : Type 0} → Read A → A → List ℕ → List ℕ → Type 0
ReadsSome {A} r value text rest = (done : ReadAs r value text rest) × (0 < done.n)

-- ---- cuts ----

pub cut_one : (n c : ℕ) (text rest : List ℕ) → Cut n text (c ∷ rest) → Cut (n + 1) text rest
cut_one n c text rest cut = record {
  place = sym (drop-drop 1 n text) ∙ ap (drop 1) cut.place;
  size = omega (arith, cut.size);
}

-- the front of a text is what the rest leaves
pub front : (n : ℕ) (text xs rest : List ℕ) → text ≡ xs ++ rest → Cut n text rest → take n text ≡ xs
front n text xs rest e cut =
    let size : length xs ≡ n = omega (arith, cut.size, ap length e, length-append xs rest) in
    ap (take n) e ∙ take_at xs rest n size

pub cut_at : (text xs rest : List ℕ) → text ≡ xs ++ rest → Cut (length xs) text rest
cut_at text xs rest e = record {
  place = ap (drop (length xs)) e ∙ drop_at xs rest (length xs) refl;
  size = omega (arith, ap length e, length-append xs rest);
}

-- ---- parts ----

named_length : (name : List ℕ) → name ≢ [] → 0 < length name
named_length [] h = absurd (h refl)
named_length (b ∷ name) h = omega arith

no_name : (text : List ℕ) → begins 123 text ≡ true → name_length 0 text ≡ 0
unfolding name_length
no_name [] e = refl
no_name (b ∷ text) e = let same : b ≡ 123 = eqb-true b 123 e in rw same

name_first : (text : List ℕ) → 0 < name_length 0 text → begins 123 text ≡ false
name_first text h = go (begins 123 text) refl
  where
    go : (v : Bool) → begins 123 text ≡ v → begins 123 text ≡ false
    go false e = e
    go true e = absurd (omega (arith, no_name text e))

position-none : (p : ℕ → Bool) (b : ℕ) (text : List ℕ) → p b ≡ true → position_or_len p (b ∷ text) ≡ 0
position-none p b text e = rw e

position-more : (p : ℕ → Bool) (b : ℕ) (text : List ℕ) → p b ≡ false → position_or_len p (b ∷ text) ≡ 1 + position_or_len p text
position-more p b text e = rw e

-- the first byte that passes stands after the bytes that don't
pub position_at : (p : ℕ → Bool) (xs : List ℕ) (d : ℕ) (rest : List ℕ) → position_or_len p xs ≡ length xs → p d ≡ true →
    position_or_len p (xs ++ (d ∷ rest)) ≡ length xs
position_at p [] d rest e f = position-none p d rest f
position_at p (x ∷ xs) d rest e f = go (p x) refl (position_at p xs d rest)
  where
    go : (v : Bool) → p x ≡ v → (position_or_len p xs ≡ length xs → p d ≡ true → position_or_len p (xs ++ (d ∷ rest)) ≡ length xs) →
        position_or_len p (x ∷ (xs ++ (d ∷ rest))) ≡ suc (length xs)
    go true g next = absurd (omega (arith, position-none p x xs g))
    go false g next = omega (arith, position-more p x (xs ++ (d ∷ rest)) g, next (omega (arith, position-more p x xs g)) f)

braced_read : (text name rest : List ℕ) (d : ℕ) → text ≡ name ++ (d ∷ rest) → d ≡ 125 → position_or_len (λ x. x == 125) name ≡ length name →
    braced_variable text ≡ takes (part_of_name name) (length name + 1)
braced_read text name rest d e f g =
    let n : ℕ = length name in
    let place : position_or_len (λ x. x == 125) text ≡ n =
    ap (position_or_len (λ x. x == 125)) e ∙ position_at (λ x. x == 125) name d rest g (eq-eqb d 125 f) in
    let room : nat_lt n (length text) ≡ true = lt-ltb n (length text) (omega (arith, ap length e, length-append name (d ∷ rest))) in
    let same : take n text ≡ name = ap (take n) e ∙ take_at name (d ∷ rest) n refl in
    ap (λ k. if nat_lt k (length text) then takes (part_of_name (take k text)) (k + 1) else fails VariableBrace) place
    ∙ ap (λ v. if v then takes (part_of_name (take n text)) (n + 1) else fails VariableBrace) room
    ∙ ap (λ x. takes (part_of_name x) (n + 1)) same

parts-end_at : (level : Level) (ending : Ending) (text : List ℕ) → ends_parts ending text ≡ true → parts level ending 0 text ≡ takes none 0
unfolding parts
parts-end_at level (endings.Word place) [] e = refl
parts-end_at level endings.Quote [] e = cc
parts-end_at level endings.Parenthesis [] e = cc
parts-end_at level ending (b ∷ text) e = parts-end level ending b text e

parts_step : (depth : ℕ) (ending : Ending) (first : PlainPart) {middle rest : List ℕ} {others whole : PlainParts} (text : List ℕ) →
    ends_parts ending text ≡ false → PartRead depth text first middle → ReadAs (parts (level depth) ending 0 middle) others middle rest →
    whole ≡ with_part first others → ReadAs (parts (level depth) ending 0 text) whole text rest
parts_step depth ending first [] e p ps w = absurd p
parts_step depth ending first {middle} {rest} {others} {whole} (b ∷ text) e p ps w = record {
  n = suc (p.n + ps.n);
  read = parts-part (level depth) ending b text first p.n e p.read
      ∙ ap (λ r. after 1 (map_read (with_part first) r))
      (parts_passes (level depth) ending p.n text ∙ ap (λ r. after p.n (parts (level depth) ending 0 r)) p.cut.place ∙ ap (after p.n) ps.read)
      ∙ ap (takes (with_part first others)) (omega arith) ∙ ap (λ v. takes v (suc (p.n + ps.n))) (sym w);
  cut = cut_more b (cut_cut p.cut ps.cut);
}

-- ---- one rule each ----

script_read : (depth b c : ℕ) (text inside rest : List ℕ) → b ≡ 91 → text ≡ inside ++ (c ∷ rest) →
    ReadAs (commands (level depth) 0 text) tt text (c ∷ rest) → ReadAs (part (level (suc depth)) b text) (script inside) text rest
script_read depth b c text inside rest e g r = record {
  n = r.n + 1;
  read = part-brackets (level (suc depth)) b text (ap (λ x. x == 36) e) (eq-eqb b 91 e)
      ∙ ap (λ x. and_then x (λ v k. takes (script v) (k + 1))) (brackets-deeper depth text ∙ ap (λ x. and_then x (λ _ k. takes (take k text) k)) r.read)
      ∙ ap (λ v. takes (script v) (r.n + 1)) (front r.n text inside (c ∷ rest) g r.cut);
  cut = cut_one r.n c text rest r.cut;
}

module _ (level : Level) (b : ℕ) (text name rest : List ℕ) (e : b ≡ 36) (h : IsNamed text name rest) where
  size : name_length 0 text ≡ length name
  size = name_size h

  longer : 0 < name_length 0 text
  longer = omega (arith, size, named_length name h.some)

  pub name_cut : Cut (length name) text rest
  name_cut = cut_at text name rest h.cut

  pub named_on : part level b text ≡ named_variable level (length name) text
  named_on = part-dollar level b text (eq-eqb b 36 e) ∙ dollar-named level text (name_first text longer) (lt-ltb 0 (name_length 0 text) longer)
      ∙ ap (λ n. named_variable level n text) size

  name_front : take (length name) text ≡ name
  name_front = front (length name) text name rest h.cut name_cut

  variable_read : begins 40 rest ≡ false → ReadAs (part level b text) (variable name) text rest
  variable_read g = record {
    n = length name;
    read = named_on ∙ named-variable level text (length name) (ap (begins 40) name_cut.place ∙ g) ∙ ap (λ v. takes (variable v) (length name)) name_front;
    cut = name_cut;
  }

element_read : (depth b c d : ℕ) (text name inner rest : List ℕ) (index : PlainParts) → b ≡ 36 → c ≡ 40 → IsNamed text name (c ∷ inner) →
    ReadAs (parts (level depth) endings.Parenthesis 0 inner) index inner (d ∷ rest) → ReadAs (part (level (suc depth)) b text) (element name index) text rest
element_read depth b c d text name inner rest index e f h r =
    let n : ℕ = length name in
    let cut = cut_one n c text inner (name_cut (level (suc depth)) b text name (c ∷ inner) e h) in
    record {
      n = n + 1 + r.n + 1;
      read = named_on (level (suc depth)) b text name (c ∷ inner) e h
          ∙ named-element (level (suc depth)) text n (ap (begins 40) (name_cut (level (suc depth)) b text name (c ∷ inner) e h).place ∙ eq-eqb c 40 f)
          ∙ ap (λ x. and_then (after (n + 1) x) (λ v m. takes (element (take n text) v) (m + 1)))
          (index-deeper depth (drop (n + 1) text) ∙ ap (parts (level depth) endings.Parenthesis 0) cut.place ∙ r.read)
          ∙ ap (λ v. takes (element v index) (n + 1 + r.n + 1)) (name_front (level (suc depth)) b text name (c ∷ inner) e h);
      cut = cut_one (n + 1 + r.n) d text rest (cut_cut cut r.cut);
    }

brace_read : (depth b c d : ℕ) (text name rest : List ℕ) (p : PlainPart) → b ≡ 36 → c ≡ 123 → d ≡ 125 → text ≡ name ++ (d ∷ rest) →
    position_or_len (λ x. x == 125) name ≡ length name → p ≡ part_of_name name → ReadAs (part (level depth) b (c ∷ text)) p (c ∷ text) rest
brace_read depth b c d text name rest p e f g h k m = record {
  n = 1 + (length name + 1);
  read = part-dollar (level depth) b (c ∷ text) (eq-eqb b 36 e) ∙ dollar-braced (level depth) (c ∷ text) (eq-eqb c 123 f)
      ∙ ap (after 1) (braced_read text name rest d h g k) ∙ ap (λ v. takes v (1 + (length name + 1))) (sym m);
  cut = cut_same (omega arith) (cut_more c (cut_one (length name) d text rest (cut_at text name (d ∷ rest) h)));
}

word_quoted : (depth b c : ℕ) (place : Place) (text rest : List ℕ) (value : PlainParts) → b ≡ 34 → separates place rest ≡ true →
    ReadAs (parts (level depth) endings.Quote 0 text) value text (c ∷ rest) → ReadAs (word_parts place (level depth) (b ∷ text)) value (b ∷ text) rest
word_quoted depth b c place text rest value e f r =
    let cut = cut_one r.n c text rest r.cut in
    record {
      n = 1 + (r.n + 1);
      read = parts-quoted place (level depth) (b ∷ text) (eq-eqb b 34 e)
          ∙ ap (after 1)
          (quoted-on place (level depth) text ∙ ap (λ x. and_then x (λ v k. before_separator place AfterQuote text v (k + 1))) r.read
          ∙ separated-yes place AfterQuote text value (r.n + 1) (ap (separates place) cut.place ∙ f));
      cut = cut_same (omega arith) (cut_more b cut);
    }

word_braced : (depth b c : ℕ) (place : Place) (text inside rest : List ℕ) (value : PlainParts) → b ≡ 123 → c ≡ 125 → text ≡ inside ++ (c ∷ rest) →
    IsBalanced inside → separates place rest ≡ true → value ≡ letters_of (joined_lines 0 inside) →
    ReadAs (word_parts place (level depth) (b ∷ text)) value (b ∷ text) rest
word_braced depth b c place text inside rest value e f g balanced h w =
    let n : ℕ = length inside in
    let whole = cut_at text inside (c ∷ rest) g in
    let cut = cut_one n c text rest whole in
    let cut_text : text ≡ inside ++ (125 ∷ rest) = g ∙ ap (λ x. inside ++ (x ∷ rest)) f in
    let closes : IsClosedAt text n = record { inner = inside; rest = rest; cut = cut_text; place = refl; balanced = balanced } in
    let found : matching_brace text ≡ Some n = (matching_brace_law text n).1 closes in
    record {
      n = 1 + (n + 1);
      read = parts-braced place (level depth) (b ∷ text) (ap (λ x. x == 34) e) (eq-eqb b 123 e)
          ∙ ap (after 1) (braced-closed place text n found (ap (separates place) cut.place ∙ h))
          ∙ ap (λ x. takes (letters_of (joined_lines 0 x)) (1 + (n + 1))) (front n text inside (c ∷ rest) g whole)
          ∙ ap (λ v. takes v (1 + (n + 1))) (sym w);
      cut = cut_same (omega arith) (cut_more b cut);
    }

and_both : (p q : Bool) → p && q ≡ true → (p ≡ true) × (q ≡ true)
and_both true q e = (refl, e)
and_both false q e = cc

pub begins-length : (c : ℕ) (text : List ℕ) → begins c text ≡ true → 0 < length text
begins-length c [] e = cc
begins-length c (b ∷ text) e = omega arith

pub expands_length : (text : List ℕ) → expands text ≡ true → 3 ≤ length text
expands_length text e =
    let last = (and_both (begins 125 (drop 2 text)) _ (and_both (begins 123 text && begins 42 (drop 1 text)) _ e).1).0 in
    omega (arith, begins-length 125 (drop 2 text) last, length-drop 2 text)

word_expanded : (depth : ℕ) (place : Place) (text rest : List ℕ) (value : PlainParts) → expands text ≡ true →
    ReadAs (word_parts place (level depth) (drop 3 text)) value (drop 3 text) rest → ReadsSome (word place (level depth) text) (made true value) text rest
word_expanded depth place text rest value e r = (
  record {
    n = 3 + r.n;
    read = word-expands place (level depth) text e ∙ ap (λ x. after 3 (map_read (made true) x)) r.read;
    cut = cut_cut (record { place = refl; size = omega (arith, length-drop 3 text, expands_length text e) }) r.cut;
  },
  omega arith,
)

words_last : (depth : ℕ) (place : Place) (text rest next : List ℕ) (first : PlainWord) → 0 < length text →
    (r : ReadAs (word place (level depth) text) first text rest) → 0 < r.n → IsGap rest next → ends_command place next ≡ true →
    ReadsSome (words place (level depth) 0 text) (first ∷ []) text rest
words_last depth place [] rest next first h r some g e = absurd (omega arith)
words_last depth place (b ∷ text) rest next first h r some g e =
    let gaps = gap_cut g in
    let after_gap : drop (r.n + gap 0 (drop r.n (b ∷ text))) (b ∷ text) ≡ next =
    ap (λ x. drop (r.n + gap 0 x) (b ∷ text)) r.cut.place ∙ sym (drop-drop (gap 0 rest) r.n (b ∷ text))
    ∙ ap (drop (gap 0 rest)) r.cut.place ∙ gaps.place in
    (record { n = r.n; read = words-one place (level depth) b text first r.n r.read (ap (ends_command place) after_gap ∙ e); cut = r.cut }, some)

words_next : (depth : ℕ) (place : Place) (text middle next rest : List ℕ) (first : PlainWord) (others : List PlainWord) → 0 < length text →
    length middle < length text → ReadAs (word place (level depth) text) first text middle → IsGap middle next → ends_command place next ≡ false →
    ReadAs (words place (level depth) 0 next) others next rest → ReadsSome (words place (level depth) 0 text) (first ∷ others) text rest
words_next depth place [] middle next rest first others h shorter r g e ws = absurd (omega arith)
words_next depth place (b ∷ text) middle next rest first others h shorter r g e ws =
    let gaps = gap_cut g in
    let both : Cut (r.n + gap 0 middle) (b ∷ text) next = cut_cut r.cut gaps in
    let count : r.n + gap 0 (drop r.n (b ∷ text)) ≡ r.n + gap 0 middle = ap (λ x. r.n + gap 0 x) r.cut.place in
    let k : ℕ = pred (r.n + gap 0 middle) in
    let step : suc k ≡ r.n + gap 0 middle = omega (arith, r.cut.size) in
    let after_gap : drop (r.n + gap 0 (drop r.n (b ∷ text))) (b ∷ text) ≡ next = ap (λ m. drop m (b ∷ text)) count ∙ both.place in
    let tail : drop k text ≡ next = ap (λ m. drop m (b ∷ text)) step ∙ both.place in (
      record {
        n = r.n + gap 0 middle + ws.n;
        read = words-more place (level depth) b text first r.n r.read (ap (ends_command place) after_gap ∙ e)
            ∙ ap (λ m. after 1 (map_read (λ v. first ∷ v) (words place (level depth) (pred m) text))) count
            ∙ ap (λ x. after 1 (map_read (λ v. first ∷ v) x))
            (words_passes place (level depth) k text ∙ ap (λ x. after k (words place (level depth) 0 x)) tail ∙ ap (after k) ws.read)
            ∙ ap (takes (first ∷ others)) (omega arith);
        cut = cut_cut both ws.cut;
      },
      omega (arith, r.cut.size),
    )

commands_closed : (depth : ℕ) (text rest : List ℕ) → IsSkipped text rest → begins 93 rest ≡ true → ReadAs (commands (level depth) 0 text) tt text rest
commands_closed depth text rest s e =
    let cut = skipped_cut s in
    record { n = skipped 0 text; read = closed-on (level depth) text (ap (begins 93) cut.place ∙ e); cut = cut }

commands_more : (depth : ℕ) (text start next rest : List ℕ) (ws : List PlainWord) → IsSkipped text start → begins 93 start ≡ false →
    length next < length start → ReadAs (words places.Brackets (level depth) 0 start) ws start next → ReadAs (commands (level depth) 0 next) tt next rest →
    ReadAs (commands (level depth) 0 text) tt text rest
commands_more depth text start next rest ws s e shorter r cs =
    let cut = skipped_cut s in
    let both = cut_cut cut r.cut in
    record {
      n = skipped 0 text + r.n + cs.n;
      read = more-on (level depth) text ws r.n (ap (begins 93) cut.place ∙ e) (omega (arith, cut.size))
          (ap (words places.Brackets (level depth) 0) cut.place ∙ r.read) (omega (arith, r.cut.size))
          ∙ ap (λ x. after (skipped 0 text + r.n) (commands (level depth) 0 x)) both.place ∙ ap (after (skipped 0 text + r.n)) cs.read;
      cut = cut_cut both cs.cut;
    }

-- ---- a word has a byte ----

pub separates-some : (place : Place) (text : List ℕ) → separates place text ≡ false → 0 < length text
separates-some place [] e = cc
separates-some place (b ∷ text) e = omega arith

parts_some : (level : Level) (ending : Ending) (text : List ℕ) (value : PlainParts) (n : ℕ) → 0 < length text → ends_parts ending text ≡ false →
    parts level ending 0 text ≡ takes value n → 0 < n
parts_some level ending [] value n h e f = absurd (omega arith)
parts_some level ending (b ∷ text) value n h e f = go (part level b text) refl
  where
    go : (r : Read PlainPart) → part level b text ≡ r → 0 < n
    go (fails fault) g = let same = sym (parts-fault level ending b text fault e g) ∙ f in cc
    go (takes first k) g =
        (after-takes 1 n (map_read (with_part first) (parts level ending k text)) value (sym (parts-part level ending b text first k e g) ∙ f)).1

pub word_parts_some : (place : Place) (level : Level) (text : List ℕ) (value : PlainParts) (n : ℕ) → separates place text ≡ false →
    word_parts place level text ≡ takes value n → 0 < n
word_parts_some place level text value n e f = go (begins 34 text) (begins 123 text) refl refl
  where
    go : (v w : Bool) → begins 34 text ≡ v → begins 123 text ≡ w → 0 < n
    go true w g h = (after-takes 1 n (quoted_word place level (drop 1 text)) value (sym (parts-quoted place level text g) ∙ f)).1
    go false true g h = (after-takes 1 n (braced place (drop 1 text)) value (sym (parts-braced place level text g h) ∙ f)).1
    go false false g h = parts_some level (endings.Word place) text value n (separates-some place text e) e (sym (parts-bare place level text g h) ∙ f)

pub mapped-takes : {A B : Type 0} (f : A → B) (r : Read A) (value : B) (n : ℕ) → map_read f r ≡ takes value n → (v : A) × (r ≡ takes v n) × (f v ≡ value)
mapped-takes f (takes v k) value n e =
    let size : k ≡ n = cc in
    let same : f v ≡ value = cc in
    (v, ap (takes v) size, same)
mapped-takes f (fails fault) value n e = cc

word_whole : (depth : ℕ) (place : Place) (text rest : List ℕ) (value : PlainParts) → separates place text ≡ false → expands text ≡ false →
    ReadAs (word_parts place (level depth) text) value text rest → ReadsSome (word place (level depth) text) (made false value) text rest
word_whole depth place text rest value e f r = (
  record { n = r.n; read = word-plain place (level depth) text f ∙ ap (map_read (made false)) r.read; cut = r.cut },
  word_parts_some place
      (level depth) text value r.n e r.read,
)

-- ---- every rule ----

mutual
  pub part_read : {depth : ℕ} {text rest : List ℕ} {p : PlainPart} → IsPart depth text p rest → PartRead depth text p rest
  part_read (byte_part {depth} {b} {text} e f g) =
      record { n = 0; read = part-letter (level depth) b text (ne_eqb b 36 e) (ne_eqb b 91 f) (ne_eqb b 92 g); cut = cut_none text }
  part_read (escape_part {depth} {b} {text} e f g) = record {
    n = (backslash text).takes;
    read = part-escape (level depth) b text (ap (λ x. x == 36) e) (ap (λ x. x == 91) e) (eq-eqb b 92 e) ∙ ap (λ v. takes v (backslash text).takes) (sym f);
    cut = record { place = sym g; size = omega (arith, ap length g, length-drop (backslash text).takes text, backslash_within text) };
  }
  part_read (script_part {depth} {b} {c} {text} {inside} {rest} e f g cs) = script_read depth b c text inside rest e g (commands_read cs)
  part_read (variable_part {depth} {b} {text} {name} {rest} e h g) = variable_read (level depth) b text name rest e h g
  part_read (element_part {depth} {b} {c} {d} {text} {name} {inner} {rest} {index} e f g h ps) =
      element_read depth b c d text name inner rest index e f h (parts_read ps)
  part_read (braced_part {depth} {b} {c} {d} {text} {rest} {part = p} name e f g h k m) = brace_read depth b c d text name rest p e f g h k m
  part_read (dollar_part {depth} {b} {text} e f g) = record {
    n = 0;
    read = part-dollar (level depth) b text (eq-eqb b 36 e) ∙ dollar-itself (level depth) text f (ap (nat_lt 0) (none-named text g));
    cut = cut_none text;
  }

  pub parts_read : {depth : ℕ} {ending : Ending} {text rest : List ℕ} {ps : PlainParts} → IsParts depth ending text ps rest →
      ReadAs (parts (level depth) ending 0 text) ps text rest
  parts_read (parts_end {depth} {ending} {rest} e) = record { n = 0; read = parts-end_at (level depth) ending rest e; cut = cut_none rest }
  parts_read (parts_more {depth} {ending} {text} {middle} {rest} {first} e p ps w) = parts_step depth ending first text e (part_read p) (parts_read ps) w

  pub word_parts_read : {depth : ℕ} {place : Place} {text rest : List ℕ} {ps : PlainParts} → IsWordParts depth place text ps rest →
      ReadAs (word_parts place (level depth) text) ps text rest
  word_parts_read (in_quotes {depth} {b} {c} {place} {text} {rest} {parts = value} e f ps g) = word_quoted depth b c place text rest value e g (parts_read ps)
  word_parts_read (in_braces {depth} {b} {c} {place} {text} {rest} {parts = value} inside e f g balanced h w) =
      word_braced depth b c place text inside rest value e f g balanced h w
  word_parts_read (bare {depth} {place} {text} {rest} {parts = value} e f ps) =
      let r = parts_read ps in
      record { n = r.n; read = parts-bare place (level depth) text e f ∙ r.read; cut = r.cut }

  pub word_read : {depth : ℕ} {place : Place} {text rest : List ℕ} {w : PlainWord} → IsWord depth place text w rest →
      ReadsSome (word place (level depth) text) w text rest
  word_read (expanded {depth} {place} {text} {rest} {parts = value} e ps) =
      word_expanded depth place text rest value e (word_parts_read ps)
  word_read (whole_word {depth} {place} {text} {rest} {parts = value} e f ps) = word_whole depth place text rest value e f (word_parts_read ps)

  pub words_read : {depth : ℕ} {place : Place} {text rest : List ℕ} {ws : List PlainWord} → IsWords depth place text ws rest →
      ReadsSome (words place (level depth) 0 text) ws text rest
  words_read (last_word {depth} {place} {text} {rest} {after = next} {word = first} w g e) =
      let r = word_read w in
      words_last depth place text rest next first (omega (arith, r.1, r.0.cut.size)) r.0 r.1 g e
  words_read (next_word {depth} {place} {text} {middle} {next} {rest} {word = first} {words = others} w g e ws) =
      let r = word_read w in
      words_next depth place text middle next rest first others (omega (arith, r.1, r.0.cut.size)) (omega (arith, r.1, r.0.cut.size)) r.0 g e (words_read ws).0

  pub commands_read : {depth : ℕ} {text rest : List ℕ} → IsCommands depth text rest → ReadAs (commands (level depth) 0 text) tt text rest
  commands_read (no_command {depth} {text} {rest} s e) = commands_closed depth text rest s e
  commands_read (one_command {depth} {text} {start} {after = next} {rest} {words = ws} s e w cs) =
      let r = words_read w in
      commands_more depth text start next rest ws s e (omega (arith, r.1, r.0.cut.size)) r.0 (commands_read cs)
