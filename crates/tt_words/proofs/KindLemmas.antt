-- What a word is to the parser.
use Rattle.std.proofs.Common.{◌≡◌, ◌==◌, ◌+◌, suc, ℕ, Bool, true, false, [], ◌∷◌, ◌++◌, Option, Some, None, bytes_eq, refl, sym, ap, ◌∙◌, subst, add-one, arith}
use Rattle.std.specs.Char.{encode_utf8}
use Rattle.std.specs.List.{after_first, before_first, list_any}
use Rattle.std.specs.Str.{IsUtf8, chars, encode_utf8_all}
use Rattle.std.proofs.lemmas.Str.{chars_past_char, encodes-chars}
use Rattle.clap.specs.Lexer.{long_of, short_of}
use Rattle.clap.specs.Walk.{Text, arg_by_long}
use Rattle.tt_words.specs.Splitting.{is_dashed, mark, name_of, takes_value}
use Rattle.tt_words.specs.declared.setting.Setting.{Setting}
use Rattle.tt_words.specs.declared.setting.Setting.TheVariants.{Workers, Steps, Limit, Record, Replay}
use Rattle.tt_words.specs.declared.setting.Setting.TheVariants.{Generate, Waits, Races, Debug}
use Rattle.tt_words.proofs.FrontLemmas.{name_is}
use Rattle.tt_words.proofs.RowLemmas.{same_text}
use Rattle.tt_words.specs.inside.Program.{bare}
use Rattle.tt_words.proofs.RuleLemmas.{by_no_long, top}

-- ---- a text and its first `=`

code_is : (b c : ℕ) → (b == c) ≡ true → b ≡ c
code_is b c e = grind arith

true_not_false : (b : Bool) → b ≡ true → b ≡ false → ⊥
true_not_false b t f = let e : true ≡ false = sym t ∙ f in cc

one_more : (n : ℕ) → 1 + n ≡ suc n
one_more n = omega arith

split_step : (b : ℕ) (bytes : Text) (sign : Bool) → (b == 61) ≡ sign →
    (list_any (λ x. x == 61) bytes ≡ true →
    bytes ≡ before_first (λ x. x == 61) bytes ++ (61 ∷ after_first (λ x. x == 61) bytes)) →
    list_any (λ x. x == 61) (b ∷ bytes) ≡ true →
    b ∷ bytes ≡ before_first (λ x. x == 61) (b ∷ bytes) ++ (61 ∷ after_first (λ x. x == 61) (b ∷ bytes))
split_step b bytes true is rest has = rw (is, code_is b 61 is) refl
split_step b bytes false is rest has =
    let more : list_any (λ x. x == 61) bytes ≡ true = rw is at has in
    rw (is, add-one, one_more) (ap (λ (t : Text). b ∷ t) (rw add-one at (rest more)))

pub split_at : (text : Text) → list_any (λ x. x == 61) text ≡ true →
    text ≡ before_first (λ x. x == 61) text ++ (61 ∷ after_first (λ x. x == 61) text)
split_at [] has = absurd (true_not_false false has refl)
split_at (b ∷ bytes) has = split_step b bytes (b == 61) refl (split_at bytes) has

whole_step : (b : ℕ) (bytes : Text) (sign : Bool) → (b == 61) ≡ sign →
    (list_any (λ x. x == 61) bytes ≡ false → before_first (λ x. x == 61) bytes ≡ bytes) →
    list_any (λ x. x == 61) (b ∷ bytes) ≡ false → before_first (λ x. x == 61) (b ∷ bytes) ≡ b ∷ bytes
whole_step b bytes true is rest has = absurd (true_not_false true refl (rw is at has))
whole_step b bytes false is rest has =
    let more : list_any (λ x. x == 61) bytes ≡ false = rw is at has in
    rw (is, one_more) (ap (λ (t : Text). b ∷ t) (rest more))

pub whole : (text : Text) → list_any (λ x. x == 61) text ≡ false → before_first (λ x. x == 61) text ≡ text
whole [] has = refl
whole (b ∷ bytes) has = whole_step b bytes (b == 61) refl (whole bytes) has

-- ---- names

-- a text is the name of an option, or of none
pub data Naming : Text → Type 0 where
  named : (setting : Setting) {name : Text} → name ≡ bare setting → Naming name
  unnamed : {name : Text} → ((setting : Setting) → bytes_eq (bare setting) name ≡ false) → Naming name

none_named : (name : Text) →
    bytes_eq (bare Workers) name ≡ false → bytes_eq (bare Steps) name ≡ false → bytes_eq (bare Limit) name ≡ false →
    bytes_eq (bare Record) name ≡ false → bytes_eq (bare Replay) name ≡ false → bytes_eq (bare Generate) name ≡ false →
    bytes_eq (bare Waits) name ≡ false → bytes_eq (bare Races) name ≡ false → bytes_eq (bare Debug) name ≡ false →
    (setting : Setting) → bytes_eq (bare setting) name ≡ false
none_named name a b c d e f g h i Workers = a
none_named name a b c d e f g h i Steps = b
none_named name a b c d e f g h i Limit = c
none_named name a b c d e f g h i Record = d
none_named name a b c d e f g h i Replay = e
none_named name a b c d e f g h i Generate = f
none_named name a b c d e f g h i Waits = g
none_named name a b c d e f g h i Races = h
none_named name a b c d e f g h i Debug = i

-- a text is the name of this option, or another's
named_or : (setting : Setting) (name : Text) (is : Bool) → bytes_eq (bare setting) name ≡ is →
    (bytes_eq (bare setting) name ≡ false → Naming name) → Naming name
named_or setting name true e others = named setting (sym (same_text (bare setting) name e))
named_or setting name false e others = others e

naming : (name : Text) → Naming name
naming name =
    named_or Workers name _ refl (λ a. named_or Steps name _ refl (λ b. named_or Limit name _ refl (λ c.
    named_or Record name _ refl (λ d. named_or Replay name _ refl (λ e. named_or Generate name _ refl (λ f.
    named_or Waits name _ refl (λ g. named_or Races name _ refl (λ h. named_or Debug name _ refl (λ i.
    unnamed (none_named name a b c d e f g h i))))))))))

-- ---- characters

-- after `-` there is a character if there is a byte
pub record HasChar (flags : Text) : Type 0 where
  pub first : ℕ
  pub rest : Text
  pub are : chars flags ≡ first ∷ rest

some_char : (flags cs : Text) → chars flags ≡ cs → (cs ≡ [] → ⊥) → HasChar flags
some_char flags [] e some = absurd (some refl)
some_char flags (c ∷ cs) e some = record { first = c; rest = cs; are = e }

pub has_char : (next : ℕ) (rest : Text) → IsUtf8 (45 ∷ next ∷ rest) → HasChar (next ∷ rest)
unfolding encode_utf8
has_char next rest utf8 =
    let past = chars_past_char (45 ∷ next ∷ rest) (next ∷ rest) 45 utf8 refl in
    some_char (next ∷ rest) (chars (next ∷ rest)) refl
    (λ none.
    let spelled : 45 ∷ next ∷ rest ≡ encode_utf8_all (45 ∷ []) =
    sym (encodes-chars (45 ∷ next ∷ rest) utf8) ∙ ap encode_utf8_all (past ∙ ap (λ (t : Text). 45 ∷ t) none) in
    let one : 45 ∷ next ∷ rest ≡ 45 ∷ [] = spelled in
    cc)

-- ---- words

-- what a word is
pub data Kind (word : Text) : Type 0 where
  plain : is_dashed word ≡ false → Kind word
  is_mark : word ≡ mark → Kind word
  option_name : (setting : Setting) → takes_value setting ≡ true → word ≡ name_of setting → Kind word
  option_value : (setting : Setting) (value : Text) → takes_value setting ≡ true →
      word ≡ name_of setting ++ (61 ∷ value) → Kind word
  flag_name : (setting : Setting) → takes_value setting ≡ false → word ≡ name_of setting → Kind word
  flag_value : (setting : Setting) (value : Text) → takes_value setting ≡ false →
      word ≡ name_of setting ++ (61 ∷ value) → Kind word
  unknown_long : (name : Text) (value : Option Text) → bytes_eq word (45 ∷ 45 ∷ []) ≡ false →
      long_of word ≡ Some (name, value) → arg_by_long top.rules name ≡ None → Kind word
  unknown_short : (flag : ℕ) (flags : Text) → bytes_eq word (45 ∷ 45 ∷ []) ≡ false →
      long_of word ≡ None → short_of word ≡ Some (flag ∷ flags) → HasChar (flag ∷ flags) → Kind word

-- the name of an option or a flag
name_kind : (word : Text) (setting : Setting) (takes : Bool) → takes_value setting ≡ takes → word ≡ name_of setting → Kind word
name_kind word setting true takes is = option_name setting takes is
name_kind word setting false takes is = flag_name setting takes is

value_kind : (word : Text) (setting : Setting) (value : Text) (takes : Bool) → takes_value setting ≡ takes →
    word ≡ name_of setting ++ (61 ∷ value) → Kind word
value_kind word setting value true takes is = option_value setting value takes is
value_kind word setting value false takes is = flag_value setting value takes is

-- after two dashes
long_sign : (x : ℕ) (xs : Text) (sign : Bool) → list_any (λ b. b == 61) (x ∷ xs) ≡ sign →
    Naming (before_first (λ b. b == 61) (x ∷ xs)) → Kind (45 ∷ 45 ∷ x ∷ xs)
long_sign x xs true has (named setting is) =
    value_kind (45 ∷ 45 ∷ x ∷ xs) setting (after_first (λ b. b == 61) (x ∷ xs)) (takes_value setting) refl
    (ap (λ (t : Text). 45 ∷ 45 ∷ t) (split_at (x ∷ xs) has
    ∙ ap (λ (t : Text). t ++ (61 ∷ after_first (λ b. b == 61) (x ∷ xs))) is)
    ∙ ap (λ (t : Text). t ++ (61 ∷ after_first (λ b. b == 61) (x ∷ xs))) (sym (name_is setting)))
long_sign x xs false has (named setting is) =
    name_kind (45 ∷ 45 ∷ x ∷ xs) setting (takes_value setting) refl
    (ap (λ (t : Text). 45 ∷ 45 ∷ t) (sym (whole (x ∷ xs) has) ∙ is) ∙ sym (name_is setting))
long_sign x xs sign has (unnamed other) =
    unknown_long (before_first (λ b. b == 61) (x ∷ xs)) _ refl refl (by_no_long (before_first (λ b. b == 61) (x ∷ xs)) other)

two_dashes : (rest : Text) → Kind (45 ∷ 45 ∷ rest)
two_dashes [] = is_mark refl
two_dashes (x ∷ xs) = long_sign x xs _ refl (naming (before_first (λ b. b == 61) (x ∷ xs)))

-- after one dash
second_dash : (next : ℕ) (rest : Text) (dash : Bool) → (next == 45) ≡ dash → IsUtf8 (45 ∷ next ∷ rest) → Kind (45 ∷ next ∷ rest)
second_dash next rest true is utf8 = subst (λ (n : ℕ). Kind (45 ∷ n ∷ rest)) (sym (code_is next 45 is)) (two_dashes rest)
second_dash next rest false is utf8 =
    unknown_short next rest (rw is refl) (rw is refl) (rw is refl) (has_char next rest utf8)

first_dash : (b next : ℕ) (rest : Text) (dash : Bool) → (b == 45) ≡ dash → IsUtf8 (b ∷ next ∷ rest) → Kind (b ∷ next ∷ rest)
first_dash b next rest false is utf8 = plain is
first_dash b next rest true is utf8 =
    subst (λ (c : ℕ). Kind (c ∷ next ∷ rest)) (sym (code_is b 45 is))
    (second_dash next rest (next == 45) refl (subst (λ (c : ℕ). IsUtf8 (c ∷ next ∷ rest)) (code_is b 45 is) utf8))

pub kind_of : (word : Text) → IsUtf8 word → Kind word
kind_of [] utf8 = plain refl
kind_of (b ∷ []) utf8 = plain refl
kind_of (b ∷ next ∷ rest) utf8 = first_dash b next rest (b == 45) refl utf8
