-- Words that are walked with no fault split.
use Rattle.std.proofs.Common.{◌≡◌, ℕ, Bool, true, false, List, [], ◌∷◌, ◌++◌, Option, Some, None, bytes_eq, refl, sym, ap, ◌∙◌, subst}
use Rattle.std.specs.List.{AllByRecursion}
use Rattle.std.specs.Str.{IsUtf8}
use Rattle.clap.specs.Faults.{turn_fault}
use Rattle.clap.specs.Kinds.{Kinds, or_else}
use Rattle.clap.specs.Lexer.{long_of}
use Rattle.clap.specs.Walk.{Row, Text, Waiting, idle, option, positional, Walk, used, walked}
use Rattle.clap.specs.declared.error.kind.ErrorKind.{ErrorKind}
use Rattle.clap.specs.declared.error.kind.ErrorKind.TheVariants as kind
use Rattle.tt_words.specs.Splitting.{BeginsWith, next, same_word, flag, Given, Splits, nothing, end_mark, ordinary}
use Rattle.tt_words.specs.Splitting.{option as given_option, is_dashed, name_of, takes_value}
use Rattle.tt_words.specs.declared.setting.Setting.{Setting}
use Rattle.tt_words.proofs.KindLemmas.{HasChar, Kind, flag_name, flag_value, is_mark, kind_of, option_name, option_value, plain}
use Rattle.tt_words.proofs.KindLemmas.{unknown_long, unknown_short}
use Rattle.tt_words.specs.inside.Program.{bare, words_name}
use Rattle.tt_words.proofs.RuleLemmas.{by_id, by_long, flag_by_long, flag_of, flag_takes, long_joined, long_name, option_of, option_takes, top}
use Rattle.tt_words.proofs.StepLemmas.{IsFree, at, flag_refused, flag_walked, value_refused, joined_refused, joined_walked, long_refused, mark_walked}
use Rattle.tt_words.proofs.StepLemmas.{named_fault, named_walked, pending_fault, plain_walked, short_refused}
use Rattle.tt_words.proofs.StepLemmas.{trailing_fault, value_walked, with_pending}
use Rattle.tt_words.proofs.WalkLemmas.{fault_end, fault_from, fault_step, joined_not_mark, name_not_mark, pending_lacks}

or_else_left : (a b : Kinds) → or_else a b ≡ [] → a ≡ []
or_else_left [] b e = refl
or_else_left (k ∷ a) b e = e

or_else_right : (a b : Kinds) → or_else a b ≡ [] → b ≡ []
or_else_right [] b e = e
or_else_right (k ∷ a) b e = absurd (let bad : k ∷ a ≡ [] = e in cc)

-- a word that isn't refused, and what is left
later : (walk after : Walk) (word : Text) (rest : List Text) → walked top.rules [] walk word ≡ after →
    fault_from walk (word ∷ rest) ≡ [] → fault_from after rest ≡ []
later walk after word rest goes fine =
    or_else_right (turn_fault top [] walk word) (fault_from after rest) (sym (fault_step walk after word rest goes) ∙ fine)

-- a word that is refused
refused : (walk : Walk) (word : Text) (rest : List Text) (k : ErrorKind) (more : Kinds) →
    turn_fault top [] walk word ≡ k ∷ more → fault_from walk (word ∷ rest) ≡ [] → ⊥
refused walk word rest k more wrong fine =
    let none : turn_fault top [] walk word ≡ [] =
    or_else_left (turn_fault top [] walk word) (fault_from (walked top.rules [] walk word) rest)
    (sym (fault_step walk (walked top.rules [] walk word) word rest refl) ∙ fine) in
    let bad : k ∷ more ≡ [] = sym wrong ∙ none in
    cc

-- an option lacks its value
lacks : (rows : List Row) (setting : Setting) → takes_value setting ≡ true →
    pending_fault rows (Some (bare setting, [])) ≡ kind.InvalidValue ∷ []
lacks rows setting takes = pending_lacks rows (bare setting) (option_of setting) (by_id setting takes) (option_takes setting)

module _ (rows : List Row) (setting : Setting) (needs : takes_value setting ≡ true) where
  lacks_at_end : (waiting : Waiting) (trailing : Bool) →
      fault_from (at rows (Some (bare setting, [])) waiting trailing) [] ≡ [] → ⊥
  lacks_at_end waiting trailing fine =
      let bad : kind.InvalidValue ∷ [] ≡ [] =
      sym (lacks rows setting needs) ∙ (sym (fault_end rows (Some (bare setting, [])) waiting trailing) ∙ fine) in
      cc

  lacks_trailing : (waiting : Waiting) (all : List Text) →
      fault_from (at rows (Some (bare setting, [])) waiting true) all ≡ [] → ⊥
  lacks_trailing waiting [] fine = lacks_at_end waiting true fine
  lacks_trailing waiting (word ∷ rest) fine =
      refused (at rows (Some (bare setting, [])) waiting true) word rest kind.InvalidValue []
      (trailing_fault rows (Some (bare setting, [])) word waiting ∙ lacks rows setting needs) fine

  -- a dashed word is no value
  lacks_dashed : (word : Text) (rest : List Text) → Kind word → (is_dashed word ≡ false → ⊥) →
      fault_from (at rows (Some (bare setting, [])) (option (bare setting)) false) (word ∷ rest) ≡ [] → ⊥
  lacks_dashed word rest (plain flat) dashed fine = dashed flat
  lacks_dashed word rest (is_mark is) dashed fine =
      lacks_trailing (option (bare setting)) rest
      (later (at rows (Some (bare setting, [])) (option (bare setting)) false) (at rows (Some (bare setting, [])) (option (bare setting)) true)
      word rest (subst (λ (w : Text). walked top.rules [] (at rows (Some (bare setting, [])) (option (bare setting)) false) w
      ≡ at rows (Some (bare setting, [])) (option (bare setting)) true) (sym is)
      (mark_walked rows (Some (bare setting, [])) (option (bare setting)))) fine)
  lacks_dashed word rest (option_name other takes is) dashed fine =
      refused (at rows (Some (bare setting, [])) (option (bare setting)) false) word rest kind.InvalidValue []
      (named_fault rows (Some (bare setting, [])) word (bare other) (option_of other) (name_not_mark other word is) (by_long other takes)
      (option_takes other) (option (bare setting)) (ap long_of is ∙ long_name other) ∙ lacks rows setting needs) fine
  lacks_dashed word rest (option_value other value takes is) dashed fine =
      refused (at rows (Some (bare setting, [])) (option (bare setting)) false) word rest kind.InvalidValue []
      (joined_refused rows (Some (bare setting, [])) word (bare other) (option_of other) (joined_not_mark other word value is)
      (by_long other takes) (option_takes other) value (option (bare setting)) kind.InvalidValue []
      (ap long_of is ∙ long_joined other value) (lacks rows setting needs)) fine
  lacks_dashed word rest (flag_name other takes is) dashed fine =
      refused (at rows (Some (bare setting, [])) (option (bare setting)) false) word rest kind.InvalidValue []
      (flag_refused rows (Some (bare setting, [])) word (bare other) (flag_of other) (name_not_mark other word is) (flag_by_long other takes)
      (flag_takes other) (option (bare setting)) kind.InvalidValue [] (ap long_of is ∙ long_name other) (lacks rows setting needs)) fine
  lacks_dashed word rest (flag_value other value takes is) dashed fine =
      refused (at rows (Some (bare setting, [])) (option (bare setting)) false) word rest kind.TooManyValues []
      (value_refused rows (Some (bare setting, [])) word (bare other) (flag_of other) (joined_not_mark other word value is)
      (flag_by_long other takes) (flag_takes other) value (option (bare setting)) (ap long_of is ∙ long_joined other value)) fine
  lacks_dashed word rest (unknown_long name value no_mark is none) dashed fine =
      refused (at rows (Some (bare setting, [])) (option (bare setting)) false) word rest kind.UnknownArgument []
      (long_refused rows (Some (bare setting, [])) word no_mark (option (bare setting)) name value is none) fine
  lacks_dashed word rest (unknown_short letter flags no_mark no_long is has) dashed fine =
      refused (at rows (Some (bare setting, [])) (option (bare setting)) false) word rest kind.UnknownArgument []
      (short_refused rows (Some (bare setting, [])) word no_mark (option (bare setting)) letter has.first flags has.rest no_long is has.are) fine

-- ---- the parts of words with no fault

pub record Parts (all : List Text) : Type 0 where
  pub options : List Given
  pub words : List Text
  pub splits : Splits all options words

parts_word : (word : Text) (rest : List Text) → is_dashed word ≡ false → Parts rest → Parts (word ∷ rest)
parts_word word rest flat parts =
    record { options = parts.options; words = word ∷ parts.words; splits = ordinary flat parts.splits }

parts_option : (all rest : List Text) (given : Given) → BeginsWith all given rest → Parts rest → Parts all
parts_option all rest given front parts =
    record { options = given ∷ parts.options; words = parts.words; splits = given_option front parts.splits }

-- after an ordinary word
after_plain : (rows : List Row) (pending : Option (Text × List Text)) (waiting : Waiting) (word : Text) (rest : List Text) →
    IsFree waiting → is_dashed word ≡ false → fault_from (at rows pending waiting false) (word ∷ rest) ≡ [] →
    fault_from (at (with_pending rows pending) (Some (words_name, word ∷ [])) positional false) rest ≡ []
after_plain rows pending waiting word rest free flat fine =
    later (at rows pending waiting false) (at (with_pending rows pending) (Some (words_name, word ∷ [])) positional false) word rest
    (plain_walked rows pending word waiting free flat) fine

-- after an option with its value in one word
after_joined : (rows : List Row) (pending : Option (Text × List Text)) (waiting : Waiting) (word : Text) (rest : List Text)
    (setting : Setting) (value : Text) → takes_value setting ≡ true → word ≡ name_of setting ++ (61 ∷ value) →
    fault_from (at rows pending waiting false) (word ∷ rest) ≡ [] →
    fault_from (at (used (option_of setting) (value ∷ []) (with_pending rows pending)) None idle false) rest ≡ []
after_joined rows pending waiting word rest setting value takes is fine =
    later (at rows pending waiting false) (at (used (option_of setting) (value ∷ []) (with_pending rows pending)) None idle false) word rest
    (joined_walked rows pending word (bare setting) (option_of setting) (joined_not_mark setting word value is) (by_long setting takes)
    (option_takes setting) value waiting (ap long_of is ∙ long_joined setting value)) fine

-- after an option's name
after_name : (rows : List Row) (pending : Option (Text × List Text)) (waiting : Waiting) (word : Text) (rest : List Text)
    (setting : Setting) → takes_value setting ≡ true → word ≡ name_of setting →
    fault_from (at rows pending waiting false) (word ∷ rest) ≡ [] →
    fault_from (at (with_pending rows pending) (Some (bare setting, [])) (option (bare setting)) false) rest ≡ []
after_name rows pending waiting word rest setting takes is fine =
    later (at rows pending waiting false) (at (with_pending rows pending) (Some (bare setting, [])) (option (bare setting)) false) word rest
    (named_walked rows pending word (bare setting) (option_of setting) (name_not_mark setting word is) (by_long setting takes)
    (option_takes setting) waiting (ap long_of is ∙ long_name setting)) fine

-- after a flag
after_flag : (rows : List Row) (pending : Option (Text × List Text)) (waiting : Waiting) (word : Text) (rest : List Text)
    (setting : Setting) → takes_value setting ≡ false → word ≡ name_of setting →
    fault_from (at rows pending waiting false) (word ∷ rest) ≡ [] →
    fault_from (at (used (flag_of setting) [] (with_pending rows pending)) None idle false) rest ≡ []
after_flag rows pending waiting word rest setting takes is fine =
    later (at rows pending waiting false) (at (used (flag_of setting) [] (with_pending rows pending)) None idle false) word rest
    (flag_walked rows pending word (bare setting) (flag_of setting) (name_not_mark setting word is) (flag_by_long setting takes)
    (flag_takes setting) waiting (ap long_of is ∙ long_name setting)) fine

-- a flag takes no value
flag_value_wrong : (rows : List Row) (pending : Option (Text × List Text)) (waiting : Waiting) (word : Text) (rest : List Text)
    (setting : Setting) (value : Text) → takes_value setting ≡ false → word ≡ name_of setting ++ (61 ∷ value) →
    fault_from (at rows pending waiting false) (word ∷ rest) ≡ [] → ⊥
flag_value_wrong rows pending waiting word rest setting value takes is fine =
    refused (at rows pending waiting false) word rest kind.TooManyValues []
    (value_refused rows pending word (bare setting) (flag_of setting) (joined_not_mark setting word value is)
    (flag_by_long setting takes) (flag_takes setting) value waiting (ap long_of is ∙ long_joined setting value)) fine

-- after its value
after_value : (rows : List Row) (setting : Setting) (value : Text) (rest : List Text) → takes_value setting ≡ true →
    is_dashed value ≡ false →
    fault_from (at rows (Some (bare setting, [])) (option (bare setting)) false) (value ∷ rest) ≡ [] →
    fault_from (at rows (Some (bare setting, value ∷ [])) idle false) rest ≡ []
after_value rows setting value rest takes flat fine =
    later (at rows (Some (bare setting, [])) (option (bare setting)) false) (at rows (Some (bare setting, value ∷ [])) idle false) value rest
    (value_walked rows value (bare setting) (option_of setting) flat (by_id setting takes) (option_takes setting)) fine

-- the value of an option is not dashed
value_flat : (rows : List Row) (setting : Setting) (value : Text) (rest : List Text) → takes_value setting ≡ true →
    Kind value → (b : Bool) → is_dashed value ≡ b →
    fault_from (at rows (Some (bare setting, [])) (option (bare setting)) false) (value ∷ rest) ≡ [] → is_dashed value ≡ false
value_flat rows setting value rest takes of false is fine = is
value_flat rows setting value rest takes of true is fine =
    absurd (lacks_dashed rows setting takes value rest of (λ flat. let bad : true ≡ false = sym is ∙ flat in cc) fine)

unknown_long_wrong : (rows : List Row) (pending : Option (Text × List Text)) (waiting : Waiting) (word : Text) (rest : List Text)
    (name : Text) (value : Option Text) → bytes_eq word (45 ∷ 45 ∷ []) ≡ false → long_of word ≡ Some (name, value) →
    Rattle.clap.specs.Walk.arg_by_long top.rules name ≡ None → fault_from (at rows pending waiting false) (word ∷ rest) ≡ [] → ⊥
unknown_long_wrong rows pending waiting word rest name value no_mark is none fine =
    refused (at rows pending waiting false) word rest kind.UnknownArgument []
    (long_refused rows pending word no_mark waiting name value is none) fine

unknown_short_wrong : (rows : List Row) (pending : Option (Text × List Text)) (waiting : Waiting) (word : Text) (rest : List Text)
    (letter : ℕ) (flags : Text) → bytes_eq word (45 ∷ 45 ∷ []) ≡ false → long_of word ≡ None →
    Rattle.clap.specs.Lexer.short_of word ≡ Some (letter ∷ flags) → HasChar (letter ∷ flags) →
    fault_from (at rows pending waiting false) (word ∷ rest) ≡ [] → ⊥
unknown_short_wrong rows pending waiting word rest letter flags no_mark no_long is has fine =
    refused (at rows pending waiting false) word rest kind.UnknownArgument []
    (short_refused rows pending word no_mark waiting letter has.first flags has.rest no_long is has.are) fine

pub faultless : (all : List Text) → AllByRecursion IsUtf8 all → (rows : List Row) (pending : Option (Text × List Text))
    (waiting : Waiting) → IsFree waiting → fault_from (at rows pending waiting false) all ≡ [] → Parts all
faultless [] utf8 rows pending waiting free fine = record { options = []; words = []; splits = nothing }
faultless (word ∷ []) utf8 rows pending waiting free fine = elim (kind_of word utf8.0) [
  | plain flat ↦ parts_word word [] flat (record { options = []; words = []; splits = nothing })
  | is_mark is ↦ record { options = []; words = []; splits = end_mark is }
  | option_name setting takes is ↦
      absurd (lacks_at_end (with_pending rows pending) setting takes (option (bare setting)) false
      (after_name rows pending waiting word [] setting takes is fine))
  | option_value setting value takes is ↦
      parts_option (word ∷ []) [] (record { setting = setting; value = value }) (same_word setting takes is)
      (record { options = []; words = []; splits = nothing })
  | flag_name setting takes is ↦
      parts_option (word ∷ []) [] (record { setting = setting; value = [] }) (flag setting takes is)
      (record { options = []; words = []; splits = nothing })
  | flag_value setting value takes is ↦ absurd (flag_value_wrong rows pending waiting word [] setting value takes is fine)
  | unknown_long name value no_mark is none ↦ absurd (unknown_long_wrong rows pending waiting word [] name value no_mark is none fine)
  | unknown_short letter flags no_mark no_long is has ↦
      absurd (unknown_short_wrong rows pending waiting word [] letter flags no_mark no_long is has fine)
]
faultless (word ∷ value ∷ rest) utf8 rows pending waiting free fine = elim (kind_of word utf8.0) [
  | plain flat ↦
      parts_word word (value ∷ rest) flat
      (faultless (value ∷ rest) utf8.1 (with_pending rows pending) (Some (words_name, word ∷ [])) positional tt
      (after_plain rows pending waiting word (value ∷ rest) free flat fine))
  | is_mark is ↦ record { options = []; words = value ∷ rest; splits = end_mark is }
  | option_name setting takes is ↦
      let more = after_name rows pending waiting word (value ∷ rest) setting takes is fine in
      let flat = value_flat (with_pending rows pending) setting value rest takes (kind_of value utf8.1.0) (is_dashed value) refl more in
      parts_option (word ∷ value ∷ rest) rest (record { setting = setting; value = value }) (next setting takes is flat)
      (faultless rest utf8.1.1 (with_pending rows pending) (Some (bare setting, value ∷ [])) idle tt
      (after_value (with_pending rows pending) setting value rest takes flat more))
  | option_value setting given takes is ↦
      parts_option (word ∷ value ∷ rest) (value ∷ rest) (record { setting = setting; value = given }) (same_word setting takes is)
      (faultless (value ∷ rest) utf8.1 (used (option_of setting) (given ∷ []) (with_pending rows pending)) None idle tt
      (after_joined rows pending waiting word (value ∷ rest) setting given takes is fine))
  | flag_name setting takes is ↦
      parts_option (word ∷ value ∷ rest) (value ∷ rest) (record { setting = setting; value = [] }) (flag setting takes is)
      (faultless (value ∷ rest) utf8.1 (used (flag_of setting) [] (with_pending rows pending)) None idle tt
      (after_flag rows pending waiting word (value ∷ rest) setting takes is fine))
  | flag_value setting given takes is ↦ absurd (flag_value_wrong rows pending waiting word (value ∷ rest) setting given takes is fine)
  | unknown_long name given no_mark is none ↦ absurd (unknown_long_wrong rows pending waiting word (value ∷ rest) name given no_mark is none fine)
  | unknown_short letter flags no_mark no_long is has ↦
      absurd (unknown_short_wrong rows pending waiting word (value ∷ rest) letter flags no_mark no_long is has fine)
]
