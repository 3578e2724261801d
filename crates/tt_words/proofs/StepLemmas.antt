-- The walk of the parser over one word.
use Rattle.std.proofs.Common.{◌≡◌, ◌==◌, ◌&&◌, ℕ, Bool, true, false, List, [], ◌∷◌, Option, Some, None, refl, sym, ap, ◌∙◌}
use Rattle.std.specs.Str.{bytes_eq, chars}
use Rattle.clap.specs.Faults.{flags_fault, settle_fault, turn_fault, use_fault}
use Rattle.clap.specs.Kinds.{Kinds, or_else}
use Rattle.clap.specs.Lexer.{long_of, short_of}
use Rattle.clap.specs.Walk.{Held, Row, Rule, Text, Waiting, idle, option, positional, Walk, arg_by_id, arg_by_long, settled_rows, used, walked, with_values}
use Rattle.clap.specs.declared.builder.value_parser.Reading.TheVariants as reading
use Rattle.clap.specs.declared.error.kind.ErrorKind.{ErrorKind}
use Rattle.clap.specs.declared.error.kind.ErrorKind.TheVariants as kind
use Rattle.clap.specs.declared.parser.matches.ValueSource.TheVariants.{CommandLine}
use Rattle.tt_words.specs.Splitting.{is_dashed, mark}
use Rattle.tt_words.proofs.RowLemmas.{same_test, same_text}
use Rattle.tt_words.specs.inside.Program.{words_name}
use Rattle.tt_words.proofs.RuleLemmas.{TakesNone, TakesOne, by_index, by_no_short, top, words_several, words_take, words_trailing}

-- ---- small facts

pub and_false : (b : Bool) → (b && false) ≡ false
and_false true = refl
and_false false = refl

pub or_else_none : (kinds : Kinds) → or_else kinds [] ≡ kinds
or_else_none [] = refl
or_else_none (k ∷ kinds) = refl

-- a word that is not dashed is no option's and no mark
pub plain_not_mark : (word : Text) → is_dashed word ≡ false → bytes_eq word (45 ∷ 45 ∷ []) ≡ false
plain_not_mark word plain = by_case (bytes_eq word mark) refl
  where
    by_case : (b : Bool) → bytes_eq word mark ≡ b → bytes_eq word mark ≡ false
    by_case false e = e
    by_case true e = absurd (let no : true ≡ false = sym (ap is_dashed (same_text word mark e)) ∙ plain in cc)

one_long : (b : ℕ) (dash : Bool) → (b == 45) ≡ dash → long_of (b ∷ []) ≡ None
one_long b true e = rw e refl
one_long b false e = rw e refl

one_short : (b : ℕ) (dash : Bool) → (b == 45) ≡ dash → short_of (b ∷ []) ≡ None
one_short b true e = rw e refl
one_short b false e = rw e refl

pub plain_no_long : (word : Text) → is_dashed word ≡ false → long_of word ≡ None
plain_no_long [] plain = refl
plain_no_long (b ∷ []) plain = one_long b (b == 45) refl
plain_no_long (b ∷ next ∷ rest) plain = rw plain refl

pub plain_no_short : (word : Text) → is_dashed word ≡ false → short_of word ≡ None
plain_no_short [] plain = refl
plain_no_short (b ∷ []) plain = one_short b (b == 45) refl
plain_no_short (b ∷ next ∷ rest) plain = rw plain refl

-- ---- one use of an argument

pub used_is : (rule : Rule) (id value : Text) (rows : List Row) → TakesOne rule id →
    used rule (value ∷ []) rows ≡ with_values id reading.AsWritten CommandLine (value ∷ []) rows
used_is rule id value rows one = rw (one.action, one.named, one.reading) refl

pub use_is_right : (again : Bool) (rule : Rule) (id value : Text) (rows : List Row) → TakesOne rule id →
    use_fault again rule (value ∷ []) rows ≡ []
use_is_right again rule id value rows one = rw (one.range, one.most, one.action, one.parser) refl

pub use_lacks : (again : Bool) (rule : Rule) (id : Text) (rows : List Row) → TakesOne rule id →
    use_fault again rule [] rows ≡ kind.InvalidValue ∷ []
use_lacks again rule id rows one = rw one.range refl

pub flag_used_is : (rule : Rule) (id : Text) (rows : List Row) → TakesNone rule id →
    used rule [] rows ≡ with_values id reading.AsWritten CommandLine ([] ∷ []) rows
flag_used_is rule id rows none = rw (none.missing, none.action, none.named, none.reading) refl

flag_use_is_right : (again : Bool) (rule : Rule) (id : Text) (rows : List Row) → TakesNone rule id →
    use_fault again rule [] rows ≡ []
flag_use_is_right again rule id rows none = rw (none.range, none.most, none.missing, none.action, none.parser) refl

-- ---- where the walk stands between two words

abbrev pub held_at : List Row → Option (Text × List Text) → Held
held_at rows pending = record { rows = rows; pending = pending; skip = 0 }

abbrev pub at : List Row → Option (Text × List Text) → Waiting → Bool → Walk
at rows pending waiting trailing = record {
  held = held_at rows pending;
  waiting = waiting;
  position = 1;
  is_trailing = trailing;
  stopped = None;
}

-- what the use that is pending is refused for
abbrev pub pending_fault : List Row → Option (Text × List Text) → Kinds
pending_fault rows pending = settle_fault top.rules top.args_override_self (held_at rows pending)

-- the rows with the use that is pending
abbrev pub with_pending : List Row → Option (Text × List Text) → List Row
with_pending rows pending = settled_rows top.rules pending rows

-- no option waits for its value
abbrev pub IsFree : Waiting → Type 0
IsFree idle = Unit {0}
IsFree (option id) = ⊥
IsFree positional = Unit {0}

-- ---- ordinary words

module _ (rows : List Row) (pending : Option (Text × List Text)) (word : Text) where
  pub plain_walked : (waiting : Waiting) → IsFree waiting → is_dashed word ≡ false →
      walked top.rules [] (at rows pending waiting false) word
      ≡ at (with_pending rows pending) (Some (words_name, word ∷ [])) positional false
  unfolding walked
  plain_walked idle free plain =
      rw (plain_not_mark word plain, plain_no_long word plain, plain_no_short word plain, by_index, words_several, and_false, words_take.action, words_trailing, words_take.named) refl
  plain_walked (option id) free plain = absurd free
  plain_walked positional free plain =
      rw (plain_not_mark word plain, plain_no_long word plain, plain_no_short word plain, by_index, words_several, and_false, words_take.action, words_trailing, words_take.named) refl

  pub plain_fault : (waiting : Waiting) → IsFree waiting → is_dashed word ≡ false →
      turn_fault top [] (at rows pending waiting false) word ≡ pending_fault rows pending
  plain_fault idle free plain =
      rw (plain_not_mark word plain, plain_no_long word plain, plain_no_short word plain, by_index, words_several, and_false) refl
  plain_fault (option id) free plain = absurd free
  plain_fault positional free plain =
      rw (plain_not_mark word plain, plain_no_long word plain, plain_no_short word plain, by_index, words_several, and_false) refl

  -- after the mark
  pub trailing_walked : (waiting : Waiting) →
      walked top.rules [] (at rows pending waiting true) word
      ≡ at (with_pending rows pending) (Some (words_name, word ∷ [])) positional true
  unfolding walked
  trailing_walked waiting = rw (by_index, words_several, and_false, words_take.action, words_take.named) refl

  pub trailing_fault : (waiting : Waiting) →
      turn_fault top [] (at rows pending waiting true) word ≡ pending_fault rows pending
  trailing_fault waiting = rw (by_index, words_several, and_false) refl

-- ---- the mark

module _ (rows : List Row) (pending : Option (Text × List Text)) where
  pub mark_walked : (waiting : Waiting) → walked top.rules [] (at rows pending waiting false) mark ≡ at rows pending waiting true
  unfolding walked
  mark_walked idle = refl
  mark_walked (option id) = refl
  mark_walked positional = refl

  pub mark_fault : (waiting : Waiting) → turn_fault top [] (at rows pending waiting false) mark ≡ []
  mark_fault idle = refl
  mark_fault (option id) = refl
  mark_fault positional = refl

-- ---- options

module _ (rows : List Row) (pending : Option (Text × List Text)) (word id : Text) (rule : Rule)
    (no_mark : bytes_eq word (45 ∷ 45 ∷ []) ≡ false) (found : arg_by_long top.rules id ≡ Some rule) (one : TakesOne rule id) where
  pub named_walked : (waiting : Waiting) → long_of word ≡ Some (id, None) →
      walked top.rules [] (at rows pending waiting false) word
      ≡ at (with_pending rows pending) (Some (id, [])) (option id) false
  unfolding walked
  named_walked idle is = rw (no_mark, is, found, one.takes, one.named) refl
  named_walked (option other) is = rw (no_mark, is, found, one.takes, one.named) refl
  named_walked positional is = rw (no_mark, is, found, one.takes, one.named) refl

  pub named_fault : (waiting : Waiting) → long_of word ≡ Some (id, None) →
      turn_fault top [] (at rows pending waiting false) word ≡ pending_fault rows pending
  named_fault idle is = rw (no_mark, is, found, one.takes) (or_else_none _)
  named_fault (option other) is = rw (no_mark, is, found, one.takes) (or_else_none _)
  named_fault positional is = rw (no_mark, is, found, one.takes) (or_else_none _)

  pub joined_walked : (value : Text) (waiting : Waiting) → long_of word ≡ Some (id, Some value) →
      walked top.rules [] (at rows pending waiting false) word
      ≡ at (used rule (value ∷ []) (with_pending rows pending)) None idle false
  unfolding walked
  joined_walked value idle is = rw (no_mark, is, found, one.takes) refl
  joined_walked value (option other) is = rw (no_mark, is, found, one.takes) refl
  joined_walked value positional is = rw (no_mark, is, found, one.takes) refl

  pub joined_fault : (value : Text) (waiting : Waiting) → long_of word ≡ Some (id, Some value) → pending_fault rows pending ≡ [] →
      turn_fault top [] (at rows pending waiting false) word ≡ []
  joined_fault value idle is fine =
      rw (no_mark, is, found, one.takes, fine, use_is_right top.args_override_self rule id value (with_pending rows pending) one) refl
  joined_fault value (option other) is fine =
      rw (no_mark, is, found, one.takes, fine, use_is_right top.args_override_self rule id value (with_pending rows pending) one) refl
  joined_fault value positional is fine =
      rw (no_mark, is, found, one.takes, fine, use_is_right top.args_override_self rule id value (with_pending rows pending) one) refl

  pub joined_refused : (value : Text) (waiting : Waiting) (k : ErrorKind) (more : Kinds) → long_of word ≡ Some (id, Some value) →
      pending_fault rows pending ≡ k ∷ more → turn_fault top [] (at rows pending waiting false) word ≡ k ∷ more
  joined_refused value idle k more is wrong = rw (no_mark, is, found, one.takes, wrong) refl
  joined_refused value (option other) k more is wrong = rw (no_mark, is, found, one.takes, wrong) refl
  joined_refused value positional k more is wrong = rw (no_mark, is, found, one.takes, wrong) refl

-- ---- flags

module _ (rows : List Row) (pending : Option (Text × List Text)) (word id : Text) (rule : Rule)
    (no_mark : bytes_eq word (45 ∷ 45 ∷ []) ≡ false) (found : arg_by_long top.rules id ≡ Some rule) (none : TakesNone rule id) where
  pub flag_walked : (waiting : Waiting) → long_of word ≡ Some (id, None) →
      walked top.rules [] (at rows pending waiting false) word ≡ at (used rule [] (with_pending rows pending)) None idle false
  unfolding walked
  flag_walked idle is = rw (no_mark, is, found, none.takes) refl
  flag_walked (option other) is = rw (no_mark, is, found, none.takes) refl
  flag_walked positional is = rw (no_mark, is, found, none.takes) refl

  pub flag_fault : (waiting : Waiting) → long_of word ≡ Some (id, None) → pending_fault rows pending ≡ [] →
      turn_fault top [] (at rows pending waiting false) word ≡ []
  flag_fault idle is fine =
      rw (no_mark, is, found, none.takes, fine, flag_use_is_right top.args_override_self rule id (with_pending rows pending) none) refl
  flag_fault (option other) is fine =
      rw (no_mark, is, found, none.takes, fine, flag_use_is_right top.args_override_self rule id (with_pending rows pending) none) refl
  flag_fault positional is fine =
      rw (no_mark, is, found, none.takes, fine, flag_use_is_right top.args_override_self rule id (with_pending rows pending) none) refl

  pub flag_refused : (waiting : Waiting) (k : ErrorKind) (more : Kinds) → long_of word ≡ Some (id, None) →
      pending_fault rows pending ≡ k ∷ more → turn_fault top [] (at rows pending waiting false) word ≡ k ∷ more
  flag_refused idle k more is wrong = rw (no_mark, is, found, none.takes, wrong) refl
  flag_refused (option other) k more is wrong = rw (no_mark, is, found, none.takes, wrong) refl
  flag_refused positional k more is wrong = rw (no_mark, is, found, none.takes, wrong) refl

  -- a flag takes no value
  pub value_refused : (value : Text) (waiting : Waiting) → long_of word ≡ Some (id, Some value) →
      turn_fault top [] (at rows pending waiting false) word ≡ kind.TooManyValues ∷ []
  value_refused value idle is = rw (no_mark, is, found, none.takes) refl
  value_refused value (option other) is = rw (no_mark, is, found, none.takes) refl
  value_refused value positional is = rw (no_mark, is, found, none.takes) refl

-- ---- words that name nothing

module _ (rows : List Row) (pending : Option (Text × List Text)) (word : Text)
    (no_mark : bytes_eq word (45 ∷ 45 ∷ []) ≡ false) where
  pub long_refused : (waiting : Waiting) (name : Text) (value : Option Text) → long_of word ≡ Some (name, value) →
      arg_by_long top.rules name ≡ None →
      turn_fault top [] (at rows pending waiting false) word ≡ kind.UnknownArgument ∷ []
  long_refused idle name value is lacks = rw (no_mark, is, lacks) refl
  long_refused (option other) name value is lacks = rw (no_mark, is, lacks) refl
  long_refused positional name value is lacks = rw (no_mark, is, lacks) refl

  pub short_refused : (waiting : Waiting) (flag first : ℕ) (flags rest : Text) → long_of word ≡ None →
      short_of word ≡ Some (flag ∷ flags) → chars (flag ∷ flags) ≡ first ∷ rest →
      turn_fault top [] (at rows pending waiting false) word ≡ kind.UnknownArgument ∷ []
  unfolding flags_fault
  short_refused idle flag first flags rest no_long is are = rw (no_mark, no_long, is, are, by_no_short first) refl
  short_refused (option other) flag first flags rest no_long is are = rw (no_mark, no_long, is, are, by_no_short first) refl
  short_refused positional flag first flags rest no_long is are = rw (no_mark, no_long, is, are, by_no_short first) refl

-- the next word is the value
module _ (rows : List Row) (word id : Text) (rule : Rule) (plain : is_dashed word ≡ false)
    (found : arg_by_id top.rules id ≡ Some rule) (one : TakesOne rule id) where
  pub value_walked : walked top.rules [] (at rows (Some (id, [])) (option id) false) word ≡ at rows (Some (id, word ∷ [])) idle false
  unfolding walked
  value_walked =
      let same : bytes_eq id rule.id ≡ true = same_test id rule.id (sym one.named) in
      rw (plain_not_mark word plain, plain_no_long word plain, plain_no_short word plain, found, same, one.most) refl

  pub value_fault : turn_fault top [] (at rows (Some (id, [])) (option id) false) word ≡ []
  value_fault = rw (plain_not_mark word plain, plain_no_long word plain, plain_no_short word plain) refl
