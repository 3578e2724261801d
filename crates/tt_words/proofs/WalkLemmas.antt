-- The walk of the parser over words that split.
use Rattle.std.proofs.Common.{◌≡◌, ◌≢◌, ◌==◌, ◌&&◌, ℕ, Bool, true, false, List, [], ◌∷◌, ◌++◌, length, Option, Some}
use Rattle.std.proofs.Common.{None, bytes_eq, codes, refl, sym, ap, ◌∙◌, subst, append_assoc, append-nil}
use Rattle.std.specs.List.{fold}
use Rattle.clap.specs.Faults.{settle_fault, turn_fault, walk_fault}
use Rattle.clap.specs.Kinds.{Kinds, or_else}
use Rattle.clap.specs.Lexer.{long_of}
use Rattle.clap.specs.Walk.{Row, Rule, Text, Waiting, idle, option, positional, Walk, arg_by_id, settled_rows, used, walked, with_values}
use Rattle.clap.specs.declared.builder.value_parser.Reading.TheVariants as reading
use Rattle.clap.specs.declared.error.kind.ErrorKind.TheVariants as kind
use Rattle.clap.specs.declared.parser.matches.ValueSource.TheVariants.{CommandLine}
use Rattle.tt_words.specs.Asked.{values_of}
use Rattle.tt_words.specs.Splitting.{next, same_word, flag, Given, Splits, nothing, end_mark, ordinary, option as given_option, mark, name_of, takes_value}
use Rattle.tt_words.specs.declared.setting.Setting.{Setting}
use Rattle.tt_words.specs.declared.setting.Setting.TheVariants.{Workers, Steps, Limit, Record, Replay}
use Rattle.tt_words.specs.declared.setting.Setting.TheVariants.{Generate, Waits, Races, Debug}
use Rattle.tt_words.proofs.FrontLemmas.{mark_no_name, mark_not_joined, name_is, one_name}
use Rattle.tt_words.proofs.RowLemmas.{same_text, values_at, values_more, values_same}
use Rattle.tt_words.specs.inside.Program.{bare, words_name}
use Rattle.tt_words.proofs.RuleLemmas.{TakesOne, by_id, by_long, by_words, flag_by_long, flag_of, flag_takes}
use Rattle.tt_words.proofs.RuleLemmas.{long_joined, long_name, option_of, option_takes, top, words, words_take}
use Rattle.tt_words.proofs.StepLemmas.{IsFree, at, joined_walked, mark_fault, mark_walked, named_fault, named_walked}
use Rattle.tt_words.proofs.StepLemmas.{pending_fault, plain_fault, plain_walked, trailing_fault, trailing_walked}
use Rattle.tt_words.proofs.StepLemmas.{use_is_right, use_lacks, used_is, value_fault, value_walked, with_pending}
use Rattle.tt_words.proofs.StepLemmas.{flag_fault, flag_used_is, flag_walked, joined_fault}

-- ---- the whole walk

-- why the walk over the words is refused
abbrev pub fault_from : Walk → List Text → Kinds
fault_from walk all =
    or_else (walk_fault top [] walk all)
    (settle_fault top.rules top.args_override_self (fold (walked top.rules []) walk all).held)

-- the rows after the walk
abbrev pub rows_from : Walk → List Text → List Row
rows_from walk all =
    settled_rows top.rules (fold (walked top.rules []) walk all).held.pending (fold (walked top.rules []) walk all).held.rows

-- one word, which isn't refused
or_else-assoc : (a b c : Kinds) → or_else (or_else a b) c ≡ or_else a (or_else b c)
or_else-assoc [] b c = refl
or_else-assoc (k ∷ a) b c = refl

pub fault_step : (walk after : Walk) (word : Text) (rest : List Text) → walked top.rules [] walk word ≡ after →
    fault_from walk (word ∷ rest) ≡ or_else (turn_fault top [] walk word) (fault_from after rest)
unfolding walk_fault
fault_step walk after word rest e =
    or_else-assoc (turn_fault top [] walk word) (walk_fault top [] (walked top.rules [] walk word) rest)
    (settle_fault top.rules top.args_override_self (fold (walked top.rules []) (walked top.rules [] walk word) rest).held)
    ∙ ap (λ (w : Walk). or_else (turn_fault top [] walk word) (fault_from w rest)) e

pub rows_step : (walk after : Walk) (word : Text) (rest : List Text) → walked top.rules [] walk word ≡ after →
    rows_from walk (word ∷ rest) ≡ rows_from after rest
rows_step walk after word rest e = ap (λ (w : Walk). rows_from w rest) e

-- the end
pub fault_end : (rows : List Row) (pending : Option (Text × List Text)) (waiting : Waiting) (trailing : Bool) →
    fault_from (at rows pending waiting trailing) [] ≡ pending_fault rows pending
unfolding walk_fault
fault_end rows pending waiting trailing = refl

-- ---- uses that are pending

pub pending_right : (rows : List Row) (id value : Text) (rule : Rule) → arg_by_id top.rules id ≡ Some rule → TakesOne rule id →
    pending_fault rows (Some (id, value ∷ [])) ≡ []
pending_right rows id value rule found one = rw found (use_is_right top.args_override_self rule id value rows one)

pub pending_lacks : (rows : List Row) (id : Text) (rule : Rule) → arg_by_id top.rules id ≡ Some rule → TakesOne rule id →
    pending_fault rows (Some (id, [])) ≡ kind.InvalidValue ∷ []
pending_lacks rows id rule found one = rw found (use_lacks top.args_override_self rule id rows one)

pub with_pending_is : (rows : List Row) (id value : Text) (rule : Rule) → arg_by_id top.rules id ≡ Some rule → TakesOne rule id →
    with_pending rows (Some (id, value ∷ [])) ≡ with_values id reading.AsWritten CommandLine (value ∷ []) rows
with_pending_is rows id value rule found one = rw found (used_is rule id value rows one)

-- ---- values

differ : (setting : Setting) → bytes_eq (bare setting) words_name ≡ false
differ Workers = refl
differ Steps = refl
differ Limit = refl
differ Record = refl
differ Replay = refl
differ Generate = refl
differ Waits = refl
differ Races = refl
differ Debug = refl

differ_back : (setting : Setting) → bytes_eq words_name (bare setting) ≡ false
differ_back Workers = refl
differ_back Steps = refl
differ_back Limit = refl
differ_back Record = refl
differ_back Replay = refl
differ_back Generate = refl
differ_back Waits = refl
differ_back Races = refl
differ_back Debug = refl

-- what rows have of options and ordinary words
pub record Grows (old new : List Row) (options : List Given) (more : List Text) : Type 0 where
  pub of_options : (setting : Setting) → values_at (bare setting) new ≡ values_at (bare setting) old ++ values_of setting options
  pub of_words : values_at words_name new ≡ values_at words_name old ++ more

grows_none : (rows : List Row) → Grows rows rows [] []
grows_none rows = record {
  of_options = λ setting. sym (append-nil (values_at (bare setting) rows));
  of_words = sym (append-nil (values_at words_name rows));
}

-- one ordinary word
grows_word : (rows : List Row) (word : Text) →
    Grows rows (with_values words_name reading.AsWritten CommandLine (word ∷ []) rows) [] (word ∷ [])
grows_word rows word = record {
  of_options = λ setting.
      values_same words_name reading.AsWritten CommandLine word (bare setting) (differ_back setting) rows
      ∙ sym (append-nil (values_at (bare setting) rows));
  of_words = values_more words_name reading.AsWritten CommandLine word rows;
}

-- two options are one, or their names differ
pub data Compared : Setting → Setting → Type 0 where
  same : {setting : Setting} → Compared setting setting
  other : {one two : Setting} →
      bytes_eq (bare one) (bare two) ≡ false →
      bytes_eq (name_of two) (name_of one) ≡ false →
      Compared one two

compare : (one two : Setting) → Compared one two
compare one two = by_names (bytes_eq (bare one) (bare two)) refl (bytes_eq (name_of two) (name_of one)) refl
  where
    same_bare : bare one ≡ bare two → one ≡ two
    same_bare e = one_name one two (name_is one ∙ (ap (λ (t : Text). 45 ∷ 45 ∷ t) e ∙ sym (name_is two)))

    by_names : (a : Bool) → bytes_eq (bare one) (bare two) ≡ a → (b : Bool) → bytes_eq (name_of two) (name_of one) ≡ b →
        Compared one two
    by_names true e b f =
        subst (λ (t : Setting). Compared one t) (same_bare (same_text (bare one) (bare two) e)) same
    by_names false e true f =
        subst (λ (t : Setting). Compared one t) (sym (one_name two one (same_text (name_of two) (name_of one) f))) same
    by_names false e false f = other e f

own_name : (setting : Setting) → bytes_eq (name_of setting) (name_of setting) ≡ true
own_name Workers = refl
own_name Steps = refl
own_name Limit = refl
own_name Record = refl
own_name Replay = refl
own_name Generate = refl
own_name Waits = refl
own_name Races = refl
own_name Debug = refl

-- one option
grows_option : (rows : List Row) (given : Given) →
    Grows rows (with_values (bare given.setting) reading.AsWritten CommandLine (given.value ∷ []) rows) (given ∷ []) []
grows_option rows given = record {
  of_options = λ setting. of_option setting (compare given.setting setting);
  of_words =
      values_same (bare given.setting) reading.AsWritten CommandLine given.value words_name (differ given.setting) rows
      ∙ sym (append-nil (values_at words_name rows));
}
  where
    of_same : (setting : Setting) (value : Text) →
        values_at (bare setting) (with_values (bare setting) reading.AsWritten CommandLine (value ∷ []) rows)
        ≡ values_at (bare setting) rows ++ values_of setting (record { setting = setting; value = value } ∷ [])
    of_same setting value =
        rw (own_name setting) (values_more (bare setting) reading.AsWritten CommandLine value rows)

    of_other : (one two : Setting) (value : Text) → bytes_eq (bare one) (bare two) ≡ false → bytes_eq (name_of two) (name_of one) ≡ false →
        values_at (bare two) (with_values (bare one) reading.AsWritten CommandLine (value ∷ []) rows)
        ≡ values_at (bare two) rows ++ values_of two (record { setting = one; value = value } ∷ [])
    of_other one two value e f =
        rw f (values_same (bare one) reading.AsWritten CommandLine value (bare two) e rows
        ∙ sym (append-nil (values_at (bare two) rows)))

    of_option : (setting : Setting) → Compared given.setting setting →
        values_at (bare setting) (with_values (bare given.setting) reading.AsWritten CommandLine (given.value ∷ []) rows)
        ≡ values_at (bare setting) rows ++ values_of setting (given ∷ [])
    of_option setting compared = go given.setting setting compared
      where
        go : (one two : Setting) → Compared one two →
            values_at (bare two) (with_values (bare one) reading.AsWritten CommandLine (given.value ∷ []) rows)
            ≡ values_at (bare two) rows ++ values_of two (record { setting = one; value = given.value } ∷ [])
        go one two (same {setting = s}) = of_same s given.value
        go one two (other e f) = of_other one two given.value e f

-- ---- one after another

values_of-append : (setting : Setting) (front back : List Given) →
    values_of setting (front ++ back) ≡ values_of setting front ++ values_of setting back
values_of-append setting [] back = refl
values_of-append setting (given ∷ front) back =
    kept (bytes_eq (name_of setting) (name_of given.setting)) (values_of-append setting front back)
  where
    kept : (b : Bool) → values_of setting (front ++ back) ≡ values_of setting front ++ values_of setting back →
        Rattle.std.proofs.Common.cond b (given.value ∷ values_of setting (front ++ back)) (values_of setting (front ++ back))
        ≡ Rattle.std.proofs.Common.cond b (given.value ∷ values_of setting front) (values_of setting front) ++ values_of setting back
    kept true e = ap (λ (t : List Text). given.value ∷ t) e
    kept false e = e

grows_on : (one two three : List Row) (front back : List Given) (start end : List Text) →
    Grows one two front start → Grows two three back end → Grows one three (front ++ back) (start ++ end)
grows_on one two three front back start end a b = record {
  of_options = λ setting.
      b.of_options setting ∙ (ap (λ (t : List Text). t ++ values_of setting back) (a.of_options setting)
      ∙ (append_assoc (values_at (bare setting) one) (values_of setting front) (values_of setting back)
      ∙ ap (λ (t : List Text). values_at (bare setting) one ++ t) (sym (values_of-append setting front back))));
  of_words =
      b.of_words ∙ (ap (λ (t : List Text). t ++ end) a.of_words ∙ append_assoc (values_at words_name one) start end);
}

-- ---- words that split are walked with no fault, and the rows have their parts

-- the walk ends well
pub record EndsWell (rows : List Row) (pending : Option (Text × List Text)) (waiting : Waiting) (trailing : Bool)
    (all : List Text) (options : List Given) (more : List Text) : Type 0 where
  pub fault : fault_from (at rows pending waiting trailing) all ≡ []
  pub grows : Grows (with_pending rows pending) (rows_from (at rows pending waiting trailing) all) options more

ends_here : (rows : List Row) (pending : Option (Text × List Text)) (waiting : Waiting) (trailing : Bool) →
    pending_fault rows pending ≡ [] → EndsWell rows pending waiting trailing [] [] []
ends_here rows pending waiting trailing fine = record {
  fault = fault_end rows pending waiting trailing ∙ fine;
  grows = grows_none (with_pending rows pending);
}

-- the walk comes to a place with no fault, and these words are left
pub record Reaches (walk after : Walk) (all rest : List Text) : Type 0 where
  pub fault : fault_from walk all ≡ fault_from after rest
  pub rows : rows_from walk all ≡ rows_from after rest

pub reach : (walk after : Walk) (word : Text) (rest : List Text) → walked top.rules [] walk word ≡ after →
    turn_fault top [] walk word ≡ [] → Reaches walk after (word ∷ rest) rest
reach walk after word rest goes fine = record {
  fault = fault_step walk after word rest goes ∙ ap (λ (k : Kinds). or_else k (fault_from after rest)) fine;
  rows = rows_step walk after word rest goes;
}

pub reach_on : (walk between after : Walk) (all some rest : List Text) → Reaches walk between all some →
    Reaches between after some rest → Reaches walk after all rest
reach_on walk between after all some rest a b = record { fault = a.fault ∙ b.fault; rows = a.rows ∙ b.rows }

-- by what was added on the way, and how the walk goes on
ends_on : (rows later : List Row) (pending after : Option (Text × List Text)) (waiting then : Waiting) (trailing still : Bool)
    (all rest : List Text) (front options : List Given) (start more : List Text) →
    Reaches (at rows pending waiting trailing) (at later after then still) all rest →
    Grows (with_pending rows pending) (with_pending later after) front start →
    EndsWell later after then still rest options more →
    EndsWell rows pending waiting trailing all (front ++ options) (start ++ more)
ends_on rows later pending after waiting then trailing still all rest front options start more reaches grown ends = record {
  fault = reaches.fault ∙ ends.fault;
  grows =
      subst (λ (new : List Row). Grows (with_pending rows pending) new (front ++ options) (start ++ more))
      (sym reaches.rows)
      (grows_on (with_pending rows pending) (with_pending later after) (rows_from (at later after then still) rest)
      front options start more grown ends.grows);
}

-- an ordinary word is pending
grows_pending_word : (rows : List Row) (word : Text) → Grows rows (with_pending rows (Some (words_name, word ∷ []))) [] (word ∷ [])
grows_pending_word rows word =
    subst (λ (new : List Row). Grows rows new [] (word ∷ [])) (sym (with_pending_is rows words_name word words by_words words_take))
    (grows_word rows word)

-- an option is pending
grows_pending_option : (rows : List Row) (setting : Setting) (value : Text) → takes_value setting ≡ true →
    Grows rows (with_pending rows (Some (bare setting, value ∷ []))) (record { setting = setting; value = value } ∷ []) []
grows_pending_option rows setting value takes =
    subst (λ (new : List Row). Grows rows new (record { setting = setting; value = value } ∷ []) [])
    (sym (with_pending_is rows (bare setting) value (option_of setting) (by_id setting takes) (option_takes setting)))
    (grows_option rows (record { setting = setting; value = value }))

-- after the mark
pub ends_trailing : (rows : List Row) (pending : Option (Text × List Text)) (waiting : Waiting) (all : List Text) →
    pending_fault rows pending ≡ [] → EndsWell rows pending waiting true all [] all
ends_trailing rows pending waiting [] fine = ends_here rows pending waiting true fine
ends_trailing rows pending waiting (word ∷ rest) fine =
    ends_on rows (with_pending rows pending) pending (Some (words_name, word ∷ [])) waiting positional true true (word ∷ rest) rest [] []
    (word ∷ []) rest (reach _ _ word rest (trailing_walked rows pending word waiting) (trailing_fault rows pending word waiting ∙ fine))
    (grows_pending_word (with_pending rows pending) word)
    (ends_trailing (with_pending rows pending) (Some (words_name, word ∷ [])) positional rest
    (pending_right (with_pending rows pending) words_name word words by_words words_take))

pub name_not_mark : (setting : Setting) (word : Text) → word ≡ name_of setting → bytes_eq word (45 ∷ 45 ∷ []) ≡ false
name_not_mark setting word is = by_case (bytes_eq word mark) refl
  where
    by_case : (b : Bool) → bytes_eq word mark ≡ b → bytes_eq word mark ≡ false
    by_case false e = e
    by_case true e = absurd (mark_no_name setting (sym (same_text word mark e) ∙ is))

pub joined_not_mark : (setting : Setting) (word value : Text) → word ≡ name_of setting ++ (61 ∷ value) → bytes_eq word (45 ∷ 45 ∷ []) ≡ false
joined_not_mark setting word value is = by_case (bytes_eq word mark) refl
  where
    by_case : (b : Bool) → bytes_eq word mark ≡ b → bytes_eq word mark ≡ false
    by_case false e = e
    by_case true e = absurd (mark_not_joined setting value (sym (same_text word mark e) ∙ is))

pub ends_split : (rows : List Row) (pending : Option (Text × List Text)) (waiting : Waiting)
    (all : List Text) (options : List Given) (more : List Text) →
    IsFree waiting → pending_fault rows pending ≡ [] → Splits all options more →
    EndsWell rows pending waiting false all options more
ends_split rows pending waiting all options more free fine nothing = ends_here rows pending waiting false fine
ends_split rows pending waiting all options more free fine (end_mark {word} {rest} is) =
    subst (λ (w : Text). EndsWell rows pending waiting false (w ∷ rest) [] rest) (sym is)
    (ends_on rows rows pending pending waiting waiting false true (mark ∷ rest) rest [] [] [] rest
    (reach _ _ mark rest (mark_walked rows pending waiting) (mark_fault rows pending waiting)) (grows_none (with_pending rows pending))
    (ends_trailing rows pending waiting rest fine))
ends_split rows pending waiting all options more free fine (ordinary {word} {rest} {options = o} {words = w} plain after) =
    ends_on rows (with_pending rows pending) pending (Some (words_name, word ∷ [])) waiting positional false false (word ∷ rest) rest [] o
    (word ∷ []) w (reach _ _ word rest (plain_walked rows pending word waiting free plain) (plain_fault rows pending word waiting free plain ∙ fine))
    (grows_pending_word (with_pending rows pending) word)
    (ends_split (with_pending rows pending) (Some (words_name, word ∷ [])) positional rest o w tt
    (pending_right (with_pending rows pending) words_name word words by_words words_take) after)
ends_split rows pending waiting all options more free fine
    (given_option {options = o} {words = w} (next setting {name} {value} {rest} takes is plain) after) =
    let no_mark = name_not_mark setting name is in
    let long : long_of name ≡ Some (bare setting, None) = ap long_of is ∙ long_name setting in
    let one = option_takes setting in
    let named : Reaches (at rows pending waiting false) (at (with_pending rows pending) (Some (bare setting, [])) (option (bare setting)) false)
    (name ∷ value ∷ rest) (value ∷ rest) =
    reach _ _ name (value ∷ rest)
    (named_walked rows pending name (bare setting) (option_of setting) no_mark (by_long setting takes) one waiting long)
    (named_fault rows pending name (bare setting) (option_of setting) no_mark (by_long setting takes) one waiting long ∙ fine) in
    let valued : Reaches (at (with_pending rows pending) (Some (bare setting, [])) (option (bare setting)) false)
    (at (with_pending rows pending) (Some (bare setting, value ∷ [])) idle false) (value ∷ rest) rest =
    reach _ _ value rest
    (value_walked (with_pending rows pending) value (bare setting) (option_of setting) plain (by_id setting takes) one)
    (value_fault (with_pending rows pending) value (bare setting) (option_of setting) plain (by_id setting takes) one) in
    ends_on rows (with_pending rows pending) pending (Some (bare setting, value ∷ [])) waiting idle false false
    (name ∷ value ∷ rest) rest (record { setting = setting; value = value } ∷ []) o [] w
    (reach_on _ _ _ (name ∷ value ∷ rest) (value ∷ rest) rest named valued)
    (grows_pending_option (with_pending rows pending) setting value takes)
    (ends_split (with_pending rows pending) (Some (bare setting, value ∷ [])) idle rest o w tt
    (pending_right (with_pending rows pending) (bare setting) value (option_of setting) (by_id setting takes) one) after)
ends_split rows pending waiting all options more free fine
    (given_option {options = o} {words = w} (same_word setting {word} {value} {rest} takes is) after) =
    let no_mark = joined_not_mark setting word value is in
    let long : long_of word ≡ Some (bare setting, Some value) = ap long_of is ∙ long_joined setting value in
    let one = option_takes setting in
    ends_on rows (used (option_of setting) (value ∷ []) (with_pending rows pending)) pending None waiting idle false false
    (word ∷ rest) rest (record { setting = setting; value = value } ∷ []) o [] w
    (reach _ _ word rest
    (joined_walked rows pending word (bare setting) (option_of setting) no_mark (by_long setting takes) one value waiting long)
    (joined_fault rows pending word (bare setting) (option_of setting) no_mark (by_long setting takes) one value waiting long fine))
    (subst (λ (new : List Row). Grows (with_pending rows pending) new (record { setting = setting; value = value } ∷ []) [])
    (sym (used_is (option_of setting) (bare setting) value (with_pending rows pending) one))
    (grows_option (with_pending rows pending) (record { setting = setting; value = value })))
    (ends_split (used (option_of setting) (value ∷ []) (with_pending rows pending)) None idle rest o w tt refl after)
ends_split rows pending waiting all options more free fine
    (given_option {options = o} {words = w} (flag setting {word} {rest} takes is) after) =
    let no_mark = name_not_mark setting word is in
    let long : long_of word ≡ Some (bare setting, None) = ap long_of is ∙ long_name setting in
    let found = flag_by_long setting takes in
    let none = flag_takes setting in
    ends_on rows (used (flag_of setting) [] (with_pending rows pending)) pending None waiting idle false false
    (word ∷ rest) rest (record { setting = setting; value = [] } ∷ []) o [] w
    (reach _ _ word rest
    (flag_walked rows pending word (bare setting) (flag_of setting) no_mark found none waiting long)
    (flag_fault rows pending word (bare setting) (flag_of setting) no_mark found none waiting long fine))
    (subst (λ (new : List Row). Grows (with_pending rows pending) new (record { setting = setting; value = [] } ∷ []) [])
    (sym (flag_used_is (flag_of setting) (bare setting) (with_pending rows pending) none))
    (grows_option (with_pending rows pending) (record { setting = setting; value = [] })))
    (ends_split (used (flag_of setting) [] (with_pending rows pending)) None idle rest o w tt refl after)
