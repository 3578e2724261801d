-- The order of options doesn't matter.
use Rattle.std.proofs.Common.{◌≡◌, ◌≤◌, ℕ, Bool, true, false, List, ◌∷◌, ◌++◌, length, bytes_eq, if◌then◌else◌, refl, sym, ap, ◌∙◌, subst, arith}
use Rattle.tt_words.specs.Asked.{Asked, PartsAskFor, WordsAskFor, Values, values_in, values_of}
use Rattle.tt_words.specs.WordLaws.{AreWhole, IsOption, none, ordinary as whole_word, option as whole_option}
use Rattle.tt_words.specs.Splitting.{BeginsWith, next, same_word, flag, Given, Splits, ordinary, option, is_dashed, name_of}
use Rattle.tt_words.specs.declared.setting.Setting.{Setting}
use Rattle.tt_words.specs.declared.setting.Setting.TheVariants.{Workers, Steps, Limit, Record, Replay}
use Rattle.tt_words.specs.declared.setting.Setting.TheVariants.{Generate, Waits, Races, Debug}
use Rattle.tt_words.proofs.SplitLemmas.{only_option, only_word}

-- ---- options in another order

-- if an option comes at most once, it has the same values
abbrev pub IsMoved : List Given → List Given → Type 0
IsMoved options others =
    (setting : Setting) → length (values_of setting options) ≤ 1 → values_of setting others ≡ values_of setting options

-- whether an option is this one
abbrev is_this : Setting → Given → Bool
is_this setting given = bytes_eq (name_of setting) (name_of given.setting)

swapped : (this that : Bool) (one other : List ℕ) (values : List (List ℕ)) →
    length (if this then one ∷ (if that then other ∷ values else values) else (if that then other ∷ values else values)) ≤ 1 →
    (if that then other ∷ (if this then one ∷ values else values) else (if this then one ∷ values else values))
    ≡ (if this then one ∷ (if that then other ∷ values else values) else (if that then other ∷ values else values))
swapped true true one other values few = absurd (omega arith)
swapped true false one other values few = refl
swapped false true one other values few = refl
swapped false false one other values few = refl

moved_pair : (one other : Given) (options : List Given) → IsMoved (one ∷ other ∷ options) (other ∷ one ∷ options)
moved_pair one other options setting few =
    swapped (is_this setting one) (is_this setting other) one.value other.value (values_of setting options) few

shorter : (this : Bool) (value : List ℕ) (values : List (List ℕ)) →
    length (if this then value ∷ values else values) ≤ 1 → length values ≤ 1
shorter true value values few = omega arith
shorter false value values few = few

moved_more : (given : Given) (options others : List Given) → IsMoved options others → IsMoved (given ∷ options) (given ∷ others)
moved_more given options others moved setting few =
    ap (λ (values : List (List ℕ)). if is_this setting given then given.value ∷ values else values)
    (moved setting (shorter (is_this setting given) given.value (values_of setting options) few))

-- ---- words in another order

-- words split into the same parts, but for the order of options
pub record MovesTo (all : List (List ℕ)) (options : List Given) (words : List (List ℕ)) : Type 0 where
  pub others : List Given
  pub splits : Splits all others words
  pub moved : IsMoved options others

-- so do all words that split in the first way
abbrev pub Moves : (all other : List (List ℕ)) → Type 0
Moves all other = (options : List Given) (words : List (List ℕ)) → Splits all options words → MovesTo other options words

-- more words after an option and its value
pub front_more : {words rest : List (List ℕ)} {given : Given} (more : List (List ℕ)) →
    BeginsWith words given rest → BeginsWith (words ++ more) given (rest ++ more)
front_more more (next setting takes e plain) = next setting takes e plain
front_more more (same_word setting takes e) = same_word setting takes e
front_more more (flag setting takes e) = flag setting takes e

with_word : (word : List ℕ) (rest : List (List ℕ)) (options : List Given) (words left : List (List ℕ)) →
    is_dashed word ≡ false → words ≡ word ∷ left → MovesTo rest options left → MovesTo (word ∷ rest) options words
with_word word rest options words left plain cut to = record {
  others = to.others;
  splits = subst (Splits (word ∷ rest) to.others) (sym cut) (ordinary plain to.splits);
  moved = to.moved;
}

with_option : (all rest : List (List ℕ)) (given : Given) (options left : List Given) (words : List (List ℕ)) →
    BeginsWith all given rest → options ≡ given ∷ left → MovesTo rest left words → MovesTo all options words
with_option all rest given options left words front cut to = record {
  others = given ∷ to.others;
  splits = option front to.splits;
  moved = subst (λ (o : List Given). IsMoved o (given ∷ to.others)) (sym cut) (moved_more given left to.others to.moved);
}

-- whole words before them change nothing
pub moves_after : {before : List (List ℕ)} (all other : List (List ℕ)) → AreWhole before → Moves all other →
    Moves (before ++ all) (before ++ other)
moves_after all other none moves = moves
moves_after all other (whole_word {word} {rest} plain whole) moves = λ options words splits.
    let after = only_word word (rest ++ all) options words plain splits in
    with_word word (rest ++ other) options words after.left plain after.cut
    (moves_after all other whole moves options after.left after.splits)
moves_after all other (whole_option {words = front} {rest} {given} begins whole) moves = λ options words splits.
    let after = only_option (front ++ all) (rest ++ all) given options words (front_more all begins) splits in
    with_option (front ++ other) (rest ++ other) given options after.left words (front_more other begins) after.cut
    (moves_after all other whole moves after.left words after.splits)

-- two options
pub options_move : (one other after : List (List ℕ)) (given second : Given) → IsOption one given → IsOption other second →
    Moves (one ++ (other ++ after)) (other ++ (one ++ after))
options_move one other after given second is_one is_other = λ options words splits.
    let rest = only_option (one ++ (other ++ after)) (other ++ after) given options words
    (front_more (other ++ after) is_one) splits in
    let last = only_option (other ++ after) after second rest.left words (front_more after is_other) rest.splits in
    let cut : options ≡ given ∷ second ∷ last.left = rest.cut ∙ ap (λ (o : List Given). given ∷ o) last.cut in
    record {
      others = second ∷ given ∷ last.left;
      splits = option (front_more (one ++ after) is_other) (option (front_more after is_one) last.splits);
      moved = subst (λ (o : List Given). IsMoved o (second ∷ given ∷ last.left)) (sym cut) (moved_pair given second last.left);
    }

-- an option and an ordinary word
pub word_moves : (one after : List (List ℕ)) (word : List ℕ) (given : Given) → IsOption one given → is_dashed word ≡ false →
    Moves (one ++ (word ∷ after)) (word ∷ (one ++ after))
word_moves one after word given is_one plain = λ options words splits.
    let rest = only_option (one ++ (word ∷ after)) (word ∷ after) given options words
    (front_more (word ∷ after) is_one) splits in
    let last = only_word word after rest.left words plain rest.splits in
    record {
      others = options;
      splits = subst (Splits (word ∷ (one ++ after)) options) (sym last.cut)
          (ordinary plain (subst (λ (o : List Given). Splits (one ++ after) o last.left) (sym rest.cut)
          (option (front_more after is_one) last.splits)));
      moved = λ setting few. refl;
    }

pub word_moves_back : (one after : List (List ℕ)) (word : List ℕ) (given : Given) → IsOption one given → is_dashed word ≡ false →
    Moves (word ∷ (one ++ after)) (one ++ (word ∷ after))
word_moves_back one after word given is_one plain = λ options words splits.
    let last = only_word word (one ++ after) options words plain splits in
    let rest = only_option (one ++ after) after given options last.left (front_more after is_one) last.splits in
    record {
      others = options;
      splits = subst (Splits (one ++ (word ∷ after)) options) (sym last.cut)
          (subst (λ (o : List Given). Splits (one ++ (word ∷ after)) o (word ∷ last.left)) (sym rest.cut)
          (option (front_more (word ∷ after) is_one) (ordinary plain rest.splits)));
      moved = λ setting few. refl;
    }

-- ---- what is asked for

few_moved : (values others : List (List ℕ)) → others ≡ values → length values ≤ 1 → length others ≤ 1
few_moved values others e few = rw e few

same_values : (options others : List Given) → ((setting : Setting) → values_of setting others ≡ values_of setting options) →
    values_in options ≡ values_in others
same_values options others same =
    rw (
      same Workers,
      same Steps,
      same Limit,
      same Record,
      same Replay,
      same Generate,
      same Waits,
      same Races,
      same Debug,
    ) refl

-- words ask for the same
pub reads_moved : (all other : List (List ℕ)) (asked : Asked) → Moves all other → WordsAskFor all asked → WordsAskFor other asked
reads_moved all other asked moves reads =
    let to = moves reads.options reads.ordinary reads.splits in
    let same : (setting : Setting) → values_of setting to.others ≡ values_of setting reads.options =
    λ setting. to.moved setting (reads.once setting) in
    record {
      options = to.others;
      ordinary = reads.ordinary;
      splits = to.splits;
      once = λ setting. few_moved (values_of setting reads.options) (values_of setting to.others) (same setting) (reads.once setting);
      asks = subst (λ (values : Values). PartsAskFor values reads.ordinary asked) (same_values reads.options to.others same) reads.asks;
    }
