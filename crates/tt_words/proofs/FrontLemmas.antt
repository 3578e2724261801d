-- What words begin with is one thing.
use Rattle.std.proofs.Common.{◌≡◌, ◌≢◌, ◌==◌, ℕ, true, false, List, [], ◌∷◌, ◌++◌, bytes_eq, Option, Some, None, if◌then◌else◌, refl, sym, ap, ◌∙◌}
use Rattle.tt_words.specs.Splitting.{BeginsWith, next, same_word, flag, Given, is_dashed, mark, name_of, takes_value}
use Rattle.tt_words.specs.inside.Program.{bare}
use Rattle.tt_words.specs.declared.setting.Setting.{Setting}
use Rattle.tt_words.specs.declared.setting.Setting.TheVariants.{Workers, Steps, Limit, Record, Replay}
use Rattle.tt_words.specs.declared.setting.Setting.TheVariants.{Generate, Waits, Races, Debug}

-- ---- the option that a word names

-- the option of this name
abbrev pub known : List ℕ → Option Setting
known name =
    if bytes_eq name (name_of Workers) then Some Workers else
    (if bytes_eq name (name_of Steps) then Some Steps else
    (if bytes_eq name (name_of Limit) then Some Limit else
    (if bytes_eq name (name_of Record) then Some Record else
    (if bytes_eq name (name_of Replay) then Some Replay else
    (if bytes_eq name (name_of Generate) then Some Generate else
    (if bytes_eq name (name_of Waits) then Some Waits else
    (if bytes_eq name (name_of Races) then Some Races else
    (if bytes_eq name (name_of Debug) then Some Debug else None))))))))

-- what stands before the first `=`, and what stands after it
abbrev pub before_sign : List ℕ → List ℕ
before_sign [] = []
before_sign (b ∷ bytes) = if b == 61 then [] else b ∷ before_sign bytes

abbrev pub after_sign : List ℕ → Option (List ℕ)
after_sign [] = None
after_sign (b ∷ bytes) = if b == 61 then Some bytes else after_sign bytes

-- the option that a word names, and the value after `=`
unfoldable pub told : List ℕ → Option Setting × Option (List ℕ)
told word = (known (before_sign word), after_sign word)

pub told_name : (setting : Setting) → told (name_of setting) ≡ (Some setting, None)
unfolding told
told_name Workers = refl
told_name Steps = refl
told_name Limit = refl
told_name Record = refl
told_name Replay = refl
told_name Generate = refl
told_name Waits = refl
told_name Races = refl
told_name Debug = refl

pub told_joined : (setting : Setting) (value : List ℕ) → told (name_of setting ++ (61 ∷ value)) ≡ (Some setting, Some value)
unfolding told
told_joined Workers value = refl
told_joined Steps value = refl
told_joined Limit value = refl
told_joined Record value = refl
told_joined Replay value = refl
told_joined Generate value = refl
told_joined Waits value = refl
told_joined Races value = refl
told_joined Debug value = refl

pub told_mark : told mark ≡ (None, None)
unfolding told
told_mark = refl

-- a name is the bare one after two dashes
pub name_is : (setting : Setting) → name_of setting ≡ 45 ∷ 45 ∷ bare setting
name_is Workers = refl
name_is Steps = refl
name_is Limit = refl
name_is Record = refl
name_is Replay = refl
name_is Generate = refl
name_is Waits = refl
name_is Races = refl
name_is Debug = refl

-- an option's word is dashed
pub dashed_name : (setting : Setting) → is_dashed (name_of setting) ≡ true
dashed_name Workers = refl
dashed_name Steps = refl
dashed_name Limit = refl
dashed_name Record = refl
dashed_name Replay = refl
dashed_name Generate = refl
dashed_name Waits = refl
dashed_name Races = refl
dashed_name Debug = refl

pub dashed_joined : (setting : Setting) (value : List ℕ) → is_dashed (name_of setting ++ (61 ∷ value)) ≡ true
dashed_joined Workers value = refl
dashed_joined Steps value = refl
dashed_joined Limit value = refl
dashed_joined Record value = refl
dashed_joined Replay value = refl
dashed_joined Generate value = refl
dashed_joined Waits value = refl
dashed_joined Races value = refl
dashed_joined Debug value = refl

-- ---- inequalities between words

some_is : {A : Type 0} (a b : A) → Some a ≡ Some b → a ≡ b
some_is a b e = cc

none_is : {A : Type 0} (a : A) → None ≡ Some a → ⊥
none_is a e = cc

-- the first part and the second
setting_told : (one other : Option Setting × Option (List ℕ)) → one ≡ other → one.0 ≡ other.0
setting_told one other e = ap (λ (p : Option Setting × Option (List ℕ)). p.0) e

value_told : (one other : Option Setting × Option (List ℕ)) → one ≡ other → one.1 ≡ other.1
value_told one other e = ap (λ (p : Option Setting × Option (List ℕ)). p.1) e

-- an option has one name, which has no `=`
pub one_name : (one other : Setting) → name_of one ≡ name_of other → one ≡ other
one_name one other e =
    some_is one other (setting_told _ _ (sym (told_name one) ∙ (ap told e ∙ told_name other)))

pub name_not_joined : (one other : Setting) (value : List ℕ) → name_of one ≢ name_of other ++ (61 ∷ value)
name_not_joined one other value e =
    none_is value (value_told _ _ (sym (told_name one) ∙ (ap told e ∙ told_joined other value)))

pub one_joined : (one other : Setting) (value second : List ℕ) →
    name_of one ++ (61 ∷ value) ≡ name_of other ++ (61 ∷ second) → (one ≡ other) × (value ≡ second)
one_joined one other value second e =
    let tells = sym (told_joined one value) ∙ (ap told e ∙ told_joined other second) in
    (some_is one other (setting_told _ _ tells), some_is value second (value_told _ _ tells))

pub mark_no_name : (setting : Setting) → mark ≢ name_of setting
mark_no_name setting e = none_is setting (setting_told _ _ (sym told_mark ∙ (ap told e ∙ told_name setting)))

pub mark_not_joined : (setting : Setting) (value : List ℕ) → mark ≢ name_of setting ++ (61 ∷ value)
mark_not_joined setting value e =
    none_is setting (setting_told _ _ (sym told_mark ∙ (ap told e ∙ told_joined setting value)))

-- ---- fronts of words

-- what words begin with
abbrev pub FirstIs : (List ℕ → Type 0) → List (List ℕ) → Type 0
FirstIs P [] = ⊥
FirstIs P (word ∷ rest) = P word

-- words that begin with an option begin with a dashed word that is no mark
pub front_dashed : {words rest : List (List ℕ)} {given : Given} →
    BeginsWith words given rest → FirstIs (λ word. is_dashed word ≡ true) words
front_dashed (next setting takes e plain) = ap is_dashed e ∙ dashed_name setting
front_dashed (same_word setting {word} {value} takes e) = ap is_dashed e ∙ dashed_joined setting value
front_dashed (flag setting takes e) = ap is_dashed e ∙ dashed_name setting

pub front_no_mark : {words rest : List (List ℕ)} {given : Given} →
    BeginsWith words given rest → FirstIs (λ word. word ≢ mark) words
front_no_mark (next setting takes e plain) = λ m. mark_no_name setting (sym m ∙ e)
front_no_mark (same_word setting {word} {value} takes e) = λ m. mark_not_joined setting value (sym m ∙ e)
front_no_mark (flag setting takes e) = λ m. mark_no_name setting (sym m ∙ e)

-- an option with its value
abbrev pub giving : Setting → List ℕ → Given
giving setting value = record { setting = setting; value = value }

-- one that takes a value is no flag
one_takes : (one other : Setting) → one ≡ other → takes_value one ≡ true → takes_value other ≡ false → ⊥
one_takes one other same takes none = let e : true ≡ false = sym takes ∙ (ap takes_value same ∙ none) in cc

-- words begin with one option at most
pub one_front : {words rest second : List (List ℕ)} {given other : Given} →
    BeginsWith words given rest → BeginsWith words other second → (given ≡ other) × (rest ≡ second)
one_front (next s {name} {value} a e plain) (next t b f flat) =
    (ap (λ (of : Setting). giving of value) (one_name s t (sym e ∙ f)), refl)
one_front (next s a e plain) (same_word t {word} {value} b f) = absurd (name_not_joined s t value (sym e ∙ f))
one_front (next s a e plain) (flag t b f) = absurd (one_takes s t (one_name s t (sym e ∙ f)) a b)
one_front (same_word s {word} {value} a e) (next t b f flat) = absurd (name_not_joined t s value (sym f ∙ e))
one_front (same_word s {word} {value} a e) (same_word t {word = same} {value = second} b f) =
    let parts = one_joined s t value second (sym e ∙ f) in
    (ap (λ (of : Setting). giving of value) parts.0 ∙ ap (giving t) parts.1, refl)
one_front (same_word s {word} {value} a e) (flag t b f) = absurd (name_not_joined t s value (sym f ∙ e))
one_front (flag s a e) (next t b f flat) = absurd (one_takes t s (one_name t s (sym f ∙ e)) b a)
one_front (flag s a e) (same_word t {word} {value} b f) = absurd (name_not_joined s t value (sym e ∙ f))
one_front (flag s a e) (flag t b f) = (ap (λ (of : Setting). giving of []) (one_name s t (sym e ∙ f)), refl)
