-- The function cuts a text into the tokens that the grammar has, and no others.
use Rattle.std.proofs.Common.{◌≡◌, ℕ, zero, suc, ◌<◌, ◌≤◌, Bool, true, false, not, ◌||◌, ◌==◌, nat_lt, List, [], ◌∷◌}
use Rattle.std.proofs.Common.{◌++◌, length, take, drop, refl, ap, sym, ◌∙◌, subst, arith, inl, inr, ◌⊎◌, length-append}
use Rattle.std.proofs.Common.{length-drop}
use Rattle.std.specs.List.{prefix_len}
use Rattle.std.proofs.lemmas.Bool.{cases_Bool, and_parts, or_cases, eqb-true, lt-ltb, ltb-true}
use Rattle.std.proofs.lemmas.List.{take_at, drop_at}
use Rattle.tt_text.specs.Characters.{is_white_space}
use Rattle.tt_script.specs.Words.{none, more}
use Rattle.tt_script.specs.Reading.{joined_lines}
use Rattle.tt_script.specs.Operands.{IsOuterPart}
use Rattle.tt_number.proofs.Reading.Trimming.{nonempty}
use Rattle.tt_number.proofs.Reading.Numbers.{read_unsigned}
use Rattle.tt_number.proofs.Reading.Floats.{read_float}
use Rattle.tt_exprs.specs.Trees.{leaf, words}
use Rattle.tt_exprs.specs.Tokens.{PlainToken, operand, Cut, one, refused, none_here, begins_word, is_word_byte}
use Rattle.tt_exprs.specs.Tokens.{number_length, number, other, quote_cut, in_braces, substitution_cut, sign, bare_word, token}
use Rattle.tt_exprs.specs.Tokens.{Tokens, read, refused_word, stopped, with_token, tokens}
use Rattle.tt_exprs.specs.TokenGrammar.{first_is, IsNumber, IsLongestNumber, IsBareWord, SpellsWord, IsLongestSign}
use Rattle.tt_exprs.specs.TokenGrammar.{IsToken, number_token, word_token, sign_token, quoted_token, braced_token}
use Rattle.tt_exprs.specs.TokenGrammar.{substituted_token, BeginsNothing, HasTokens, at_end, after_white_space}
use Rattle.tt_exprs.specs.TokenGrammar.{after_token, at_refused, at_nothing}
use Rattle.tt_exprs.specs.TextLaw.{TokenLaw}
use Rattle.tt_exprs.proofs.NumberForms.{IsNumeral, whole_numeral, float_numeral, number_numeral, numeral_number}
use Rattle.tt_exprs.proofs.NumberLength.{longest_of}
use Rattle.tt_exprs.proofs.NumberFound.{taken}
use Rattle.tt_exprs.proofs.SignLaw.{token_of, sign_read, SignIs, sign_is}
use Rattle.tt_exprs.proofs.WordLaw.{word_not_white, word_no_number, word_cut, word_is, says_read, WordSays, word_says}
use Rattle.tt_exprs.proofs.OperandLaw.{TokenIs, CutsOff, quoted_is, quoted_read, braces_is, braces_read, substituted_is, substituted_read}
use Rattle.tt_exprs.proofs.TokenSteps.{token-word, token-number, token-other, tokens-white, tokens-one, tokens-refused, tokens-stopped}

-- ---- from the relation to the function

-- the function cuts this token off, at a byte that is no white space
pub record Reads (text : List ℕ) (first : PlainToken) (rest : List ℕ) : Type 0 where
  pub off : CutsOff (token_of text) text first rest
  pub black : first_is is_white_space text ≡ false

reads_by : (cut : Cut) (text : List ℕ) (first : PlainToken) (rest : List ℕ) → token_of text ≡ cut → CutsOff cut text first rest →
    first_is is_white_space text ≡ false → Reads text first rest
reads_by cut text first rest same off black = record { off = record { n = off.n; is = same ∙ off.is; some = off.some; place = off.place }; black = black }

number_some : {spelled : List ℕ} → IsNumber spelled → 0 < length spelled
number_some h = go (number_numeral h)
  where
    go : {spelled : List ℕ} → IsNumeral spelled → 0 < length spelled
    go (whole_numeral u) = let r = read_unsigned u in omega (arith, ap length r.begins)
    go (float_numeral f) = let r = read_float f in omega (arith, ap length r.begins)

not_true : (b : Bool) → not b ≡ true → b ≡ false
not_true true h = cc
not_true false h = refl

-- if no word begins, a number may
no_word_before : (b : ℕ) (text : List ℕ) → 0 < number_length (b ∷ text) → begins_word b ≡ false
no_word_before b text h =
    elim (cases_Bool (begins_word b)) [
      | inl e ↦ absurd (omega (arith, h, word_no_number b text e))
      | inr e ↦ e
    ]

number_here : (spelled rest : List ℕ) → IsNumber spelled → number_length (spelled ++ rest) ≡ length spelled →
    Reads (spelled ++ rest) (operand (leaf spelled)) rest
number_here [] rest h count = absurd (omega (arith, number_some h))
number_here (b ∷ spelled) rest h count =
    let text = spelled ++ rest in
    let room : 0 < number_length (b ∷ text) = omega (arith, count) in
    record {
      off = record {
        n = suc (length spelled);
        is = token-number b text (no_word_before b text room) (lt-ltb 0 (number_length (b ∷ text)) room)
            ∙ ap (number (b ∷ text)) count
            ∙ ap (λ s. one (operand (leaf s)) (suc (length spelled))) (take_at (b ∷ spelled) rest (suc (length spelled)) refl);
        some = omega arith;
        place = drop_at (b ∷ spelled) rest (suc (length spelled)) refl;
      };
      black = not_true (is_white_space b) (and_parts (not (is_white_space b)) _ h.no_white_space).0;
    }

reads_number : (text spelled rest : List ℕ) → IsLongestNumber text spelled rest → Reads text (operand (leaf spelled)) rest
reads_number text spelled rest h =
    let low = longest_of (number_numeral h.is_number) rest in
    let found = taken (spelled ++ rest) (omega (arith, low, number_some h.is_number)) in
    let high = h.longest found.number found.rest (h.cut ∙ found.cut) (numeral_number found.numeral) in
    subst (λ t. Reads t (operand (leaf spelled)) rest) (sym h.cut) (number_here spelled rest h.is_number (omega (arith, low, high, found.size)))

word_here : (spelled rest : List ℕ) (first : PlainToken) → IsBareWord (spelled ++ rest) spelled rest → SpellsWord spelled first →
    Reads (spelled ++ rest) first rest
word_here [] rest first h says = let wrong : false ≡ true = h.first in let no : ⊥ = cc in absurd no
word_here (b ∷ spelled) rest first h says = record {
  off = record {
    n = suc (length spelled);
    is = token-word b (spelled ++ rest) h.first ∙ word_cut (b ∷ (spelled ++ rest)) (b ∷ spelled) rest h ∙ says_read (suc (length spelled)) says;
    some = omega arith;
    place = drop_at (b ∷ spelled) rest (suc (length spelled)) refl;
  };
  black = word_not_white b h.first;
}

reads_word : (text spelled rest : List ℕ) (first : PlainToken) → IsBareWord text spelled rest → SpellsWord spelled first → Reads text first rest
reads_word text spelled rest first h says =
    subst (λ t. Reads t first rest) (sym h.cut) (word_here spelled rest first (subst (λ t. IsBareWord t spelled rest) h.cut h) says)

reads_sign : (text spelled rest : List ℕ) (first : PlainToken) → IsLongestSign text spelled rest first → Reads text first rest
reads_sign text spelled rest first h =
    let r = sign_read text spelled rest first h in
    let is : SignIs text (one first (length spelled)) = subst (SignIs text) r.0 (sign_is text) in
    record {
      off = record {
        n = length spelled;
        is = r.1.other ∙ r.0;
        some = is.4;
        place = ap (drop (length spelled)) h.cut ∙ drop_at spelled rest (length spelled) refl;
      };
      black = r.1.black;
    }

quoted_here : (text : List ℕ) → (token_of (34 ∷ text) ≡ quote_cut text) × (first_is is_white_space (34 ∷ text) ≡ false)
unfolding token
quoted_here text = (refl, refl)

braces_here : (text : List ℕ) → (token_of (123 ∷ text) ≡ in_braces text) × (first_is is_white_space (123 ∷ text) ≡ false)
unfolding token
braces_here text = (refl, refl)

dollar_here : (text : List ℕ) → (token_of (36 ∷ text) ≡ substitution_cut 36 text) × (first_is is_white_space (36 ∷ text) ≡ false)
unfolding token
dollar_here text = (refl, refl)

bracket_here : (text : List ℕ) → (token_of (91 ∷ text) ≡ substitution_cut 91 text) × (first_is is_white_space (91 ∷ text) ≡ false)
unfolding token
bracket_here text = (refl, refl)

pub token_reads : {text rest : List ℕ} {first : PlainToken} → IsToken text first rest → Reads text first rest
token_reads (number_token {text} {number = spelled} {rest} h) = reads_number text spelled rest h
token_reads (word_token {text} {word = spelled} {rest} {token = first} h says) = reads_word text spelled rest first h says
token_reads (sign_token {text} {sign = spelled} {rest} {token = first} h) = reads_sign text spelled rest first h
token_reads (quoted_token {b} {text} {rest} {parts} e h) =
    subst (λ c. Reads (c ∷ text) (operand (words parts)) rest) (sym e)
    (reads_by (quote_cut text) (34 ∷ text) (operand (words parts)) rest (quoted_here text).0 (quoted_read text rest parts h) (quoted_here text).1)
token_reads (braced_token {b} {c} {text} {rest} inside e f cut balanced) =
    subst (λ d. Reads (d ∷ text) (operand (leaf (joined_lines 0 inside))) rest) (sym e)
    (reads_by (in_braces text) (123 ∷ text) (operand (leaf (joined_lines 0 inside))) rest (braces_here text).0
    (braces_read text inside rest c f cut balanced) (braces_here text).1)
token_reads (substituted_token {b} {text} {rest} {part} first sub h) = go first
  where
    go : (b ≡ 36) ⊎ (b ≡ 91) → Reads (b ∷ text) (operand (words (more part none))) rest
    go (inl e) =
        subst (λ c. Reads (c ∷ text) (operand (words (more part none))) rest) (sym e)
        (reads_by (substitution_cut 36 text) (36 ∷ text) (operand (words (more part none))) rest (dollar_here text).0
        (substituted_read 36 text rest part sub (subst (λ c. IsOuterPart (c ∷ text) part rest) e h)) (dollar_here text).1)
    go (inr e) =
        subst (λ c. Reads (c ∷ text) (operand (words (more part none))) rest) (sym e)
        (reads_by (substitution_cut 91 text) (91 ∷ text) (operand (words (more part none))) rest (bracket_here text).0
        (substituted_read 91 text rest part sub (subst (λ c. IsOuterPart (c ∷ text) part rest) e h)) (bracket_here text).1)

-- ---- from the function to the relation

-- what a cut says of the front of a text
abbrev pub FrontIs : List ℕ → Cut → Type 0
FrontIs text (one first n) = (rest : List ℕ) × (0 < n) × (drop n text ≡ rest) × IsToken text first rest
FrontIs text (refused spelled) = (rest : List ℕ) × IsBareWord text spelled rest × ((first : PlainToken) → SpellsWord spelled first → ⊥)
FrontIs text none_here = Unit {0}

front_operand : (text : List ℕ) (cut : Cut) → TokenIs text cut → FrontIs text cut
front_operand text (one first n) h = h
front_operand text (refused spelled) h = absurd h
front_operand text none_here h = tt

front_sign : (text : List ℕ) (cut : Cut) → SignIs text cut → FrontIs text cut
front_sign text (one first n) h = (h.1, h.4, ap (drop n) h.2.cut ∙ drop_at h.0 h.1 n h.3, sign_token h.2)
front_sign text (refused spelled) h = absurd h
front_sign text none_here h = tt

front_word : (text spelled rest : List ℕ) → IsBareWord text spelled rest → 0 < length spelled → (cut : Cut) → WordSays spelled (length spelled) cut →
    FrontIs text cut
front_word text spelled rest h some (one first n) says =
    (rest, omega (arith, some, says.1), ap (drop n) h.cut ∙ drop_at spelled rest n (sym says.1), word_token h says.0)
front_word text spelled rest h some (refused other) says =
    (rest, subst (λ s. IsBareWord text s rest) (sym says.0) h, λ first w. says.1 first (subst (λ s. SpellsWord s first) says.0 w))
front_word text spelled rest h some none_here says = tt

front_number : (text : List ℕ) → 0 < number_length text → FrontIs text (number text (number_length text))
front_number text some =
    let found = taken text some in
    let front : take (number_length text) text ≡ found.number =
    ap (take (number_length text)) found.cut ∙ take_at found.number found.rest (number_length text) found.size in
    let longest : IsLongestNumber text found.number found.rest = record {
      cut = found.cut;
      is_number = numeral_number found.numeral;
      longest = λ other after c h. omega (arith, longest_of (number_numeral h) after, ap number_length c, found.size);
    } in (
      found.rest,
      some,
      ap (drop (number_length text)) found.cut
          ∙ drop_at found.number found.rest (number_length text) found.size,
      subst (λ s. IsToken text (operand (leaf s)) found.rest) (sym front)
          (number_token longest),
    )

other_is : (b : ℕ) (text : List ℕ) → FrontIs (b ∷ text) (other (b ∷ text))
other_is b text = go (cases_Bool (b == 34)) (cases_Bool (b == 123)) (cases_Bool (b == 36 || b == 91))
  where
    go : ((b == 34) ≡ true) ⊎ ((b == 34) ≡ false) → ((b == 123) ≡ true) ⊎ ((b == 123) ≡ false) →
        ((b == 36 || b == 91) ≡ true) ⊎ ((b == 36 || b == 91) ≡ false) → FrontIs (b ∷ text) (other (b ∷ text))
    go (inl e) f g =
        rw (e, other) (front_operand (b ∷ text) (quote_cut text) (subst (λ c. TokenIs (c ∷ text) (quote_cut text)) (sym (eqb-true b 34 e)) (quoted_is text)))
    go (inr e) (inl f) g =
        rw (e, other, f)
        (front_operand (b ∷ text) (in_braces text) (subst (λ c. TokenIs (c ∷ text) (in_braces text)) (sym (eqb-true b 123 f)) (braces_is text)))
    go (inr e) (inr f) (inl g) = rw (e, other, f, g) (front_operand (b ∷ text) (substitution_cut b text) (substituted_is b text (either g)))
      where
        either : (b == 36 || b == 91) ≡ true → (b ≡ 36) ⊎ (b ≡ 91)
        either h = elim (or_cases (b == 36) (b == 91) h) [ inl p ↦ inl (eqb-true b 36 p) | inr p ↦ inr (eqb-true b 91 p) ]
    go (inr e) (inr f) (inr g) = rw (e, other, f, g) (front_sign (b ∷ text) (sign (b ∷ text)) (sign_is (b ∷ text)))

word_long : {text spelled rest : List ℕ} → IsBareWord text spelled rest → 0 < length spelled
word_long {spelled = spelled} h = go spelled h.first
  where
    go : (s : List ℕ) → first_is begins_word s ≡ true → 0 < length s
    go [] e = let no : ⊥ = cc in absurd no
    go (b ∷ s) e = omega arith

pub token_is : (b : ℕ) (text : List ℕ) → FrontIs (b ∷ text) (token b text)
token_is b text = go (cases_Bool (begins_word b)) (cases_Bool (nat_lt 0 (number_length (b ∷ text))))
  where
    go : (begins_word b ≡ true) ⊎ (begins_word b ≡ false) → (nat_lt 0 (number_length (b ∷ text)) ≡ true) ⊎ (nat_lt 0 (number_length (b ∷ text)) ≡ false) →
        FrontIs (b ∷ text) (token b text)
    go (inl e) f =
        let here = word_is b text e in
        let spelled = take (prefix_len is_word_byte (b ∷ text)) (b ∷ text) in
        subst (FrontIs (b ∷ text)) (sym (token-word b text e ∙ word_cut (b ∷ text) spelled _ here))
        (front_word (b ∷ text) spelled _ here (word_long here) (bare_word spelled (length spelled)) (word_says spelled (length spelled)))
    go (inr e) (inl f) = subst (FrontIs (b ∷ text)) (sym (token-number b text e f)) (front_number (b ∷ text) (ltb-true 0 (number_length (b ∷ text)) f))
    go (inr e) (inr f) = subst (FrontIs (b ∷ text)) (sym (token-other b text e f)) (other_is b text)

-- ---- whole texts

tokens_end : tokens 0 [] ≡ read []
unfolding tokens
tokens_end = refl

-- at what the function cuts a token off
one_here : (text : List ℕ) (first : PlainToken) (rest : List ℕ) → Reads text first rest → tokens 0 text ≡ with_token first (tokens 0 rest)
one_here [] first rest r = let wrong : none_here ≡ one first r.off.n = r.off.is in let no : ⊥ = cc in absurd no
one_here (b ∷ text) first rest r = go r.off.n r.off.is r.off.some r.off.place
  where
    go : (n : ℕ) → token b text ≡ one first n → 0 < n → drop n (b ∷ text) ≡ rest → tokens 0 (b ∷ text) ≡ with_token first (tokens 0 rest)
    go zero e some place = absurd (omega (arith, some))
    go (suc n) e some place = tokens-one b text first n r.black e ∙ ap (λ t. with_token first (tokens 0 t)) place

-- a bare word at the front is what the function cuts off
record WordHere (b : ℕ) (text spelled : List ℕ) : Type 0 where
  cut : token b text ≡ bare_word spelled (length spelled)
  white : is_white_space b ≡ false

word_at : (b : ℕ) (text spelled rest : List ℕ) → IsBareWord (b ∷ text) spelled rest → WordHere b text spelled
word_at b text [] rest h = let wrong : false ≡ true = h.first in let no : ⊥ = cc in absurd no
word_at b text (c ∷ spelled) rest h =
    let same : b ≡ c = cc (h.cut) in
    let first : begins_word b ≡ true = ap begins_word same ∙ h.first in
    record { cut = token-word b text first ∙ word_cut (b ∷ text) (c ∷ spelled) rest h; white = word_not_white b first }

unsaid : (spelled : List ℕ) (n : ℕ) → ((first : PlainToken) → SpellsWord spelled first → ⊥) → bare_word spelled n ≡ refused spelled
unsaid spelled n nothing = go (bare_word spelled n) refl (word_says spelled n)
  where
    go : (cut : Cut) → bare_word spelled n ≡ cut → WordSays spelled n (bare_word spelled n) → bare_word spelled n ≡ refused spelled
    go (one first m) e says = let s : WordSays spelled n (one first m) = subst (WordSays spelled n) e says in absurd (nothing first s.0)
    go (refused other) e says = let s : WordSays spelled n (refused other) = subst (WordSays spelled n) e says in e ∙ ap refused s.0
    go none_here e says = absurd (subst (WordSays spelled n) e says)

refused_here : (text spelled rest : List ℕ) → IsBareWord text spelled rest → ((first : PlainToken) → SpellsWord spelled first → ⊥) →
    tokens 0 text ≡ refused_word spelled
refused_here [] spelled rest h nothing = absurd (omega (arith, word_long h, ap length h.cut, length-append spelled rest))
refused_here (b ∷ text) spelled rest h nothing =
    let here = word_at b text spelled rest h in
    tokens-refused b text spelled here.white (here.cut ∙ unsaid spelled (length spelled) nothing)

word_not_nothing : (spelled : List ℕ) (n : ℕ) → bare_word spelled n ≡ none_here → ⊥
word_not_nothing spelled n e = subst (WordSays spelled n) e (word_says spelled n)

nothing_here : (text : List ℕ) → BeginsNothing text → tokens 0 text ≡ stopped
nothing_here [] h = absurd (h.some refl)
nothing_here (b ∷ text) h = go (token b text) refl (token_is b text)
  where
    go : (cut : Cut) → token b text ≡ cut → FrontIs (b ∷ text) (token b text) → tokens 0 (b ∷ text) ≡ stopped
    go (one first n) e front = let f : FrontIs (b ∷ text) (one first n) = subst (FrontIs (b ∷ text)) e front in absurd (h.no_token first f.0 f.3)
    go (refused spelled) e front = let f : FrontIs (b ∷ text) (refused spelled) = subst (FrontIs (b ∷ text)) e front in absurd (h.no_word spelled f.0 f.1)
    go none_here e front = tokens-stopped b text h.no_white_space e

pub has_read : {text : List ℕ} {found : Tokens} → HasTokens text found → tokens 0 text ≡ found
has_read at_end = tokens_end
has_read (after_white_space {b} {text} e h) = tokens-white b text e ∙ has_read h
has_read (after_token {text} {rest} {first} first_token h e) = one_here text first rest (token_reads first_token) ∙ ap (with_token first) (has_read h) ∙ sym e
has_read (at_refused {text} {word = spelled} {rest} w nothing) = refused_here text spelled rest w nothing
has_read (at_nothing {text} h) = nothing_here text h

nothing_at : (b : ℕ) (text : List ℕ) → is_white_space b ≡ false → token b text ≡ none_here → BeginsNothing (b ∷ text)
nothing_at b text e f = record {
  some = λ p. nonempty b text p;
  no_white_space = e;
  no_token = λ first rest t. no_token_at first rest (token_reads t);
  no_word = λ spelled rest w. word_not_nothing spelled (length spelled) (sym (word_at b text spelled rest w).cut ∙ f);
}
  where
    no_token_at : (first : PlainToken) (rest : List ℕ) → Reads (b ∷ text) first rest → ⊥
    no_token_at first rest r = let both : none_here ≡ one first r.off.n = sym f ∙ r.off.is in cc

-- the tokens of a text that is no longer than this
tokens_has : (size : ℕ) (text : List ℕ) → length text ≤ size → HasTokens text (tokens 0 text)
tokens_has size [] low = subst (HasTokens []) (sym tokens_end) at_end
tokens_has zero (b ∷ text) low = absurd (omega (arith, low))
tokens_has (suc size) (b ∷ text) low =
    go (cases_Bool (is_white_space b)) (token b text) refl (token_is b text) (tokens_has size text (omega (arith, low)))
    (λ n some. tokens_has size (drop n (b ∷ text)) (omega (arith, low, some, length-drop n (b ∷ text))))
  where
    go : (is_white_space b ≡ true) ⊎ (is_white_space b ≡ false) → (cut : Cut) → token b text ≡ cut → FrontIs (b ∷ text) (token b text) →
        HasTokens text (tokens 0 text) → ((n : ℕ) → 0 < n → HasTokens (drop n (b ∷ text)) (tokens 0 (drop n (b ∷ text)))) →
        HasTokens (b ∷ text) (tokens 0 (b ∷ text))
    go (inl e) cut f h next later = subst (HasTokens (b ∷ text)) (sym (tokens-white b text e)) (after_white_space e next)
    go (inr e) (one first n) f h next later =
        let front : FrontIs (b ∷ text) (one first n) = subst (FrontIs (b ∷ text)) f h in
        let r = token_reads front.3 in
        after_token front.3 (subst (λ t. HasTokens t (tokens 0 t)) front.2 (later n front.1)) (one_here (b ∷ text) first front.0 r)
    go (inr e) (refused spelled) f h next later =
        let front : FrontIs (b ∷ text) (refused spelled) = subst (FrontIs (b ∷ text)) f h in
        subst (HasTokens (b ∷ text)) (sym (tokens-refused b text spelled e f)) (at_refused front.1 front.2)
    go (inr e) none_here f h next later = subst (HasTokens (b ∷ text)) (sym (tokens-stopped b text e f)) (at_nothing (nothing_at b text e f))

pub token_law : TokenLaw
token_law text found = (λ e. subst (HasTokens text) e (tokens_has (length text) text (omega arith)), λ h. has_read h)
