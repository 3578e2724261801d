-- One token after another.
use Rattle.std.proofs.Common.{◌≡◌, ℕ, zero, suc, ◌+◌, ◌-◌, ◌<◌, ◌≤◌, true, false, nat_lt, get_or, List, [], ◌∷◌, length, take, drop, refl, ap, sym, ◌∙◌, arith}
use Rattle.std.specs.List.{prefix_len}
use Rattle.std.proofs.lemmas.List.{length-take-le, drop_more, drop-drop, drop_all, length-drop, take_all}
use Rattle.tt_text.specs.Characters.{is_white_space}
use Rattle.tt_exprs.specs.Tokens.{PlainToken, operand, Cut, one, refused, none_here, Tokens, begins_word, number}
use Rattle.tt_exprs.specs.Tokens.{number_length, other, read, refused_word, stopped, with_token, token, tokens, word}
use Rattle.tt_exprs.specs.Tokens.{bare_word, is_word_byte}
use Rattle.std.proofs.lemmas.Bool.{lt-ltb}
use Rattle.tt_exprs.specs.Trees.{leaf}
use Rattle.tt_exprs.specs.inside.Cutting.{comes_to}
use Rattle.tt_exprs.specs.Parsing.{PlainState, step}

pub word-read : (text : List ℕ) (n : ℕ) (cut : Cut) → n ≡ prefix_len is_word_byte text → n ≤ length text →
    cut ≡ bare_word (take n text) (length (take n text)) → cut ≡ word text
unfolding word
word-read text n cut e h is =
    is ∙ ap (bare_word (take n text)) (length-take-le n text h) ∙ ap (λ m. bare_word (take m text) m) e

pub begun : (b : ℕ) (text : List ℕ) → 0 < length text → b ≡ get_or text 0 0 → b ∷ drop 1 text ≡ text
begun b [] h e = absurd (omega (arith, h))
begun b (first ∷ text) h e = ap (λ c. c ∷ text) e

-- what follows a place, cut to its length
pub whole : (n : ℕ) (xs : List ℕ) → take (length xs - n) (drop n xs) ≡ drop n xs
whole n xs = take_all (length xs - n) (drop n xs) (omega (arith, length-drop n xs))

pub token-word : (b : ℕ) (text : List ℕ) → begins_word b ≡ true → token b text ≡ word (b ∷ text)
unfolding token
token-word b text e = rw (e, token)

pub token-number : (b : ℕ) (text : List ℕ) → begins_word b ≡ false → nat_lt 0 (number_length (b ∷ text)) ≡ true →
    token b text ≡ number (b ∷ text) (number_length (b ∷ text))
unfolding token
token-number b text e f = rw (e, token, f)

pub token-other : (b : ℕ) (text : List ℕ) → begins_word b ≡ false → nat_lt 0 (number_length (b ∷ text)) ≡ false → token b text ≡ other (b ∷ text)
unfolding token
token-other b text e f = rw (e, token, f)

pub number-read : (text : List ℕ) (b n : ℕ) (spelled : List ℕ) → 0 < length text → b ≡ get_or text 0 0 → begins_word b ≡ false → n ≡ number_length text →
    0 < n → spelled ≡ take n text → one (operand (leaf spelled)) n ≡ token b (drop 1 text)
number-read text b n spelled h first e count room is =
    let same : b ∷ drop 1 text ≡ text = begun b text h first in
    let some : nat_lt 0 (number_length (b ∷ drop 1 text)) ≡ true = ap (λ t. nat_lt 0 (number_length t)) same ∙ ap (nat_lt 0) (sym count) ∙ lt-ltb 0 n room in
    ap (λ s. one (operand (leaf s)) n) is
    ∙ ap (number text) count
    ∙ ap (λ t. number t (number_length t)) (sym same)
    ∙ sym (token-number b (drop 1 text) e some)

pub other-read : (text : List ℕ) (b n : ℕ) → 0 < length text → b ≡ get_or text 0 0 → begins_word b ≡ false → n ≡ number_length text → n ≡ 0 →
    other text ≡ token b (drop 1 text)
other-read text b n h first e count zero_is =
    let same : b ∷ drop 1 text ≡ text = begun b text h first in
    let nothing : nat_lt 0 (number_length (b ∷ drop 1 text)) ≡ false = ap (λ t. nat_lt 0 (number_length t)) same ∙ ap (nat_lt 0) (sym count ∙ zero_is) in
    ap other (sym same) ∙ sym (token-other b (drop 1 text) e nothing)

pub tokens-passes : (k : ℕ) (text : List ℕ) → tokens k text ≡ tokens 0 (drop k text)
unfolding tokens
tokens-passes zero text = refl
tokens-passes (suc k) [] = refl
tokens-passes (suc k) (b ∷ text) = tokens-passes k text

pub tokens-white : (b : ℕ) (text : List ℕ) → is_white_space b ≡ true → tokens 0 (b ∷ text) ≡ tokens 0 text
unfolding tokens
tokens-white b text e = rw (e, tokens)

pub tokens-one : (b : ℕ) (text : List ℕ) (first : PlainToken) (n : ℕ) → is_white_space b ≡ false → token b text ≡ one first (suc n) →
    tokens 0 (b ∷ text) ≡ with_token first (tokens 0 (drop n text))
unfolding tokens
tokens-one b text first n e f =
    let here : tokens 0 (b ∷ text) ≡ with_token first (tokens n text) = rw (e, tokens, f) in
    here ∙ ap (with_token first) (tokens-passes n text)

pub tokens-refused : (b : ℕ) (text spelled : List ℕ) → is_white_space b ≡ false → token b text ≡ refused spelled → tokens 0 (b ∷ text) ≡ refused_word spelled
unfolding tokens
tokens-refused b text spelled e f = rw (e, tokens, f)

pub tokens-stopped : (b : ℕ) (text : List ℕ) → is_white_space b ≡ false → token b text ≡ none_here → tokens 0 (b ∷ text) ≡ stopped
unfolding tokens
tokens-stopped b text e f = rw (e, tokens, f)

-- one token more, before those that are still to come
pub comes_to-one : (state : PlainState) (first : PlainToken) (later : Tokens) → comes_to state (with_token first later) ≡ comes_to (step state first) later
comes_to-one state first (read ts) = refl
comes_to-one state first (refused_word spelled) = refl
comes_to-one state first stopped = refl

-- ---- at a place ----

module _ (text : List ℕ) (at : ℕ) where
  pub white-at : at < length text → is_white_space (get_or text at 0) ≡ true → tokens 0 (drop at text) ≡ tokens 0 (drop (at + 1) text)
  white-at h e = ap (tokens 0) (drop_more text at 0 h) ∙ tokens-white _ _ e

  pub one-at : (first : PlainToken) (n : ℕ) → at < length text → is_white_space (get_or text at 0) ≡ false →
      token (get_or text at 0) (drop (at + 1) text) ≡ one first n → 0 < n → tokens 0 (drop at text) ≡ with_token first (tokens 0 (drop (at + n) text))
  one-at first zero h e f room = absurd (omega (arith, room))
  one-at first (suc n) h e f room =
      ap (tokens 0) (drop_more text at 0 h)
      ∙ tokens-one _ _ first n e f
      ∙ ap (λ rest. with_token first (tokens 0 rest)) (drop-drop n (at + 1) text)
      ∙ ap (λ k. with_token first (tokens 0 (drop k text))) (omega arith)

  pub refused-at : (spelled : List ℕ) → at < length text → is_white_space (get_or text at 0) ≡ false →
      token (get_or text at 0) (drop (at + 1) text) ≡ refused spelled → tokens 0 (drop at text) ≡ refused_word spelled
  refused-at spelled h e f = ap (tokens 0) (drop_more text at 0 h) ∙ tokens-refused _ _ spelled e f

  pub stopped-at : at < length text → is_white_space (get_or text at 0) ≡ false → token (get_or text at 0) (drop (at + 1) text) ≡ none_here →
      tokens 0 (drop at text) ≡ stopped
  stopped-at h e f = ap (tokens 0) (drop_more text at 0 h) ∙ tokens-stopped _ _ e f

  pub end-at : length text ≤ at → tokens 0 (drop at text) ≡ read []
  unfolding tokens
  end-at h = ap (tokens 0) (drop_all at text h)
