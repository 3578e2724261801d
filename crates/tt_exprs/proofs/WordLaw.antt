-- The bare word that the function cuts off is the longest one, and says what the function says.
use Rattle.std.proofs.Common.{rules, ◌≡◌, ℕ, ◌+◌, Bool, true, false, ◌==◌, List, ◌∷◌, length, take, drop, Option, Some, None, refl, ap, sym, ◌∙◌, subst, arith}
use Rattle.std.specs.Str.{bytes_eq}
use Rattle.std.specs.Char.{is_digit}
use Rattle.std.specs.List.{prefix_len}
use Rattle.std.proofs.lemmas.Bool.Decides.{nat_tests}
use Rattle.std.proofs.Math.Numerals.{one-add}
use Rattle.std.proofs.lemmas.List.{take_at, take-append-drop}
use Rattle.std.proofs.lemmas.Slice.Eq.{bytes_eq-Decides}
use Rattle.tt_text.specs.Characters.{is_white_space}
use Rattle.tt_exprs.specs.Trees.{leaf}
use Rattle.tt_exprs.specs.Operators.{spelling, word_operators, functions, spelled_so, boolean_word}
use Rattle.tt_exprs.specs.Tokens.{PlainToken, operand, operator, function, Cut, one, refused, none_here, begins_word}
use Rattle.tt_exprs.specs.Tokens.{is_word_byte, bare_word, word, digit_count, fraction, scaled_length, number_length}
use Rattle.tt_exprs.specs.TokenGrammar.{first_is, IsBareWord, SpellsWord, truth_word, operator_word, function_word}
use Rattle.tt_exprs.specs.declared.op.Op.{Op}
use Rattle.tt_exprs.proofs.Runs.{run-front, run-none, run-kind, run-end}
use Rattle.tt_exprs.proofs.Spellings.{find-passes}
use Rattle.tt_exprs.proofs.SignLaw.{contained, contains, Every, every_one, found_in}

-- ---- bytes that begin a word

pub word_not_white : (b : ℕ) → begins_word b ≡ true → is_white_space b ≡ false
word_not_white b h = grind (arith, nat_tests)

word_no_digit : (b : ℕ) → begins_word b ≡ true → is_digit b 10 ≡ false
word_no_digit b h = grind (arith, nat_tests)

word_no_point : (b : ℕ) → begins_word b ≡ true → (b == 46) ≡ false
word_no_point b h = grind (arith, nat_tests)

word_no_zero : (b : ℕ) → begins_word b ≡ true → (b == 48) ≡ false
word_no_zero b h = grind (arith, nat_tests)

word_goes_on : (b : ℕ) → begins_word b ≡ true → is_word_byte b ≡ true
word_goes_on b h = grind (arith, nat_tests)

-- no number begins with such a byte
pub word_no_number : (b : ℕ) (text : List ℕ) → begins_word b ≡ true → number_length (b ∷ text) ≡ 0
word_no_number b text h =
    let none : digit_count 10 (b ∷ text) ≡ 0 = rw (word_no_digit b h) refl in
    let no_fraction : fraction 0 (b ∷ text) ≡ 0 = rw (word_no_point b h, fraction) refl in
    let nothing : 0 + fraction 0 (drop 0 (b ∷ text)) ≡ 0 = omega (arith, no_fraction) in
    rw (word_no_zero b h, number_length) (ap (λ n. scaled_length n (n + fraction n (drop n (b ∷ text))) (b ∷ text)) none ∙ ap (λ m. scaled_length 0 m (b ∷ text)) nothing)

-- ---- the word

pub word_cut : (text spelled rest : List ℕ) → IsBareWord text spelled rest → word text ≡ bare_word spelled (length spelled)
unfolding word
word_cut text spelled rest h =
    let none_more = run-none is_word_byte rest h.longest in
    let count : prefix_len is_word_byte text ≡ length spelled =
    ap (prefix_len is_word_byte) h.cut ∙ run-front is_word_byte spelled rest h.run ∙ omega (arith, none_more) in
    let here : take (length spelled) text ≡ spelled = ap (take (length spelled)) h.cut ∙ take_at spelled rest (length spelled) refl in
    ap (λ n. bare_word (take n text) n) count ∙ ap (λ s. bare_word s (length spelled)) here

word_first : (b : ℕ) (text : List ℕ) → begins_word b ≡ true → first_is begins_word (take (prefix_len is_word_byte (b ∷ text)) (b ∷ text)) ≡ true
word_first b text h = rw (word_goes_on b h) (rw one-add h)

pub word_is : (b : ℕ) (text : List ℕ) → begins_word b ≡ true →
    IsBareWord (b ∷ text) (take (prefix_len is_word_byte (b ∷ text)) (b ∷ text)) (drop (prefix_len is_word_byte (b ∷ text)) (b ∷ text))
word_is b text h = record {
  cut = sym (take-append-drop (prefix_len is_word_byte (b ∷ text)) (b ∷ text));
  first = word_first b text h;
  run = run-kind is_word_byte (b ∷ text);
  longest = run-end is_word_byte (b ∷ text);
}

-- ---- what it says

spelled_same : (ops : List Op) (spelled : List ℕ) (op : Op) → spelled_so ops spelled ≡ Some op → spelled ≡ spelling op
spelled_same ops spelled op e = (bytes_eq-Decides spelled (spelling op)).0 (find-passes (λ o. bytes_eq spelled (spelling o)) ops op e)

-- what a cut says of a bare word
abbrev pub WordSays : List ℕ → ℕ → Cut → Type 0
WordSays spelled n (one token m) = SpellsWord spelled token × (m ≡ n)
WordSays spelled n (refused other) = (other ≡ spelled) × ((token : PlainToken) → SpellsWord spelled token → ⊥)
WordSays spelled n none_here = ⊥

operators_read : Every (λ op. (n : ℕ) → bare_word (spelling op) n ≡ one (operator op) n) word_operators
operators_read = search rules

functions_read : Every (λ op. (n : ℕ) → bare_word (spelling op) n ≡ one (function op) n) functions
functions_read = search rules

operators_no_truth : Every (λ op. boolean_word (spelling op) ≡ None) word_operators
operators_no_truth = search rules

functions_no_truth : Every (λ op. boolean_word (spelling op) ≡ None) functions
functions_no_truth = search rules

truth_read : (spelled : List ℕ) (truth : Bool) (n : ℕ) → boolean_word spelled ≡ Some truth → bare_word spelled n ≡ one (operand (leaf spelled)) n
truth_read spelled truth n h = go (spelled_so word_operators spelled) refl (spelled_so functions spelled) refl
  where
    wrong : (op : Op) → spelled ≡ spelling op → boolean_word (spelling op) ≡ None → ⊥
    wrong op e none = let both : Some truth ≡ None = sym h ∙ ap boolean_word e ∙ none in cc

    go : (o : Option Op) → spelled_so word_operators spelled ≡ o → (f : Option Op) → spelled_so functions spelled ≡ f →
        bare_word spelled n ≡ one (operand (leaf spelled)) n
    go (Some op) e f g =
        absurd (wrong op (spelled_same word_operators spelled op e)
        (every_one (λ o. boolean_word (spelling o) ≡ None) word_operators op operators_no_truth
        (found_in (λ o. bytes_eq spelled (spelling o)) word_operators op e)))
    go None e (Some op) g =
        absurd (wrong op (spelled_same functions spelled op g)
        (every_one (λ o. boolean_word (spelling o) ≡ None) functions op functions_no_truth (found_in (λ o. bytes_eq spelled (spelling o)) functions op g)))
    go None e None g = rw (e, bare_word, g, h) refl

pub says_read : {spelled : List ℕ} {token : PlainToken} (n : ℕ) → SpellsWord spelled token → bare_word spelled n ≡ one token n
says_read n (truth_word {word = spelled} {truth} h) = truth_read spelled truth n h
says_read n (operator_word {op} i e) =
    ap (λ s. bare_word s n) e
    ∙ every_one (λ o. (m : ℕ) → bare_word (spelling o) m ≡ one (operator o) m) word_operators op operators_read (contained word_operators op i) n
says_read n (function_word {op} i e) =
    ap (λ s. bare_word s n) e
    ∙ every_one (λ o. (m : ℕ) → bare_word (spelling o) m ≡ one (function o) m) functions op functions_read (contained functions op i) n

pub word_says : (spelled : List ℕ) (n : ℕ) → WordSays spelled n (bare_word spelled n)
word_says spelled n = go (spelled_so word_operators spelled) refl (spelled_so functions spelled) refl (boolean_word spelled) refl
  where
    refusal : bare_word spelled n ≡ refused spelled → (token : PlainToken) → SpellsWord spelled token → ⊥
    refusal e token h = let both : refused spelled ≡ one token n = sym e ∙ says_read n h in cc

    go : (o : Option Op) → spelled_so word_operators spelled ≡ o → (f : Option Op) → spelled_so functions spelled ≡ f → (t : Option Bool) →
        boolean_word spelled ≡ t → WordSays spelled n (bare_word spelled n)
    go (Some op) e f g t h =
        let is : bare_word spelled n ≡ one (operator op) n = rw (e, bare_word) refl in
        subst (WordSays spelled n) (sym is) (
          operator_word (contains word_operators op (found_in (λ o. bytes_eq spelled (spelling o)) word_operators op e))
              (spelled_same word_operators spelled op e),
          refl,
        )
    go None e (Some op) g t h =
        let is : bare_word spelled n ≡ one (function op) n = rw (e, bare_word, g) refl in
        subst (WordSays spelled n) (sym is)
        (function_word (contains functions op (found_in (λ o. bytes_eq spelled (spelling o)) functions op g)) (spelled_same functions spelled op g), refl)
    go None e None g (Some truth) h =
        let is : bare_word spelled n ≡ one (operand (leaf spelled)) n = rw (e, bare_word, g, h) refl in
        subst (WordSays spelled n) (sym is) (truth_word h, refl)
    go None e None g None h =
        let is : bare_word spelled n ≡ refused spelled = rw (e, bare_word, g, h) refl in
        subst (WordSays spelled n) (sym is) (refl, refusal is)
