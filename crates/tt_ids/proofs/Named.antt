-- The number that a text names is the one that writes it.
use Rattle.std.proofs.Common.{◌≡◌, ◌≢◌, ◌<◌, ◌^◌, ◌&&◌, ◌==◌, ℕ, Bool, true, false, List, [], ◌∷◌, ◌++◌, Option, Some}
use Rattle.std.proofs.Common.{None, option_and_then, if◌then◌else◌, IfSome, IfNone, refl, sym, ap, ◌∙◌, nat_lt, rules}
use Rattle.std.proofs.Common.{arith, tests}
use Rattle.std.proofs.lemmas.Bool.Decides.{nat_tests}
use Rattle.std.proofs.lemmas.Fmt.{digits_value-decimal}
use Rattle.std.proofs.lemmas.Slice.Eq.{bytes_eq-Decides}
use Rattle.std.proofs.lemmas.Str.Parse.{IsNumeralModel, numerals_by_fold}
use Rattle.std.specs.Fmt.{decimal}
use Rattle.std.specs.Prelude.{bytes_eq}
use Rattle.std.specs.Str.{all_ascii_digits}
use Rattle.tt_ids.specs.Ids.{after_letters, id, id_named, letters, number_named}
use Rattle.tt_ids.specs.declared.id.IdKind.{IdKind}
use Rattle.tt_ids.specs.Digits.{number_after}

-- the numbers of digits, as std has them
own : IsNumeralModel (λ ds. all_ascii_digits ds ≡ true) (number_after 0)
own = numerals_by_fold _ (search rules) number_after (search rules)

below : (n : ℕ) → n < 2 ^ 64 → nat_lt n (2 ^ 64) ≡ true
below n small = grind (arith, nat_tests)

-- a number names itself
pub named_decimal : (n : ℕ) → n < 2 ^ 64 → number_named (decimal n) ≡ Some n
named_decimal n small =
    let value : number_after 0 (decimal n) ≡ n = digits_value-decimal own n small in
    let same : bytes_eq (decimal n) (decimal n) ≡ true = (bytes_eq-Decides (decimal n) (decimal n)).1 refl in
    rw (value, below n small, same) refl

pub named_none : (text : List ℕ) → ((n : ℕ) → n < 2 ^ 64 → text ≢ decimal n) → number_named text ≡ None
named_none text none = go (nat_lt (number_after 0 text) (2 ^ 64)) (bytes_eq text (decimal (number_after 0 text))) refl refl
  where
    go : (small same : Bool) → nat_lt (number_after 0 text) (2 ^ 64) ≡ small → bytes_eq text (decimal (number_after 0 text)) ≡ same →
        (if small && same then Some (number_after 0 text) else None) ≡ None
    go false same is e = refl
    go true false is e = refl
    go true true is e =
        let fits : number_after 0 text < 2 ^ 64 = grind (arith, nat_tests) in
        absurd (none (number_after 0 text) fits ((bytes_eq-Decides text (decimal (number_after 0 text))).0 e))

pub named_is : (text : List ℕ) (answer : Option ℕ) → IfSome answer (λ n. n < 2 ^ 64) → IfSome answer (λ n. text ≡ decimal n) →
    IfNone answer ((n : ℕ) → n < 2 ^ 64 → text ≢ decimal n) → answer ≡ number_named text
named_is text None small read none = sym (named_none text none)
named_is text (Some n) small read none = rw read (sym (named_decimal n small))

-- ---- ids ----

front_same : (front text : List ℕ) → after_letters front (front ++ text) ≡ Some text
front_same [] text = refl
front_same (letter ∷ front) text =
    let same : (letter == letter) ≡ true = search rules in
    rw same (front_same front text)

front_cut : (front text rest : List ℕ) → after_letters front text ≡ Some rest → text ≡ front ++ rest
front_cut [] text rest e = cc e
front_cut (letter ∷ front) [] rest e = absurd (search rules)
front_cut (letter ∷ front) (b ∷ text) rest e = go (letter == b) refl e (λ h. front_cut front text rest h)
  where
    go : (same : Bool) → (letter == b) ≡ same → (if same then after_letters front text else None) ≡ Some rest →
        (after_letters front text ≡ Some rest → text ≡ front ++ rest) → b ∷ text ≡ letter ∷ front ++ rest
    go true is e cut =
        let alike : letter ≡ b = search (rules, is, tests) in
        rw alike (ap (λ t. b ∷ t) (cut e))
    go false is e cut = absurd (search rules)

pub id_is : (kind : IdKind) (text : List ℕ) (answer : Option ℕ) → IfSome answer (λ n. n < 2 ^ 64) → IfSome answer (λ n. text ≡ id kind n) →
    IfNone answer ((n : ℕ) → n < 2 ^ 64 → text ≢ id kind n) → answer ≡ id_named kind text
id_is kind text (Some n) small read none =
    rw (read, front_same (letters kind) (decimal n)) (sym (named_decimal n small))
id_is kind text None small read none = sym (go (after_letters (letters kind) text) refl)
  where
    go : (rest : Option (List ℕ)) → after_letters (letters kind) text ≡ rest → option_and_then number_named rest ≡ None
    go None is = refl
    go (Some rest) is =
        let cut = front_cut (letters kind) text rest is in
        named_none rest (λ n small e. none n small (cut ∙ ap (λ r. letters kind ++ r) e))
