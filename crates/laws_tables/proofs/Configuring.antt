-- What the words of thread::configure ask is understood.
use Rattle.std.proofs.Common.{◌≡◌, ◌≢◌, ◌∙◌, ◌||◌, ◌%◌, ◌==◌, ℕ, ℤ, suc, pos, negsuc, Bool, true, false, nat_lt, if◌then◌else◌, List, [], ◌∷◌}
use Rattle.std.proofs.Common.{length, codes, Option, Some, None, is_some, option_and_then, ap, refl, sym, arith}
use Rattle.std.proofs.lemmas.Bool.Decides.{nat_tests}
use Rattle.std.specs.Prelude.{Result, Ok, Err}
use Rattle.std.specs.Result.{result_ok}
use Rattle.laws_tables.proofs.Asked.{AreSettings}
use Rattle.laws_tables.proofs.SaysWhy.{SaysWhy}
use Rattle.tt_exprs.specs.Apply.{boolean_of}
use Rattle.tt_number.specs.Numerals.{trimmed, whole_of}
use Rattle.tt_number.specs.declared.numeral.NumberFault.{NumberFault}
use Rattle.tt_thread_commands.specs.Configuring as words
use Rattle.tt_threads.specs.Requests as threads

-- what is set
abbrev IsSet : {X : Type 0} → Option X → Type 0
IsSet {X} found = (next : X) × (found ≡ Some next)

one : whole_of (codes "1") ≡ Ok (pos 1)
unfolding whole_of trimmed
one = refl

zero_is : whole_of (codes "0") ≡ Ok (pos 0)
unfolding whole_of trimmed
zero_is = refl

-- ---- one option ----

by_mark : (now : _) (read : Result ℤ NumberFault) → words.is_mark_value read ≡ true → IsSet (option_and_then (threads.with_mark now) (result_ok read))
by_mark now (Ok (pos mark)) is = (_, refl)
by_mark now (Ok (negsuc n)) is = absurd (cc is)
by_mark now (Err fault) is = absurd (cc is)

by_boolean : (now : _) (found : Option Bool) → is_some found ≡ true →
    IsSet (option_and_then (threads.with_unwind now) (result_ok (whole_of (words.boolean_text found))))
by_boolean now None is = absurd (cc is)
by_boolean now (Some true) is = rw one (_, refl)
by_boolean now (Some false) is = rw zero_is (_, refl)

-- an option with a value that it has is set
one_set : (option value : List ℕ) (now : _) → words.is_option option ≡ true → words.is_value option value ≡ true →
    IsSet (threads.with_setting option (words.setting_text option value) now)
one_set option value now known valued = go (words.is_mark option) (words.is_unwinding option) known valued
  where
    go : (mark unwinding : Bool) → mark || unwinding ≡ true → (if mark then words.is_mark_value (whole_of value) else is_some (boolean_of value)) ≡ true
        → IsSet (option_and_then (λ number. if mark then threads.with_mark now number else if unwinding then threads.with_unwind now number else None)
        (result_ok (whole_of (if mark then value else words.boolean_text (boolean_of value)))))
    go true unwinding known valued = by_mark now (whole_of value) valued
    go false true known valued = by_boolean now (boolean_of value) valued
    go false false known valued = absurd (cc known)

-- ---- all ----

known_first : (b : Bool) (option : List ℕ) (rest : Option (List ℕ)) → (if b then rest else Some option) ≡ None → (b ≡ true) × (rest ≡ None)
known_first true option rest is = (refl, is)
known_first false option rest is = absurd (cc is)

valued_first : (b : Bool) (value : List ℕ) (rest : Option (List ℕ)) → (if b then rest else Some value) ≡ None → (b ≡ true) × (rest ≡ None)
valued_first true value rest is = (refl, is)
valued_first false value rest is = absurd (cc is)

fewer : (n : ℕ) → (suc (suc n) % 2 == 0) ≡ true → (n % 2 == 0) ≡ true
fewer n even = grind (arith, nat_tests, even)

all_set : (given : List (List ℕ)) (now : _) → words.first_unknown given ≡ None → (length given % 2 == 0) ≡ true → words.first_bad given ≡ None →
    threads.with_settings (words.setting_words given) now ≢ None
all_set [] now known even valued is = cc is
all_set (option ∷ []) now known even valued is = cc even
all_set (option ∷ value ∷ rest) now known even valued is =
    let first = known_first (words.is_option option) option (words.first_unknown rest) known in
    let good = valued_first (words.is_value option value) value (words.first_bad rest) valued in
    let next = one_set option value now first.0 good.0 in
    all_set rest next.0 first.1 (fewer (length rest) even) good.1
    (sym (ap (option_and_then (threads.with_settings (words.setting_words rest))) next.1) ∙ is)

-- one option alone has a value
one_told : (option : List ℕ) (now : _) → words.is_option option ≡ true → SaysWhy (threads.settings_report now (option ∷ []))
one_told option now known = go (threads.setting_of now option) refl
  where
    missing : (mark unwinding : Bool) (one other : List ℕ) → mark || unwinding ≡ true
        → (if mark then Some one else if unwinding then Some other else None) ≡ None → ⊥
    missing true unwinding one other known is = cc is
    missing false true one other known is = cc is
    missing false false one other known is = cc known

    go : (found : Option (List ℕ)) → threads.setting_of now option ≡ found → SaysWhy (threads.settings_report now (option ∷ []))
    go (Some value) is = rw (is, threads.settings_report) tt
    go None is = absurd (missing (words.is_mark option) (words.is_unwinding option) _ _ known is)

not_few : (n : ℕ) → nat_lt (suc (suc n)) 2 ≡ true → ⊥
not_few n few =
    let many : nat_lt (suc (suc n)) 2 ≡ false = grind (arith, nat_tests) in
    let both : true ≡ false = sym few ∙ many in
    cc both

pub configured : (given : List (List ℕ)) → words.first_unknown given ≡ None → words.is_number given ≡ true → words.first_bad given ≡ None →
    AreSettings (words.setting_words given)
configured [] known number valued = record { tells = λ now few. tt; sets = λ now many. absurd (cc many) }
configured (option ∷ []) known number valued = record {
  tells = λ now few. one_told option now (alone (words.is_option option) known);
  sets = λ now many. absurd (cc many);
}
  where
    alone : (b : Bool) → (if b then None else Some option) ≡ None → b ≡ true
    alone true is = refl
    alone false is = absurd (cc is)
configured (option ∷ value ∷ rest) known number valued = record {
  tells = λ now few. absurd (not_few _ few);
  sets = λ now many. all_set (option ∷ value ∷ rest) now known number valued;
}
