-- If a newline stands, and what of the known bytes a line is.
use Rattle.std.proofs.Common.{◌≡◌, ◌≢◌, ◌∙◌, ℕ, zero, suc, ◌+◌, ◌<◌, ◌≤◌, ◌==◌, ◌&&◌, not, Bool, true, false, List, []}
use Rattle.std.proofs.Common.{◌∷◌, ◌++◌, length, take, drop, get_or, Option, Some, None, cond, MatchOption, Result, Ok}
use Rattle.std.proofs.Common.{Err, IfOk, OnOk, ap, refl, subst, sym, arith, append-nil, append_assoc}
use Rattle.memchr.specs.Find.{NoneBefore, Nowhere, Passes, is_byte}
use Rattle.std.proofs.Math.Seq.{take-add}
use Rattle.std.proofs.lemmas.Bool.{and_from, cond-false, cond-true, eqb-true, le-ltb, lt-ltb, ltb-false, ltb-true, ne_eqb}
use Rattle.std.proofs.lemmas.List.{drop_all, drop_at, drop_more, get_or-drop, get_or-take, length-append, length-drop}
use Rattle.std.proofs.lemmas.List.{length-take, length-take-le, take-append-drop, take-take, take_all, take_at}
use Rattle.std.proofs.lemmas.List.{take_more}
use Rattle.std.proofs.lemmas.List.Folds.{list_all-append, list_all_more}
use Rattle.std.specs.Io.KnownBytes.{IsAtEnd, Keeps, prepend_known}
use Rattle.std.specs.List.{list_all, prefix_len}
use Rattle.std.specs.Prelude.{nat_lt}
use Rattle.tt_devices.proofs.StreamLemmas.{Stays-trans}
use Rattle.tt_lines.specs.Lines.{IsInLine, TakesLine, ended, last, long, most_bytes, OneLineLaw, ReadsKnown, whole}
use Rattle.tt_lines.specs.declared.fault.LineFault.{LineFault}
use Rattle.tt_shared.specs.declared.applied.Line.TheVariants.{End, Read, TooLong}
use Rattle.tt_shared.specs.declared.applied.Line.{Line}

-- no newline
abbrev pub in_line : ℕ → Bool
in_line b = not (b == 10)

no-newline : (b : Bool) → ¬ (b ≡ true) → not b ≡ true
no-newline true never = absurd (never refl)
no-newline false never = refl

no-newline-left : (b : Bool) → not b ≡ true → b ≡ true → ⊥
no-newline-left true other same = cc other
no-newline-left false other same = cc same

-- ---- the search ----

in-line-take : (xs : List ℕ) (n : ℕ) → n ≤ length xs → Nowhere (Passes (is_byte 10) xs) 0 n → IsInLine (take n xs)
in-line-take xs zero within never = refl
in-line-take xs (suc n) within never =
    let before = in-line-take xs n (omega (arith, within)) (λ k low high. never k low (omega (arith, high))) in
    let here = no-newline (get_or xs n 0 == 10) (never n (omega arith) (omega arith)) in
    let e : suc n ≡ n + 1 = omega arith in
    ap (λ (m : ℕ). list_all in_line (take m xs)) e ∙ (list_all_more in_line xs n 0 (omega (arith, within)) ∙ and_from _ _ before here)

pub in-line-joined : (xs ys : List ℕ) → IsInLine xs → IsInLine ys → IsInLine (xs ++ ys)
in-line-joined xs ys one other = list_all-append in_line xs ys ∙ and_from _ _ one other

searched-on : (xs : List ℕ) (n k : ℕ) → IsInLine (take n xs) → IsInLine (take k (drop n xs)) → IsInLine (take (n + k) xs)
searched-on xs n k before after = rw take-add (in-line-joined (take n xs) (take k (drop n xs)) before after)

-- what a search from a place on finds in all the bytes
abbrev pub FindsNewline : List ℕ → Option ℕ → Type 0
FindsNewline xs found =
    MatchOption found (IsInLine xs) (λ place. IsInLine (take place xs) × (place < length xs) × (get_or xs place 0 ≡ 10))

pub none-found : (xs : List ℕ) (n : ℕ) → IsInLine (take n xs) → Nowhere (Passes (is_byte 10) (drop n xs)) 0 (length (drop n xs)) → IsInLine xs
none-found xs n before never =
    let rest = in-line-take (drop n xs) (length (drop n xs)) (omega arith) never in
    let rest' = rw (take_all (length (drop n xs)) (drop n xs) (omega arith)) at rest in
    rw (sym (take-append-drop n xs)) (in-line-joined (take n xs) (drop n xs) before rest')

pub one-found : (xs : List ℕ) (n k : ℕ) → n ≤ length xs → IsInLine (take n xs) → NoneBefore (Passes (is_byte 10) (drop n xs)) 0 (length (drop n xs)) k →
    Passes (is_byte 10) (drop n xs) k → IsInLine (take (n + k) xs) × (n + k < length xs) × (get_or xs (n + k) 0 ≡ 10)
one-found xs n k within before none here =
    let high = none.high in
    let within' : n + k < length xs = omega (arith, high, length-drop n xs, within) in
    let byte = eqb-true (get_or (drop n xs) k 0) 10 here in
    (searched-on xs n k before (in-line-take (drop n xs) k (omega (arith, high)) none.before), within', sym (get_or-drop n xs k 0) ∙ byte)

pub front-whole : (xs : List ℕ) (n : ℕ) → take (length (take n xs)) xs ≡ take n xs
front-whole [] zero = refl
front-whole [] (suc n) = refl
front-whole (x ∷ xs) zero = refl
front-whole (x ∷ xs) (suc n) = ap (λ (bytes : List ℕ). x ∷ bytes) (front-whole xs n)

-- the bytes in which a newline is searched
pub front-holds : (xs front : List ℕ) (n m : ℕ) → front ≡ take m xs → n ≤ length xs → n ≤ m → n ≤ length front
front-holds xs front n m e within below = rw e (omega (arith, length-take m xs, within, below))

pub front-within : (xs front : List ℕ) (n m : ℕ) → front ≡ take m xs → n < length front → (n < length xs) × (n < m)
front-within xs front n m e within =
    let within' : n < length (take m xs) = rw e at within in
    (omega (arith, length-take m xs, within'), omega (arith, length-take m xs, within'))

pub front-few : (xs front : List ℕ) (m : ℕ) → front ≡ take m xs → (length front ≤ length xs) × (length front ≤ m)
front-few xs front m e = (rw e (omega (arith, length-take m xs)), rw e (omega (arith, length-take m xs)))

pub front-searched : (xs front : List ℕ) (n m : ℕ) → front ≡ take m xs → n ≤ m → IsInLine (take n xs) → IsInLine (take n front)
front-searched xs front n m e below none = rw (e, take-take n m xs below) none

pub all-searched : (xs front : List ℕ) (m : ℕ) → front ≡ take m xs → IsInLine front → IsInLine (take (length front) xs)
all-searched xs front m e none = rw (e, front-whole xs m) (rw e at none)

-- while a newline is ahead that was not searched for yet, there are more bytes
pub more-ahead : (began xs : List ℕ) (n : ℕ) → xs ≡ began → ¬ (IsInLine began) → IsInLine (take n xs) → n < length xs
more-ahead began xs n same never none = by-test (nat_lt n (length xs)) refl
  where
    by-test : (b : Bool) → nat_lt n (length xs) ≡ b → n < length xs
    by-test true is = ltb-true n (length xs) is
    by-test false is =
        absurd (never (subst (λ (bytes : List ℕ). IsInLine bytes) (take_all n xs (ltb-false n (length xs) is) ∙ same) none))

-- ---- what a line is of the known bytes ----

whole-by : (held line left got : List ℕ) → held ≡ line ++ 10 ∷ left → got ≡ line ++ 10 ∷ [] → IsInLine line → length line ≤ most_bytes →
    TakesLine held (Read got) left
whole-by held line left got e f none few = rw (e, f) (whole line left none few)

cut-at : (xs : List ℕ) (n x : ℕ) → n < length xs → get_or xs n 0 ≡ x → xs ≡ take n xs ++ x ∷ drop (n + 1) xs
cut-at xs n x within is =
    let rest : drop n xs ≡ x ∷ drop (n + 1) xs = drop_more xs n 0 within ∙ ap (λ (b : ℕ). b ∷ drop (n + 1) xs) is in
    sym (take-append-drop n xs) ∙ ap (λ (bytes : List ℕ). take n xs ++ bytes) rest

reads-whole : (old held : Option (List ℕ)) (xs : List ℕ) (n m : ℕ) → m ≤ most_bytes + 1 → IsInLine (take n (take m xs)) → n < length (take m xs) →
    get_or (take m xs) n 0 ≡ 10 → n < m → n < length xs → Keeps old (prepend_known xs held) →
    ReadsKnown old (prepend_known (drop (n + 1) xs) held) (Read (take (n + 1) xs))
reads-whole None held xs n m few none within is below there keeps = tt
reads-whole (Some bytes) None xs n m few none within is below there keeps = absurd keeps
reads-whole (Some bytes) (Some more) xs n m few none within is below there keeps =
    let none' : IsInLine (take n xs) = rw (take-take n m xs (omega (arith, below))) at none in
    let is' : get_or xs n 0 ≡ 10 = sym (get_or-take m xs n 0 below) ∙ is in
    let cut = cut-at xs n 10 there is' in
    let got : take (n + 1) xs ≡ take n xs ++ 10 ∷ [] = take_more xs n 0 there ∙ ap (λ (b : ℕ). take n xs ++ b ∷ []) is' in
    let all : bytes ≡ take n xs ++ 10 ∷ (drop (n + 1) xs ++ more) =
    sym keeps ∙ (ap (λ (one : List ℕ). one ++ more) cut ∙ append_assoc (take n xs) (10 ∷ drop (n + 1) xs) more) in
    whole-by bytes (take n xs) (drop (n + 1) xs ++ more) (take (n + 1) xs) all got none' (omega (arith, length-take-le n xs (omega (arith, there)), below, few))

-- a line with its newline is taken of the bytes that are there
pub whole-line : (old mid held : Option (List ℕ)) (xs front ys : List ℕ) (n m : ℕ) (result : Result Line LineFault) → m ≤ most_bytes + 1 →
    front ≡ take m xs → IsInLine (take n front) → n < length front → get_or front n 0 ≡ 10 → Keeps old mid → Keeps mid (prepend_known xs held) →
    IfOk result (λ line. line ≡ Read (take (n + 1) xs)) → OnOk result (ys ≡ drop (n + 1) xs) → IfOk result (λ line. ReadsKnown old (prepend_known ys held) line)
whole-line old mid held xs front ys n m (Err fault) few e none within is before keeps line left = tt
whole-line old mid held xs front ys n m (Ok read) few e none within is before keeps line left =
    let below = front-within xs front n m e within in
    rw (line, left)
    (reads-whole old held xs n m few (rw e at none) (rw e at within) (rw e at is) below.1 below.0
    (Stays-trans old mid (prepend_known xs held) before keeps))

pub reads-last : (old held : Option (List ℕ)) (xs ys : List ℕ) (line : Line) → TakesLine xs line ys → IsAtEnd held → Keeps old (prepend_known xs held) →
    ReadsKnown old (prepend_known ys held) line
reads-last None held xs ys line is end keeps = tt
reads-last (Some bytes) None xs ys line is end keeps = absurd keeps
reads-last (Some bytes) (Some more) xs ys line is end keeps =
    let all : bytes ≡ xs = sym keeps ∙ (ap (λ (one : List ℕ). xs ++ one) end ∙ append-nil xs) in
    let left : ys ++ more ≡ ys = ap (λ (one : List ℕ). ys ++ one) end ∙ append-nil ys in
    rw (all, left) is

long-by : (held part left : List ℕ) (next : ℕ) (rest : List ℕ) → held ≡ part ++ next ∷ left → rest ≡ next ∷ left → IsInLine part →
    length part ≡ most_bytes → next ≢ 10 → TakesLine held TooLong rest
long-by held part left next rest e f none many other = rw (e, f) (long part left next none many other)

both : (a b : Bool) → (a && b) ≡ true → (a ≡ true) × (b ≡ true)
both true b e = (refl, e)
both false b e = absurd (cc e)

reads-long : (old held : Option (List ℕ)) (xs : List ℕ) → IsInLine (take (most_bytes + 1) xs) → most_bytes < length xs →
    Keeps old (prepend_known xs held) → ReadsKnown old (prepend_known (drop most_bytes xs) held) TooLong
reads-long None held xs none many keeps = tt
reads-long (Some bytes) None xs none many keeps = absurd keeps
reads-long (Some bytes) (Some more) xs none many keeps =
    let parts = both _ _ (sym (list_all_more in_line xs most_bytes 0 many) ∙ none) in
    let other : get_or xs most_bytes 0 ≢ 10 = λ same. no-newline-left (get_or xs most_bytes 0 == 10) parts.1 (rw same refl) in
    let cut = cut-at xs most_bytes (get_or xs most_bytes 0) many refl in
    let all = sym keeps
    ∙ (ap (λ (one : List ℕ). one ++ more) cut ∙ append_assoc (take most_bytes xs) (get_or xs most_bytes 0 ∷ drop (most_bytes + 1) xs) more) in
    let left = ap (λ (one : List ℕ). one ++ more) (drop_more xs most_bytes 0 many) in
    long-by bytes (take most_bytes xs) (drop (most_bytes + 1) xs ++ more) (get_or xs most_bytes 0) _ all left parts.0
    (length-take-le most_bytes xs (omega (arith, many))) other

pub too-long : (old held : Option (List ℕ)) (xs ys : List ℕ) (n : ℕ) → n ≡ most_bytes + 1 → IsInLine (take n xs) → n ≤ length xs →
    ys ≡ drop most_bytes xs → Keeps old (prepend_known xs held) → ReadsKnown old (prepend_known ys held) TooLong
too-long old held xs ys n e none within left keeps =
    rw left (reads-long old held xs (rw e at none) (omega (arith, e, within)) keeps)

pub last-none : (xs : List ℕ) → length xs ≡ 0 → TakesLine xs End xs
last-none [] none = ended
last-none (x ∷ xs) none = absurd (omega (arith, none))

not-empty : (xs : List ℕ) → length xs ≢ 0 → xs ≢ []
not-empty xs some same = some (ap (λ (bytes : List ℕ). length bytes) same)

last-by : (xs got ys : List ℕ) → IsInLine xs → xs ≢ [] → length xs ≤ most_bytes → got ≡ xs → ys ≡ [] → TakesLine xs (Read got) ys
last-by xs got ys none some few e f = rw (e, f) (last xs none some few)

pub last-line : (xs ys : List ℕ) (n : ℕ) (result : Result Line LineFault) → n ≡ length xs → n ≢ 0 → IsInLine xs → length xs ≤ most_bytes →
    IfOk result (λ line. line ≡ Read (take n xs)) → OnOk result (ys ≡ drop n xs) → IfOk result (λ line. TakesLine xs line ys)
last-line xs ys n (Err fault) e some none few is left = tt
last-line xs ys n (Ok line) e some none few is left =
    let some' : length xs ≢ 0 = λ same. some (e ∙ same) in
    rw is (last-by xs (take n xs) ys none (not-empty xs some') few (take_all n xs (omega (arith, e))) (left ∙ drop_all n xs (omega (arith, e))))

-- ---- one line ----

-- how many bytes stand before the first newline
abbrev pub before_newline : List ℕ → ℕ
before_newline bytes = prefix_len in_line bytes

in-line-first : (x : ℕ) (xs : List ℕ) → IsInLine (x ∷ xs) → (in_line x ≡ true) × IsInLine xs
in-line-first x xs none = both (in_line x) (list_all in_line xs) none

before-joined : (line rest : List ℕ) → IsInLine line → before_newline (line ++ rest) ≡ length line + before_newline rest
before-joined [] rest none = omega arith
before-joined (x ∷ line) rest none =
    let parts = in-line-first x line none in
    cond-true (in_line x) (1 + before_newline (line ++ rest)) 0 parts.0 ∙ omega (arith, before-joined line rest parts.1)

before-other : (next : ℕ) (left : List ℕ) → next ≢ 10 → 0 < before_newline (next ∷ left)
before-other next left other =
    let is : in_line next ≡ true = rw (ne_eqb next 10 other) refl in
    let e = cond-true (in_line next) (1 + before_newline left) 0 is in
    omega (arith, e)

before-none : (left : List ℕ) → before_newline (10 ∷ left) ≡ 0
before-none left = refl

-- the line that is read, by how many bytes stand before the first newline
abbrev pub line_by : ℕ → List ℕ → Line × List ℕ
line_by n [] = (End, [])
line_by n (x ∷ xs) =
    cond (nat_lt most_bytes n) (TooLong, drop most_bytes (x ∷ xs)) (Read (take (n + 1) (x ∷ xs)), drop (n + 1) (x ∷ xs))

by-read : (held : List ℕ) (n : ℕ) (line left : List ℕ) → held ≢ [] → n ≤ most_bytes → take (n + 1) held ≡ line → drop (n + 1) held ≡ left →
    (Read line, left) ≡ line_by n held
by-read [] n line left some few e f = absurd (some refl)
by-read (x ∷ xs) n line left some few e f =
    rw (← e, ← f)
    (sym (cond-false (nat_lt most_bytes n) (TooLong, drop most_bytes (x ∷ xs)) (Read (take (n + 1) (x ∷ xs)), drop (n + 1) (x ∷ xs))
    (le-ltb most_bytes n few)))

by-long : (held : List ℕ) (n : ℕ) (left : List ℕ) → held ≢ [] → most_bytes < n → drop most_bytes held ≡ left → (TooLong, left) ≡ line_by n held
by-long [] n left some many e = absurd (some refl)
by-long (x ∷ xs) n left some many e =
    rw (← e) (sym
    (cond-true (nat_lt most_bytes n) (TooLong, drop most_bytes (x ∷ xs)) (Read (take (n + 1) (x ∷ xs)), drop (n + 1) (x ∷ xs)) (lt-ltb most_bytes n many)))

some-joined : (xs ys : List ℕ) (x : ℕ) → xs ++ x ∷ ys ≢ []
some-joined [] ys x = λ same. cc same
some-joined (one ∷ xs) ys x = λ same. cc same

is-by : (held left : List ℕ) (line : Line) → TakesLine held line left → (line, left) ≡ line_by (before_newline held) held
is-by held left line (whole bytes rest none few) =
    let e : before_newline (bytes ++ 10 ∷ left) ≡ length bytes = before-joined bytes (10 ∷ left) none ∙ omega (arith, before-none left) in
    let again : (bytes ++ 10 ∷ []) ++ left ≡ bytes ++ 10 ∷ left = append_assoc bytes (10 ∷ []) left in
    let long : length (bytes ++ 10 ∷ []) ≡ length bytes + 1 = length-append bytes (10 ∷ []) in
    rw e (by-read (bytes ++ 10 ∷ left) (length bytes) (bytes ++ 10 ∷ []) left (some-joined bytes left 10) few
    (rw (← again) (take_at (bytes ++ 10 ∷ []) left (length bytes + 1) long))
    (rw (← again) (drop_at (bytes ++ 10 ∷ []) left (length bytes + 1) long)))
is-by held left line (last bytes none some few) =
    let e : before_newline held ≡ length held = ap before_newline (sym (append-nil held)) ∙ (before-joined held [] none ∙ omega arith) in
    rw e (by-read held (length held) held [] some few (take_all (length held + 1) held (omega arith)) (drop_all (length held + 1) held (omega arith)))
is-by held left line ended = refl
is-by held left line (long part rest next none many other) =
    let more = before-other next rest other in
    let e = before-joined part (next ∷ rest) none in
    by-long (part ++ next ∷ rest) (before_newline (part ++ next ∷ rest)) (next ∷ rest) (some-joined part rest next) (omega (arith, more, e, many))
    (drop_at part (next ∷ rest) most_bytes many)

pub one-line : OneLineLaw
one-line held left rest one other p q =
    let same : (one, left) ≡ (other, rest) = is-by held left one p ∙ sym (is-by held rest other q) in
    (ap (λ (pair : Line × List ℕ). pair.0) same, ap (λ (pair : Line × List ℕ). pair.1) same)
