-- The sign that the function cuts off is the longest one.
use Rattle.std.proofs.Common.{rules, ◌≡◌, ℕ, zero, suc, ◌<◌, ◌≤◌, Bool, true, false, ◌==◌, List, [], ◌∷◌, ◌++◌, length}
use Rattle.std.proofs.Common.{take, drop, Option, Some, None, refl, ap, sym, ◌∙◌, subst, arith, inl, inr, ◌⊎◌}
use Rattle.std.specs.Prelude.{nat_eq, find, Contains, slice_index_or}
use Rattle.std.specs.List.{starts_with}
use Rattle.std.proofs.lemmas.Bool.{cases_Bool, both_ways, eqb-true}
use Rattle.std.proofs.lemmas.List.{take_at}
use Rattle.tt_text.specs.Characters.{is_white_space}
use Rattle.tt_exprs.specs.Operators.{spelling, sign_operators, first_spelled}
use Rattle.tt_exprs.specs.Tokens.{PlainToken, operator, opening, closing, comma, colon, Cut, one, refused, none_here, mark, sign, token}
use Rattle.tt_exprs.specs.TokenGrammar.{first_is, SpellsSign, operator_sign, opening_sign, closing_sign, comma_sign, colon_sign, IsLongestSign}
use Rattle.tt_exprs.specs.declared.op.Op.{Op}
use Rattle.tt_exprs.proofs.Spellings.{cut-spelled, first_spelled-cut, spelling-some}

-- ---- lists of operators

-- it is one of a list's, from the front on
abbrev pub IsIn : List Op → Op → Type 0
IsIn [] op = ⊥
IsIn (first ∷ ops) op = (first ≡ op) ⊎ IsIn ops op

pub contained : (ops : List Op) (op : Op) → Contains ops op → IsIn ops op
contained ops op h = go ops h.0 h.1 h.2
  where
    go : (ops : List Op) (k : ℕ) → k < length ops → slice_index_or ops k op ≡ op → IsIn ops op
    go [] k low is = absurd (omega (arith, low))
    go (first ∷ ops) zero low is = inl is
    go (first ∷ ops) (suc k) low is = inr (go ops k (omega (arith, low)) is)

pub contains : (ops : List Op) (op : Op) → IsIn ops op → Contains ops op
contains [] op h = absurd h
contains (first ∷ ops) op (inl e) = (0, omega arith, e)
contains (first ∷ ops) op (inr h) = let later = contains ops op h in (suc later.0, omega (arith, later.1), later.2)

-- a fact of each
abbrev pub Every : (Op → Type 0) → List Op → Type 0
Every P [] = Unit {0}
Every P (op ∷ ops) = P op × Every P ops

pub every_one : (P : Op → Type 0) (ops : List Op) (op : Op) → Every P ops → IsIn ops op → P op
every_one P [] op all h = absurd h
every_one P (first ∷ ops) op all (inl e) = subst P e all.0
every_one P (first ∷ ops) op all (inr h) = every_one P ops op all.1 h

-- what is found is one of them
pub found_in : (test : Op → Bool) (ops : List Op) (op : Op) → find test ops ≡ Some op → IsIn ops op
found_in test [] op e = let wrong : ⊥ = cc in absurd wrong
found_in test (first ∷ ops) op e = go (cases_Bool (test first)) (λ h. found_in test ops op h)
  where
    go : (test first ≡ true) ⊎ (test first ≡ false) → (find test ops ≡ Some op → IsIn ops op) → IsIn (first ∷ ops) op
    go (inl h) later = let found : Some first ≡ Some op = rw h at e in let same : first ≡ op = cc in inl same
    go (inr h) later = let found : find test ops ≡ Some op = rw h at e in inr (later found)

-- if none is found, none passes
pub found_none : (test : Op → Bool) (ops : List Op) (op : Op) → find test ops ≡ None → IsIn ops op → test op ≡ false
found_none test [] op e h = absurd h
found_none test (first ∷ ops) op e h = go (cases_Bool (test first)) h (λ f g. found_none test ops op f g)
  where
    go : (test first ≡ true) ⊎ (test first ≡ false) → IsIn (first ∷ ops) op → (find test ops ≡ None → IsIn ops op → test op ≡ false) → test op ≡ false
    go (inl p) i later = let wrong : Some first ≡ None = rw p at e in let no : ⊥ = cc in absurd no
    go (inr p) (inl same) later = ap test (sym same) ∙ p
    go (inr p) (inr i) later = let rest : find test ops ≡ None = rw p at e in later rest i

-- ---- the longest spelling

-- no later spelling is longer
abbrev pub Descending : List Op → Type 0
Descending [] = Unit {0}
Descending (op ∷ ops) = Every (λ other. length (spelling other) ≤ length (spelling op)) ops × Descending ops

first_longest : (text : List ℕ) (ops : List Op) (op other : Op) → Descending ops → first_spelled ops text ≡ Some op → IsIn ops other →
    starts_with nat_eq text (spelling other) ≡ true → length (spelling other) ≤ length (spelling op)
first_longest text [] op other d e h s = absurd h
first_longest text (first ∷ ops) op other d e h s =
    go (cases_Bool (starts_with nat_eq text (spelling first))) h (λ f g. first_longest text ops op other d.1 f g s)
  where
    go : (starts_with nat_eq text (spelling first) ≡ true) ⊎ (starts_with nat_eq text (spelling first) ≡ false) → IsIn (first ∷ ops) other →
        (first_spelled ops text ≡ Some op → IsIn ops other → length (spelling other) ≤ length (spelling op)) → length (spelling other) ≤ length (spelling op)
    go (inl p) (inl same) later = let found : Some first ≡ Some op = rw p at e in let is : first ≡ op = cc in let both = ap (λ o. length (spelling o)) (sym same ∙ is) in omega (arith, both)
    go (inl p) (inr i) later = let found : Some first ≡ Some op = rw p at e in let is : first ≡ op = cc in subst (λ o. length (spelling other) ≤ length (spelling o)) is (every_one (λ o. length (spelling o) ≤ length (spelling first)) ops other d.0 i)
    go (inr p) (inl same) later =
        absurd (both_ways (starts_with nat_eq text (spelling other)) (ap (λ o. starts_with nat_eq text (spelling o)) (sym same) ∙ p) s)
    go (inr p) (inr i) later = let rest : first_spelled ops text ≡ Some op = rw p at e in later rest i

descending : Descending sign_operators
descending = search rules

-- each spelling is read as its operator
alone : Every (λ op. first_spelled sign_operators (spelling op) ≡ Some op) sign_operators
alone = search rules

-- what begins with a sign begins neither with white space nor with another token
abbrev pub token_of : List ℕ → Cut
token_of [] = none_here
token_of (b ∷ text) = token b text

pub record IsSignText (text : List ℕ) : Type 0 where
  pub black : first_is is_white_space text ≡ false
  pub other : token_of text ≡ sign text

signed : Every (λ op. (rest : List ℕ) → IsSignText (spelling op ++ rest)) sign_operators
unfolding token
signed = search rules

sign_some : (text : List ℕ) (op : Op) → first_spelled sign_operators text ≡ Some op → sign text ≡ one (operator op) (length (spelling op))
unfolding sign
sign_some text op e = rw (e, sign) refl

sign_none : (text : List ℕ) → first_spelled sign_operators text ≡ None → sign text ≡ mark text
unfolding sign
sign_none text e = rw (e, sign) refl

-- ---- from the relation to the function

-- the first spelled is there if an operator's spelling is
some_spelled : (text : List ℕ) (op : Op) → IsIn sign_operators op → starts_with nat_eq text (spelling op) ≡ true → (found : Op)
    × (first_spelled sign_operators text ≡ Some found)
some_spelled text op h s = go (first_spelled sign_operators text) refl
  where
    go : (o : Option Op) → first_spelled sign_operators text ≡ o → (found : Op) × (first_spelled sign_operators text ≡ Some found)
    go (Some found) e = (found, e)
    go None e = absurd (both_ways (starts_with nat_eq text (spelling op)) (found_none (λ o. starts_with nat_eq text (spelling o)) sign_operators op e h) s)

-- two spellings of one length that a text begins with are one
same_spelled : (text a b xs ys : List ℕ) → text ≡ a ++ xs → text ≡ b ++ ys → length a ≡ length b → a ≡ b
same_spelled text a b xs ys e f same = sym (take_at a xs (length b) same) ∙ ap (take (length b)) (sym e ∙ f) ∙ take_at b ys (length b) refl

operator_read : (text rest : List ℕ) (op : Op) → IsIn sign_operators op → text ≡ spelling op ++ rest →
    ((other after : List ℕ) (said : PlainToken) → text ≡ other ++ after → SpellsSign other said → length other ≤ length (spelling op)) →
    sign text ≡ one (operator op) (length (spelling op))
operator_read text rest op h cut longest =
    let here = cut-spelled text (spelling op) rest cut in
    let found = some_spelled text op h here in
    let other = found.0 in
    let inside = found_in (λ o. starts_with nat_eq text (spelling o)) sign_operators other found.1 in
    let place = first_spelled-cut sign_operators text other found.1 in
    let up = first_longest text sign_operators other op descending found.1 h here in
    let down = longest (spelling other) (drop (length (spelling other)) text) (operator other) place
    (operator_sign (contains sign_operators other inside) refl) in
    let one_spelling = same_spelled text (spelling other) (spelling op) (drop (length (spelling other)) text) rest place cut (omega (arith, up, down)) in
    let one_operator : Some other ≡ Some op =
    sym (every_one (λ o. first_spelled sign_operators (spelling o) ≡ Some o) sign_operators other alone inside)
    ∙ ap (first_spelled sign_operators) one_spelling ∙ every_one (λ o. first_spelled sign_operators (spelling o) ≡ Some o) sign_operators op alone h in
    sign_some text op (found.1 ∙ one_operator)

opening_text : (rest : List ℕ) → IsSignText (40 ∷ rest) × IsSignText (41 ∷ rest) × IsSignText (44 ∷ rest) × IsSignText (58 ∷ rest)
unfolding token
opening_text rest = search rules

mark_read : (rest : List ℕ) → (sign (40 ∷ rest) ≡ one opening 1) × (sign (41 ∷ rest) ≡ one closing 1) × (sign (44 ∷ rest) ≡ one comma 1)
    × (sign (58 ∷ rest) ≡ one colon 1)
unfolding sign
mark_read rest = search rules

sign_here : (text spelled rest : List ℕ) (token : PlainToken) → text ≡ spelled ++ rest → (sign (spelled ++ rest) ≡ one token (length spelled)) →
    IsSignText (spelled ++ rest) → (sign text ≡ one token (length spelled)) × IsSignText text
sign_here text spelled rest token cut read is = subst (λ t. (sign t ≡ one token (length spelled)) × IsSignText t) (sym cut) (read, is)

pub sign_read : (text spelled rest : List ℕ) (token : PlainToken) → IsLongestSign text spelled rest token → (sign text ≡ one token (length spelled))
    × IsSignText text
sign_read text spelled rest token h = go h.says h.cut h.longest
  where
    go : {s : List ℕ} {t : PlainToken} → SpellsSign s t → text ≡ s ++ rest →
        ((other after : List ℕ) (said : PlainToken) → text ≡ other ++ after → SpellsSign other said → length other ≤ length s) →
        (sign text ≡ one t (length s)) × IsSignText text
    go (operator_sign {sign = s} {op} i e) cut longest =
        let inside = contained sign_operators op i in
        let here : text ≡ spelling op ++ rest = cut ∙ ap (λ x. x ++ rest) e in
        let read = operator_read text rest op inside here (λ other after said c w. subst (λ x. length other ≤ length x) e (longest other after said c w)) in (
          read ∙ ap (λ x. one (operator op) (length x)) (sym e),
          subst IsSignText (sym here)
              (every_one (λ o. (after : List ℕ) → IsSignText (spelling o ++ after)) sign_operators op signed inside rest),
        )
    go opening_sign cut longest = sign_here text (40 ∷ []) rest opening cut (mark_read rest).0 (opening_text rest).0
    go closing_sign cut longest = sign_here text (41 ∷ []) rest closing cut (mark_read rest).1 (opening_text rest).1
    go comma_sign cut longest = sign_here text (44 ∷ []) rest comma cut (mark_read rest).2 (opening_text rest).2
    go colon_sign cut longest = sign_here text (58 ∷ []) rest colon cut (mark_read rest).3 (opening_text rest).3

-- ---- from the function to the relation

-- what a cut says of the sign at the front
abbrev pub SignIs : List ℕ → Cut → Type 0
SignIs text (one token n) = (spelled : List ℕ) × (rest : List ℕ) × IsLongestSign text spelled rest token × (length spelled ≡ n) × (0 < n)
SignIs text (refused word) = ⊥
SignIs text none_here = Unit {0}

-- a sign of one byte is longest if no operator is there
mark_longest : (text rest : List ℕ) (b : ℕ) (token : PlainToken) → first_spelled sign_operators text ≡ None → text ≡ b ∷ rest → SpellsSign (b ∷ []) token →
    SignIs text (one token 1)
mark_longest text rest b said none cut says =
    (b ∷ [], rest, record { cut = cut; says = says; longest = λ other after said c w. shortest after w c }, omega arith, omega arith)
  where
    shortest : {other : List ℕ} {said : PlainToken} (after : List ℕ) → SpellsSign other said → text ≡ other ++ after → length other ≤ 1
    shortest after (operator_sign {op} i e) c =
        absurd (both_ways _ (found_none (λ o. starts_with nat_eq text (spelling o)) sign_operators op none (contained sign_operators op i))
        (cut-spelled text (spelling op) after (c ∙ ap (λ x. x ++ after) e)))
    shortest after opening_sign c = omega arith
    shortest after closing_sign c = omega arith
    shortest after comma_sign c = omega arith
    shortest after colon_sign c = omega arith

mark_is : (text : List ℕ) → first_spelled sign_operators text ≡ None → SignIs text (mark text)
mark_is [] none = tt
mark_is (b ∷ text) none = go (cases_Bool (b == 40)) (cases_Bool (b == 41)) (cases_Bool (b == 44)) (cases_Bool (b == 58))
  where
    first : (c : ℕ) → (b == c) ≡ true → b ∷ text ≡ c ∷ text
    first c e = ap (λ x. x ∷ text) (eqb-true b c e)

    go : ((b == 40) ≡ true) ⊎ ((b == 40) ≡ false) → ((b == 41) ≡ true) ⊎ ((b == 41) ≡ false) → ((b == 44) ≡ true) ⊎ ((b == 44) ≡ false) →
        ((b == 58) ≡ true) ⊎ ((b == 58) ≡ false) → SignIs (b ∷ text) (mark (b ∷ text))
    go (inl e) f g h = rw e (mark_longest (b ∷ text) text 40 opening none (first 40 e) opening_sign)
    go (inr e) (inl f) g h = rw (e, f) (mark_longest (b ∷ text) text 41 closing none (first 41 f) closing_sign)
    go (inr e) (inr f) (inl g) h = rw (e, f, g) (mark_longest (b ∷ text) text 44 comma none (first 44 g) comma_sign)
    go (inr e) (inr f) (inr g) (inl h) = rw (e, f, g, h) (mark_longest (b ∷ text) text 58 colon none (first 58 h) colon_sign)
    go (inr e) (inr f) (inr g) (inr h) = rw (e, f, g, h) tt

operator_longest : (text : List ℕ) (op : Op) → first_spelled sign_operators text ≡ Some op → SignIs text (one (operator op) (length (spelling op)))
operator_longest text op found = (
  spelling op,
  drop (length (spelling op)) text,
  record {
    cut = first_spelled-cut sign_operators text op found;
    says = operator_sign (contains sign_operators op (found_in (λ o. starts_with nat_eq text (spelling o)) sign_operators op found)) refl;
    longest = λ other after said c w. longest after w c;
  },
  refl,
  spelling-some op,
)
  where
    longest : {other : List ℕ} {said : PlainToken} (after : List ℕ) → SpellsSign other said → text ≡ other ++ after → length other ≤ length (spelling op)
    longest after (operator_sign {op = o} i e) c =
        let here = cut-spelled text (spelling o) after (c ∙ ap (λ x. x ++ after) e) in
        subst (λ x. length x ≤ length (spelling op)) (sym e) (first_longest text sign_operators op o descending found (contained sign_operators o i) here)
    longest after opening_sign c = omega (arith, spelling-some op)
    longest after closing_sign c = omega (arith, spelling-some op)
    longest after comma_sign c = omega (arith, spelling-some op)
    longest after colon_sign c = omega (arith, spelling-some op)

pub sign_is : (text : List ℕ) → SignIs text (sign text)
sign_is text = go (first_spelled sign_operators text) refl
  where
    go : (o : Option Op) → first_spelled sign_operators text ≡ o → SignIs text (sign text)
    go (Some op) e = subst (SignIs text) (sym (sign_some text op e)) (operator_longest text op e)
    go None e = subst (SignIs text) (sym (sign_none text e)) (mark_is text e)
