-- A thread that is found by an id has it, and its row (thread(n)).
use Rattle.std.proofs.Common.{◌≡◌, ◌∙◌, ◌+◌, ◌<◌, ◌^◌, ◌&&◌, ◌==◌, ℕ, suc, Bool, true, false, nat_lt, bytes_eq, if◌then◌else◌, List, [], ◌∷◌, ◌++◌}
use Rattle.std.proofs.Common.{Option, Some, None, option_and_then, slice_get, ap, refl, sym, subst, arith}
use Rattle.std.proofs.lemmas.Bool.Decides.{nat_tests}
use Rattle.std.proofs.lemmas.Fmt.{digits_value-decimal}
use Rattle.std.specs.Fmt.{decimal}
use Rattle.laws_shared.proofs.Deciding.{itself, same, same_text, text_itself}
use Rattle.laws_shared.proofs.Numbered.{numbered-suc}
use Rattle.tt_ids.proofs.DigitLemmas.{own}
use Rattle.tt_ids.specs.Digits.{number_after}
use Rattle.tt_ids.specs.Ids.{after_letters, id, id_named, letters, number_named}
use Rattle.tt_ids.specs.declared.id.IdKind.TheVariants.{Thread}
use Rattle.tt_thread_commands.specs.Sending.{is_id_of}
use Rattle.tt_threads.specs.Requests.{thread_named}
use Rattle.tt_threads.specs.Rows.{found_from, is_linked, is_living, is_living_at, row_of}
use Rattle.tt_threads.specs.declared.row.Life.{Life}
use Rattle.tt_threads.specs.declared.row.Row.{Row}

-- ---- numbers that ids name ----

named_decimal : (n : ℕ) → n < 2 ^ 64 → number_named (decimal n) ≡ Some n
named_decimal n small =
    let value : number_after 0 (decimal n) ≡ n = digits_value-decimal own n small in
    let below : nat_lt n (2 ^ 64) ≡ true = grind (arith, nat_tests) in
    rw (value, below, text_itself (decimal n)) refl

front_same : (front text : List ℕ) → after_letters front (front ++ text) ≡ Some text
front_same [] text = refl
front_same (letter ∷ front) text = rw (itself letter) (front_same front text)

id_names : (n : ℕ) → n < 2 ^ 64 → id_named Thread (id Thread n) ≡ Some n
id_names n small = ap (option_and_then number_named) (front_same (letters Thread) (decimal n)) ∙ named_decimal n small

-- the id of a thread is its own
pub own_id : (me n : ℕ) (text : List ℕ) → me < 2 ^ 64 → text ≡ id Thread n → (n == me) ≡ true → is_id_of me text ≡ true
own_id me n text small is mine =
    let number : n ≡ me = same n me mine in
    let found : id_named Thread text ≡ Some me = ap (id_named Thread) (is ∙ ap (id Thread) number) ∙ id_names me small in
    rw (found, is_id_of) (itself me)

-- ---- threads that are found ----

pub record IsFound (rows : List Row) (n : ℕ) (text : List ℕ) : Type 0 where
  pub row : Row
  pub there : row_of rows n ≡ Some row
  pub named : text ≡ id Thread n

record IsAt (rows : List Row) (start n : ℕ) (text : List ℕ) : Type 0 where
  place : ℕ
  row : Row
  number : n ≡ start + place
  there : slice_get rows place ≡ Some row
  named : text ≡ id Thread n

found_at : (counts : Life → Bool) (start n : ℕ) (rows : List Row) (text : List ℕ) → found_from counts start rows text ≡ Some n → IsAt rows start n text
found_at counts start n [] text is = absurd (cc is)
found_at counts start n (row ∷ rows) text is =
    go (counts row.life) (bytes_eq text (id Thread start)) refl is (found_at counts (suc start) n rows text)
  where
    more : IsAt rows (suc start) n text → IsAt (row ∷ rows) start n text
    more at = record { place = suc at.place; row = at.row; number = omega (arith, at.number); there = at.there; named = at.named }

    go : (first second : Bool) → bytes_eq text (id Thread start) ≡ second
        → (if first && second then Some start else found_from counts (suc start) rows text) ≡ Some n
        → (found_from counts (suc start) rows text ≡ Some n → IsAt rows (suc start) n text) → IsAt (row ∷ rows) start n text
    go true true alike is later =
        let here : start ≡ n = cc is in
        record {
          place = 0;
          row = row;
          number = omega (arith, here);
          there = refl;
          named = same_text text (id Thread start) alike ∙ ap (id Thread) here;
        }
    go true false alike is later = more (later is)
    go false second alike is later = more (later is)

pub found_is : (counts : Life → Bool) (rows : List Row) (text : List ℕ) (n : ℕ) → found_from counts 1 rows text ≡ Some n → IsFound rows n text
found_is counts rows text n is =
    let at = found_at counts 1 n rows text is in
    let number : n ≡ suc at.place = omega (arith, at.number) in
    let here : row_of rows (suc at.place) ≡ Some at.row = numbered-suc rows at.place ∙ at.there in
    record { row = at.row; there = subst (λ one. row_of rows one ≡ Some at.row) (sym number) here; named = at.named }

-- a thread that lives has a row, and so has one that is named
not_there : {X : Type 0} (found : Option X) (x : X) → found ≡ Some x → found ≡ None → ⊥
not_there found x is none = let both : Some x ≡ None = sym is ∙ none in cc both

pub found_row : (counts : Life → Bool) (rows : List Row) (text : List ℕ) (n : ℕ) → found_from counts 1 rows text ≡ Some n → row_of rows n ≡ None → ⊥
found_row counts rows text n is none =
    let found = found_is counts rows text n is in
    not_there (row_of rows n) found.row found.there none

pub named_row : (rows : List Row) (t : ℕ) (text : List ℕ) (n : ℕ) → is_living rows t ≡ true → thread_named rows t text ≡ Some n → row_of rows n ≡ None → ⊥
named_row rows t [] n lives is none =
    let me : t ≡ n = cc is in
    let dead : is_living rows t ≡ false = ap is_living_at (ap (row_of rows) me ∙ none) in
    let both : true ≡ false = sym lives ∙ dead in
    cc both
named_row rows t (b ∷ text) n lives is none = found_row is_linked rows (b ∷ text) n is none
