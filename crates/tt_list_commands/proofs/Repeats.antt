-- The text of a list that repeats items.
use Rattle.std.proofs.Common.{◌≡◌, ◌≢◌, ℕ, zero, suc, ◌+◌, ◌*◌, nat_le, true, false, List, [], ◌++◌, length, codes, refl, sym, ap, ◌∙◌, length-append, append-nil, append_assoc, arith}
use Rattle.std.proofs.lemmas.Grind.{flat_map-append}
use Rattle.std.specs.List.{flat_map, repeat}
use Rattle.tt_lists.proofs.Longer.{list-append_later}
use Rattle.tt_lists.specs.Spelling.{later_item, list_of}
use Rattle.tt_lists.specs.declared.answer.ListAnswer.TheVariants.{Made, Bad}
use Rattle.tt_list_commands.specs.Repeating.{unless_long}
use Rattle.tt_list_commands.specs.declared.repeating.TheConstants.{LONGEST}

later_repeated : (n : ℕ) (values : List (List ℕ)) → flat_map later_item (repeat n values) ≡ repeat n (flat_map later_item values)
later_repeated zero values = refl
later_repeated (suc n) values =
    flat_map-append later_item values (repeat n values) ∙ ap (λ t. flat_map later_item values ++ t) (later_repeated n values)

length_repeated : (n : ℕ) (text : List ℕ) → length (repeat n text) ≡ n * length text
length_repeated zero text = omega arith
length_repeated (suc n) text = length-append text (repeat n text) ∙ ap (λ k. length text + k) (length_repeated n text) ∙ grind arith

-- no items, so many times
pub nothing_repeated : (n : ℕ) → repeat {A = List ℕ} n [] ≡ []
nothing_repeated zero = refl
nothing_repeated (suc n) = nothing_repeated n

-- the list of values that are repeated
list_repeated : (n : ℕ) (values : List (List ℕ)) → values ≢ [] → list_of (repeat (suc n) values) ≡ list_of values ++ repeat n (flat_map later_item values)
list_repeated n values some =
    list-append_later values (repeat n values) some ∙ ap (λ t. list_of values ++ t) (later_repeated n values)

-- what a list's text begins with, and what each further time adds
pub record IsCut (values : List (List ℕ)) (first again : List ℕ) : Type 0 where
  pub some : values ≢ []
  pub begins : first ≡ list_of values
  pub adds : again ≡ flat_map later_item values

text_is : (later : ℕ) (values : List (List ℕ)) (first again : List ℕ) → IsCut values first again →
    list_of (repeat (later + 1) values) ≡ first ++ repeat later again
text_is later values first again cut =
    let next : later + 1 ≡ suc later = omega arith in
    ap (λ k. list_of (repeat k values)) next ∙ list_repeated later values cut.some
    ∙ ap (λ t. t ++ repeat later (flat_map later_item values)) (sym cut.begins)
    ∙ ap (λ t. first ++ repeat later t) (sym cut.adds)

length_is : (later : ℕ) (values : List (List ℕ)) (first again : List ℕ) → IsCut values first again →
    length (list_of (repeat (later + 1) values)) ≡ length first + later * length again
length_is later values first again cut =
    ap length (text_is later values first again cut) ∙ length-append first (repeat later again)
    ∙ ap (λ k. length first + k) (length_repeated later again)

pub short_list : (later : ℕ) (values items : List (List ℕ)) (first again : List ℕ) → IsCut values first again →
    nat_le (length first + later * length again) LONGEST ≡ true → items ≡ repeat (later + 1) values → Made (list_of items) ≡ unless_long (repeat (later + 1) values)
short_list later values items first again cut fits is =
    let small : nat_le (length (list_of (repeat (later + 1) values))) LONGEST ≡ true =
    ap (λ n. nat_le n LONGEST) (length_is later values first again cut) ∙ fits in
    rw small (ap (λ all. Made (list_of all)) is)

pub long_list : (later : ℕ) (values : List (List ℕ)) (first again message : List ℕ) → IsCut values first again →
    nat_le (length first + later * length again) LONGEST ≡ false → message ≡ codes "result too long" → Bad message ≡ unless_long (repeat (later + 1) values)
long_list later values first again message cut fits is =
    let large : nat_le (length (list_of (repeat (later + 1) values))) LONGEST ≡ false =
    ap (λ n. nat_le n LONGEST) (length_is later values first again cut) ∙ fits in
    rw large (ap Bad is)

repeats_after : (n : ℕ) (values : List (List ℕ)) → repeat n values ++ values ≡ repeat (suc n) values
repeats_after zero values = sym (append-nil values)
repeats_after (suc n) values = append_assoc values (repeat n values) values ∙ ap (λ all. values ++ all) (repeats_after n values)

-- once more, at the end
pub once_more : (n : ℕ) (values : List (List ℕ)) → repeat n values ++ values ≡ repeat (n + 1) values
once_more n values =
    let next : suc n ≡ n + 1 = omega arith in
    repeats_after n values ∙ ap (λ k. repeat k values) next
