-- What the words of commands on shared variables ask is fine.
use Rattle.std.proofs.Common.{◌≡◌, ◌∙◌, ◌&&◌, ◌||◌, ◌-◌, ◌<◌, nat_le, ℕ, suc, Bool, true, false, if◌then◌else◌, List, [], ◌∷◌, length, take, codes, bytes_eq}
use Rattle.std.proofs.Common.{Option, Some, None}
use Rattle.std.proofs.Common.{ap, refl, sym, subst, arith}
use Rattle.std.proofs.lemmas.Bool.Decides.{nat_tests}
use Rattle.std.proofs.lemmas.Slice.Eq.{bytes_eq-Decides}
use Rattle.laws_tables.proofs.ArrayRows.{by_fills, by_moves, by_refills}
use Rattle.laws_tables.proofs.Elements as said
use Rattle.laws_tables.proofs.Asked.{IsFineArray}
use Rattle.laws_tables.proofs.SaysWhy.{SaysWhy}
use Rattle.laws_tables.proofs.Words.{Asks, by_name}
use Rattle.tt_calls.specs.declared.tsv_call.TsvCall.TheVariants as tsv
use Rattle.tt_command_tables.specs.Usages.{bad_option, wrong_number}
use Rattle.tt_command_tables.specs.declared.call.Call.{Call}
use Rattle.tt_command_tables.specs.declared.call.Then.TheVariants as after
use Rattle.tt_shared_commands.specs.Shared as words_of
use Rattle.tt_shared_commands.specs.declared.command.SharedCommand.{SharedCommand}
use Rattle.tt_shared_commands.specs.declared.command.SharedCommand.TheVariants as shared
use Rattle.tt_lists.specs.declared.searching.Matching.TheVariants.{Exact, Glob}
use Rattle.tt_tsv.specs.Arrays.{element_of}
use Rattle.tt_tsv.specs.Elements.{search_by}

same_text : (a b : List ℕ) → bytes_eq a b ≡ true → a ≡ b
same_text a b is = (bytes_eq-Decides a b).0 is

-- more words than a row has at most
too_many : (least most : ℕ) (words : List (List ℕ)) → most < length words → words_of.is_between least (Some most) (length words) ≡ true → ⊥
too_many least most words many fits =
    let past : nat_le (length words) most ≡ false = grind (arith, nat_tests, many) in
    go (nat_le least (length words)) (nat_le (length words) most) past fits
  where
    go : (one two : Bool) → two ≡ false → one && two ≡ true → ⊥
    go true true past fits = cc past
    go true false past fits = cc fits
    go false two past fits = cc fits

two : (n : ℕ) → nat_le 2 (suc (suc n)) ≡ true
two n = grind (arith, nat_tests)

three : (n : ℕ) → nat_le 3 (suc (suc (suc n))) ≡ true
three n = grind (arith, nat_tests)

four : (n : ℕ) → nat_le 4 (suc (suc (suc (suc n)))) ≡ true
four n = grind (arith, nat_tests)

-- an element that is missing, or has a value
by_element : {P : Type 0} (found : Option (List ℕ)) → (found ≡ None → P) → ((value : List ℕ) → found ≡ Some value → P) → P
by_element None none some = none refl
by_element (Some value) none some = some value refl

-- ---- each command, by how many words it has ----

abbrev Fits : SharedCommand → List (List ℕ) → Type 0
Fits command words = words_of.fits (words_of.shared_row command) words ≡ true

abbrev Runs : SharedCommand → List (List ℕ) → Type 0
Runs command words = IsFineArray (tsv.Run ((words_of.shared_row command).name ∷ words))

names : (words : List (List ℕ)) → Fits shared.Names words → Runs shared.Names words
names [] fits = λ table. tt
names (pattern ∷ []) fits = λ table. tt
names (pattern ∷ next ∷ words) fits = absurd (too_many 0 1 (pattern ∷ next ∷ words) (omega arith) fits)

set : (words : List (List ℕ)) → Fits shared.Set words → Runs shared.Set words
set [] fits = absurd (cc fits)
set (a ∷ []) fits = absurd (cc fits)
set (a ∷ k ∷ []) fits = λ table. by_element (element_of table a k) (λ is. rw is tt) (λ value is. rw is tt)
set (a ∷ k ∷ v ∷ []) fits = λ table. by_element (element_of table a k) (λ is. rw is tt) (λ value is. rw is tt)
set (a ∷ k ∷ v ∷ next ∷ words) fits = absurd (too_many 2 3 (a ∷ k ∷ v ∷ next ∷ words) (omega arith) fits)

get : (words : List (List ℕ)) → Fits shared.Get words → Runs shared.Get words
get [] fits = absurd (cc fits)
get (a ∷ []) fits = absurd (cc fits)
get (a ∷ k ∷ []) fits = λ table. by_element (element_of table a k) (λ is. rw is tt) (λ value is. rw is tt)
get (a ∷ k ∷ v ∷ []) fits = λ table. by_element (element_of table a k) (λ is. rw is tt) (λ value is. rw is tt)
get (a ∷ k ∷ v ∷ next ∷ words) fits = absurd (too_many 2 3 (a ∷ k ∷ v ∷ next ∷ words) (omega arith) fits)

unset : (words : List (List ℕ)) → Fits shared.Unset words → Runs shared.Unset words
unset [] fits = absurd (cc fits)
unset (a ∷ []) fits = λ table. tt
unset (a ∷ k ∷ []) fits = λ table. by_element (element_of table a k) (λ is. rw is tt) (λ value is. rw is tt)
unset (a ∷ k ∷ next ∷ words) fits = absurd (too_many 1 2 (a ∷ k ∷ next ∷ words) (omega arith) fits)

exists : (words : List (List ℕ)) → Fits shared.Exists words → Runs shared.Exists words
exists [] fits = absurd (cc fits)
exists (a ∷ []) fits = λ table. tt
exists (a ∷ k ∷ []) fits = λ table. tt
exists (a ∷ k ∷ next ∷ words) fits = absurd (too_many 1 2 (a ∷ k ∷ next ∷ words) (omega arith) fits)

pop : (words : List (List ℕ)) → Fits shared.Pop words → Runs shared.Pop words
pop [] fits = absurd (cc fits)
pop (a ∷ []) fits = absurd (cc fits)
pop (a ∷ k ∷ []) fits = λ table. by_element (element_of table a k) (λ is. rw is tt) (λ value is. rw is tt)
pop (a ∷ k ∷ next ∷ words) fits = absurd (too_many 2 2 (a ∷ k ∷ next ∷ words) (omega arith) fits)

move : (words : List (List ℕ)) → Fits shared.Move words → Runs shared.Move words
move [] fits = absurd (cc fits)
move (a ∷ []) fits = absurd (cc fits)
move (a ∷ k ∷ []) fits = absurd (cc fits)
move (a ∷ k ∷ new ∷ []) fits = λ table. by_moves SaysWhy table (λ text. tt) (λ b text. tt) a k new
move (a ∷ k ∷ new ∷ next ∷ words) fits = absurd (too_many 3 3 (a ∷ k ∷ new ∷ next ∷ words) (omega arith) fits)

incr : (words : List (List ℕ)) → Fits shared.Incr words → Runs shared.Incr words
incr [] fits = absurd (cc fits)
incr (a ∷ []) fits = absurd (cc fits)
incr (a ∷ k ∷ []) fits = λ table. by_element (element_of table a k) (λ is. rw is (said.increments table a k (codes "0") (codes "1")))
    (λ value is. rw is (said.increments table a k value (codes "1")))
incr (a ∷ k ∷ n ∷ []) fits = λ table. by_element (element_of table a k) (λ is. rw is (said.increments table a k (codes "0") n))
    (λ value is. rw is (said.increments table a k value n))
incr (a ∷ k ∷ n ∷ next ∷ words) fits = absurd (too_many 2 3 (a ∷ k ∷ n ∷ next ∷ words) (omega arith) fits)

append : (words : List (List ℕ)) → Fits shared.Append words → Runs shared.Append words
append [] fits = absurd (cc fits)
append (a ∷ []) fits = absurd (cc fits)
append (a ∷ k ∷ words) fits = λ table. by_element (element_of table a k) (λ is. rw (two (length words), is) tt) (λ value is. rw (two (length words), is) tt)

lappend : (words : List (List ℕ)) → Fits shared.Lappend words → Runs shared.Lappend words
lappend [] fits = absurd (cc fits)
lappend (a ∷ []) fits = absurd (cc fits)
lappend (a ∷ k ∷ words) fits = λ table. by_element (element_of table a k)
    (λ is. rw (two (length words), is) (said.insertions table a k [] (codes "end") words))
    (λ value is. rw (two (length words), is) (said.insertions table a k value (codes "end") words))

llength : (words : List (List ℕ)) → Fits shared.Llength words → Runs shared.Llength words
llength [] fits = absurd (cc fits)
llength (a ∷ []) fits = absurd (cc fits)
llength (a ∷ k ∷ []) fits = λ table. by_element (element_of table a k) (λ is. rw is tt) (λ value is. rw is (said.counts value))
llength (a ∷ k ∷ next ∷ words) fits = absurd (too_many 2 2 (a ∷ k ∷ next ∷ words) (omega arith) fits)

lindex : (words : List (List ℕ)) → Fits shared.Lindex words → Runs shared.Lindex words
lindex [] fits = absurd (cc fits)
lindex (a ∷ []) fits = absurd (cc fits)
lindex (a ∷ k ∷ []) fits = λ table. by_element (element_of table a k) (λ is. rw is tt) (λ value is. rw is (said.items value []))
lindex (a ∷ k ∷ i ∷ []) fits = λ table. by_element (element_of table a k) (λ is. rw is tt) (λ value is. rw is (said.items value (i ∷ [])))
lindex (a ∷ k ∷ i ∷ next ∷ words) fits = absurd (too_many 2 3 (a ∷ k ∷ i ∷ next ∷ words) (omega arith) fits)

lrange : (words : List (List ℕ)) → Fits shared.Lrange words → Runs shared.Lrange words
lrange [] fits = absurd (cc fits)
lrange (a ∷ []) fits = absurd (cc fits)
lrange (a ∷ k ∷ []) fits = absurd (cc fits)
lrange (a ∷ k ∷ i ∷ []) fits = absurd (cc fits)
lrange (a ∷ k ∷ i ∷ j ∷ []) fits = λ table. by_element (element_of table a k) (λ is. rw is tt) (λ value is. rw is (said.ranges value i j))
lrange (a ∷ k ∷ i ∷ j ∷ next ∷ words) fits = absurd (too_many 4 4 (a ∷ k ∷ i ∷ j ∷ next ∷ words) (omega arith) fits)

linsert : (words : List (List ℕ)) → Fits shared.Linsert words → Runs shared.Linsert words
linsert [] fits = absurd (cc fits)
linsert (a ∷ []) fits = absurd (cc fits)
linsert (a ∷ k ∷ []) fits = absurd (cc fits)
linsert (a ∷ k ∷ i ∷ words) fits = λ table. by_element (element_of table a k) (λ is. rw (three (length words), is) tt)
    (λ value is. rw (three (length words), is) (said.insertions table a k value i words))

lreplace : (words : List (List ℕ)) → Fits shared.Lreplace words → Runs shared.Lreplace words
lreplace [] fits = absurd (cc fits)
lreplace (a ∷ []) fits = absurd (cc fits)
lreplace (a ∷ k ∷ []) fits = absurd (cc fits)
lreplace (a ∷ k ∷ i ∷ []) fits = absurd (cc fits)
lreplace (a ∷ k ∷ i ∷ j ∷ words) fits = λ table. by_element (element_of table a k) (λ is. rw (four (length words), is) tt)
    (λ value is. rw (four (length words), is) (said.replacements table a k value i j words))

lpush : (words : List (List ℕ)) → Fits shared.Lpush words → Runs shared.Lpush words
lpush [] fits = absurd (cc fits)
lpush (a ∷ []) fits = absurd (cc fits)
lpush (a ∷ k ∷ []) fits = absurd (cc fits)
lpush (a ∷ k ∷ v ∷ []) fits = λ table. by_element (element_of table a k) (λ is. rw is (said.insertions table a k [] (codes "0") (v ∷ [])))
    (λ value is. rw is (said.insertions table a k value (codes "0") (v ∷ [])))
lpush (a ∷ k ∷ v ∷ i ∷ []) fits = λ table. by_element (element_of table a k) (λ is. rw is (said.insertions table a k [] i (v ∷ [])))
    (λ value is. rw is (said.insertions table a k value i (v ∷ [])))
lpush (a ∷ k ∷ v ∷ i ∷ next ∷ words) fits = absurd (too_many 3 4 (a ∷ k ∷ v ∷ i ∷ next ∷ words) (omega arith) fits)

lpop : (words : List (List ℕ)) → Fits shared.Lpop words → Runs shared.Lpop words
lpop [] fits = absurd (cc fits)
lpop (a ∷ []) fits = absurd (cc fits)
lpop (a ∷ k ∷ []) fits = λ table. by_element (element_of table a k) (λ is. rw is tt) (λ value is. rw is (said.pops table a k value (codes "0")))
lpop (a ∷ k ∷ i ∷ []) fits = λ table. by_element (element_of table a k) (λ is. rw is tt) (λ value is. rw is (said.pops table a k value i))
lpop (a ∷ k ∷ i ∷ next ∷ words) fits = absurd (too_many 2 3 (a ∷ k ∷ i ∷ next ∷ words) (omega arith) fits)

-- ---- tsv::lsearch ----

abbrev lsearch_name : List ℕ
lsearch_name = codes "tsv::lsearch"

without_mode : (words : List (List ℕ)) → words_of.modes words ≡ [] → Fits shared.Lsearch words → Runs shared.Lsearch words
without_mode [] none fits = absurd (cc fits)
without_mode (a ∷ []) none fits = absurd (cc fits)
without_mode (a ∷ k ∷ []) none fits = absurd (cc fits)
without_mode (a ∷ k ∷ p ∷ []) none fits =
    λ table. by_element (element_of table a k) (λ is. rw is tt) (λ value is. rw is (said.searches (search_by Glob) value p))
without_mode (a ∷ k ∷ m ∷ p ∷ []) none fits = absurd (cc none)
without_mode (a ∷ k ∷ m ∷ p ∷ next ∷ words) none fits = absurd (too_many 3 4 (a ∷ k ∷ m ∷ p ∷ next ∷ words) (omega arith) fits)

-- the modes that there are
searched_exactly : (a k p : List ℕ) → IsFineArray (tsv.Run (lsearch_name ∷ a ∷ k ∷ codes "-exact" ∷ p ∷ []))
searched_exactly a k p table =
    by_element (element_of table a k) (λ is. rw is tt) (λ value is. rw is (said.searches (search_by Exact) value p))

searched_by_pattern : (a k p : List ℕ) → IsFineArray (tsv.Run (lsearch_name ∷ a ∷ k ∷ codes "-glob" ∷ p ∷ []))
searched_by_pattern a k p table =
    by_element (element_of table a k) (λ is. rw is tt) (λ value is. rw is (said.searches (search_by Glob) value p))

searched_by : (a k m p : List ℕ) → words_of.is_mode m ≡ true → IsFineArray (tsv.Run (lsearch_name ∷ a ∷ k ∷ m ∷ p ∷ []))
searched_by a k m p is = go (bytes_eq m (codes "-exact")) (bytes_eq m (codes "-glob")) refl refl is
  where
    go : (exact glob : Bool) → bytes_eq m (codes "-exact") ≡ exact → bytes_eq m (codes "-glob") ≡ glob → exact || glob ≡ true →
        IsFineArray (tsv.Run (lsearch_name ∷ a ∷ k ∷ m ∷ p ∷ []))
    go true glob one other is =
        subst (λ mode. IsFineArray (tsv.Run (lsearch_name ∷ a ∷ k ∷ mode ∷ p ∷ []))) (sym (same_text m (codes "-exact") one)) (searched_exactly a k p)
    go false true one other is =
        subst (λ mode. IsFineArray (tsv.Run (lsearch_name ∷ a ∷ k ∷ mode ∷ p ∷ []))) (sym (same_text m (codes "-glob") other)) (searched_by_pattern a k p)
    go false false one other is = absurd (cc is)

less_one : (n : ℕ) → suc n - 1 ≡ n
less_one n = omega arith

with_mode : (words : List (List ℕ)) (mode : List ℕ) → words_of.modes words ≡ mode ∷ [] → words_of.is_mode mode ≡ true → Runs shared.Lsearch words
with_mode [] mode one is = absurd (cc one)
with_mode (a ∷ []) mode one is = absurd (cc one)
with_mode (a ∷ k ∷ []) mode one is = absurd (cc one)
with_mode (a ∷ k ∷ p ∷ []) mode one is = absurd (cc one)
with_mode (a ∷ k ∷ m ∷ p ∷ []) mode one is =
    let same : m ≡ mode = cc one in
    searched_by a k m p (ap words_of.is_mode same ∙ is)
with_mode (a ∷ k ∷ m ∷ p ∷ next ∷ words) mode one is =
    let many : m ∷ p ∷ take (length words) (next ∷ words) ≡ mode ∷ [] =
    sym (ap (λ count. words_of.after_two (take count (a ∷ k ∷ m ∷ p ∷ next ∷ words))) (less_one (suc (suc (suc (suc (length words))))))) ∙ one in
    absurd (cc many)

-- ---- tsv::array ----

abbrev array_name : List ℕ
array_name = codes "tsv::array"

-- an array's words, after the name of the subcommand
abbrev ArrayFine : (sub : List ℕ) → List (List ℕ) → Type 0
ArrayFine sub words = IsFineArray (tsv.Run (array_name ∷ sub ∷ words))

array_set : (words : List (List ℕ)) → words_of.is_between 2 (Some 2) (length words) ≡ true → ArrayFine (codes "set") words
array_set [] fits = absurd (cc fits)
array_set (a ∷ []) fits = absurd (cc fits)
array_set (a ∷ list ∷ []) fits = λ table. by_fills SaysWhy table (λ text. tt) (λ b text. tt) a list
array_set (a ∷ list ∷ next ∷ words) fits = absurd (too_many 2 2 (a ∷ list ∷ next ∷ words) (omega arith) fits)

array_get : (words : List (List ℕ)) → words_of.is_between 1 (Some 2) (length words) ≡ true → ArrayFine (codes "get") words
array_get [] fits = absurd (cc fits)
array_get (a ∷ []) fits = λ table. tt
array_get (a ∷ p ∷ []) fits = λ table. tt
array_get (a ∷ p ∷ next ∷ words) fits = absurd (too_many 1 2 (a ∷ p ∷ next ∷ words) (omega arith) fits)

array_names : (words : List (List ℕ)) → words_of.is_between 1 (Some 2) (length words) ≡ true → ArrayFine (codes "names") words
array_names [] fits = absurd (cc fits)
array_names (a ∷ []) fits = λ table. tt
array_names (a ∷ p ∷ []) fits = λ table. tt
array_names (a ∷ p ∷ next ∷ words) fits = absurd (too_many 1 2 (a ∷ p ∷ next ∷ words) (omega arith) fits)

array_size : (words : List (List ℕ)) → words_of.is_between 1 (Some 1) (length words) ≡ true → ArrayFine (codes "size") words
array_size [] fits = absurd (cc fits)
array_size (a ∷ []) fits = λ table. tt
array_size (a ∷ next ∷ words) fits = absurd (too_many 1 1 (a ∷ next ∷ words) (omega arith) fits)

array_reset : (words : List (List ℕ)) → words_of.is_between 2 (Some 2) (length words) ≡ true → ArrayFine (codes "reset") words
array_reset [] fits = absurd (cc fits)
array_reset (a ∷ []) fits = absurd (cc fits)
array_reset (a ∷ list ∷ []) fits = λ table. by_refills SaysWhy table (λ text. tt) (λ b text. tt) a list
array_reset (a ∷ list ∷ next ∷ words) fits = absurd (too_many 2 2 (a ∷ list ∷ next ∷ words) (omega arith) fits)

module _ (me : ℕ) where
  by_count : (b : Bool) (call wrong : Call) → (b ≡ true → Asks me call) → Asks me wrong → Asks me (if b then call else wrong)
  by_count true call wrong fine other = fine refl
  by_count false call wrong fine other = other

  -- a subcommand that has this name, if it takes so many words
  by_sub : (sub name usage : List ℕ) (least : ℕ) (most : Option ℕ) (words : List (List ℕ))
      → (words_of.is_between least most (length words) ≡ true → ArrayFine name words)
      → bytes_eq sub name ≡ true
      → Asks me (if words_of.is_between least most (length words) then words_of.runs array_name (sub ∷ words) after.Value else wrong_number usage)
  by_sub sub name usage least most words fine named =
      by_count (words_of.is_between least most (length words)) _ (wrong_number usage)
      (λ fits. subst (λ one. ArrayFine one words) (sym (same_text sub name named)) (fine fits)) tt

  arrays : (words : List (List ℕ)) → Asks me (words_of.arrays array_name words)
  arrays [] = tt
  arrays (sub ∷ words) =
      by_name me words_of.array_commands (λ one. (words_of.array_row one).name) sub (λ one. words_of.array_runs one array_name (sub ∷ words) (length words))
      (bad_option sub) (
        by_sub sub (codes "set") (codes "tsv::array set a list") 2 (Some 2) words (array_set words),
        (
          by_sub sub (codes "get") (codes "tsv::array get a ?pattern?") 1 (Some 2) words (array_get words),
          (
            by_sub sub (codes "names") (codes "tsv::array names a ?pattern?") 1 (Some 2) words (array_names words),
            (
              by_sub sub (codes "size") (codes "tsv::array size a") 1 (Some 1) words (array_size words),
              (by_sub sub (codes "reset") (codes "tsv::array reset a list") 2 (Some 2) words (array_reset words), tt),
            ),
          ),
        ),
      )
      tt

  elements : (command : SharedCommand) (words : List (List ℕ)) → (Fits command words → Runs command words) →
      Asks me (words_of.elements command (words_of.shared_row command).name words)
  elements command words fine = by_count (words_of.fits (words_of.shared_row command) words) _ (wrong_number (words_of.shared_row command).usage) fine tt

  searches : (words : List (List ℕ)) → Asks me (words_of.searches lsearch_name words)
  searches words = go (words_of.unknown_mode (words_of.modes words))
    where
      by_modes : (modes : List (List ℕ)) → words_of.modes words ≡ modes → Asks me (words_of.searches_by lsearch_name words modes)
      by_modes [] is = elements shared.Lsearch words (without_mode words is)
      by_modes (mode ∷ []) is = by_count (words_of.is_mode mode) _ (bad_option mode) (λ known. with_mode words mode is known) tt
      by_modes (mode ∷ next ∷ modes) is = tt

      go : (unknown : Option (List ℕ))
          → Asks me (elim unknown [ Some word ↦ bad_option word | None ↦ words_of.searches_by lsearch_name words (words_of.modes words) ])
      go (Some word) = tt
      go None = by_modes (words_of.modes words) refl

  locks : (wrong : Call) → Asks me wrong → (words : List (List ℕ)) → Asks me (words_of.locks wrong words)
  unfolding words_of.locks
  locks wrong so (array ∷ arg ∷ args) = tt
  locks wrong so words = so

  by_command : (command : SharedCommand) (words : List (List ℕ)) → Asks me (words_of.shared_meaning command (words_of.shared_row command).name words)
  by_command shared.Names words = elements shared.Names words (names words)
  by_command shared.Set words = elements shared.Set words (set words)
  by_command shared.Get words = elements shared.Get words (get words)
  by_command shared.Unset words = elements shared.Unset words (unset words)
  by_command shared.Exists words = elements shared.Exists words (exists words)
  by_command shared.Pop words = elements shared.Pop words (pop words)
  by_command shared.Move words = elements shared.Move words (move words)
  by_command shared.Incr words = elements shared.Incr words (incr words)
  by_command shared.Append words = elements shared.Append words (append words)
  by_command shared.Lappend words = elements shared.Lappend words (lappend words)
  by_command shared.Llength words = elements shared.Llength words (llength words)
  by_command shared.Lindex words = elements shared.Lindex words (lindex words)
  by_command shared.Lrange words = elements shared.Lrange words (lrange words)
  by_command shared.Lsearch words = searches words
  by_command shared.Linsert words = elements shared.Linsert words (linsert words)
  by_command shared.Lreplace words = elements shared.Lreplace words (lreplace words)
  by_command shared.Lpush words = elements shared.Lpush words (lpush words)
  by_command shared.Lpop words = elements shared.Lpop words (lpop words)
  by_command shared.Array words = arrays words
  by_command shared.Lock words = locks _ tt words

  pub shared_asks : (command : SharedCommand) (name : List ℕ) → bytes_eq name (words_of.shared_row command).name ≡ true → (words : List (List ℕ)) →
      Asks me (words_of.shared_meaning command name words)
  shared_asks command name named words =
      subst (λ one. Asks me (words_of.shared_meaning command one words)) (sym (same_text name (words_of.shared_row command).name named))
      (by_command command words)
