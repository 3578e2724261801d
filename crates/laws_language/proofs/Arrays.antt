-- The commands on arrays have one outcome each (array(n)).
use Rattle.std.proofs.Common.{◌≡◌, ◌∙◌, ◌++◌, ℕ, Bool, true, false, bytes_eq, codes, is_some, unwrap_or, List, [], ◌∷◌}
use Rattle.std.proofs.Common.{Option, Some, None, Result, refl, ap, sym, subst}
use Rattle.std.specs.List.{AllByRecursion}
use Rattle.tt_calls.specs.Outcomes.{fine}
use Rattle.tt_calls.specs.Usages.{bad_option}
use Rattle.tt_lists.specs.Messages.{list_message}
use Rattle.tt_lists.specs.Reading.{split_of}
use Rattle.tt_lists.specs.Spelling.{list_of}
use Rattle.tt_lists.specs.declared.items.Split.{Split}
use Rattle.tt_lists.specs.declared.items.Split.TheVariants as split
use Rattle.tt_vars.specs.declared.answers.VarFault.{VarFault}
use Rattle.tt_vars.specs.Variables.{Name}
use Rattle.tt_store.specs.declared.answers.Answer.TheVariants as answers
use Rattle.tt_store.specs.Held.{Drops, Held, IsWritten, Meaning}
use Rattle.tt_store.specs.Scalars.{outcome_by}
use Rattle.tt_store.specs.Spots.{spot}
use Rattle.tt_variable_commands.specs.ArrayChanging as changing
use Rattle.tt_variable_commands.specs.ArrayChanging.{DropsEach, DropsIf, DropsLike, DropsOne, DropsWhole, SetsEach}
use Rattle.tt_variable_commands.specs.ArrayChanging.{SetsIf, SetsItems, SetsOne, SetsPairs, is_paired, message_by}
use Rattle.tt_variable_commands.specs.ArrayChanging.{none_set, pairs_in}
use Rattle.tt_variable_commands.specs.ArrayCommands.{IsSubcommand, Runs, RunsIf, array, first_named, is_array, row_of, subcommands}
use Rattle.tt_variable_commands.specs.ArrayReading as reading
use Rattle.tt_variable_commands.specs.Vocabulary.{is_element}
use Rattle.tt_variable_commands.specs.ArrayReading.{Counts, Gets, HasIndicesIf, HasSizeIf, Lists, Names, PairsOf}
use Rattle.tt_variable_commands.specs.ArrayReading.{TellsSize, exists_report, names_like, pair_of, size_report}
use Rattle.laws_language.proofs.Once.{Once, Only, fails-once, find-each, goes-fails, goes-once, once-by, once-made, once-told, only-made, only-told}
use Rattle.laws_language.proofs.Held.{drops-once, finds-once, indices-once, is_written-once, size_of-once}
use Rattle.laws_language.proofs.VariableCommands.{fails_with-once, refuses-once}

-- ---- reading ----

indices_if-once : (element : Bool) (held : Held) (name : Name) → Only (HasIndicesIf element held name)
indices_if-once true held name = only-told None
indices_if-once false held name = indices-once held name

lists-once : (held : Held) (name : Name) → Only (Lists held name)
lists-once held name =
    only-made (HasIndicesIf (is_element name) held name) (λ found. unwrap_or found []) (indices_if-once (is_element name) held name)

size_if-once : (element : Bool) (held : Held) (name : Name) → Only (HasSizeIf element held name)
size_if-once true held name = only-told None
size_if-once false held name = size_of-once held name

counts-once : (held : Held) (name : Name) → Only (Counts held name)
counts-once held name = size_if-once (is_element name) held name

tells_size-once : (tell : Option ℕ → List ℕ) (name : Name) (old : Held) → Once (TellsSize tell name old)
tells_size-once tell name old = once-made (Counts old name) (λ size. fine (tell size)) old (counts-once old name)

exists-once : (usage : List ℕ) (words : List (List ℕ)) (old : Held) → Once (reading.exists usage words old)
exists-once usage [] old = refuses-once usage old
exists-once usage (name ∷ []) old = tells_size-once exists_report name old
exists-once usage (name ∷ more ∷ words) old = refuses-once usage old

size-once : (usage : List ℕ) (words : List (List ℕ)) (old : Held) → Once (reading.size usage words old)
size-once usage [] old = refuses-once usage old
size-once usage (name ∷ []) old = tells_size-once size_report name old
size-once usage (name ∷ more ∷ words) old = refuses-once usage old

names_told-once : (pattern : Option (List ℕ)) (name : Name) (old : Held) → Once (Names pattern name old)
names_told-once pattern name old =
    once-made (Lists old name) (λ indices. fine (list_of (names_like pattern indices))) old (lists-once old name)

names-once : (usage : List ℕ) (words : List (List ℕ)) (old : Held) → Once (reading.names usage words old)
names-once usage [] old = refuses-once usage old
names-once usage (name ∷ []) old = names_told-once None name old
names-once usage (name ∷ pattern ∷ []) old = names_told-once (Some pattern) name old
names-once usage (name ∷ pattern ∷ more ∷ words) old = refuses-once usage old

pairs-same : (held : Held) (name : Name) {indices : List Name} {one other : List (List ℕ)} → PairsOf held name indices one →
    PairsOf held name indices other → one ≡ other
pairs-same held name reading.none reading.none = refl
pairs-same held name (reading.more {index = index} {found = found} {items = items} finds rest) (reading.more {found = finding} {items = others} its later) =
    ap (λ f. pair_of index f ++ items) (finds-once held (spot name (Some index)) found finding finds its)
    ∙ ap (λ more. pair_of index finding ++ more) (pairs-same held name rest later)

gets-once : (pattern : Option (List ℕ)) (name : Name) (old : Held) → Once (Gets pattern name old)
gets-once pattern name old one other new next is its =
    let indices = lists-once old name is.0 its.0 is.2 its.2 in
    let items = pairs-same old name is.3 (subst (λ (names : List Name). PairsOf old name (names_like pattern names) its.1) (sym indices) its.3) in
    (is.4 ∙ ap (λ (pairs : List (List ℕ)). fine (list_of pairs)) items ∙ sym its.4, is.5 ∙ sym its.5)

get-once : (usage : List ℕ) (words : List (List ℕ)) (old : Held) → Once (reading.get usage words old)
get-once usage [] old = refuses-once usage old
get-once usage (name ∷ []) old = gets-once None name old
get-once usage (name ∷ pattern ∷ []) old = gets-once (Some pattern) name old
get-once usage (name ∷ pattern ∷ more ∷ words) old = refuses-once usage old

-- ---- setting ----

sets_one-once : (name index : Name) (text : List ℕ) (old : Held) → Once (SetsOne name index text old)
sets_one-once name index text old =
    once-by (IsWritten old name (Some index) text) (λ outcome. message_by outcome.code outcome.value) (is_written-once old name (Some index) text)

-- a pair's text is given to its element
abbrev SetsPair : (name : Name) → (pair : Name × List ℕ) → Held → Option (List ℕ) → Held → Type 0
SetsPair name pair old message new = SetsOne name pair.0 pair.1 old message new

sets_pair-once : (name : Name) (pair : Name × List ℕ) (old : Held) → Once (SetsPair name pair old)
sets_pair-once name pair old = sets_one-once name pair.0 pair.1 old

sets-same : (name : Name) {pairs : List (Name × List ℕ)} {old new next : Held} {one other : Option (List ℕ)}
    → SetsEach name pairs old one new → SetsEach name pairs old other next → (one ≡ other) × (new ≡ next)
sets-same name changing.none changing.none = (refl, refl)
sets-same name {next = end} {other = other} (changing.more {index = index} {text = text} {pairs = pairs} sets rest) (changing.more its later) =
    let same = goes-once (SetsPair name) (sets_pair-once name) {x = (index, text)} sets its in
    sets-same name rest (subst (λ (held : Held). SetsEach name pairs held other end) (sym same) later)
sets-same name (changing.more {index = index} {text = text} sets rest) (changing.fails its) =
    absurd (goes-fails (SetsPair name) (sets_pair-once name) {x = (index, text)} sets its)
sets-same name (changing.fails {index = index} {text = text} sets) (changing.more its later) =
    absurd (goes-fails (SetsPair name) (sets_pair-once name) {x = (index, text)} its sets)
sets-same name (changing.fails {index = index} {text = text} sets) (changing.fails its) =
    fails-once (SetsPair name) (sets_pair-once name) {x = (index, text)} sets its

sets_pairs-once : (element : Bool) (name : Name) (items : List (List ℕ)) (old : Held) → Once (SetsPairs element name items old)
sets_pairs-once true name items old = once-told (none_set name items) old
sets_pairs-once false name items old =
    once-by (λ (message : Option (List ℕ)) (new : Held). SetsEach name (pairs_in items) old message new) outcome_by
    (λ one other new next is its. sets-same name is its)

sets_if-once : (paired : Bool) (name : Name) (items : List (List ℕ)) (old : Held) → Once (SetsIf paired name items old)
sets_if-once true name items old = sets_pairs-once (is_element name) name items old
sets_if-once false name items old = fails_with-once (codes "list must have an even number of elements") old

sets_items-once : (read : Split) (name : Name) (old : Held) → Once (SetsItems read name old)
sets_items-once (split.Items items) name old = sets_if-once (is_paired items) name items old
sets_items-once (split.Bad fault) name old = fails_with-once (list_message fault) old

set-once : (usage : List ℕ) (words : List (List ℕ)) (old : Held) → Once (changing.array_set usage words old)
set-once usage [] old = refuses-once usage old
set-once usage (name ∷ []) old = refuses-once usage old
set-once usage (name ∷ list ∷ []) old = sets_items-once (split_of list) name old
set-once usage (name ∷ list ∷ more ∷ words) old = refuses-once usage old

-- ---- removing ----

dropped-once : (old : Held) (name : Name) (index : Option Name) {new next : Held}
    → (removed : Result Unit VarFault) × Drops old (spot name index) new removed → (removed : Result Unit VarFault)
    × Drops old (spot name index) next removed → new ≡ next
dropped-once old name index {new} {next} is its = (drops-once old (spot name index) is.0 its.0 new next is.1 its.1).1

drops-same : (name : Name) {indices : List Name} {old new next : Held} → DropsEach name indices old new → DropsEach name indices old next → new ≡ next
drops-same name changing.none changing.none = refl
drops-same name {next = end} (changing.more {index = index} {indices = indices} {old = old} drops rest) (changing.more its later) =
    let same = dropped-once old name (Some index) drops its in
    drops-same name rest (subst (λ (held : Held). DropsEach name indices held end) (sym same) later)

drops_if-once : (there : Bool) (name : Name) (old : Held) → Only (DropsIf there name old)
drops_if-once true name old one other is its = dropped-once old name None is its
drops_if-once false name old one other is its = is ∙ sym its

drops_whole-once : (name : Name) (old : Held) → Once (DropsWhole name old)
drops_whole-once name old one other new next is its =
    let size = counts-once old name is.0 its.0 is.1 its.1 in (
      is.3 ∙ sym its.3,
      drops_if-once (is_some is.0) name old new next is.2 (subst (λ (s : Option ℕ). DropsIf (is_some s) name old next) (sym size) its.2),
    )

drops_like-once : (pattern : List ℕ) (name : Name) (old : Held) → Once (DropsLike pattern name old)
drops_like-once pattern name old one other new next is its =
    let indices = lists-once old name is.0 its.0 is.1 its.1 in (
      is.3 ∙ sym its.3,
      drops-same name is.2 (subst (λ (names : List Name). DropsEach name (names_like (Some pattern) names) old next) (sym indices) its.2),
    )

unset-once : (usage : List ℕ) (words : List (List ℕ)) (old : Held) → Once (changing.array_unset usage words old)
unset-once usage [] old = refuses-once usage old
unset-once usage (name ∷ []) old = drops_whole-once name old
unset-once usage (name ∷ pattern ∷ []) old = drops_like-once pattern name old
unset-once usage (name ∷ pattern ∷ more ∷ words) old = refuses-once usage old

-- ---- the table ----

-- words mean one thing
abbrev MeansOne : Meaning → Type 0
MeansOne meaning = (usage : List ℕ) (words : List (List ℕ)) (old : Held) → Once (meaning usage words old)

subcommands-once : AllByRecursion (λ which. MeansOne (row_of which).meaning) subcommands
subcommands-once = (exists-once, (get-once, (names-once, (set-once, (size-once, (unset-once, tt))))))

is_subcommand-once : (word : List ℕ) (words : List (List ℕ)) (old : Held) → Once (IsSubcommand (first_named subcommands word) word words old)
is_subcommand-once word words old =
    find-each (λ which. MeansOne (row_of which).meaning) (λ which. Once (IsSubcommand which word words old))
    (λ which once. once (row_of which).usage words old)
    (λ which. bytes_eq word (row_of which).name) subcommands (fails_with-once (bad_option word) old) subcommands-once

array-once : (words : List (List ℕ)) (old : Held) → Once (array words old)
array-once [] old = refuses-once (codes "array exists a") old
array-once (word ∷ words) old = is_subcommand-once word words old

runs_if-once : (named : Bool) (words : List (List ℕ)) (old : Held) → Once (RunsIf named words old)
runs_if-once false words old = once-told answers.Other old
runs_if-once true words old = once-by (array words old) answers.Outcome (array-once words old)

pub runs-once : (words : List (List ℕ)) (old : Held) → Once (Runs words old)
runs-once [] old = once-told answers.Other old
runs-once (word ∷ words) old = runs_if-once (is_array word) words old
