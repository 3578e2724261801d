-- The commands on variables have one outcome each (set(n), unset(n), incr(n), append(n), lappend(n), lassign(n)).
use Rattle.std.proofs.Common.{◌≡◌, ℕ, Bool, true, false, bytes_eq, nat_lt, codes, drop, List, [], ◌∷◌, Option, Some}
use Rattle.std.proofs.Common.{None, Result, option_map, refl, sym, subst, length}
use Rattle.std.specs.List.{AllByRecursion}
use Rattle.tt_calls.specs.declared.outcome.Outcome.{Outcome}
use Rattle.tt_calls.specs.Outcomes.{error_outcome, fine}
use Rattle.tt_calls.specs.Usages.{bad_option, wrong_number}
use Rattle.tt_list_commands.specs.Concatenating.{concatenation}
use Rattle.tt_lists.specs.Messages.{list_message}
use Rattle.tt_lists.specs.Reading.{split_of}
use Rattle.tt_lists.specs.declared.answer.ListAnswer.{ListAnswer}
use Rattle.tt_lists.specs.declared.answer.ListAnswer.TheVariants.{Made, Bad}
use Rattle.tt_lists.specs.declared.items.Split.{Split}
use Rattle.tt_lists.specs.declared.items.Split.TheVariants as split
use Rattle.tt_pure.specs.Table as pure
use Rattle.tt_script.specs.Names.{plain_name}
use Rattle.tt_value.specs.Growing as growing
use Rattle.tt_vars.specs.declared.answers.VarFault.{VarFault}
use Rattle.tt_vars.specs.declared.answers.Written.{Written}
use Rattle.tt_outcomes.specs.declared.want.Body.TheVariants as body
use Rattle.tt_store.specs.declared.answers.Answer.TheVariants as answers
use Rattle.tt_store.specs.Commands.{Coming, IsCommand, IsPure, PackageBy, Runs, commands, ends, eval, first_named}
use Rattle.tt_store.specs.Commands.{flush, package_require, package_answer, row_of, version_of}
use Rattle.tt_store.specs.Held.{Drops, Fails, Finds, Held, Meaning, ReadsWord, Refuses, Sets, with_levels}
use Rattle.tt_store.specs.Levels.{with_script_in}
use Rattle.tt_store.specs.Listed as listed
use Rattle.tt_store.specs.Listed.{Assigns, AssignsItems, AssignsOne, lappend, lassign, message_of, names_with_items, rest_outcome}
use Rattle.tt_store.specs.Messages.{cannot_unset}
use Rattle.tt_store.specs.Scalars as scalars
use Rattle.tt_store.specs.Scalars.{Changes, Counts, DropsOne, GivesMade, Unsets, UnsetsAll, UnsetsIf, append, counting}
use Rattle.tt_store.specs.Scalars.{outcome_by, first_unknown, front, incr, increment_of, answer_of_value, set_meaning, report_of, unset_meaning}
use Rattle.tt_store.specs.Spots.{spot_of}
use Rattle.laws_language.proofs.Once.{Once, Only, fails-once, goes-fails, goes-once, find-each, once-by, once-kept, once-made, once-then, once-told, only-made}
use Rattle.laws_language.proofs.PureCommands.{pure-once}
use Rattle.laws_language.proofs.Held.{drops-once, finds-once, gives-once, reads_word-once, sets-once}

pub fails_with-once : (message : List ℕ) (old : Held) → Once (Fails message old)
fails_with-once message old = once-told (error_outcome message) old

pub refuses-once : (usage : List ℕ) (old : Held) → Once (Refuses usage old)
refuses-once usage old = fails_with-once (wrong_number usage) old

-- ---- set(n), incr(n), append(n), lappend(n) ----

reads_only-once : (name : List ℕ) (old : Held) → Once (λ (outcome : Outcome) (new : Held). ReadsWord name old outcome × (new ≡ old))
reads_only-once name old = once-kept (ReadsWord name old) old (reads_word-once name old)

set-once : (usage : List ℕ) (words : List (List ℕ)) (old : Held) → Once (set_meaning usage words old)
set-once usage [] old = refuses-once usage old
set-once usage (name ∷ []) old = reads_only-once name old
set-once usage (name ∷ value ∷ []) old = gives-once name value old
set-once usage (name ∷ value ∷ more ∷ words) old = refuses-once usage old

counts-once : (word missing : List ℕ) (held : Held) → Only (Counts word missing held)
counts-once word missing held = only-made (Finds held (spot_of word)) (counting missing) (finds-once held (spot_of word))

made-once : (word : List ℕ) (answer : ListAnswer) (old : Held) → Once (GivesMade word answer old)
made-once word (Made text) old = gives-once word text old
made-once word (Bad message) old = fails_with-once message old

pub changes-once : (word missing : List ℕ) (change : List ℕ → ListAnswer) (old : Held) → Once (Changes word missing change old)
changes-once word missing change old =
    once-then (Counts word missing old) (λ (found : Result (List ℕ) VarFault). GivesMade word (answer_of_value word change found) old)
    (counts-once word missing old) (λ found. made-once word (answer_of_value word change found) old)

incr-once : (usage : List ℕ) (words : List (List ℕ)) (old : Held) → Once (incr usage words old)
incr-once usage [] old = refuses-once usage old
incr-once usage (name ∷ []) old = changes-once name (codes "0") (increment_of (codes "1")) old
incr-once usage (name ∷ step ∷ []) old = changes-once name (codes "0") (increment_of step) old
incr-once usage (name ∷ step ∷ more ∷ words) old = refuses-once usage old

append-once : (usage : List ℕ) (words : List (List ℕ)) (old : Held) → Once (append usage words old)
append-once usage [] old = refuses-once usage old
append-once usage (name ∷ []) old = reads_only-once name old
append-once usage (name ∷ value ∷ values) old = changes-once name [] (growing.text_with_texts (value ∷ values)) old

lappend-once : (usage : List ℕ) (words : List (List ℕ)) (old : Held) → Once (lappend usage words old)
lappend-once usage [] old = refuses-once usage old
lappend-once usage (name ∷ values) old = changes-once name [] (growing.list_with_texts values) old

-- ---- unset(n) ----

drops_one-once : (nocomplain : Bool) (word : List ℕ) (old : Held) → Once (DropsOne nocomplain word old)
drops_one-once nocomplain word old =
    once-by (λ (removed : Result Unit VarFault) (new : Held). Drops old (spot_of word) new removed)
    (λ removed. option_map (cannot_unset word) (report_of nocomplain removed)) (drops-once old (spot_of word))

unsets-same : (nocomplain : Bool) {words : List (List ℕ)} {old new next : Held} {one other : Option (List ℕ)}
    → Unsets nocomplain words old one new → Unsets nocomplain words old other next → (one ≡ other) × (new ≡ next)
unsets-same nocomplain scalars.none scalars.none = (refl, refl)
unsets-same nocomplain {next = end} {other = other} (scalars.more {words = words} drops rest) (scalars.more gives later) =
    let same = goes-once (DropsOne nocomplain) (drops_one-once nocomplain) drops gives in
    unsets-same nocomplain rest (subst (λ (held : Held). Unsets nocomplain words held other end) (sym same) later)
unsets-same nocomplain (scalars.more drops rest) (scalars.fails gives) =
    absurd (goes-fails (DropsOne nocomplain) (drops_one-once nocomplain) drops gives)
unsets-same nocomplain (scalars.fails drops) (scalars.more gives later) =
    absurd (goes-fails (DropsOne nocomplain) (drops_one-once nocomplain) gives drops)
unsets-same nocomplain (scalars.fails drops) (scalars.fails gives) =
    fails-once (DropsOne nocomplain) (drops_one-once nocomplain) drops gives

unsets_all-once : (nocomplain : Bool) (words : List (List ℕ)) (old : Held) → Once (UnsetsAll nocomplain words old)
unsets_all-once nocomplain words old =
    once-by (λ (message : Option (List ℕ)) (new : Held). Unsets nocomplain words old message new) outcome_by
    (λ one other new next is its. unsets-same nocomplain is its)

unsets_if-once : (unknown : Option (List ℕ)) (words : List (List ℕ)) (old : Held) → Once (UnsetsIf unknown words old)
unsets_if-once (Some word) words old = fails_with-once (bad_option word) old
unsets_if-once None words old = unsets_all-once (nat_lt 0 (front words)) (drop (front words) words) old

unset-once : (usage : List ℕ) (words : List (List ℕ)) (old : Held) → Once (unset_meaning usage words old)
unset-once usage words old = unsets_if-once (first_unknown words) words old

-- ---- lassign(n) ----

assigns_one-once : (word text : List ℕ) (old : Held) → Once (AssignsOne word text old)
assigns_one-once word text old =
    once-by (λ (written : Written) (new : Held). Sets old (spot_of word) text new written) (message_of word)
    (sets-once old (spot_of word) text)

-- a pair's text is given to its variable
abbrev AssignsPair : (pair : List ℕ × List ℕ) → Held → Option (List ℕ) → Held → Type 0
AssignsPair pair old message new = AssignsOne pair.0 pair.1 old message new

assigns_pair-once : (pair : List ℕ × List ℕ) (old : Held) → Once (AssignsPair pair old)
assigns_pair-once pair old = assigns_one-once pair.0 pair.1 old

assigns-same : {pairs : List (List ℕ × List ℕ)} {old new next : Held} {one other : Option (List ℕ)}
    → Assigns pairs old one new → Assigns pairs old other next → (one ≡ other) × (new ≡ next)
assigns-same listed.none listed.none = (refl, refl)
assigns-same {next = end} {other = other} (listed.more {word = word} {text = text} {pairs = pairs} gives rest) (listed.more its later) =
    let same = goes-once AssignsPair assigns_pair-once {x = (word, text)} gives its in
    assigns-same rest (subst (λ (held : Held). Assigns pairs held other end) (sym same) later)
assigns-same (listed.more {word = word} {text = text} gives rest) (listed.fails its) =
    absurd (goes-fails AssignsPair assigns_pair-once {x = (word, text)} gives its)
assigns-same (listed.fails {word = word} {text = text} gives) (listed.more its later) =
    absurd (goes-fails AssignsPair assigns_pair-once {x = (word, text)} its gives)
assigns-same (listed.fails {word = word} {text = text} gives) (listed.fails its) =
    fails-once AssignsPair assigns_pair-once {x = (word, text)} gives its

assigns_items-once : (read : Split) (names : List (List ℕ)) (old : Held) → Once (AssignsItems read names old)
assigns_items-once (split.Bad fault) names old = fails_with-once (list_message fault) old
assigns_items-once (split.Items items) names old =
    once-by (λ (message : Option (List ℕ)) (new : Held). Assigns (names_with_items names items) old message new)
    (rest_outcome (drop (length names) items)) (λ one other new next is its. assigns-same is its)

lassign-once : (usage : List ℕ) (words : List (List ℕ)) (old : Held) → Once (lassign usage words old)
lassign-once usage [] old = refuses-once usage old
lassign-once usage (list ∷ names) old = assigns_items-once (split_of list) names old

-- ---- eval(n), package(n), flush(n) ----

eval-once : (usage : List ℕ) (words : List (List ℕ)) (old : Held) → Once (eval usage words old)
eval-once usage [] old = once-told (answers.Outcome (error_outcome (wrong_number usage))) old
eval-once usage (word ∷ words) old =
    once-told (answers.Body body.Plain (concatenation (word ∷ words))) (with_levels old (with_script_in old.levels.current old.levels))

flush-once : (usage : List ℕ) (words : List (List ℕ)) (old : Held) → Once (flush usage words old)
flush-once usage [] old = refuses-once usage old
flush-once usage (channel ∷ []) old = once-told (fine []) old
flush-once usage (channel ∷ more ∷ words) old = refuses-once usage old

package_by-once : (known : Bool) (usage word : List ℕ) (words : List (List ℕ)) (old : Held) → Once (PackageBy known usage word words old)
package_by-once false usage word words old = fails_with-once (bad_option word) old
package_by-once true usage word [] old = refuses-once usage old
package_by-once true usage word (name ∷ []) old = once-told (package_answer name (version_of name)) old
package_by-once true usage word (name ∷ version ∷ []) old = once-told (package_answer name (version_of name)) old
package_by-once true usage word (name ∷ version ∷ more ∷ words) old = refuses-once usage old

package-once : (usage : List ℕ) (words : List (List ℕ)) (old : Held) → Once (package_require usage words old)
package-once usage [] old = refuses-once usage old
package-once usage (word ∷ words) old = package_by-once (bytes_eq word (codes "require")) usage word words old

-- ---- the table ----

-- words come to one thing
abbrev pub ComesToOne : Coming → Type 0
ComesToOne coming = (usage : List ℕ) (words : List (List ℕ)) (old : Held) → Once (coming usage words old)

pub ends-once : (meaning : Meaning) → ((usage : List ℕ) (words : List (List ℕ)) (old : Held) → Once (meaning usage words old)) → ComesToOne (ends meaning)
ends-once meaning once usage words old = once-by (meaning usage words old) answers.Outcome (once usage words old)

commands-once : AllByRecursion (λ which. ComesToOne (row_of which).meaning) commands
commands-once = (
  ends-once set_meaning set-once,
  (
    ends-once unset_meaning unset-once,
    (
      ends-once incr incr-once,
      (
        ends-once append append-once,
        (
          ends-once lappend lappend-once,
          (
            ends-once lassign lassign-once,
            (
              eval-once,
              (
                ends-once package_require package-once,
                (ends-once flush flush-once, tt),
              ),
            ),
          ),
        ),
      ),
    ),
  ),
)

is_pure-once : (known : Bool) (name : List ℕ) (words : List (List ℕ)) (old : Held) → Once (IsPure known name words old)
is_pure-once false name words old = once-told answers.Other old
is_pure-once true name words old = once-made (pure.IsOutcome (pure.command_of name) words) answers.Outcome old (pure-once name words)

is_command-once : (name : List ℕ) (words : List (List ℕ)) (old : Held) → Once (IsCommand (first_named commands name) name words old)
is_command-once name words old =
    find-each (λ which. ComesToOne (row_of which).meaning) (λ which. Once (IsCommand which name words old))
    (λ which once. once (row_of which).usage words old)
    (λ which. bytes_eq name (row_of which).name) commands (is_pure-once (pure.is_pure name) name words old) commands-once

pub runs-once : (words : List (List ℕ)) (old : Held) → Once (Runs words old)
runs-once [] old = once-told (answers.Outcome (fine [])) old
runs-once (word ∷ words) old = is_command-once (plain_name word) words old
