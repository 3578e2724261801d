-- The commands on levels and links have one outcome each (global(n), upvar(n), uplevel(n), info(n)).
use Rattle.std.proofs.Common.{◌≡◌, ◌==◌, ◌||◌, ℕ, zero, suc, Bool, true, false, drop, is_some, bytes_eq, cond, nat_lt}
use Rattle.std.proofs.Common.{List, [], ◌∷◌, Option, Some, None, length, decimal, codes, refl, ap, sym, subst}
use Rattle.std.specs.List.{AllByRecursion}
use Rattle.tt_calls.specs.Outcomes.{error_outcome, fine}
use Rattle.tt_calls.specs.Usages.{bad_option, wrong_number}
use Rattle.tt_list_commands.specs.Concatenating.{concatenation}
use Rattle.tt_script.specs.Names.{element_of, global_of, plain_name}
use Rattle.tt_vars.specs.declared.answers.Linked.{Linked}
use Rattle.tt_vars.specs.Variables.{Name}
use Rattle.tt_outcomes.specs.declared.want.Body.TheVariants as body
use Rattle.tt_store.specs.declared.answers.Answer.TheVariants as answers
use Rattle.tt_store.specs.Held.{Held, IsThere, LinksTo, with_script_at}
use Rattle.tt_store.specs.Levels.{HasDepth, Levels, above, caller_of}
use Rattle.tt_variable_commands.specs.Beginning.{BeginsScript, BeginsAt, uplevel}
use Rattle.tt_variable_commands.specs.LevelCommands.{IsCommand, Runs, commands, first_named, row_of}
use Rattle.tt_variable_commands.specs.Counting.{IsAlong, IsFrame, IsFrameBy, count_of, frame_below, frame_up, is_numbered}
use Rattle.tt_variable_commands.specs.Linking.{Each, GlobalBy, LinksFrom, LinksIn, LinksName, LinksOne, LinksPair}
use Rattle.tt_variable_commands.specs.Linking.{UpvarBy, fails, global, message_of, more, none, pairs_of, upvar}
use Rattle.tt_store.specs.Scalars.{outcome_by}
use Rattle.tt_variable_commands.specs.LevelMessages.{bad_level, bad_name}
use Rattle.tt_variable_commands.specs.Telling.{Tells, bit, exists, info, level, topic_of}
use Rattle.tt_variable_commands.specs.LevelWords.{is_levelled, is_odd, level_and_words}
use Rattle.laws_language.proofs.Once.{Once, Only, either-way, fails-once, find-each, goes-fails, goes-once, once-by}
use Rattle.laws_language.proofs.Once.{once-made, once-then, once-told, only-made, only-told}
use Rattle.laws_language.proofs.Held.{is_there-once, links_to-once}
use Rattle.laws_language.proofs.VariableCommands.{ComesToOne, ends-once, fails_with-once, refuses-once}

-- ---- how many callers up the global frame is ----

none-global : {frame : ℕ} → None ≡ Some frame → ⊥
none-global h = cc

not-global : {frame : ℕ} → Some (suc frame) ≡ Some zero → ⊥
not-global h = cc

depth-same : (levels : Levels) (one other frame : ℕ) → above levels one frame ≡ Some 0 → above levels other frame ≡ Some 0 → one ≡ other
depth-same levels zero zero frame is its = refl
depth-same levels zero (suc other) zero is its = absurd (none-global its)
depth-same levels zero (suc other) (suc frame) is its = absurd (not-global is)
depth-same levels (suc one) zero zero is its = absurd (none-global is)
depth-same levels (suc one) zero (suc frame) is its = absurd (not-global its)
depth-same levels (suc one) (suc other) zero is its = absurd (none-global is)
depth-same levels (suc one) (suc other) (suc frame) is its = ap suc (depth-same levels one other (caller_of levels (suc frame)) is its)

depth-once : (levels : Levels) → Only (HasDepth levels)
depth-once levels one other is its = depth-same levels one other levels.current is its

-- ---- which frame a word means ----

along-once : (levels : Levels) (number : Option ℕ) → Only (IsAlong levels number)
along-once levels None = only-told None
along-once levels (Some number) = only-made (HasDepth levels) (λ depth. frame_below levels depth number) (depth-once levels)

frame_by-once : (numbered : Bool) (word : List ℕ) (levels : Levels) → Only (IsFrameBy numbered word levels)
frame_by-once true word levels = along-once levels (count_of (drop 1 word))
frame_by-once false word levels = only-told (frame_up levels (count_of word))

frame-once : (word : List ℕ) (levels : Levels) → Only (IsFrame word levels)
frame-once word levels = frame_by-once (is_numbered word) word levels

-- ---- global(n), upvar(n) ----

links_one-once : (bad : Bool) (word local : Name) (frame : ℕ) (other : Name) (old : Held) → Once (LinksOne bad word local frame other old)
links_one-once true word local frame other old = once-told (Some (bad_name word)) old
links_one-once false word local frame other old =
    once-by (λ (answer : Linked) (new : Held). LinksTo old local frame other new answer) (message_of word) (links_to-once old local frame other)

module _ {X : Type 0} (Links : X → Held → Option (List ℕ) → Held → Type 0) (once : (x : X) (old : Held) → Once (Links x old)) where
  each-same : {xs : List X} {old new next : Held} {one other : Option (List ℕ)} → Each Links xs old one new → Each Links xs old other next →
      (one ≡ other) × (new ≡ next)
  each-same none none = (refl, refl)
  each-same {next = end} {other = other} (more {xs = xs} links rest) (more its later) =
      let same = goes-once Links once links its in
      each-same rest (subst (λ (held : Held). Each Links xs held other end) (sym same) later)
  each-same (more links rest) (fails its) = absurd (goes-fails Links once links its)
  each-same (fails links) (more its later) = absurd (goes-fails Links once its links)
  each-same (fails links) (fails its) = fails-once Links once links its

  each-once : (xs : List X) (old : Held) → Once (Each Links xs old)
  each-once xs old one other new next is its = each-same is its

links_name-once : (word : Name) (old : Held) → Once (LinksName word old)
links_name-once word old = links_one-once (is_some (element_of (plain_name word))) word (plain_name word) 0 word old

global_by-once : (is_global : Bool) (names : List Name) (old : Held) → Once (GlobalBy is_global names old)
global_by-once true names old = once-told (fine []) old
global_by-once false names old =
    once-by (λ (message : Option (List ℕ)) (new : Held). Each LinksName names old message new) outcome_by (each-once LinksName links_name-once names old)

global-once : (usage : List ℕ) (names : List Name) (old : Held) → Once (global usage names old)
global-once usage names old = global_by-once (old.levels.current == 0) names old

links_pair-once : (frame : ℕ) (names : Name × Name) (old : Held) → Once (LinksPair frame names old)
links_pair-once frame names old = links_one-once (is_some (element_of names.1) || is_some (global_of names.1)) names.1 names.1 frame names.0 old

links_in-once : (level : Name) (frame : Option ℕ) (names : List Name) (old : Held) → Once (LinksIn level frame names old)
links_in-once level None names old = fails_with-once (bad_level level) old
links_in-once level (Some frame) names old =
    once-by (λ (message : Option (List ℕ)) (new : Held). Each (LinksPair frame) (pairs_of names) old message new) outcome_by
    (each-once (LinksPair frame) (links_pair-once frame) (pairs_of names) old)

links_from-once : (words : Name × List Name) (old : Held) → Once (LinksFrom words old)
links_from-once words old =
    once-then (IsFrame words.0 old.levels) (λ (frame : Option ℕ). LinksIn words.0 frame words.1 old)
    (frame-once words.0 old.levels) (λ frame. links_in-once words.0 frame words.1 old)

upvar_by-once : (is_short : Bool) (usage : List ℕ) (words : List (List ℕ)) (old : Held) → Once (UpvarBy is_short usage words old)
upvar_by-once true usage words old = refuses-once usage old
upvar_by-once false usage words old = links_from-once (level_and_words (is_odd words) words) old

upvar-once : (usage : List ℕ) (words : List (List ℕ)) (old : Held) → Once (upvar usage words old)
upvar-once usage words old = upvar_by-once (nat_lt (length words) 2) usage words old

-- ---- uplevel(n) ----

begins-once : (level : List ℕ) (frame : Option ℕ) (script : List (List ℕ)) (old : Held) → Once (BeginsScript level frame script old)
begins-once level None script old = once-told (answers.Outcome (error_outcome (bad_level level))) old
begins-once level (Some frame) script old = once-told (answers.Body body.Level (concatenation script)) (with_script_at frame old)

begins_at-once : (words : List ℕ × List (List ℕ)) (old : Held) → Once (BeginsAt words old)
begins_at-once words old =
    once-then (IsFrame words.0 old.levels) (λ (frame : Option ℕ). BeginsScript words.0 frame words.1 old)
    (frame-once words.0 old.levels) (λ frame. begins-once words.0 frame words.1 old)

uplevel-once : (usage : List ℕ) (words : List (List ℕ)) (old : Held) → Once (uplevel usage words old)
uplevel-once usage [] old = once-told (answers.Outcome (error_outcome (wrong_number usage))) old
uplevel-once usage (word ∷ words) old = begins_at-once (level_and_words (is_levelled (word ∷ words)) (word ∷ words)) old

-- ---- info(n) ----

exists-once : (words : List (List ℕ)) (old : Held) → Once (exists words old)
exists-once [] old = refuses-once (codes "info exists varName") old
exists-once (name ∷ []) old = once-made (IsThere name old) bit old (is_there-once name old)
exists-once (name ∷ other ∷ words) old = refuses-once (codes "info exists varName") old

level-once : (words : List (List ℕ)) (old : Held) → Once (level words old)
level-once [] old = once-made (HasDepth old.levels) (λ depth. fine (decimal depth)) old (depth-once old.levels)
level-once (word ∷ words) old = refuses-once (codes "info level") old

-- what is answered is chosen by a word
tells-once : (word : List ℕ) (words : List (List ℕ)) (old : Held) → Once (Tells (topic_of word) word words old)
tells-once word words old =
    let nothing = topic_of [] in
    let procs = topic_of (codes "procs") in
    let level_of = topic_of (codes "level") in
    let after_level = cond (bytes_eq word (codes "procs")) procs nothing in
    let after_exists = cond (bytes_eq word (codes "level")) level_of after_level in
    either-way (λ about. Once (Tells about word words old)) (bytes_eq word (codes "exists")) (topic_of (codes "exists")) after_exists
    (once-by (exists words old) answers.Outcome (exists-once words old))
    (either-way (λ about. Once (Tells about word words old)) (bytes_eq word (codes "level")) level_of after_level
    (once-by (level words old) answers.Outcome (level-once words old))
    (either-way (λ about. Once (Tells about word words old)) (bytes_eq word (codes "procs")) procs nothing
    (once-told answers.Other old)
    (once-told (answers.Outcome (error_outcome (bad_option word))) old)))

info-once : (usage : List ℕ) (words : List (List ℕ)) (old : Held) → Once (info usage words old)
info-once usage [] old = once-told (answers.Outcome (error_outcome (wrong_number usage))) old
info-once usage (word ∷ words) old = tells-once word words old

-- ---- the table ----

commands-once : AllByRecursion (λ which. ComesToOne (row_of which).meaning) commands
commands-once = (ends-once global global-once, (ends-once upvar upvar-once, (uplevel-once, (info-once, tt))))

is_command-once : (name : List ℕ) (words : List (List ℕ)) (old : Held) → Once (IsCommand (first_named commands name) words old)
is_command-once name words old =
    find-each (λ which. ComesToOne (row_of which).meaning) (λ which. Once (IsCommand which words old))
    (λ which once. once (row_of which).usage words old)
    (λ which. bytes_eq name (row_of which).name) commands (once-told answers.Other old) commands-once

pub runs-once : (words : List (List ℕ)) (old : Held) → Once (Runs words old)
runs-once [] old = once-told answers.Other old
runs-once (word ∷ words) old = is_command-once (plain_name word) words old
