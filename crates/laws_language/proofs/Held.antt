-- What is done to one variable of what is held has one outcome, and one thing is held then (set(n), vwait(n)).
use Rattle.std.proofs.Common.{◌≡◌, ◌∙◌, ◌<◌, ◌||◌, ℕ, Bool, List, Option, None, Result, length, slice_index_or, refl, ap, sym, subst, arith}
use Rattle.std.proofs.lemmas.List.{same_lists}
use Rattle.tt_procedures.specs.declared.calling.Argument.{Argument}
use Rattle.tt_vars.specs.declared.answers.Linked.{Linked}
use Rattle.tt_vars.specs.declared.answers.VarFault.{VarFault}
use Rattle.tt_vars.specs.declared.answers.Written.{Written}
use Rattle.tt_vars.specs.declared.answers.Written.TheVariants.{Yes, No}
use Rattle.tt_vars.specs.declared.variable.Place.{Place}
use Rattle.tt_vars.specs.Links as variables
use Rattle.tt_vars.specs.Variables.{Frame, Name}
use Rattle.tt_store.specs.Held.{AreMarked, AreSet, Calls, Drops, Finds, Gives, HasIndices, HasSize, Held, IsMarked}
use Rattle.tt_store.specs.Held.{IsRead, IsThere, IsWritten, LinksTo, Marks, ReadsWord, Sets, is_there, more, none}
use Rattle.tt_store.specs.Held.{place, write_outcome, value_of, with_levels}
use Rattle.tt_store.specs.Levels.{with_procedure_level, with_frames}
use Rattle.tt_store.specs.Spots.{place_in, spot, spot_of, full_name}
use Rattle.laws_language.proofs.Once.{Once, Only, once-by, only-made, only-told}
use Rattle.laws_language.proofs.Variables.{links-once, names-once, reads-once, removes-once, same-once, size-once, writes-once}

-- ---- reading ----

pub finds-once : (held : Held) (spot : _) → Only (Finds held spot)
finds-once held spot = reads-once held.levels.frames (place held spot)

pub is_read-once : (held : Held) (name : Name) (index : Option Name) → Only (IsRead held name index)
is_read-once held name index = only-made (Finds held (spot name index)) (value_of (full_name name index)) (finds-once held (spot name index))

pub reads_word-once : (word : Name) (held : Held) → Only (ReadsWord word held)
reads_word-once word held = only-made (Finds held (spot_of word)) (value_of word) (finds-once held (spot_of word))

pub is_there-once : (word : Name) (held : Held) → Only (IsThere word held)
is_there-once word held = only-made (Finds held (spot_of word)) is_there (finds-once held (spot_of word))

pub indices-once : (held : Held) (name : Name) → Only (HasIndices held name)
indices-once held name = names-once held.levels.frames (place held (spot name None))

pub size_of-once : (held : Held) (name : Name) → Only (HasSize held name)
size_of-once held name = size-once held.levels.frames (place held (spot name None))

-- ---- watches ----

marked-once : (frames : List Frame) (place : Place) (old : _) → Only (IsMarked frames place old)
marked-once frames place old =
    only-made (variables.AreSame frames place (variables.place_of 0 old.name old.index))
    (λ (same : Bool). record old { seen = old.seen || same })
    (same-once frames place (variables.place_of 0 old.name old.index))

all_marked-once : (frames : List Frame) (place : Place) (old : List _) → Only (AreMarked frames place old)
all_marked-once frames place old one other is its =
    same_lists one other (is.counted ∙ sym its.counted) (λ k watch lt.
    let within : k < length old = omega (arith, lt, is.counted) in
    marked-once frames place (slice_index_or old k watch) (slice_index_or one k watch) (slice_index_or other k watch)
    (is.each k watch within) (its.each k watch within))

marks-once : (written : Written) (frames : List Frame) (place : Place) (old : List _) → Only (Marks written frames place old)
marks-once Yes frames place old = all_marked-once frames place old
marks-once (No fault) frames place old = only-told old

-- ---- writing ----

pub sets-once : (old : Held) (spot : _) (text : List ℕ) → Once (λ (written : Written) (new : Held). Sets old spot text new written)
sets-once old spot text one other new next is its =
    let wrote = writes-once old.levels.frames (place old spot) text new.levels.frames next.levels.frames one other is.writes its.writes in
    let marks : Marks one new.levels.frames (place old spot) old.watches next.watches =
    subst (λ (w : Written). Marks w new.levels.frames (place old spot) old.watches next.watches) (sym wrote.1)
    (subst (λ (frames : List Frame). Marks other frames (place old spot) old.watches next.watches) (sym wrote.0) its.marks) in
    let watched = marks-once one new.levels.frames (place old spot) old.watches new.watches next.watches is.marks marks in (
      wrote.1,
      is.rest ∙ ap (λ (frames : List Frame). record old { levels = with_frames old.levels frames; watches = new.watches }) wrote.0
          ∙ ap (λ (watches : List _). record old { levels = with_frames old.levels next.levels.frames; watches = watches }) watched ∙ sym its.rest,
    )

pub is_written-once : (old : Held) (name : Name) (index : Option Name) (text : List ℕ) → Once (IsWritten old name index text)
is_written-once old name index text =
    once-by (λ (written : Written) (new : Held). Sets old (spot name index) text new written) (write_outcome (full_name name index) text)
    (sets-once old (spot name index) text)

pub gives-once : (word : Name) (text : List ℕ) (old : Held) → Once (Gives word text old)
gives-once word text old =
    once-by (λ (written : Written) (new : Held). Sets old (spot_of word) text new written) (write_outcome word text)
    (sets-once old (spot_of word) text)

-- ---- links, and what is removed ----

pub links_to-once : (old : Held) (local : Name) (frame : ℕ) (word : Name) → Once (λ (answer : Linked) (new : Held). LinksTo old local frame word new answer)
links_to-once old local frame word one other new next is its =
    let linked =
    links-once old.levels.frames old.levels.current local
    (place_in frame (spot_of word)) new.levels.frames next.levels.frames one other is.links its.links in
    (linked.1, is.rest ∙ ap (λ (frames : List Frame). with_levels old (with_frames old.levels frames)) linked.0 ∙ sym its.rest)

pub drops-once : (old : Held) (spot : _) → Once (λ (removed : Result Unit VarFault) (new : Held). Drops old spot new removed)
drops-once old spot one other new next is its =
    let removed = removes-once old.levels.frames (place old spot) new.levels.frames next.levels.frames one other is.0 its.0 in
    (removed.1, is.1 ∙ ap (λ (frames : List Frame). with_levels old (with_frames old.levels frames)) removed.0 ∙ sym its.1)

-- ---- a procedure's frame ----

all_set-once : {arguments : List Argument} {old new next : Held} → AreSet arguments old new → AreSet arguments old next → new ≡ next
all_set-once none none = refl
all_set-once {next = end} (more {argument = argument} {arguments = arguments} {old = old} {next = next} {written = one} sets rest)
    (more {next = after} {written = other} gives later) =
    let same = (sets-once old (spot argument.name None) argument.value one other next after sets gives).1 in
    all_set-once rest (subst (λ (held : Held). AreSet arguments held end) (sym same) later)

pub are_set-once : (arguments : List Argument) (old : Held) → Only (AreSet arguments old)
are_set-once arguments old new next is its = all_set-once is its

pub calls-once : (arguments : List Argument) (old : Held) → Only (Calls arguments old)
calls-once arguments old = are_set-once arguments (with_levels old (with_procedure_level old.levels))
