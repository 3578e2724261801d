-- What is held is read, written, removed and linked.
use Rattle.std.proofs.Common.{◌≡◌, ℕ, zero, suc, ◌<◌, ◌≤◌, Bool, true, false, ◌||◌, List, [], ◌∷◌, Option, None, Result, Ok, Err, length}
use Rattle.std.proofs.Common.{get_or, refl, ap, sym, subst, arith, if◌then◌else◌}
use Rattle.std.specs.Map.{keys_of}
use Rattle.std.specs.Option.{option_map}
use Rattle.laws_answers.proofs.Frames.{Sound}
use Rattle.laws_answers.proofs.Standing.{stands}
use Rattle.laws_answers.proofs.Totals.{Good, Total, good-frames}
use Rattle.laws_answers.proofs.Written.{links, removes, writes}
use Rattle.tt_store.specs.Held.{AreMarked, Drops, Finds, HasIndices, HasSize, Held, IsMarked, LinksTo, Sets, place, watch_by, with_levels}
use Rattle.tt_store.specs.Levels.{with_frames}
use Rattle.tt_store.specs.Spots.{place_in, spot, spot_of}
use Rattle.tt_vars.specs.Links.{Removed, StandsFor, Writes, elements_at, frames_after_link, frames_after_removal, frames_after_write, is_same, link_answer}
use Rattle.tt_vars.specs.Links.{place_of, reading_at}
use Rattle.tt_vars.specs.Variables.{Frame, Name, Puts}
use Rattle.tt_vars.specs.declared.answers.VarFault.{VarFault}
use Rattle.tt_vars.specs.declared.answers.Written.{Written}
use Rattle.tt_vars.specs.declared.answers.Written.TheVariants.{Yes, No}
use Rattle.tt_vars.specs.declared.variable.Place.{Place}

-- ---- places ----

abbrev Results : {A B : Type 0} → (A → B) → Type 0
Results {A} {B} f = B

abbrev pub Spot : Type 0
Spot = Results spot_of

abbrev Watch : Type 0
Watch = Results watch_by

lower-place : (current : ℕ) (spot : Spot) → (place_in current spot).frame ≤ current
lower-place current spot = by spot.global
  where
    by : (global : Bool) → (if global then 0 else current) ≤ current
    by true = omega arith
    by false = omega arith

there : (held : Held) (spot : Spot) → Good held → (place held spot).frame < length held.levels.frames
there held spot good = let lower = lower-place held.levels.current spot in omega (arith, lower, good.nested.there)

-- what a spot stands for
pub standing : (held : Held) (spot : Spot) → Good held → (to : Option Place) × StandsFor held.levels.frames (place held spot) to
standing held spot good = stands held.levels.frames (place held spot) good.sound.ends

-- ---- reading ----

pub finds : (held : Held) (spot : Spot) → Good held → (read : Result (List ℕ) VarFault) × Finds held spot read
finds held spot good =
    let to = standing held spot good in
    (reading_at held.levels.frames (place held spot).index to.0, (to.0, to.1, refl))

pub indices : (held : Held) (name : Name) → Good held → (names : Option (List Name)) × HasIndices held name names
indices held name good =
    let to = standing held (spot name None) good in
    (option_map keys_of (elements_at held.levels.frames to.0), (to.0, to.1, refl))

pub size : (held : Held) (name : Name) → Good held → (count : Option ℕ) × HasSize held name count
size held name good =
    let to = standing held (spot name None) good in
    (option_map length (elements_at held.levels.frames to.0), (to.0, to.1, refl))

-- ---- watches ----

mark : (frames : List Frame) (place : Place) → Sound frames → (watch : Watch) → (marked : Watch) × IsMarked frames place watch marked
mark frames place sound watch =
    let one = stands frames place sound.ends in
    let other = stands frames (place_of 0 watch.name watch.index) sound.ends in
    let same = is_same one.0 other.0 in
    (record watch { seen = watch.seen || same }, (same, (one.0, other.0, one.1, other.1, refl), refl))

marks : (frames : List Frame) (place : Place) → Sound frames → (old : List Watch) → (new : List Watch) × AreMarked frames place old new
marks frames place sound [] = ([], record { counted = refl; each = λ k watch less. absurd (omega (arith, less)) })
marks frames place sound (watch ∷ watches) =
    let one = mark frames place sound watch in
    let rest = marks frames place sound watches in
    (one.0 ∷ rest.0, record { counted = ap suc rest.1.counted; each = λ k other less. each one.0 rest.0 one.1 rest.1 k other less })
  where
    each : (marked : Watch) (later : List Watch) → IsMarked frames place watch marked → AreMarked frames place watches later → (k : ℕ) (other : Watch)
        → k < length (watch ∷ watches) → IsMarked frames place (get_or (watch ∷ watches) k other) (get_or (marked ∷ later) k other)
    each marked later is are zero other less = is
    each marked later is are (suc k) other less = are.each k other (omega (arith, less))

-- ---- writing ----

pub sets : (old : Held) (spot : Spot) (text : List ℕ) → Good old → Total (λ written new. Sets old spot text new written)
sets old spot text good = record {
  gives = (let to = standing old spot good in by to (frames_after_write old.levels.frames to.0 text) refl);
  keeps = λ written new is. good-frames old new good
      (writes old.levels.frames new.levels.frames (place old spot) text written good.sound (there old spot good) is.writes)
      (ap (λ held. held.levels) is.rest);
}
  where
    by : (to : (to : Option Place) × StandsFor old.levels.frames (place old spot) to) (made : Result (List Frame) VarFault)
        → frames_after_write old.levels.frames to.0 text ≡ made → (written : Written) × (new : Held) × Sets old spot text new written
    by to (Err fault) is = (
      No fault,
      old,
      record {
        writes = (to.0, to.1, subst (λ r. Puts r old.levels.frames old.levels.frames (No fault)) (sym is) (refl, refl));
        marks = refl;
        rest = refl;
      },
    )
    by to (Ok frames) is =
        let written : Writes old.levels.frames (place old spot) text frames Yes = (
          to.0,
          to.1,
          subst (λ r. Puts r old.levels.frames frames Yes) (sym is) (refl, refl),
        ) in
        let stays = writes old.levels.frames frames (place old spot) text Yes good.sound (there old spot good) written in
        let marked = marks frames (place old spot) stays.sound old.watches in (
          Yes,
          record { levels = with_frames old.levels frames; watches = marked.0 },
          record { writes = written; marks = marked.1; rest = refl },
        )

-- ---- removing ----

pub drops : (old : Held) (spot : Spot) → Good old → Total (λ removed new. Drops old spot new removed)
drops old spot good = record {
  gives = (let to = standing old spot good in by to (frames_after_removal old.levels.frames (place old spot).index to.0) refl);
  keeps = λ removed new is. good-frames old new good
      (removes old.levels.frames new.levels.frames (place old spot) removed good.sound (there old spot good) is.0)
      (ap (λ held. held.levels) is.1);
}
  where
    by : (to : (to : Option Place) × StandsFor old.levels.frames (place old spot) to) (made : Result (List Frame) VarFault)
        → frames_after_removal old.levels.frames (place old spot).index to.0 ≡ made
        → (removed : Result (Unit {0}) VarFault) × (new : Held) × Drops old spot new removed
    by to (Err fault) is = (
      Err fault,
      old,
      ((to.0, to.1, subst (λ r. Removed {X = Unit {0}} r old.levels.frames old.levels.frames (Err fault)) (sym is) (refl, refl)), refl),
    )
    by to (Ok frames) is = (
      Ok tt,
      with_levels old (with_frames old.levels frames),
      ((to.0, to.1, subst (λ r. Removed {X = Unit {0}} r old.levels.frames frames (Ok tt)) (sym is) (refl, refl)), refl),
    )

-- ---- linking ----

pub link : (old : Held) (local : Name) (frame : ℕ) (word : Name) → Good old → frame ≤ old.levels.current
    → Total (λ answer new. LinksTo old local frame word new answer)
link old local frame word good lower = record {
  gives =
      (let other = place_in frame (spot_of word) in
      let whole = stands old.levels.frames (place_of other.frame other.name None) good.sound.ends in
      let to = stands old.levels.frames other good.sound.ends in
      let answer = link_answer old.levels.frames old.levels.current local whole.0 to.0 in (
        answer,
        with_levels old (with_frames old.levels (frames_after_link answer old.levels.frames old.levels.current local to.0)),
        record { links = (whole.0, to.0, whole.1, to.1, refl, refl); rest = refl },
      ));
  keeps = λ answer new is.
      let below = lower-place frame (spot_of word) in
      good-frames old new good
      (links old.levels.frames new.levels.frames old.levels.current local (place_in frame (spot_of word)) answer good.sound good.nested.there
      (omega (arith, below, lower)) is.links)
      (ap (λ held. held.levels) is.rest);
}
