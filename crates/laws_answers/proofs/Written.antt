-- Links lead in no circle after a text was written, something was removed, or a link was made.
use Rattle.std.proofs.Common.{◌≡◌, ℕ, ◌<◌, ◌≤◌, cond, List, Option, Some, None, Result, Ok, Err}
use Rattle.std.proofs.Common.{bytes_eq, length, slice_set, refl, ap, sym, subst, ◌∙◌, arith}
use Rattle.std.proofs.lemmas.List.{length-set}
use Rattle.std.specs.Cmp.Lexicographic.{nat_list_eq_equiv}
use Rattle.std.specs.Map.{lookup, remove_entry}
use Rattle.tt_vars.proofs.EndLemmas.{ends-linked}
use Rattle.laws_answers.proofs.Frames.{Once, Sound, keeps-gone, named-with, once-set, once-with, once-without, sound-set}
use Rattle.tt_vars.proofs.LinkLemmas.{keeps-new, keeps-through}
use Rattle.tt_vars.proofs.StandsLemmas.{can-link, stands-end, stands-lower}
use Rattle.tt_vars.specs.Links.{Links, Removed, Removes, StandsFor, Writes, at, frame_at, frames_after_link}
use Rattle.tt_vars.specs.Links.{frames_after_removal, frames_after_write, link_answer}
use Rattle.tt_vars.specs.Links.{missing, with_frame}
use Rattle.tt_vars.specs.Variables.{Frame, Name, Puts, frame_after_removal, leads, result_of, variable_after_write, variable_named, with}
use Rattle.tt_vars.specs.Variables.{without_element}
use Rattle.tt_vars.specs.declared.answers.Linked.{Linked}
use Rattle.tt_vars.specs.declared.answers.Linked.TheVariants as answers
use Rattle.tt_vars.specs.declared.answers.VarFault.{VarFault}
use Rattle.tt_vars.specs.declared.answers.Written.{Written}
use Rattle.tt_vars.specs.declared.variable.Place.{Place}
use Rattle.tt_vars.specs.declared.variable.Variable.{Variable}
use Rattle.tt_vars.specs.declared.variable.Variable.TheVariants.{Scalar, Array, Link}
use Rattle.tt_vars.specs.inside.Ending.{KeepsLinks}

same_ok : {X : Type 0} {x y : X} → ◌≡◌ {A = Result X VarFault} (Ok x) (Ok y) → x ≡ y
same_ok h = cc

err_is_ok : {X E : Type 0} {e : E} {x : X} → Err e ≡ Ok x → ⊥
err_is_ok h = cc

-- frames of which as many are there, and no link leads in a circle
pub record Stays (old new : List Frame) : Type 0 where
  pub sound : Sound new
  pub counted : length new ≡ length old

pub same : (old new : List Frame) → Sound old → new ≡ old → Stays old new
same old new sound is = record { sound = subst Sound (sym is) sound; counted = ap length is }

put : (old : List Frame) (i : ℕ) (frame : Frame) → Sound old → i < length old → KeepsLinks (frame_at old i) frame → Once frame
    → Stays old (slice_set old i frame)
put old i frame sound lt keeps once = record { sound = sound-set old i frame sound lt keeps once; counted = length-set old i frame }

-- ---- writing ----

plain : (v : Option Variable) (index : Option Name) (text : List ℕ) (w : Variable) → variable_after_write v index text ≡ Ok w → leads (Some w) ≡ None
plain None None text w is = ap (λ v. leads (Some v)) (sym (same_ok is))
plain None (Some index) text w is = ap (λ v. leads (Some v)) (sym (same_ok is))
plain (Some (Scalar old)) None text w is = ap (λ v. leads (Some v)) (sym (same_ok is))
plain (Some (Scalar old)) (Some index) text w is = absurd (err_is_ok is)
plain (Some (Array elements)) None text w is = absurd (err_is_ok is)
plain (Some (Array elements)) (Some index) text w is = ap (λ v. leads (Some v)) (sym (same_ok is))
plain (Some (Link to)) index text w is = absurd (err_is_ok is)

keeps-put : (frame : Frame) (n : Name) (v : Option Variable) (w : Variable) → variable_named frame n ≡ v → leads v ≡ None → leads (Some w) ≡ None
    → KeepsLinks frame (with frame n w)
keeps-put frame n None w is ends led = keeps-new frame (with frame n w) n w led is refl
keeps-put frame n (Some v) w is ends led = keeps-through frame n v w is (led ∙ sym ends)

pub writes : (old new : List Frame) (place : Place) (text : List ℕ) (answer : Written) → Sound old → place.frame < length old → Writes old place text new answer
    → Stays old new
writes old new place text answer sound lt written = at_place written.0 written.1 written.2
  where
    made : (t : Place) → StandsFor old place (Some t) → (r : Result Variable VarFault) → variable_after_write (at old t) t.index text ≡ r
        → Puts (result_of (λ variable. with_frame old t.frame (with (frame_at old t.frame) t.name variable)) r) old new answer → Stays old new
    made t s (Err fault) is puts = same old new sound puts.1
    made t s (Ok w) is puts =
        let lower = stands-lower old sound.ends s in
        subst (Stays old) (sym puts.1)
        (put old t.frame (with (frame_at old t.frame) t.name w) sound (omega (arith, lower, lt))
        (keeps-put (frame_at old t.frame) t.name (at old t) w refl (stands-end old s) (plain (at old t) t.index text w is))
        (once-with (frame_at old t.frame) t.name w (sound.once t.frame)))

    at_place : (stands : Option Place) → StandsFor old place stands → Puts (frames_after_write old stands text) old new answer → Stays old new
    at_place None s puts = same old new sound puts.1
    at_place (Some t) s puts = made t s (variable_after_write (at old t) t.index text) refl puts

-- ---- removing ----

pub record Loses (old new : Frame) : Type 0 where
  pub keeps : KeepsLinks old new
  pub once : Once new

loses : (fault : VarFault) (frame : Frame) (n : Name) (v : Option Variable) (index : Option Name) (new : Frame) → Once frame → variable_named frame n ≡ v
    → frame_after_removal fault frame n v index ≡ Ok new → Loses frame new
loses fault frame n None index new once is made = absurd (err_is_ok made)
loses fault frame n (Some (Scalar text)) None new once is made =
    subst (Loses frame) (same_ok made) (record { keeps = keeps-gone frame n once; once = once-without frame n once })
loses fault frame n (Some (Scalar text)) (Some index) new once is made = absurd (err_is_ok made)
loses fault frame n (Some (Array elements)) None new once is made =
    subst (Loses frame) (same_ok made) (record { keeps = keeps-gone frame n once; once = once-without frame n once })
loses fault frame n (Some (Link to)) index new once is made = absurd (err_is_ok made)
loses fault frame n (Some (Array elements)) (Some index) new once is made = by (lookup (bytes_eq index) elements) made
  where
    by : (r : Option (List ℕ)) → without_element frame n elements index r ≡ Ok new → Loses frame new
    by None made = absurd (err_is_ok made)
    by (Some text) made =
        subst (Loses frame) (same_ok made) (record {
          keeps = keeps-put frame n (Some (Array elements)) (Array (remove_entry (bytes_eq index) elements)) is refl refl;
          once = once-with frame n (Array (remove_entry (bytes_eq index) elements)) once;
        })

pub removes : {X : Type 0} (old new : List Frame) (place : Place) (answer : Result X VarFault) → Sound old → place.frame < length old
    → Removes old place new answer → Stays old new
removes {X} old new place answer sound lt removed = at_place removed.0 removed.1 removed.2
  where
    made : (t : Place) → StandsFor old place (Some t) → (r : Result Frame VarFault)
        → frame_after_removal (missing place.index t.index) (frame_at old t.frame) t.name (at old t) t.index ≡ r
        → Removed (result_of (with_frame old t.frame) r) old new answer → Stays old new
    made t s (Err fault) is gone = same old new sound gone.1
    made t s (Ok frame) is gone =
        let lower = stands-lower old sound.ends s in
        let lost = loses (missing place.index t.index) (frame_at old t.frame) t.name (at old t) t.index frame (sound.once t.frame) refl is in
        subst (Stays old) (sym gone.1) (put old t.frame frame sound (omega (arith, lower, lt)) lost.keeps lost.once)

    at_place : (stands : Option Place) → StandsFor old place stands → Removed (frames_after_removal old place.index stands) old new answer → Stays old new
    at_place None s gone = same old new sound gone.1
    at_place (Some t) s gone =
        made t s (frame_after_removal (missing place.index t.index) (frame_at old t.frame) t.name (at old t) t.index) refl gone

-- ---- linking ----

pub links : (old new : List Frame) (frame : ℕ) (name : Name) (other : Place) (answer : Linked) → Sound old → frame < length old → other.frame ≤ frame
    → Links old frame name other new answer → Stays old new
links old new frame name other answer sound lt lower linked = by answer linked.4 linked.5
  where
    by : (told : Linked) → told ≡ link_answer old frame name linked.0 linked.1 → new ≡ frames_after_link told old frame name linked.1 → Stays old new
    by answers.Exists is made = same old new sound made
    by answers.Itself is made = same old new sound made
    by answers.Yes is made = subst (Stays old) (sym made) (record {
      sound = record {
        ends = ends-linked old frame name linked.1 (with (frame_at old frame) name (Link linked.1)) sound.ends
            (can-link old frame name other linked.0 linked.1 sound.ends lower linked.2 linked.3 (sym is)) refl
            (λ q. named-with (frame_at old frame) name q (Link linked.1)
            ∙ ap (λ b. cond b (Some (Link linked.1)) (variable_named (frame_at old frame) q)) (nat_list_eq_equiv.symm q name)) lt;
        once = once-set old frame (with (frame_at old frame) name (Link linked.1)) sound.once lt
            (once-with (frame_at old frame) name (Link linked.1) (sound.once frame));
      };
      counted = length-set old frame (with (frame_at old frame) name (Link linked.1));
    })
