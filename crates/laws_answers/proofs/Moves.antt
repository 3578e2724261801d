-- Links lead in no circle when frames come and go.
use Rattle.std.proofs.Common.{◌≡◌, ◌⊎◌, inl, inr, ℕ, zero, suc, ◌<◌, List, [], ◌∷◌, ◌++◌, Some, take, refl, ap, sym, subst, ◌∙◌}
use Rattle.laws_answers.proofs.Frames.{Once, Sound}
use Rattle.tt_vars.proofs.FrameLemmas.{none_is_some}
use Rattle.tt_vars.specs.Links.{frame_at}
use Rattle.tt_vars.specs.Variables.{Frame, Name, leads, variable_named}
use Rattle.tt_vars.specs.declared.variable.Place.{Place}
use Rattle.tt_vars.specs.inside.Ending.{LeadsOn, rank}

-- each frame is the same, or has no names
pub fewer : (old new : List Frame) → Sound old → ((i : ℕ) → (frame_at new i ≡ frame_at old i) ⊎ (frame_at new i ≡ [])) → Sound new
fewer old new sound each = record {
  ends = λ frame name to h. leads_on frame name to h (each frame);
  once = λ i. once i (each i);
}
  where
    leads_on : (frame : ℕ) (name : Name) (to : Place) → leads (variable_named (frame_at new frame) name) ≡ Some (Some to)
        → (frame_at new frame ≡ frame_at old frame) ⊎ (frame_at new frame ≡ []) → LeadsOn new frame name to
    leads_on frame name to h (inr none) = absurd (none_is_some (ap (λ f. leads (variable_named f name)) (sym none) ∙ h))
    leads_on frame name to h (inl same) =
        let was = sound.ends frame name to (ap (λ f. leads (variable_named f name)) (sym same) ∙ h) in record {
          within = was.within;
          later = λ s next g. subst (λ f. rank name f < rank to.name f) (sym same)
              (was.later s next (ap (λ f. leads (variable_named f to.name)) (ap (frame_at old) s ∙ sym same ∙ ap (frame_at new) (sym s)) ∙ g));
        }

    once : (i : ℕ) → (frame_at new i ≡ frame_at old i) ⊎ (frame_at new i ≡ []) → Once (frame_at new i)
    once i (inl same) = subst Once (sym same) (sound.once i)
    once i (inr none) = subst Once (sym none) tt

one-more : (frames : List Frame) (i : ℕ) → frame_at (frames ++ [] ∷ []) i ≡ frame_at frames i
one-more [] zero = refl
one-more [] (suc i) = refl
one-more (frame ∷ frames) zero = refl
one-more (frame ∷ frames) (suc i) = one-more frames i

pub sound-push : (frames : List Frame) → Sound frames → Sound (frames ++ [] ∷ [])
sound-push frames sound = fewer frames (frames ++ [] ∷ []) sound (λ i. inl (one-more frames i))

first-ones : (n : ℕ) (frames : List Frame) (i : ℕ) → (frame_at (take n frames) i ≡ frame_at frames i) ⊎ (frame_at (take n frames) i ≡ [])
first-ones zero frames i = inr refl
first-ones (suc n) [] i = inl refl
first-ones (suc n) (frame ∷ frames) zero = inl refl
first-ones (suc n) (frame ∷ frames) (suc i) = first-ones n frames i

pub sound-take : (n : ℕ) (frames : List Frame) → Sound frames → Sound (take n frames)
sound-take n frames sound = fewer frames (take n frames) sound (first-ones n frames)

pub sound-nothing : Sound ([] ∷ [])
sound-nothing = record {
  ends = λ frame name to h. absurd (none_is_some (ap (λ f. leads (variable_named f name)) (sym (empty frame)) ∙ h));
  once = λ i. subst Once (sym (empty i)) tt;
}
  where
    empty : (i : ℕ) → frame_at ([] ∷ []) i ≡ []
    empty zero = refl
    empty (suc i) = refl
