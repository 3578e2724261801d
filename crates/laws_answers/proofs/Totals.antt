-- What always comes to something, and keeps links out of circles and frames nested.
use Rattle.std.proofs.Common.{◌≡◌, refl, sym, subst}
use Rattle.laws_answers.proofs.Frames.{Sound}
use Rattle.laws_answers.proofs.Nesting.{nested-frames}
use Rattle.laws_answers.proofs.Written.{Stays}
use Rattle.tt_store.specs.Held.{Held}
use Rattle.tt_store.specs.Levels.{IsNested, with_frames}

pub record Good (held : Held) : Type 0 where
  pub sound : Sound held.levels.frames
  pub nested : IsNested held.levels

-- something comes of it, and whatever comes of it is good
pub record Total {X : Type 0} (Does : X → Held → Type 0) : Type 0 where
  pub gives : (x : X) × (new : Held) × Does x new
  pub keeps : (x : X) (new : Held) → Does x new → Good new

-- other frames that are as sound
pub good-frames : (old new : Held) → Good old → Stays old.levels.frames new.levels.frames → new.levels ≡ with_frames old.levels new.levels.frames → Good new
good-frames old new good stays is = record {
  sound = stays.sound;
  nested = subst IsNested (sym is) (nested-frames old.levels new.levels.frames good.nested stays.counted);
}

-- nothing changes
pub same : {X : Type 0} (old : Held) (x : X) → Good old → Total (λ y new. (y ≡ x) × (new ≡ old))
same old x good = record {
  gives = (x, old, (refl, refl));
  keeps = λ y new is. subst Good (sym is.1) good;
}

-- something that is found, and nothing changes
pub found : {X : Type 0} {P : X → Type 0} (old : Held) → Good old → (x : X) × P x → Total (λ y new. P y × (new ≡ old))
found old good some = record {
  gives = (some.0, old, (some.1, refl));
  keeps = λ y new is. subst Good (sym is.1) good;
}

-- what is reported of it
pub told : {W X : Type 0} {Does : W → Held → Type 0} (tell : W → X) → Total Does → Total (λ x new. (w : W) × Does w new × (x ≡ tell w))
told tell total = record {
  gives = (tell total.gives.0, total.gives.1, (total.gives.0, total.gives.2, refl));
  keeps = λ x new is. total.keeps is.0 new is.1;
}

-- what comes of something that is found first
pub after : {A X : Type 0} {P : A → Type 0} {Does : A → X → Held → Type 0} → (a : A) × P a → ((a : A) → P a → Total (Does a))
    → Total (λ x new. (a : A) × P a × Does a x new)
after some each =
    let total = each some.0 some.1 in record {
      gives = (total.gives.0, total.gives.1, (some.0, some.1, total.gives.2));
      keeps = λ x new is. (each is.0 is.1).keeps x new is.2;
    }

-- what is held is something else
pub becomes : {X : Type 0} (x : X) (next : Held) → Good next → Total (λ y new. (y ≡ x) × (new ≡ next))
becomes x next good = same next x good

-- what is reported of something that is found, and nothing changes
pub reported : {A X : Type 0} {P : A → Type 0} (old : Held) → Good old → (tell : A → X) → (a : A) × P a
    → Total (λ x new. (a : A) × P a × (x ≡ tell a) × (new ≡ old))
reported old good tell some = record {
  gives = (tell some.0, old, (some.0, some.1, refl, refl));
  keeps = λ x new is. subst Good (sym is.3) good;
}
