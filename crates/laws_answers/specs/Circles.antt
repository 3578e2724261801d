-- What no thread keeps: links in a circle. To read them has no answer (upvar(n)).
use Rattle.std.specs.Prelude.{ℕ, [], ◌∷◌, None, Some, codes}
use Rattle.laws_pauses.specs.Threads.{MayKeep}
use Rattle.tt_kept.specs.Answering.{Answers}
use Rattle.tt_kept.specs.declared.kept.Kept.{Kept}
use Rattle.tt_kept.specs.declared.setup.Setup.{Setup}
use Rattle.tt_outcomes.specs.declared.got.Got.{Got}
use Rattle.tt_outcomes.specs.declared.want.Want.TheVariants.{ReadVar}
use Rattle.tt_store.specs.Held.{nothing_held, with_levels}
use Rattle.tt_store.specs.Levels.{global_level, with_frames}
use Rattle.tt_vars.specs.Links.{place_of}
use Rattle.tt_vars.specs.Variables.{Frame}
use Rattle.tt_vars.specs.declared.variable.Variable.TheVariants.{Link}

-- two global names, each a link to the other one
abbrev pub circle : Frame
circle =
    (codes "a", Link (Some (place_of 0 (codes "b") None))) ∷ (codes "b", Link (Some (place_of 0 (codes "a") None))) ∷ []

-- what a thread would keep then
abbrev pub circle_kept : Kept
circle_kept = record {
  store = with_levels nothing_held (with_frames global_level (circle ∷ []));
  procedures = [];
}

-- reading one of them has no answer, and no thread may keep them
pub record CirclesLaw : Type 0 where
  pub unanswered : (got : Got) (new : Kept) → ¬ Answers (ReadVar (codes "a") None) circle_kept got new
  pub unkept : (setup : Setup) (me : ℕ) → ¬ MayKeep setup me circle_kept
