-- One setting more of a list of them.
use Rattle.std.proofs.Common.{◌≡◌, ℕ, List, ◌∷◌, Option, Some, refl, sym, ap, ◌∙◌}
use Rattle.tt_threads.specs.Requests.{with_setting, with_settings}
use Rattle.tt_threads.specs.declared.configure.Settings.{Settings}

pub after_one : (rest later left : List (List ℕ)) (name value : List ℕ) (now next : Settings) (all : Option Settings) → rest ≡ name ∷ later →
    later ≡ value ∷ left → with_setting name value now ≡ Some next → with_settings rest now ≡ all → with_settings left next ≡ all
after_one rest later left name value now next all one two set is =
    let whole : rest ≡ name ∷ value ∷ left = one ∙ ap (λ words. name ∷ words) two in
    let turn : with_settings (name ∷ value ∷ left) now ≡ with_settings left next = rw set refl in
    sym turn ∙ (ap (λ words. with_settings words now) (sym whole) ∙ is)
