-- Commands on single variables, and pure ones, always come to something.
use Rattle.std.proofs.Common.{◌≡◌, ◌<◌, length, ℕ, Bool, true, false, List, [], ◌∷◌, bytes_eq, codes, refl}
use Rattle.laws_answers.proofs.Listed.{lappend_total, lassign_total}
use Rattle.laws_answers.proofs.Nesting.{nested-script}
use Rattle.laws_answers.proofs.Scalars.{append_total, incr_total, refuses, set_total, unset_total}
use Rattle.laws_answers.proofs.Tables.{found_row, no_more, row}
use Rattle.laws_answers.proofs.Totals.{Good, Total, becomes, reported, same, told}
use Rattle.laws_answers.specs.Pure.{PureAnswersLaw}
use Rattle.tt_calls.specs.Outcomes.{error_outcome, fine}
use Rattle.tt_calls.specs.Usages.{bad_option, wrong_number}
use Rattle.tt_list_commands.specs.Concatenating.{concatenation}
use Rattle.tt_outcomes.specs.declared.want.Body.TheVariants as body
use Rattle.tt_pure.specs.Table as pure
use Rattle.tt_script.specs.Names.{plain_name}
use Rattle.tt_store.specs.Commands.{IsCommand, IsPure, PackageBy, Runs, commands, eval, flush, package_answer, package_require, row_of, version_of}
use Rattle.tt_store.specs.Held.{Held, with_levels}
use Rattle.tt_store.specs.Levels.{with_script_in}
use Rattle.tt_store.specs.declared.answers.Answer.TheVariants as answers

-- a script begins in a frame that is there
pub good-script : (frame : ℕ) (held : Held) → Good held → frame < length held.levels.frames → Good (with_levels held (with_script_in frame held.levels))
good-script frame held good there = record { sound = good.sound; nested = nested-script held.levels frame good.nested there }

pub eval_total : (usage : List ℕ) (words : List (List ℕ)) (old : Held) → Good old → Total (λ answer new. eval usage words old answer new)
eval_total usage [] old good = same old (answers.Outcome (error_outcome (wrong_number usage))) good
eval_total usage (word ∷ words) old good =
    becomes (answers.Body body.Plain (concatenation (word ∷ words))) (with_levels old (with_script_in old.levels.current old.levels))
    (good-script old.levels.current old good good.nested.there)

flush_total : (usage : List ℕ) (words : List (List ℕ)) (old : Held) → Good old → Total (λ outcome new. flush usage words old outcome new)
flush_total usage [] old good = refuses usage old good
flush_total usage (channel ∷ []) old good = same old (fine []) good
flush_total usage (channel ∷ next ∷ words) old good = refuses usage old good

package_by : (known : Bool) (usage word : List ℕ) (words : List (List ℕ)) (old : Held) → Good old
    → Total (λ outcome new. PackageBy known usage word words old outcome new)
package_by false usage word words old good = same old (error_outcome (bad_option word)) good
package_by true usage word [] old good = refuses usage old good
package_by true usage word (name ∷ []) old good = same old (package_answer name (version_of name)) good
package_by true usage word (name ∷ version ∷ []) old good = same old (package_answer name (version_of name)) good
package_by true usage word (name ∷ version ∷ next ∷ words) old good = refuses usage old good

package_total : (usage : List ℕ) (words : List (List ℕ)) (old : Held) → Good old → Total (λ outcome new. package_require usage words old outcome new)
package_total usage [] old good = refuses usage old good
package_total usage (word ∷ words) old good = package_by (bytes_eq word (codes "require")) usage word words old good

module _ (pures : PureAnswersLaw) where
  pure_total : (name : List ℕ) (words : List (List ℕ)) (old : Held) → Good old → (known : Bool) → pure.is_pure name ≡ known
      → Total (λ answer new. IsPure known name words old answer new)
  pure_total name words old good false is = same old answers.Other good
  pure_total name words old good true is = reported old good answers.Outcome (pures name words is)

  pub store_total : (words : List (List ℕ)) (old : Held) → Good old → Total (λ answer new. Runs words old answer new)
  store_total [] old good = same old (answers.Outcome (fine [])) good
  store_total (word ∷ words) old good =
      let name = plain_name word in
      found_row (λ command. Total (λ answer new. IsCommand command name words old answer new))
      (λ command. (usage : List ℕ) → Total (λ answer new. (row_of command).meaning usage words old answer new))
      (λ command. bytes_eq name (row_of command).name) commands (pure_total name words old good (pure.is_pure name) refl)
      (λ command total. total (row_of command).usage)
      (row (λ usage. told answers.Outcome (set_total usage words old good))
      (row (λ usage. told answers.Outcome (unset_total usage words old good))
      (row (λ usage. told answers.Outcome (incr_total usage words old good))
      (row (λ usage. told answers.Outcome (append_total usage words old good))
      (row (λ usage. told answers.Outcome (lappend_total usage words old good))
      (row (λ usage. told answers.Outcome (lassign_total usage words old good))
      (row (λ usage. eval_total usage words old good)
      (row (λ usage. told answers.Outcome (package_total usage words old good))
      (row (λ usage. told answers.Outcome (flush_total usage words old good))
      no_more)))))))))
