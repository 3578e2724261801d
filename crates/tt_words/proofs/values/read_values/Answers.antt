use Rattle.tt_words.specs.inside.Program.{bare}
use Rattle.tt_words.specs.inside.Matches.{given_in}
use Rattle.tt_words.specs.declared.setting.Setting.TheVariants.{Workers, Steps, Limit, Record, Replay}
use Rattle.tt_words.specs.declared.setting.Setting.TheVariants.{Generate, Waits, Races, Debug}
use Rattle.tt_words.proofs.ReadingLemmas.{not_once}
use Rattle.tt_words.proofs.values.read_values.Goals as goal

pub returns-in_err-value-clause-none : goal.returns-in_err-value-clause-none
returns-in_err-value-clause-none c =
    not_once c.from_residual.result (λ setting. given_in c.args.matches.now (bare setting)) Workers c.in_err-value.ensures.none

pub returns-in_err-value-2-clause-none : goal.returns-in_err-value-2-clause-none
returns-in_err-value-2-clause-none c =
    not_once c.from_residual-in_err-value-2.result (λ setting. given_in c.args.matches.now (bare setting)) Steps c.in_err-value-2.ensures.none

pub returns-in_err-value-3-clause-none : goal.returns-in_err-value-3-clause-none
returns-in_err-value-3-clause-none c =
    not_once c.from_residual-in_err-value-3.result (λ setting. given_in c.args.matches.now (bare setting)) Limit c.in_err-value-3.ensures.none

pub returns-in_err-value-4-clause-none : goal.returns-in_err-value-4-clause-none
returns-in_err-value-4-clause-none c =
    not_once c.from_residual-in_err-value-4.result (λ setting. given_in c.args.matches.now (bare setting)) Record c.in_err-value-4.ensures.none

pub returns-in_err-value-5-clause-none : goal.returns-in_err-value-5-clause-none
returns-in_err-value-5-clause-none c =
    not_once c.from_residual-in_err-value-5.result (λ setting. given_in c.args.matches.now (bare setting)) Replay c.in_err-value-5.ensures.none

pub returns-in_err-value-6-clause-none : goal.returns-in_err-value-6-clause-none
returns-in_err-value-6-clause-none c =
    not_once c.from_residual-in_err-value-6.result (λ setting. given_in c.args.matches.now (bare setting)) Generate c.in_err-value-6.ensures.none

pub returns-in_err-is_given-clause-none : goal.returns-in_err-is_given-clause-none
returns-in_err-is_given-clause-none c =
    not_once c.from_residual-in_err-is_given.result (λ setting. given_in c.args.matches.now (bare setting)) Waits c.in_err-is_given.ensures.none

pub returns-in_err-is_given-2-clause-none : goal.returns-in_err-is_given-2-clause-none
returns-in_err-is_given-2-clause-none c =
    not_once c.from_residual-in_err-is_given-2.result (λ setting. given_in c.args.matches.now (bare setting)) Races c.in_err-is_given-2.ensures.none

pub returns-in_err-value-7-clause-none : goal.returns-in_err-value-7-clause-none
returns-in_err-value-7-clause-none c =
    not_once c.from_residual-in_err-value-7.result (λ setting. given_in c.args.matches.now (bare setting)) Debug c.in_err-value-7.ensures.none
