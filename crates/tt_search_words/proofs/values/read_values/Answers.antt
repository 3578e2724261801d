use Rattle.std.proofs.Common.{map}
use Rattle.tt_search_words.specs.CodeValues.{choice_as_text}
use Rattle.tt_search_words.specs.declared.setting.Setting.TheVariants.{Runs, Seed, Switches, Steps}
use Rattle.tt_search_words.specs.declared.setting.Setting.TheVariants.{Limit, Workers, Differ, Record}
use Rattle.tt_search_words.proofs.ReadingLemmas.{each_once, not_once}
use Rattle.tt_search_words.proofs.values.read_values.Goals as goal

pub returns-in_err-value-clause-none : goal.returns-in_err-value-clause-none
returns-in_err-value-clause-none c =
    not_once c.from_residual.result (map choice_as_text c.args.options.now) Runs
    c.in_err-value.ensures.none

pub returns-in_err-value-2-clause-none : goal.returns-in_err-value-2-clause-none
returns-in_err-value-2-clause-none c =
    not_once c.from_residual-in_err-value-2.result (map choice_as_text c.args.options.now) Seed
    c.in_err-value-2.ensures.none

pub returns-in_err-value-3-clause-none : goal.returns-in_err-value-3-clause-none
returns-in_err-value-3-clause-none c =
    not_once c.from_residual-in_err-value-3.result (map choice_as_text c.args.options.now) Switches
    c.in_err-value-3.ensures.none

pub returns-in_err-value-4-clause-none : goal.returns-in_err-value-4-clause-none
returns-in_err-value-4-clause-none c =
    not_once c.from_residual-in_err-value-4.result (map choice_as_text c.args.options.now) Steps
    c.in_err-value-4.ensures.none

pub returns-in_err-value-5-clause-none : goal.returns-in_err-value-5-clause-none
returns-in_err-value-5-clause-none c =
    not_once c.from_residual-in_err-value-5.result (map choice_as_text c.args.options.now) Limit
    c.in_err-value-5.ensures.none

pub returns-in_err-value-6-clause-none : goal.returns-in_err-value-6-clause-none
returns-in_err-value-6-clause-none c =
    not_once c.from_residual-in_err-value-6.result (map choice_as_text c.args.options.now) Workers
    c.in_err-value-6.ensures.none

pub returns-in_err-value-7-clause-none : goal.returns-in_err-value-7-clause-none
returns-in_err-value-7-clause-none c =
    not_once c.from_residual-in_err-value-7.result (map choice_as_text c.args.options.now) Differ
    c.in_err-value-7.ensures.none

pub returns-in_err-value-8-clause-none : goal.returns-in_err-value-8-clause-none
returns-in_err-value-8-clause-none c =
    not_once c.from_residual-in_err-value-8.result (map choice_as_text c.args.options.now) Record
    c.in_err-value-8.ensures.none

pub returns-clause-once : goal.returns-clause-once
returns-clause-once c =
    each_once (map choice_as_text c.args.options.now) c.in_ok-value.ensures.once c.in_ok-value-2.ensures.once
    c.in_ok-value-3.ensures.once c.in_ok-value-4.ensures.once c.in_ok-value-5.ensures.once c.in_ok-value-6.ensures.once
    c.in_ok-value-7.ensures.once c.in_ok-value-8.ensures.once
