use Rattle.std.proofs.Common.{sym, ◌∙◌}
use Rattle.tt_text.specs.Characters.{characters}
use Rattle.tt_text.proofs.GlobLemmas.{is_this, any_takes, set_answer}
use Rattle.tt_text.proofs.patterns.after_character.Goals as goal

pub returns-then-is_byte-clause-cases : goal.returns-then-is_byte-clause-cases
returns-then-is_byte-clause-cases c =
    rw c.in_ok-first.ensures.cases
    (any_takes c.in_ok-first.first.now c.args.character.now (characters c.in_ok-first.rest.now)
    (is_this c.in_ok-first.first.now 63 (sym c.is_byte.ensures ∙ c.if-is_byte.true)))

pub returns-then-is_listed-clause-cases : goal.returns-then-is_listed-clause-cases
returns-then-is_listed-clause-cases c =
    rw c.in_ok-first.ensures.cases
    (set_answer c.after_set.result c.in_ok-first.first.now c.args.character.now (characters c.in_ok-first.rest.now)
    (is_this c.in_ok-first.first.now 91 (sym c.is_byte-2.ensures ∙ c.if-is_byte-2.true))
    (sym c.is_listed.ensures ∙ c.if-is_listed.true) c.after_set.ensures.cases)
