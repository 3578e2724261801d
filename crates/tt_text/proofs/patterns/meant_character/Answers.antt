use Rattle.std.proofs.Common.{sym, ◌∙◌, ap}
use Rattle.tt_text.specs.Characters.{characters}
use Rattle.tt_text.proofs.GlobLemmas.{is_this, is_other, escape_means, lone_means, ordinary_means}
use Rattle.tt_text.proofs.patterns.meant_character.Goals as goal

pub returns-then-not-is_byte-clause-means : goal.returns-then-not-is_byte-clause-means
returns-then-not-is_byte-clause-means c =
    ordinary_means c.args.first.now (characters c.args.rest.now) (record {
      no_run = c.requires.no_run;
      no_any = c.requires.no_any;
      no_set = c.requires.no_set;
      no_escape = is_other c.args.first.now 92 (sym c.is_byte.ensures ∙ c.if-not-is_byte.true);
    })

pub returns-in-Some-clause-means : goal.returns-in-Some-clause-means
returns-in-Some-clause-means c =
    rw c.in-Some.ensures.cases
    (escape_means c.args.first.now c.in-Some.escaped.now (characters c.in-Some.after.now)
    (is_this c.args.first.now 92 (sym c.is_byte.ensures ∙ c.if-not-is_byte.false)))

pub returns-in-None-clause-means : goal.returns-in-None-clause-means
returns-in-None-clause-means c =
    lone_means c.args.first.now (characters c.args.rest.now) (is_this c.args.first.now 92 (sym c.is_byte.ensures ∙ c.if-not-is_byte.false))
    (ap characters c.in-None.ensures.cases)
