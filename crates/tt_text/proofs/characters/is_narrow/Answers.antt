use Rattle.std.proofs.Common.{rules}
use Rattle.tt_text.proofs.NarrowLemmas.{first_begins, first_continues, none_narrow}
use Rattle.tt_text.proofs.characters.is_narrow.Goals as goal

pub returns-then-not-continues_character : goal.returns-then-not-continues_character
returns-then-not-continues_character c =
    first_begins c.args.text.now c.in-Some.field-0-1.now c.in-Some.first.now c.char_count.result (search rules) (search rules) (search rules)

pub returns-else-not-continues_character : goal.returns-else-not-continues_character
returns-else-not-continues_character c = search (first_continues, rules)

pub returns-in-None : goal.returns-in-None
returns-in-None c = search (none_narrow, rules)
