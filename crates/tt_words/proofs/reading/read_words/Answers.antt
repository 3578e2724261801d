use Rattle.std.proofs.Common.{◌∙◌}
use Rattle.tt_words.proofs.ReadingLemmas.{once_back, once_is, once_of, reading_is, values_are}
use Rattle.tt_words.proofs.reading.read_words.Goals as goal

pub returns-in_default-read_values : goal.returns-in_default-read_values
returns-in_default-read_values c = λ asked reads.
    let parts = rw c.in-Some.is at c.in_ok-matches.ensures in
    c.in_default-read_values.ensures.none (once_back _ _ parts (once_of _ _ _ asked parts.splits reads))

pub returns : goal.returns
returns c =
    let parts = rw c.in-Some.is at c.in_ok-matches.ensures in
    let values = c.in-Some-read_values.ensures.found ∙ values_are _ _ parts in
    let words = c.in_ok-ordinary.ensures ∙ parts.of_words in
    reading_is _ parts.options parts.ordinary parts.splits (once_is _ _ parts c.in-Some-read_values.ensures.once)
    c.asked_by-asked.result (rw (values, words) at c.asked_by-asked.ensures.found)
    (rw (values, words) at c.asked_by-asked.ensures.none)
