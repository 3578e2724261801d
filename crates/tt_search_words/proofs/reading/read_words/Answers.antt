use Rattle.tt_search_words.proofs.ReadingLemmas.{asks_nothing, reading_found, twice_nothing}
use Rattle.tt_search_words.proofs.reading.read_words.Goals as goal

pub returns-in_default : goal.returns-in_default
returns-in_default c = asks_nothing _ (rw c.in_default.is at c.in_ok-parts.ensures)

pub returns-in_default-read_values : goal.returns-in_default-read_values
returns-in_default-read_values c =
    twice_nothing _ c.in-Some.parts (rw c.in-Some.is at c.in_ok-parts.ensures) _ c.as_slice.ensures.value
    c.in_default-read_values.ensures.none

pub returns : goal.returns
returns c =
    reading_found _ c.in-Some.parts (rw c.in-Some.is at c.in_ok-parts.ensures) _ c.as_slice.ensures.value
    c.in-Some-read_values.values c.in-Some-read_values.ensures.found c.in-Some-read_values.ensures.once
    c.read_search-asked.result c.read_search-asked.ensures.found c.read_search-asked.ensures.none
