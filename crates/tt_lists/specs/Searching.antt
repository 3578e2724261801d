-- The search of a list for items that match (lsearch(n)).
use Rattle.std.specs.Prelude.{ℕ, ◌+◌, Bool, not, bytes_eq, if◌then◌else◌, List, [], ◌∷◌, codes, decimal}
use Rattle.tt_text.specs.Characters.{characters}
use Rattle.tt_text.specs.GlobFunction.{is_match}
use Rattle.tt_lists.specs.Commands.{for_items}
use Rattle.tt_lists.specs.Spelling.{list_of}
use Rattle.tt_lists.specs.declared.answer.ListAnswer.{ListAnswer}
use Rattle.tt_lists.specs.declared.answer.ListAnswer.TheVariants.{Made}
use Rattle.tt_lists.specs.declared.searching.Matching.{Matching}
use Rattle.tt_lists.specs.declared.searching.Matching.TheVariants.{Exact, Glob}
use Rattle.tt_lists.specs.declared.searching.Search.{Search}
use Rattle.tt_lists.specs.Reading.{split_of}

-- an item matches a pattern: `-exact` and `-glob`
abbrev pub is_alike : Matching → (pattern item : List ℕ) → Bool
is_alike Exact pattern item = bytes_eq item pattern
is_alike Glob pattern item = is_match (characters pattern) (characters item)

-- an item is wanted: it matches, and with `-not` it does not
abbrev pub is_wanted : Search → (pattern item : List ℕ) → Bool
is_wanted search pattern item =
    if search.not then not (is_alike search.matching pattern item) else is_alike search.matching pattern item

-- what is reported of an item that is wanted: its place, and with `-inline` the item
abbrev pub report_of : Search → (place : ℕ) → (item : List ℕ) → List ℕ
report_of search place item = if search.inline then item else decimal place

-- what is reported of items, the first of which stands at this place: of each that is wanted, in their order, and
-- without `-all` of the first one only
abbrev pub reports_from : Search → (pattern : List ℕ) → (place : ℕ) → List (List ℕ) → List (List ℕ)
reports_from search pattern place [] = []
reports_from search pattern place (item ∷ items) =
    if not (is_wanted search pattern item) then reports_from search pattern (place + 1) items else
    if search.all then report_of search place item ∷ reports_from search pattern (place + 1) items else
    report_of search place item ∷ []

-- what is reported of the first item: if there is none, -1, and with `-inline` the empty text
abbrev pub first_report : Search → List (List ℕ) → List ℕ
first_report search [] = if search.inline then [] else codes "-1"
first_report search (report ∷ later) = report

-- the answer: with `-all` a list
abbrev pub search_result : Search → List (List ℕ) → List ℕ
search_result search reports = if search.all then list_of reports else first_report search reports

-- the answer of a search of a list
abbrev pub search_answer : Search → (list pattern : List ℕ) → ListAnswer
search_answer search list pattern =
    for_items (λ items. Made (search_result search (reports_from search pattern 0 items))) (split_of list)
