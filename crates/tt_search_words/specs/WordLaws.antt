-- Laws of the reading of command lines.
use Rattle.std.specs.Prelude.{◌≡◌, ℕ, List}
use Rattle.tt_search_words.specs.Asked.{Search, WordsAskFor}

-- words ask for one search at most
abbrev pub OneReadingLaw : Type 0
OneReadingLaw =
    (words : List (List ℕ)) (one other : Search) → WordsAskFor words one → WordsAskFor words other → one ≡ other
