-- How lists and indices that can't be read are reported (Tcl(n), lists; lindex(n)).
use Rattle.std.specs.Prelude.{ℕ, List, ◌++◌, codes}
use Rattle.tt_lists.specs.declared.items.ListFault.{ListFault}
use Rattle.tt_lists.specs.declared.items.ListFault.TheVariants.{OpenBrace, OpenQuote, AfterBrace, AfterQuote}

-- why a text is no list (Tcl(n), lists)
abbrev pub list_message : ListFault → List ℕ
list_message OpenBrace = codes "unmatched open brace in list"
list_message OpenQuote = codes "unmatched open quote in list"
list_message (AfterBrace next) = codes "list element in braces followed by \"" ++ (next ++ codes "\" instead of space")
list_message (AfterQuote next) = codes "list element in quotes followed by \"" ++ (next ++ codes "\" instead of space")

-- that a text is no index (lindex(n))
abbrev pub bad_index_message : List ℕ → List ℕ
bad_index_message text =
    codes "bad index \"" ++ (text ++ codes "\": must be integer?[+-]integer? or end?[+-]integer?")
