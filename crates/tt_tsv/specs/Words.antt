-- The words of commands on shared variables (tsv(n)): a table of usages, for each its name and how many words follow.
use Rattle.std.specs.Prelude.{ℕ, Bool, true, ◌&&◌, nat_le, bytes_eq, List, [], ◌∷◌, length, codes, Option, Some, None}
use Rattle.std.specs.Prelude.{if◌then◌else◌}
use Rattle.std.specs.List.{find}
use Rattle.std.specs.Option.{is_some, option_map}
use Rattle.tt_lists.specs.declared.searching.Matching.{Matching}
use Rattle.tt_lists.specs.declared.searching.Matching.TheVariants.{Exact, Glob}
use Rattle.tt_tsv.specs.declared.usage.ArrayUsage.TheVariants as array
use Rattle.tt_tsv.specs.declared.usage.ElementUsage.TheVariants as element
use Rattle.tt_tsv.specs.declared.usage.Usage.{Usage}
use Rattle.tt_tsv.specs.declared.usage.Usage.TheVariants.{Names, Find, Exists, Move, Array, Element}

-- a name, and the least and the most words after it
pub record Row : Type 0 where
  pub name : List ℕ
  pub least : ℕ
  pub most : Option ℕ

abbrev pub exactly : (name : List ℕ) → ℕ → Row
exactly name count = record { name = name; least = count; most = Some count }

abbrev pub between : (name : List ℕ) → (least most : ℕ) → Row
between name least most = record { name = name; least = least; most = Some most }

abbrev pub from : (name : List ℕ) → (least : ℕ) → Row
from name least = record { name = name; least = least; most = None }

-- the table; an array's own usages stand after `tsv::array`
abbrev pub row_of : Usage → Row
row_of Names = between (codes "tsv::names") 0 1  -- ?pattern?
row_of (Element element.Set) = exactly (codes "tsv::set") 3  -- a k v
row_of (Element element.Read) = exactly (codes "tsv::set") 2  -- a k
row_of (Element element.Get) = exactly (codes "tsv::get") 2  -- a k
row_of Find = exactly (codes "tsv::get") 3  -- a k var
row_of (Array array.Unset) = exactly (codes "tsv::unset") 1  -- a
row_of (Element element.Unset) = exactly (codes "tsv::unset") 2  -- a k
row_of (Array array.Exists) = exactly (codes "tsv::exists") 1  -- a
row_of Exists = exactly (codes "tsv::exists") 2  -- a k
row_of (Element element.Pop) = exactly (codes "tsv::pop") 2  -- a k
row_of Move = exactly (codes "tsv::move") 3  -- a k new
row_of (Element element.Incr) = between (codes "tsv::incr") 2 3  -- a k ?n?
row_of (Element element.Append) = from (codes "tsv::append") 2  -- a k ?v ...?
row_of (Element element.Lappend) = from (codes "tsv::lappend") 2  -- a k ?v ...?
row_of (Element element.Llength) = exactly (codes "tsv::llength") 2  -- a k
row_of (Element element.Lindex) = between (codes "tsv::lindex") 2 3  -- a k ?i?
row_of (Element element.Lrange) = exactly (codes "tsv::lrange") 4  -- a k i j
row_of (Element element.Lsearch) = exactly (codes "tsv::lsearch") 3  -- a k pattern
row_of (Element element.LsearchBy) = exactly (codes "tsv::lsearch") 4  -- a k mode pattern
row_of (Element element.Linsert) = from (codes "tsv::linsert") 3  -- a k i ?v ...?
row_of (Element element.Lreplace) = from (codes "tsv::lreplace") 4  -- a k i j ?v ...?
row_of (Element element.Lpush) = between (codes "tsv::lpush") 3 4  -- a k v ?i?
row_of (Element element.Lpop) = between (codes "tsv::lpop") 2 3  -- a k ?i?
row_of (Array array.Set) = exactly (codes "set") 2  -- a list
row_of (Array array.Get) = between (codes "get") 1 2  -- a ?pattern?
row_of (Array array.Names) = between (codes "names") 1 2  -- a ?pattern?
row_of (Array array.Size) = exactly (codes "size") 1  -- a
row_of (Array array.Reset) = exactly (codes "reset") 2  -- a list

abbrev pub usages : List Usage
usages =
    Names ∷ Element element.Set ∷ Element element.Read ∷ Element element.Get ∷ Find ∷ Array array.Unset ∷
    Element element.Unset ∷ Array array.Exists ∷ Exists ∷ Element element.Pop ∷ Move ∷ Element element.Incr ∷
    Element element.Append ∷ Element element.Lappend ∷ Element element.Llength ∷ Element element.Lindex ∷
    Element element.Lrange ∷ Element element.Lsearch ∷ Element element.LsearchBy ∷ Element element.Linsert ∷
    Element element.Lreplace ∷ Element element.Lpush ∷ Element element.Lpop ∷ []

-- those after `tsv::array`
abbrev pub array_usages : List Usage
array_usages =
    Array array.Set ∷ Array array.Get ∷ Array array.Names ∷ Array array.Size ∷ Array array.Reset ∷ []

-- the mode of tsv::lsearch
abbrev pub matching_of : (mode : List ℕ) → Option Matching
matching_of mode =
    if bytes_eq mode (codes "-exact") then Some Exact else
    if bytes_eq mode (codes "-glob") then Some Glob else None

abbrev pub has_mode : Usage → (words : List (List ℕ)) → Bool
has_mode (Element element.LsearchBy) (array ∷ key ∷ mode ∷ words) = is_some (matching_of mode)
has_mode usage words = true

-- so many words are as many as follow a name
abbrev pub is_most : Option ℕ → (count : ℕ) → Bool
is_most None count = true
is_most (Some most) count = nat_le count most

abbrev pub counts : Row → (count : ℕ) → Bool
counts row count = nat_le row.least count && is_most row.most count

abbrev pub fits : Usage → (name : List ℕ) → (words : List (List ℕ)) → Bool
fits usage name words =
    bytes_eq name (row_of usage).name && counts (row_of usage) (length words) && has_mode usage words

-- a usage, and the words after the name
abbrev pub Asked : Type 0
Asked = Usage × List (List ℕ)

abbrev pub first_fitting : List Usage → (name : List ℕ) → (words : List (List ℕ)) → Option Usage
first_fitting usages name words = find (λ usage. fits usage name words) usages

abbrev pub usage_among : List Usage → (name : List ℕ) → (words : List (List ℕ)) → Option Asked
usage_among usages name words = option_map (λ usage. (usage, words)) (first_fitting usages name words)

abbrev pub asked_after_array : (words : List (List ℕ)) → Option Asked
asked_after_array [] = None
asked_after_array (name ∷ words) = usage_among array_usages name words

-- the usage that words are of; none if no command asks them
abbrev pub usage_of_words : (words : List (List ℕ)) → Option Asked
usage_of_words [] = None
usage_of_words (name ∷ words) =
    if bytes_eq name (codes "tsv::array") then asked_after_array words else usage_among usages name words

-- the array that a command is on: all have one but tsv::names
abbrev pub array_among : Usage → (words : List (List ℕ)) → Option (List ℕ)
array_among Names words = None
array_among usage [] = None
array_among usage (array ∷ words) = Some array

abbrev pub array_in : Option Asked → Option (List ℕ)
array_in None = None
array_in (Some asked) = array_among asked.0 asked.1
