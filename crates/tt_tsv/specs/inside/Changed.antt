-- What a change of an element leaves: words of the code's own contracts.
use Rattle.std.specs.Prelude.{ℕ, List, Option, Some, None, bytes_eq}
use Rattle.indexmap.specs.IndexMap.{insert_entry}
use Rattle.tt_calls.specs.declared.reply.Reply.{Reply}
use Rattle.tt_calls.specs.declared.reply.Reply.TheVariants.{Value}
use Rattle.tt_tsv.specs.Arrays.{Pairs, Table, table_with_change, with_array, with_element, without_element}
use Rattle.tt_tsv.specs.Calls.{list_reply}
use Rattle.tt_tsv.specs.declared.change.Change.{Change}
use Rattle.tt_tsv.specs.declared.change.Change.TheVariants.{Kept, Put, Removed}

-- the value of an element; one that is to be removed is as it was until it is
abbrev pub value_left : Change → (value : List ℕ) → List ℕ
value_left (Kept answer) value = value
value_left (Put new answer) value = new
value_left (Removed answer) value = value

-- the elements
abbrev pub elements_left : (key : List ℕ) → Option Change → Pairs → Pairs
elements_left key None elements = elements
elements_left key (Some (Kept answer)) elements = elements
elements_left key (Some (Put value answer)) elements = insert_entry bytes_eq elements key value
elements_left key (Some (Removed answer)) elements = elements

-- the arrays
abbrev pub table_left : Table → (name key : List ℕ) → Option Change → Table
table_left table name key None = table
table_left table name key (Some (Kept answer)) = table
table_left table name key (Some (Put value answer)) = with_array (with_element key value) table name
table_left table name key (Some (Removed answer)) = table

-- the arrays once an element is gone that is to be removed
abbrev pub table_ended : Table → (name key : List ℕ) → Change → Table
table_ended table name key (Kept answer) = table
table_ended table name key (Put value answer) = table
table_ended table name key (Removed answer) = table_with_change (without_element key) table name

-- what is answered
abbrev pub reply_of : Change → Reply
reply_of (Kept answer) = list_reply answer
reply_of (Put value answer) = Value answer
reply_of (Removed answer) = Value answer
