-- What calls on shared variables do, and when they wait (tsv(n)).
use Rattle.std.specs.Prelude.{ℕ, ◌%◌, ◌==◌, Bool, true, false, ◌&&◌, not, List, [], ◌∷◌, ◌++◌, length, codes, decimal}
use Rattle.std.specs.Prelude.{Option, Some, None, is_some, if◌then◌else◌}
use Rattle.std.specs.List.{filter, flat_map}
use Rattle.std.specs.Map.{keys_of}
use Rattle.std.specs.Option.{option_map}
use Rattle.tt_text.specs.Characters.{characters}
use Rattle.tt_text.specs.GlobFunction.{is_match}
use Rattle.tt_calls.specs.Replies as replies
use Rattle.tt_calls.specs.Replies.{Answered, answers, refuses}
use Rattle.tt_calls.specs.declared.reply.Reply.{Reply}
use Rattle.tt_calls.specs.declared.reply.Reply.TheVariants.{Go, Value, Refused, Found}
use Rattle.tt_calls.specs.declared.reply.Step.{Step}
use Rattle.tt_calls.specs.declared.tsv_call.TsvCall.{TsvCall}
use Rattle.tt_calls.specs.declared.tsv_call.TsvCall.TheVariants.{Hold, Unhold, Run}
use Rattle.tt_lists.specs.Messages.{list_message}
use Rattle.tt_lists.specs.Reading.{split_of}
use Rattle.tt_lists.specs.Spelling.{list_of}
use Rattle.tt_lists.specs.declared.answer.ListAnswer.{ListAnswer}
use Rattle.tt_lists.specs.declared.answer.ListAnswer.TheVariants.{Made, Bad}
use Rattle.tt_lists.specs.declared.items.Split.{Split}
use Rattle.tt_lists.specs.declared.items.Split.TheVariants as split
use Rattle.tt_tsv.specs.Arrays.{Pairs, Table, array_with_items, array_of, table_with_change, element_of}
use Rattle.tt_tsv.specs.Arrays.{array_without_elements, elements_of, array_with_hold, is_held}
use Rattle.tt_tsv.specs.Arrays.{is_held_by, array_without_hold, with_array, with_element, without_array}
use Rattle.tt_tsv.specs.Arrays.{without_element}
use Rattle.tt_tsv.specs.Elements.{change_if, missing_message}
use Rattle.tt_tsv.specs.Words.{Asked, array_in, usage_of_words}
use Rattle.tt_tsv.specs.declared.array.Array.{Array}
use Rattle.tt_tsv.specs.declared.change.Change.{Change}
use Rattle.tt_tsv.specs.declared.change.Change.TheVariants.{Kept, Put, Removed}
use Rattle.tt_tsv.specs.declared.usage.ArrayUsage.{ArrayUsage}
use Rattle.tt_tsv.specs.declared.usage.ArrayUsage.TheVariants as array
use Rattle.tt_tsv.specs.declared.usage.ElementUsage.{ElementUsage}
use Rattle.tt_tsv.specs.declared.usage.Usage.{Usage}
use Rattle.tt_tsv.specs.declared.usage.Usage.TheVariants as usage

-- ---- when a thread waits ----

-- the array that a call is on
abbrev pub array_asked : TsvCall → Option (List ℕ)
array_asked (Hold array) = Some array
array_asked (Unhold array) = Some array
array_asked (Run words) = array_in (usage_of_words words)

abbrev pub is_held_by_other : ℕ → Option Array → Bool
is_held_by_other t None = false
is_held_by_other t (Some array) = is_held array && not (is_held_by t array)

abbrev pub waits_for : Table → ℕ → Option (List ℕ) → Bool
waits_for table t None = false
waits_for table t (Some name) = is_held_by_other t (array_of table name)

-- a call waits while another thread holds its array
abbrev pub waits : Table → ℕ → TsvCall → Bool
waits table t call = waits_for table t (array_asked call)

-- ---- what a call does ----

-- the empty answer
abbrev pub empty_answer : Table → Answered Table
empty_answer table = answers table (Value [])

-- what a command on a list answers, as a reply
abbrev pub list_reply : ListAnswer → Reply
list_reply (Made text) = Value text
list_reply (Bad message) = Refused message

abbrev pub truth : Bool → List ℕ
truth is = if is then codes "1" else codes "0"

-- tsv::lock: a hold, which makes a missing array, and its end; an end of what the thread doesn't hold is none that a
-- command asks
abbrev pub holds : Table → ℕ → (name : List ℕ) → Answered Table
holds table t name = answers (with_array (array_with_hold t) table name) Go

abbrev pub is_own : ℕ → Option Array → Bool
is_own t None = false
is_own t (Some array) = is_held_by t array

abbrev pub unholds : Table → ℕ → (name : List ℕ) → Answered Table
unholds table t name =
    if is_own t (array_of table name)
    then answers (table_with_change array_without_hold table name) Go
    else refuses table []

-- ---- commands on an element ----

abbrev pub changes : Table → (name key : List ℕ) → Change → Answered Table
changes table name key (Kept answer) = answers table (list_reply answer)
changes table name key (Put value answer) = answers (with_array (with_element key value) table name) (Value answer)
changes table name key (Removed answer) = answers (table_with_change (without_element key) table name) (Value answer)

abbrev pub changes_by : Table → ElementUsage → (name key : List ℕ) → (words : List (List ℕ)) → Answered Table
changes_by table asked name key words =
    changes table name key (change_if name key asked words (element_of table name key))

-- tsv::get a k var
abbrev pub found : Option (List ℕ) → Reply
found None = Found false []
found (Some value) = Found true value

-- tsv::move a k new: the element goes last under its new key
abbrev pub exists_message : (key : List ℕ) → List ℕ
exists_message key = codes "key \"" ++ (key ++ codes "\" exists")

abbrev pub moves_of : Table → (name key new : List ℕ) → Option (List ℕ) → Answered Table
moves_of table name key new None = refuses table (missing_message name key)
moves_of table name key new (Some value) =
    if is_some (element_of table name new) then refuses table (exists_message new) else
    empty_answer (with_array (with_element new value) (table_with_change (without_element key) table name) name)

abbrev pub moves : Table → (name key new : List ℕ) → Answered Table
moves table name key new = moves_of table name key new (element_of table name key)

-- ---- commands on an array ----

-- a text is like a pattern, if there is one
abbrev pub is_like : (pattern : List (List ℕ)) → (text : List ℕ) → Bool
is_like [] text = true
is_like (pattern ∷ words) text = is_match (characters pattern) (characters text)

abbrev pub names_like : (pattern : List (List ℕ)) → List (List ℕ) → List (List ℕ)
names_like pattern names = filter (is_like pattern) names

-- of an element its key and its value, if the key is like the pattern
abbrev pub pair_if_like : (pattern : List (List ℕ)) → (List ℕ × List ℕ) → List (List ℕ)
pair_if_like pattern pair = if is_like pattern pair.0 then pair.0 ∷ pair.1 ∷ [] else []

abbrev pub pairs_like : (pattern : List (List ℕ)) → Pairs → List (List ℕ)
pairs_like pattern pairs = flat_map (pair_if_like pattern) pairs

-- tsv::unset a: a held array is emptied and kept
abbrev pub unsets : Table → (name : List ℕ) → Option Array → Table
unsets table name None = table
unsets table name (Some array) =
    if is_held array then table_with_change array_without_elements table name else without_array table name

-- tsv::array set: the elements of a list are put in; a missing array is made
abbrev pub fills_from : Table → (name : List ℕ) → (items : List (List ℕ)) → Answered Table
fills_from table name items =
    if length items % 2 == 0
    then empty_answer (with_array (array_with_items items) table name)
    else refuses table (codes "list must have an even number of elements")

abbrev pub fills : Table → (name : List ℕ) → Split → Answered Table
fills table name (split.Items items) = fills_from table name items
fills table name (split.Bad fault) = refuses table (list_message fault)

abbrev pub sets : Table → (name : List ℕ) → (words : List (List ℕ)) → Answered Table
sets table name (list ∷ []) = fills table name (split_of list)
sets table name words = refuses table []

-- tsv::array reset: in place of those that are there
abbrev pub refills_from : Table → (name : List ℕ) → (items : List (List ℕ)) → Answered Table
refills_from table name items =
    if length items % 2 == 0
    then empty_answer (with_array (array_with_items items) (table_with_change array_without_elements table name) name)
    else refuses table (codes "list must have an even number of elements")

abbrev pub refills : Table → (name : List ℕ) → Split → Answered Table
refills table name (split.Items items) = refills_from table name items
refills table name (split.Bad fault) = refuses table (list_message fault)

abbrev pub resets : Table → (name : List ℕ) → (words : List (List ℕ)) → Answered Table
resets table name (list ∷ []) = refills table name (split_of list)
resets table name words = refuses table []

-- tsv::array get, tsv::array names
abbrev pub pairs_text : Table → (name : List ℕ) → (pattern : List (List ℕ)) → List ℕ
pairs_text table name pattern = list_of (pairs_like pattern (elements_of table name))

-- the list that tsv::array get a gives; none if there is no such array
abbrev pub array_text : Table → (name : List ℕ) → Option (List ℕ)
array_text table name = option_map (λ array. pairs_text table name []) (array_of table name)

abbrev pub keys_text : Table → (name : List ℕ) → (pattern : List (List ℕ)) → List ℕ
keys_text table name pattern = list_of (names_like pattern (keys_of (elements_of table name)))

-- the table; a missing array counts as empty
abbrev pub array_act : Table → ArrayUsage → (name : List ℕ) → (words : List (List ℕ)) → Answered Table
array_act table array.Unset name words = empty_answer (unsets table name (array_of table name))
array_act table array.Exists name words = answers table (Value (truth (is_some (array_of table name))))
array_act table array.Set name words = sets table name words
array_act table array.Get name words = answers table (Value (pairs_text table name words))
array_act table array.Names name words = answers table (Value (keys_text table name words))
array_act table array.Size name words = answers table (Value (decimal (length (elements_of table name))))
array_act table array.Reset name words = resets table name words

-- ---- all commands ----

-- by a usage and the words after the command's name
abbrev pub usage_answer : Table → Usage → (words : List (List ℕ)) → Answered Table
usage_answer table usage.Names words = answers table (Value (list_of (names_like words (keys_of table))))
usage_answer table usage.Find (name ∷ key ∷ words) = answers table (found (element_of table name key))
usage_answer table usage.Exists (name ∷ key ∷ words) =
    answers table (Value (truth (is_some (element_of table name key))))
usage_answer table usage.Move (name ∷ key ∷ new ∷ words) = moves table name key new
usage_answer table (usage.Array asked) (name ∷ words) = array_act table asked name words
usage_answer table (usage.Element asked) (name ∷ key ∷ words) = changes_by table asked name key words
usage_answer table usage words = refuses table []

-- words that no command asks are refused
abbrev pub asked_answer : Table → Option Asked → Answered Table
asked_answer table None = refuses table []
asked_answer table (Some asked) = usage_answer table asked.0 asked.1

abbrev pub act : Table → ℕ → TsvCall → Answered Table
act table t (Hold name) = holds table t name
act table t (Unhold name) = unholds table t name
act table t (Run words) = asked_answer table (usage_of_words words)

-- ---- a call whole ----

abbrev pub table_after : Table → ℕ → TsvCall → Table
table_after table t call = replies.table_after (waits table t call) table (act table t call)

abbrev pub step_after : Table → ℕ → TsvCall → Step
step_after table t call = replies.step_after (waits table t call) (act table t call)
