-- What the words of commands on shared variables mean (tsv(n)): they go on as they are, if a usage has so many.
use Rattle.std.specs.Prelude.{ℕ, ◌-◌, Bool, true, ◌&&◌, ◌||◌, not, nat_le, bytes_eq, List, [], ◌∷◌, length, take}
use Rattle.std.specs.Prelude.{codes, Option, Some, None, if◌then◌else◌}
use Rattle.std.specs.List.{find}
use Rattle.tt_calls.specs.declared.tsv_call.TsvCall.TheVariants as tsv
use Rattle.tt_command_tables.specs.Flags.{is_meant}
use Rattle.tt_calls.specs.declared.request.Request.TheVariants as ask
use Rattle.tt_command_tables.specs.Tables.{first_named}
use Rattle.tt_command_tables.specs.Usages.{bad_option, wrong_number}
use Rattle.tt_command_tables.specs.declared.call.Call.{Call}
use Rattle.tt_command_tables.specs.declared.call.Call.TheVariants.{Ask}
use Rattle.tt_command_tables.specs.declared.call.Then.{Then}
use Rattle.tt_command_tables.specs.declared.call.Then.TheVariants as after
use Rattle.tt_shared_commands.specs.declared.array.ArrayCommand.{ArrayCommand}
use Rattle.tt_shared_commands.specs.declared.array.ArrayCommand.TheVariants as array
use Rattle.tt_shared_commands.specs.declared.command.SharedCommand.{SharedCommand}
use Rattle.tt_shared_commands.specs.declared.command.SharedCommand.TheVariants as shared
use Rattle.tt_list_commands.specs.Concatenating.{concatenation}

-- a name, a usage, and the least and the most words after the name
pub record CountedRow : Type 0 where
  pub name : List ℕ
  pub usage : List ℕ
  pub least : ℕ
  pub most : Option ℕ

abbrev pub counted_row : (name usage : List ℕ) → (least : ℕ) → (most : Option ℕ) → CountedRow
counted_row name usage least most = record { name = name; usage = usage; least = least; most = most }

-- the table
abbrev pub shared_row : SharedCommand → CountedRow
shared_row shared.Names = counted_row (codes "tsv::names") (codes "tsv::names ?pattern?") 0 (Some 1)
shared_row shared.Set = counted_row (codes "tsv::set") (codes "tsv::set a k ?v?") 2 (Some 3)
shared_row shared.Get = counted_row (codes "tsv::get") (codes "tsv::get a k ?var?") 2 (Some 3)
shared_row shared.Unset = counted_row (codes "tsv::unset") (codes "tsv::unset a ?k?") 1 (Some 2)
shared_row shared.Exists = counted_row (codes "tsv::exists") (codes "tsv::exists a ?k?") 1 (Some 2)
shared_row shared.Pop = counted_row (codes "tsv::pop") (codes "tsv::pop a k") 2 (Some 2)
shared_row shared.Move = counted_row (codes "tsv::move") (codes "tsv::move a k new") 3 (Some 3)
shared_row shared.Incr = counted_row (codes "tsv::incr") (codes "tsv::incr a k ?n?") 2 (Some 3)
shared_row shared.Append = counted_row (codes "tsv::append") (codes "tsv::append a k ?v ...?") 2 None
shared_row shared.Lappend = counted_row (codes "tsv::lappend") (codes "tsv::lappend a k ?v ...?") 2 None
shared_row shared.Llength = counted_row (codes "tsv::llength") (codes "tsv::llength a k") 2 (Some 2)
shared_row shared.Lindex = counted_row (codes "tsv::lindex") (codes "tsv::lindex a k ?i?") 2 (Some 3)
shared_row shared.Lrange = counted_row (codes "tsv::lrange") (codes "tsv::lrange a k i j") 4 (Some 4)
shared_row shared.Lsearch = counted_row (codes "tsv::lsearch") (codes "tsv::lsearch a k ?mode? pattern") 3 (Some 4)
shared_row shared.Linsert = counted_row (codes "tsv::linsert") (codes "tsv::linsert a k i ?v ...?") 3 None
shared_row shared.Lreplace = counted_row (codes "tsv::lreplace") (codes "tsv::lreplace a k i j ?v ...?") 4 None
shared_row shared.Lpush = counted_row (codes "tsv::lpush") (codes "tsv::lpush a k v ?i?") 3 (Some 4)
shared_row shared.Lpop = counted_row (codes "tsv::lpop") (codes "tsv::lpop a k ?i?") 2 (Some 3)
shared_row shared.Array = counted_row (codes "tsv::array") (codes "tsv::array set a list") 1 None
shared_row shared.Lock = counted_row (codes "tsv::lock") (codes "tsv::lock a arg ?arg ...?") 2 None

abbrev pub shared_commands : List SharedCommand
shared_commands =
    shared.Names ∷ shared.Set ∷ shared.Get ∷ shared.Unset ∷ shared.Exists ∷ shared.Pop ∷ shared.Move ∷ shared.Incr ∷
    shared.Append ∷ shared.Lappend ∷ shared.Llength ∷ shared.Lindex ∷ shared.Lrange ∷ shared.Lsearch ∷
    shared.Linsert ∷ shared.Lreplace ∷ shared.Lpush ∷ shared.Lpop ∷ shared.Array ∷ shared.Lock ∷ []

-- the command of a name
abbrev pub shared_command : (name : List ℕ) → Option SharedCommand
shared_command name = first_named (λ command. (shared_row command).name) shared_commands name

-- the subcommands of tsv::array
abbrev pub array_row : ArrayCommand → CountedRow
array_row array.Set = counted_row (codes "set") (codes "tsv::array set a list") 2 (Some 2)
array_row array.Get = counted_row (codes "get") (codes "tsv::array get a ?pattern?") 1 (Some 2)
array_row array.Names = counted_row (codes "names") (codes "tsv::array names a ?pattern?") 1 (Some 2)
array_row array.Size = counted_row (codes "size") (codes "tsv::array size a") 1 (Some 1)
array_row array.Reset = counted_row (codes "reset") (codes "tsv::array reset a list") 2 (Some 2)

abbrev pub array_commands : List ArrayCommand
array_commands = array.Set ∷ array.Get ∷ array.Names ∷ array.Size ∷ array.Reset ∷ []

abbrev pub array_command : (name : List ℕ) → Option ArrayCommand
array_command name = first_named (λ command. (array_row command).name) array_commands name

-- so many words are as many as a row allows
abbrev pub is_most : Option ℕ → (count : ℕ) → Bool
is_most None count = true
is_most (Some most) count = nat_le count most

abbrev pub is_between : (least : ℕ) → (most : Option ℕ) → (count : ℕ) → Bool
is_between least most count = nat_le least count && is_most most count

abbrev pub fits : CountedRow → (words : List (List ℕ)) → Bool
fits row words = is_between row.least row.most (length words)

-- what follows the reply: of tsv::get a variable gets the value
abbrev pub after_reply : SharedCommand → (words : List (List ℕ)) → Then
after_reply shared.Get (array ∷ key ∷ variable ∷ words) = after.Store variable
after_reply command words = after.Value

-- the words of a command go on, its name first
abbrev pub runs : (name : List ℕ) → (words : List (List ℕ)) → Then → Call
runs name words next = Ask (ask.Tsv (tsv.Run (name ∷ words))) next

-- a command whose words go on, if its usage has so many
abbrev pub elements : SharedCommand → (name : List ℕ) → (words : List (List ℕ)) → Call
elements command name words =
    if fits (shared_row command) words
    then runs name words (after_reply command words)
    else wrong_number (shared_row command).usage

-- tsv::lsearch: the words between the key and the pattern are its mode
abbrev pub is_mode : (word : List ℕ) → Bool
is_mode word = bytes_eq word (codes "-exact") || bytes_eq word (codes "-glob")

abbrev pub after_two : (words : List (List ℕ)) → List (List ℕ)
after_two (array ∷ key ∷ words) = words
after_two words = []

abbrev pub modes : (words : List (List ℕ)) → List (List ℕ)
modes words = after_two (take (length words - 1) words)

abbrev pub unknown_mode : (words : List (List ℕ)) → Option (List ℕ)
unknown_mode words = find (λ word. is_meant word && not (is_mode word)) words

abbrev pub searches_by_mode : (name mode : List ℕ) → (words : List (List ℕ)) → Call
searches_by_mode name mode words = if is_mode mode then runs name words after.Value else bad_option mode

abbrev pub searches_by : (name : List ℕ) → (words modes : List (List ℕ)) → Call
searches_by name words [] = elements shared.Lsearch name words
searches_by name words (mode ∷ []) = searches_by_mode name mode words
searches_by name words modes = wrong_number (shared_row shared.Lsearch).usage

abbrev pub searches : (name : List ℕ) → (words : List (List ℕ)) → Call
searches name words =
    elim (unknown_mode (modes words)) [
      | Some word ↦ bad_option word
      | None ↦ searches_by name words (modes words)
    ]

-- tsv::lock: the array is held while the script that the arguments make is evaluated
unfoldable pub locks : (wrong : Call) → (words : List (List ℕ)) → Call
locks wrong (array ∷ arg ∷ args) = Ask (ask.Tsv (tsv.Hold array)) (after.Held (concatenation (arg ∷ args)))
locks wrong words = wrong

-- tsv::array
abbrev pub array_runs : ArrayCommand → (name : List ℕ) → (words : List (List ℕ)) → (count : ℕ) → Call
array_runs command name words count =
    if is_between (array_row command).least (array_row command).most count
    then runs name words after.Value
    else wrong_number (array_row command).usage

abbrev pub arrays : (name : List ℕ) → (words : List (List ℕ)) → Call
arrays name [] = wrong_number (shared_row shared.Array).usage
arrays name (sub ∷ words) =
    elim (array_command sub) [
      | Some command ↦ array_runs command name (sub ∷ words) (length words)
      | None ↦ bad_option sub
    ]

-- what the words after a name mean
abbrev pub shared_meaning : SharedCommand → (name : List ℕ) → (words : List (List ℕ)) → Call
shared_meaning shared.Array name words = arrays name words
shared_meaning shared.Lock name words = locks (wrong_number (shared_row shared.Lock).usage) words
shared_meaning shared.Lsearch name words = searches name words
shared_meaning command name words = elements command name words
