-- What the words of commands on pools of workers mean (tpool(n)).
use Rattle.std.specs.Prelude.{ℕ, Bool, true, false, ◌&&◌, not, ℤ, pos, negsuc, nat_le, bytes_eq, List, [], ◌∷◌, codes}
use Rattle.std.specs.Prelude.{Option, Some, None, Result, Ok, Err, if◌then◌else◌}
use Rattle.std.specs.List.{list_any}
use Rattle.tt_calls.specs.declared.pool_call.PoolCall.{PoolCall}
use Rattle.tt_calls.specs.declared.pool_call.PoolCall.TheVariants as pool
use Rattle.tt_calls.specs.declared.request.Request.TheVariants as ask
use Rattle.tt_command_tables.specs.Flags.{by_options, has, is_meant}
use Rattle.tt_command_tables.specs.Rows.{Row, by_words, row}
use Rattle.tt_command_tables.specs.Tables.{first_named}
use Rattle.tt_command_tables.specs.Usages.{bad_option, bad_value}
use Rattle.tt_command_tables.specs.declared.call.Call.{Call}
use Rattle.tt_command_tables.specs.declared.call.Call.TheVariants.{Ask, Bad}
use Rattle.tt_command_tables.specs.declared.call.Goal.TheVariants as goal
use Rattle.tt_command_tables.specs.declared.call.Then.{Then}
use Rattle.tt_command_tables.specs.declared.call.Then.TheVariants as after
use Rattle.tt_command_tables.specs.declared.flags.Flag.TheVariants.{Detached, NoWait}
use Rattle.tt_pool_commands.specs.declared.command.PoolCommand.{PoolCommand}
use Rattle.tt_pool_commands.specs.declared.command.PoolCommand.TheVariants as command
use Rattle.tt_pool_commands.specs.declared.making.Setting.{Setting}
use Rattle.tt_pool_commands.specs.declared.making.Setting.TheVariants as setting
use Rattle.tt_lists.specs.Messages.{list_message}
use Rattle.tt_lists.specs.Reading.{split_of}
use Rattle.tt_lists.specs.declared.items.Split.{Split}
use Rattle.tt_lists.specs.declared.items.Split.TheVariants as split
use Rattle.tt_number.specs.Numerals.{whole_of}
use Rattle.tt_number.specs.declared.numeral.NumberFault.{NumberFault}

-- tpool::create: its options, each with a value
abbrev pub spelling : Setting → List ℕ
spelling setting.Least = codes "-minworkers"
spelling setting.Most = codes "-maxworkers"
spelling setting.Idle = codes "-idletime"
spelling setting.Init = codes "-initcmd"
spelling setting.Exit = codes "-exitcmd"

-- what they are if they are left out
abbrev pub default : Setting → List ℕ
default setting.Least = codes "0"
default setting.Most = codes "4"
default setting.Idle = codes "0"
default setting.Init = []
default setting.Exit = []

abbrev pub settings : List Setting
settings = setting.Least ∷ setting.Most ∷ setting.Idle ∷ setting.Init ∷ setting.Exit ∷ []

abbrev pub is_among : List Setting → (word : List ℕ) → Bool
is_among settings word = list_any (λ one. bytes_eq word (spelling one)) settings

abbrev pub is_setting : (word : List ℕ) → Bool
is_setting word = is_among settings word

-- a word that is meant as an option, and is none
abbrev pub is_unknown : (word : List ℕ) → Bool
is_unknown word = is_meant word && not (is_setting word)

-- options stand at every second word; the first there that is unknown
abbrev pub unknown_alone : (words : List (List ℕ)) → Option (List ℕ)
unknown_alone [] = None
unknown_alone (option ∷ words) = if is_unknown option then Some option else None

abbrev pub first_unknown : (words : List (List ℕ)) → Option (List ℕ)
first_unknown [] = None
first_unknown (option ∷ []) = unknown_alone (option ∷ [])
first_unknown (option ∷ value ∷ words) = if is_unknown option then Some option else first_unknown words

-- each word there is an option, and has a value
abbrev pub are_settings : (words : List (List ℕ)) → Bool
are_settings [] = true
are_settings (option ∷ []) = false
are_settings (option ∷ value ∷ words) = is_setting option && are_settings words

-- the last value of an option, or else this one
abbrev pub newer : Setting → (value option next : List ℕ) → List ℕ
newer one value option next = if bytes_eq option (spelling one) then next else value

abbrev pub last_value : Setting → (value : List ℕ) → (words : List (List ℕ)) → List ℕ
last_value one value [] = value
last_value one value (option ∷ []) = value
last_value one value (option ∷ next ∷ words) = last_value one (newer one value option next) words

abbrev pub value_of : Setting → (words : List (List ℕ)) → List ℕ
value_of one words = last_value one (default one) words

-- the number that a word is, if it is a whole one between these
abbrev pub number_between : (low high : ℕ) → Result ℤ NumberFault → Option ℕ
number_between low high (Ok (pos number)) = if nat_le low number && nat_le number high then Some number else None
number_between low high (Ok (negsuc number)) = None
number_between low high (Err fault) = None

-- the values are tested in this order: the most is 1 to 900, the least 0 to the most, and the idle time 0
abbrev pub by_number : (low high : ℕ) → (word : List ℕ) → (meaning : ℕ → Call) → Call
by_number low high word meaning =
    elim (number_between low high (whole_of word)) [ Some number ↦ meaning number | None ↦ bad_value word ]

abbrev pub new_pool : (words : List (List ℕ)) → (most least : ℕ) → Call
new_pool words most least =
    Ask (ask.Pool (pool.Create least most (value_of setting.Init words) (value_of setting.Exit words))) after.Value

abbrev pub by_idle_time : (words : List (List ℕ)) → (most least : ℕ) → Call
by_idle_time words most least = by_number 0 0 (value_of setting.Idle words) (λ idle. new_pool words most least)

abbrev pub by_least : (words : List (List ℕ)) → (most : ℕ) → Call
by_least words most = by_number 0 most (value_of setting.Least words) (by_idle_time words most)

abbrev pub by_most : (words : List (List ℕ)) → Call
by_most words = by_number 1 900 (value_of setting.Most words) (by_least words)

abbrev pub create : (wrong : Call) → (words : List (List ℕ)) → Call
create wrong words =
    elim (first_unknown words) [
      | Some option ↦ bad_option option
      | None ↦ if are_settings words then by_most words else wrong
    ]

-- tpool::names
abbrev pub names : (wrong : Call) → (words : List (List ℕ)) → Call
names wrong [] = Ask (ask.Pool pool.Names) after.Value
names wrong words = wrong

-- tpool::post: it returns at once, with or without -nowait
abbrev pub post_words : (wrong : Call) → (options words : List (List ℕ)) → Call
post_words wrong options (id ∷ script ∷ []) = Ask (ask.Pool (pool.Post id script (has Detached options))) after.Value
post_words wrong options words = wrong

abbrev pub post : (wrong : Call) → (words : List (List ℕ)) → Call
post wrong words = by_options (Detached ∷ NoWait ∷ []) 2 words (post_words wrong)

-- a call that concerns jobs, and what follows the reply; a text that is no list of them is an error
abbrev pub on_jobs : (call : List (List ℕ) → PoolCall) → Split → Then → Call
on_jobs call (split.Items jobs) follow = Ask (ask.Pool (call jobs)) follow
on_jobs call (split.Bad fault) follow = Bad (list_message fault)

-- tpool::wait: events are served until one of the jobs is done, and the variable gets those that aren't
abbrev pub waits : (id jobs : List ℕ) → (variable : Option (List ℕ)) → Call
waits id jobs variable = on_jobs (pool.Look id) (split_of jobs) (after.Serve (goal.Pool variable))

abbrev pub wait : (wrong : Call) → (words : List (List ℕ)) → Call
wait wrong (id ∷ jobs ∷ []) = waits id jobs None
wait wrong (id ∷ jobs ∷ variable ∷ []) = waits id jobs (Some variable)
wait wrong words = wrong

-- tpool::cancel: the variable gets the jobs that were not taken out
abbrev pub cancels : (id jobs : List ℕ) → Then → Call
cancels id jobs follow = on_jobs (pool.Cancel id) (split_of jobs) follow

abbrev pub cancel : (wrong : Call) → (words : List (List ℕ)) → Call
cancel wrong (id ∷ jobs ∷ []) = cancels id jobs after.Value
cancel wrong (id ∷ jobs ∷ variable ∷ []) = cancels id jobs (after.Store variable)
cancel wrong words = wrong

-- tpool::get
abbrev pub get : (wrong : Call) → (words : List (List ℕ)) → Call
get wrong (id ∷ job ∷ []) = Ask (ask.Pool (pool.Get id job)) after.Value
get wrong words = wrong

-- a command with the id of a pool alone
abbrev pub of_pool : (call : List ℕ → PoolCall) → (wrong : Call) → (words : List (List ℕ)) → Call
of_pool call wrong (id ∷ []) = Ask (ask.Pool (call id)) after.Value
of_pool call wrong words = wrong

-- tpool::suspend and tpool::resume
abbrev pub suspension : (on : Bool) → (id : List ℕ) → PoolCall
suspension on id = pool.Suspend id on

-- the table
abbrev pub pool_row : PoolCommand → Row
pool_row command.Create =
    row
    (codes "tpool::create")
    (codes "tpool::create ?-minworkers n? ?-maxworkers n? ?-idletime n? ?-initcmd s? ?-exitcmd s?")
    (by_words create)
pool_row command.Names = row (codes "tpool::names") (codes "tpool::names") (by_words names)
pool_row command.Post =
    row (codes "tpool::post") (codes "tpool::post ?-detached? ?-nowait? pool script") (by_words post)
pool_row command.Wait = row (codes "tpool::wait") (codes "tpool::wait pool jobs ?var?") (by_words wait)
pool_row command.Cancel = row (codes "tpool::cancel") (codes "tpool::cancel pool jobs ?var?") (by_words cancel)
pool_row command.Get = row (codes "tpool::get") (codes "tpool::get pool job") (by_words get)
pool_row command.Preserve =
    row (codes "tpool::preserve") (codes "tpool::preserve pool") (by_words (of_pool pool.Preserve))
pool_row command.Release = row (codes "tpool::release") (codes "tpool::release pool") (by_words (of_pool pool.Release))
pool_row command.Suspend =
    row (codes "tpool::suspend") (codes "tpool::suspend pool") (by_words (of_pool (suspension true)))
pool_row command.Resume =
    row (codes "tpool::resume") (codes "tpool::resume pool") (by_words (of_pool (suspension false)))

-- the commands of the table
abbrev pub pool_commands : List PoolCommand
pool_commands =
    command.Create ∷ command.Names ∷ command.Post ∷ command.Wait ∷ command.Cancel ∷ command.Get ∷ command.Preserve ∷
    command.Release ∷ command.Suspend ∷ command.Resume ∷ []

-- the command of a name
abbrev pub pool_command : (name : List ℕ) → Option PoolCommand
pool_command name = first_named (λ command. (pool_row command).name) pool_commands name
