-- What the words of commands on locks mean (thread(n), thread::mutex, thread::rwmutex, thread::cond, thread::eval).
use Rattle.std.specs.Prelude.{ℕ, Bool, bytes_eq, List, [], ◌∷◌, codes, Option, Some, None, if◌then◌else◌}
use Rattle.tt_calls.specs.declared.lock_call.Family.TheVariants as family
use Rattle.tt_calls.specs.declared.lock_call.Kind.{Kind}
use Rattle.tt_calls.specs.declared.lock_call.Kind.TheVariants as kind
use Rattle.tt_calls.specs.declared.lock_call.LockCall.{LockCall}
use Rattle.tt_calls.specs.declared.lock_call.LockCall.TheVariants as lock
use Rattle.tt_calls.specs.declared.request.Request.TheVariants as ask
use Rattle.tt_command_tables.specs.Flags.{by_options, has, is_meant}
use Rattle.tt_command_tables.specs.Rows.{Meaning, Row, by_words, meaning_by, row}
use Rattle.tt_command_tables.specs.Tables.{first_named}
use Rattle.tt_command_tables.specs.Usages.{bad_option}
use Rattle.tt_command_tables.specs.declared.call.Call.{Call}
use Rattle.tt_command_tables.specs.declared.call.Call.TheVariants.{Ask, Bad}
use Rattle.tt_command_tables.specs.declared.call.Then.{Then}
use Rattle.tt_command_tables.specs.declared.call.Then.TheVariants as after
use Rattle.tt_command_tables.specs.declared.flags.Flag.TheVariants.{Recursive}
use Rattle.tt_lock_commands.specs.declared.command.LockCommand.{LockCommand}
use Rattle.tt_lock_commands.specs.declared.command.LockCommand.TheVariants as command
use Rattle.tt_lock_commands.specs.declared.conditions.ConditionCommand.{ConditionCommand}
use Rattle.tt_lock_commands.specs.declared.conditions.ConditionCommand.TheVariants as condition
use Rattle.tt_lock_commands.specs.declared.mutexes.MutexCommand.{MutexCommand}
use Rattle.tt_lock_commands.specs.declared.mutexes.MutexCommand.TheVariants as mutex
use Rattle.tt_lock_commands.specs.declared.read_writes.ReadWriteCommand.{ReadWriteCommand}
use Rattle.tt_lock_commands.specs.declared.read_writes.ReadWriteCommand.TheVariants as read_write
use Rattle.tt_list_commands.specs.Concatenating.{concatenation}

-- a call that concerns the mutex of an id, and what follows the reply; no mutex has the empty id
abbrev pub on_mutex : (id : List ℕ) → LockCall → Then → Call
on_mutex [] call follow = Bad (codes "no such mutex \"\"")
on_mutex (b ∷ id) call follow = Ask (ask.Lock call) follow

-- a subcommand with the id of a mutex
abbrev pub of_mutex : (call : List ℕ → LockCall) → (wrong : Call) → (words : List (List ℕ)) → Call
of_mutex call wrong (id ∷ []) = on_mutex id (call id) after.Value
of_mutex call wrong words = wrong

-- a subcommand with the id of a condition
abbrev pub of_condition : (call : List ℕ → LockCall) → (wrong : Call) → (words : List (List ℕ)) → Call
of_condition call wrong (id ∷ []) = Ask (ask.Lock (call id)) after.Value
of_condition call wrong words = wrong

-- a lock of a kind
abbrev pub create : Kind → (wrong : Call) → (words : List (List ℕ)) → Call
create which wrong [] = Ask (ask.Lock (lock.Create which)) after.Value
create which wrong words = wrong

-- thread::mutex create: with -recursive the thread that holds the mutex may lock it again
abbrev pub mutex_kind : (options : List (List ℕ)) → Kind
mutex_kind options = if has Recursive options then kind.Recursive else kind.Exclusive

abbrev pub mutex_words : (wrong : Call) → (options words : List (List ℕ)) → Call
mutex_words wrong options words = create (mutex_kind options) wrong words

abbrev pub create_mutex : (wrong : Call) → (words : List (List ℕ)) → Call
create_mutex wrong words = by_options (Recursive ∷ []) 0 words (mutex_words wrong)

-- the subcommands of thread::mutex
abbrev pub mutex_row : MutexCommand → Row
mutex_row mutex.Create = row (codes "create") (codes "thread::mutex create ?-recursive?") (by_words create_mutex)
mutex_row mutex.Destroy =
    row (codes "destroy") (codes "thread::mutex destroy m") (by_words (of_mutex (lock.Destroy family.Mutex)))
mutex_row mutex.Lock = row (codes "lock") (codes "thread::mutex lock m") (by_words (of_mutex lock.Lock))
mutex_row mutex.Unlock =
    row (codes "unlock") (codes "thread::mutex unlock m") (by_words (of_mutex (lock.Unlock family.Mutex)))

abbrev pub mutex_commands : List MutexCommand
mutex_commands = mutex.Create ∷ mutex.Destroy ∷ mutex.Lock ∷ mutex.Unlock ∷ []

abbrev pub mutex_command : (name : List ℕ) → Option MutexCommand
mutex_command name = first_named (λ command. (mutex_row command).name) mutex_commands name

-- thread::mutex
abbrev pub mutexes : Meaning
mutexes me wrong [] = wrong
mutexes me wrong (sub ∷ words) =
    elim (mutex_command sub) [
      | Some command ↦ meaning_by (mutex_row command) me words
      | None ↦ bad_option sub
    ]

-- the subcommands of thread::rwmutex
abbrev pub read_write_row : ReadWriteCommand → Row
read_write_row read_write.Create =
    row (codes "create") (codes "thread::rwmutex create") (by_words (create kind.ReadWrite))
read_write_row read_write.Destroy =
    row (codes "destroy") (codes "thread::rwmutex destroy m") (by_words (of_mutex (lock.Destroy family.ReadWrite)))
read_write_row read_write.ReadLock =
    row (codes "rlock") (codes "thread::rwmutex rlock m") (by_words (of_mutex lock.ReadLock))
read_write_row read_write.WriteLock =
    row (codes "wlock") (codes "thread::rwmutex wlock m") (by_words (of_mutex lock.WriteLock))
read_write_row read_write.Unlock =
    row (codes "unlock") (codes "thread::rwmutex unlock m") (by_words (of_mutex (lock.Unlock family.ReadWrite)))

abbrev pub read_write_commands : List ReadWriteCommand
read_write_commands =
    read_write.Create ∷ read_write.Destroy ∷ read_write.ReadLock ∷ read_write.WriteLock ∷ read_write.Unlock ∷ []

abbrev pub read_write_command : (name : List ℕ) → Option ReadWriteCommand
read_write_command name = first_named (λ command. (read_write_row command).name) read_write_commands name

-- thread::rwmutex
abbrev pub read_writes : Meaning
read_writes me wrong [] = wrong
read_writes me wrong (sub ∷ words) =
    elim (read_write_command sub) [
      | Some command ↦ meaning_by (read_write_row command) me words
      | None ↦ bad_option sub
    ]

-- thread::cond wait: the mutex is taken again when the wait has ended
abbrev pub wait : (wrong : Call) → (words : List (List ℕ)) → Call
wait wrong (cond ∷ id ∷ []) = on_mutex id (lock.CondWait cond id None) after.Retake
wait wrong words = wrong

-- the subcommands of thread::cond
abbrev pub condition_row : ConditionCommand → Row
condition_row condition.Create =
    row (codes "create") (codes "thread::cond create") (by_words (create kind.Condition))
condition_row condition.Destroy =
    row (codes "destroy") (codes "thread::cond destroy c") (by_words (of_condition (lock.Destroy family.Condition)))
condition_row condition.Notify =
    row (codes "notify") (codes "thread::cond notify c") (by_words (of_condition lock.Notify))
condition_row condition.Wait = row (codes "wait") (codes "thread::cond wait c m") (by_words wait)

abbrev pub condition_commands : List ConditionCommand
condition_commands = condition.Create ∷ condition.Destroy ∷ condition.Notify ∷ condition.Wait ∷ []

abbrev pub condition_command : (name : List ℕ) → Option ConditionCommand
condition_command name = first_named (λ command. (condition_row command).name) condition_commands name

-- thread::cond
abbrev pub conditions : Meaning
conditions me wrong [] = wrong
conditions me wrong (sub ∷ words) =
    elim (condition_command sub) [
      | Some command ↦ meaning_by (condition_row command) me words
      | None ↦ bad_option sub
    ]

-- a script is evaluated while a mutex is eval_from: the one of an id, or the one that is there from the start
abbrev pub holds : Option (List ℕ) → (args : List (List ℕ)) → Call
holds (Some id) args = on_mutex id (lock.Lock id) (after.Held (concatenation args))
holds None args = Ask (ask.Lock (lock.Lock [])) (after.Held (concatenation args))

-- thread::eval: -lock and its value stand in front any number of times, the last counts, and the last word is no option
abbrev pub is_lock : (word : List ℕ) → Bool
is_lock word = bytes_eq word (codes "-lock")

abbrev pub eval_alone : Option (List ℕ) → (wrong : Call) → (words : List (List ℕ)) → Call
eval_alone id wrong [] = wrong
eval_alone id wrong (arg ∷ args) = holds id (arg ∷ args)

abbrev pub eval_args : Option (List ℕ) → (word : List ℕ) → (words : List (List ℕ)) → Call
eval_args id word words = if is_meant word then bad_option word else holds id words

abbrev pub eval_from : Option (List ℕ) → (wrong : Call) → (words : List (List ℕ)) → Call
eval_from id wrong [] = wrong
eval_from id wrong (arg ∷ []) = eval_alone id wrong (arg ∷ [])
eval_from id wrong (word ∷ next ∷ words) =
    if is_lock word then eval_from (Some next) wrong words else eval_args id word (word ∷ next ∷ words)

unfoldable pub eval : (wrong : Call) → (words : List (List ℕ)) → Call
eval wrong words = eval_from None wrong words

-- the table
abbrev pub lock_row : LockCommand → Row
lock_row command.Mutex = row (codes "thread::mutex") (codes "thread::mutex create ?-recursive?") mutexes
lock_row command.ReadWrite = row (codes "thread::rwmutex") (codes "thread::rwmutex create") read_writes
lock_row command.Condition = row (codes "thread::cond") (codes "thread::cond create") conditions
lock_row command.Eval =
    row (codes "thread::eval") (codes "thread::eval ?-lock m? arg ?arg ...?") (by_words eval)

-- the commands of the table
abbrev pub lock_commands : List LockCommand
lock_commands = command.Mutex ∷ command.ReadWrite ∷ command.Condition ∷ command.Eval ∷ []

-- the command of a name
abbrev pub lock_command : (name : List ℕ) → Option LockCommand
lock_command name = first_named (λ command. (lock_row command).name) lock_commands name
