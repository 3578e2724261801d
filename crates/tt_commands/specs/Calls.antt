-- What the words of a command mean: the families of commands, each with its table.
use Rattle.std.specs.Prelude.{ℕ, List, [], ◌∷◌, Some, None}
use Rattle.tt_script.specs.Names.{plain_name}
use Rattle.tt_channel_commands.specs.Channels.{channel_command, channel_row}
use Rattle.tt_command_tables.specs.declared.call.Call.{Call}
use Rattle.tt_command_tables.specs.declared.call.Call.TheVariants.{Other}
use Rattle.tt_lock_commands.specs.Locks.{lock_command, lock_row}
use Rattle.tt_pool_commands.specs.Pools.{pool_command, pool_row}
use Rattle.tt_command_tables.specs.Rows.{meaning_by}
use Rattle.tt_shared_commands.specs.Shared.{shared_command, shared_meaning}
use Rattle.tt_thread_commands.specs.Threads.{thread_command, thread_row}

-- pools of workers (tpool(n)), or another name
abbrev pub pool_call : (me : ℕ) → (name : List ℕ) → (words : List (List ℕ)) → Call
pool_call me name words =
    elim (pool_command name) [
      | Some command ↦ meaning_by (pool_row command) me words
      | None ↦ Other
    ]

-- locks (thread(n), thread::mutex, thread::rwmutex, thread::cond, thread::eval), or another name
abbrev pub lock_call : (me : ℕ) → (name : List ℕ) → (words : List (List ℕ)) → Call
lock_call me name words =
    elim (lock_command name) [
      | Some command ↦ meaning_by (lock_row command) me words
      | None ↦ pool_call me name words
    ]

-- shared variables (tsv(n)), or another name
abbrev pub shared_call : (me : ℕ) → (name : List ℕ) → (words : List (List ℕ)) → Call
shared_call me name words =
    elim (shared_command name) [
      | Some command ↦ shared_meaning command name words
      | None ↦ lock_call me name words
    ]

-- channels (puts(n), gets(n), eof(n), close(n), chan(n), thread(n)), or another name
abbrev pub channel_call : (me : ℕ) → (name : List ℕ) → (words : List (List ℕ)) → Call
channel_call me name words =
    elim (channel_command name) [
      | Some command ↦ meaning_by (channel_row command) me words
      | None ↦ shared_call me name words
    ]

-- threads (thread(n), vwait(n), update(n), exit(n)), or another name
abbrev pub thread_call : (me : ℕ) → (name : List ℕ) → (words : List (List ℕ)) → Call
thread_call me name words =
    elim (thread_command name) [
      | Some command ↦ meaning_by (thread_row command) me words
      | None ↦ channel_call me name words
    ]

-- a command's name and the words after it
abbrev pub call_of : (words : List (List ℕ)) → (me : ℕ) → Call
call_of [] me = Other
call_of (name ∷ words) me = thread_call me (plain_name name) words
