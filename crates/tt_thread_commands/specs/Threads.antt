-- What the words of commands of threads mean (thread(n), vwait(n), update(n), exit(n)).
use Rattle.std.specs.Prelude.{ℕ, ℤ, pos, bytes_eq, List, [], ◌∷◌, codes, Option, Some, None, Result, Ok, Err}
use Rattle.tt_calls.specs.declared.request.Request.TheVariants as ask
use Rattle.tt_thread_commands.specs.Configuring.{configure}
use Rattle.tt_command_tables.specs.Flags.{by_options, has}
use Rattle.tt_command_tables.specs.declared.call.Call.{Call}
use Rattle.tt_command_tables.specs.declared.call.Call.TheVariants.{Ask, Bad, Here}
use Rattle.tt_command_tables.specs.Rows.{Row, by_words, row}
use Rattle.tt_command_tables.specs.Tables.{first_named}
use Rattle.tt_thread_commands.specs.Sending.{by_id, release, send}
use Rattle.tt_command_tables.specs.declared.call.Goal.TheVariants as goal
use Rattle.tt_command_tables.specs.declared.call.Here.TheVariants as here
use Rattle.tt_command_tables.specs.declared.call.Then.TheVariants as after
use Rattle.tt_command_tables.specs.declared.flags.Flag.TheVariants.{Joinable, Preserved}
use Rattle.tt_thread_commands.specs.declared.command.ThreadCommand.{ThreadCommand}
use Rattle.tt_thread_commands.specs.declared.command.ThreadCommand.TheVariants as thread
use Rattle.tt_ids.specs.Ids as ids
use Rattle.tt_ids.specs.declared.id.IdKind.TheVariants as kind
use Rattle.tt_number.specs.Messages.{number_message}
use Rattle.tt_number.specs.Numerals.{whole_of}
use Rattle.tt_number.specs.declared.numeral.NumberFault.{NumberFault}

-- vwait(n)
abbrev pub vwait : (wrong : Call) → (words : List (List ℕ)) → Call
vwait wrong (name ∷ []) = Ask ask.Take (after.Serve (goal.Written name))
vwait wrong words = wrong

-- update(n)
abbrev pub update : (wrong : Call) → (words : List (List ℕ)) → Call
update wrong [] = Ask ask.TakeReady (after.Serve goal.Idle)
update wrong words = wrong

-- thread(n), thread::wait
abbrev pub wait : (wrong : Call) → (words : List (List ℕ)) → Call
wait wrong [] = Ask ask.Take (after.Serve goal.Stopped)
wait wrong words = wrong

-- thread(n), thread::create: without a script, thread::wait
abbrev pub creates : (options : List (List ℕ)) → (script : List ℕ) → Call
creates options script = Ask (ask.Create (has Joinable options) (has Preserved options) script) after.Value

abbrev pub create_words : (wrong : Call) → (options words : List (List ℕ)) → Call
create_words wrong options [] = creates options (codes "thread::wait")
create_words wrong options (script ∷ []) = creates options script
create_words wrong options words = wrong

abbrev pub create : (wrong : Call) → (words : List (List ℕ)) → Call
create wrong words = by_options (Joinable ∷ Preserved ∷ []) 0 words (create_words wrong)

-- thread(n), thread::preserve: of oneself without an id; no thread has the empty id
abbrev pub preserves : (id : List ℕ) → Call
preserves id = by_id (λ id. Ask (ask.Preserve id) after.Value) id

abbrev pub preserve : (wrong : Call) → (words : List (List ℕ)) → Call
preserve wrong [] = Ask (ask.Preserve []) after.Value
preserve wrong (id ∷ []) = preserves id
preserve wrong words = wrong

-- thread(n), thread::id
abbrev pub id : (me : ℕ) → (wrong : Call) → (words : List (List ℕ)) → Call
id me wrong [] = Here (here.Local (ids.id kind.Thread me))
id me wrong words = wrong

-- thread(n), thread::names
abbrev pub names : (wrong : Call) → (words : List (List ℕ)) → Call
names wrong [] = Ask ask.Names after.Value
names wrong words = wrong

-- thread(n), thread::exists
abbrev pub exists : (wrong : Call) → (words : List (List ℕ)) → Call
exists wrong (id ∷ []) = Ask (ask.Exists id) after.Value
exists wrong words = wrong

-- thread(n), thread::join
abbrev pub join : (wrong : Call) → (words : List (List ℕ)) → Call
join wrong (id ∷ []) = Ask (ask.Join id) (after.AwaitEnd None)
join wrong words = wrong

-- thread(n), thread::errorproc
abbrev pub errorproc : (wrong : Call) → (words : List (List ℕ)) → Call
errorproc wrong [] = Ask (ask.ErrorProc None) after.Value
errorproc wrong (name ∷ []) = Ask (ask.ErrorProc (Some name)) after.Value
errorproc wrong words = wrong

-- thread(n), thread::broadcast
abbrev pub broadcast : (wrong : Call) → (words : List (List ℕ)) → Call
broadcast wrong (script ∷ []) = Ask (ask.Broadcast script) after.Value
broadcast wrong words = wrong

-- thread(n), thread::exit
abbrev pub ends : (code : List ℕ) → Result ℤ NumberFault → Call
ends code (Ok number) = Ask (ask.End number) after.Value
ends code (Err fault) = Bad (number_message fault code)

abbrev pub thread_exit : (wrong : Call) → (words : List (List ℕ)) → Call
thread_exit wrong [] = Ask (ask.End (pos 0)) after.Value
thread_exit wrong (code ∷ []) = ends code (whole_of code)
thread_exit wrong words = wrong

-- exit(n)
abbrev pub exits : (code : List ℕ) → Result ℤ NumberFault → Call
exits code (Ok number) = Ask (ask.Exit number) after.Value
exits code (Err fault) = Bad (number_message fault code)

abbrev pub exit : (wrong : Call) → (words : List (List ℕ)) → Call
exit wrong [] = Ask (ask.Exit (pos 0)) after.Value
exit wrong (code ∷ []) = exits code (whole_of code)
exit wrong words = wrong

-- the table
abbrev pub thread_row : ThreadCommand → Row
thread_row thread.Vwait = row (codes "vwait") (codes "vwait name") (by_words vwait)
thread_row thread.Update = row (codes "update") (codes "update") (by_words update)
thread_row thread.Wait = row (codes "thread::wait") (codes "thread::wait") (by_words wait)
thread_row thread.Create =
    row (codes "thread::create") (codes "thread::create ?-joinable? ?-preserved? ?script?") (by_words create)
thread_row thread.Preserve = row (codes "thread::preserve") (codes "thread::preserve ?id?") (by_words preserve)
thread_row thread.Release = row (codes "thread::release") (codes "thread::release ?-wait? ?id?") release
thread_row thread.Id = row (codes "thread::id") (codes "thread::id") id
thread_row thread.Names = row (codes "thread::names") (codes "thread::names") (by_words names)
thread_row thread.Exists = row (codes "thread::exists") (codes "thread::exists id") (by_words exists)
thread_row thread.Join = row (codes "thread::join") (codes "thread::join id") (by_words join)
thread_row thread.Configure =
    row
    (codes "thread::configure")
    (codes "thread::configure id ?option? ?value? ?option value ...?")
    (by_words configure)
thread_row thread.ErrorProc = row (codes "thread::errorproc") (codes "thread::errorproc ?name?") (by_words errorproc)
thread_row thread.Send =
    row (codes "thread::send") (codes "thread::send ?-async? ?-head? id script ?varname?") send
thread_row thread.Broadcast = row (codes "thread::broadcast") (codes "thread::broadcast script") (by_words broadcast)
thread_row thread.ThreadExit = row (codes "thread::exit") (codes "thread::exit ?status?") (by_words thread_exit)
thread_row thread.Exit = row (codes "exit") (codes "exit ?returnCode?") (by_words exit)

-- the commands of the table
abbrev pub thread_commands : List ThreadCommand
thread_commands =
    thread.Vwait ∷ thread.Update ∷ thread.Wait ∷ thread.Create ∷ thread.Preserve ∷ thread.Release ∷ thread.Id ∷
    thread.Names ∷ thread.Exists ∷ thread.Join ∷ thread.Configure ∷ thread.ErrorProc ∷ thread.Send ∷
    thread.Broadcast ∷ thread.ThreadExit ∷ thread.Exit ∷ []

-- the command of a name
abbrev pub thread_command : (name : List ℕ) → Option ThreadCommand
thread_command name = first_named (λ command. (thread_row command).name) thread_commands name
