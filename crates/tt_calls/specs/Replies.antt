-- What calls on a table of what threads share give: locks, channels, arrays (thread(n), chan(n), tsv(n)).
use Rattle.std.specs.Prelude.{ℕ, Bool, List, if◌then◌else◌}
use Rattle.tt_calls.specs.declared.reply.Reply.{Reply}
use Rattle.tt_calls.specs.declared.reply.Reply.TheVariants.{Refused}
use Rattle.tt_calls.specs.declared.reply.Step.{Step}
use Rattle.tt_calls.specs.declared.reply.Step.TheVariants as step

-- the table after a call that did not wait, and its reply
pub record Answered (Table : Type 0) : Type 0 where
  pub table : Table
  pub reply : Reply

abbrev pub answers : {Table : Type 0} → Table → Reply → Answered Table
answers table reply = record { table = table; reply = reply }

-- a call that is refused changes nothing
abbrev pub refuses : {Table : Type 0} → Table → (message : List ℕ) → Answered Table
refuses table message = answers table (Refused message)

-- the table after a call that waits, or does this: a thread that waits changes nothing
abbrev pub table_after : {Table : Type 0} → (waits : Bool) → Table → Answered Table → Table
table_after waits table answered = if waits then table else answered.table

-- what such a call gives
abbrev pub step_after : {Table : Type 0} → (waits : Bool) → Answered Table → Step
step_after waits answered = if waits then step.Wait else step.Reply answered.reply
