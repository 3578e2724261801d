-- The trace of an error (tclvars(n), errorInfo): its message, and then lines in order outwards.
use Rattle.std.specs.Prelude.{ℕ, ◌+◌, nat_le, if◌then◌else◌, List, ◌∷◌, ◌++◌, codes, count_by, length, take}
use Rattle.std.specs.Fmt.{decimal}
use Rattle.tt_lanes.specs.Classes.{is_newline}
use Rattle.tt_trace.specs.declared.trace.Joint.{Joint}
use Rattle.tt_trace.specs.declared.trace.Joint.TheVariants.{WhileExecuting, InvokedFromWithin}
use Rattle.tt_trace.specs.declared.trace.TheConstants.{LONGEST}

-- a trace: its text so far, and the line that the next command has over it
pub record TraceText : Type 0 where
  pub text : List ℕ
  pub joint : Joint

-- the trace of a new error (error(n))
abbrev pub new_trace : (message : List ℕ) → TraceText
new_trace message = record { text = message; joint = WhileExecuting }

-- a trace that goes on with one that is there: of another thread or job, or the info of error(n)
abbrev pub trace_after : (trace : List ℕ) → TraceText
trace_after trace = record { text = trace; joint = InvokedFromWithin }

-- a line more
abbrev pub with_line : (text line : List ℕ) → List ℕ
with_line text line = text ++ (10 ∷ line)

-- the line over a command: the first that ended with the error has one of its own
abbrev pub heading : Joint → List ℕ
heading WhileExecuting = codes "    while executing"
heading InvokedFromWithin = codes "    invoked from within"

-- the text of a command, cut past 150 bytes
abbrev pub short_command : (command : List ℕ) → List ℕ
short_command command =
    if nat_le (length command) LONGEST then command else take LONGEST command ++ codes "..."

-- the command in quotes
abbrev pub quoted_command : (command : List ℕ) → List ℕ
quoted_command command = codes "\"" ++ (short_command command ++ codes "\"")

-- a command that ended with the error: a line over it, and its text in quotes
abbrev pub with_command : TraceText → (command : List ℕ) → TraceText
with_command trace command =
    record {
      text = with_line (with_line trace.text (heading trace.joint)) (quoted_command command);
      joint = InvokedFromWithin;
    }

-- which line of a procedure's body the command stood in
abbrev pub place_in_body : (line : ℕ) → List ℕ
place_in_body line = codes "\" line " ++ (decimal line ++ codes ")")

-- the procedure and that line (proc(n))
abbrev pub procedure_line : (name : List ℕ) → (line : ℕ) → List ℕ
procedure_line name line = codes "    (procedure \"" ++ (name ++ place_in_body line)

-- the end of a procedure's body
abbrev pub with_procedure : TraceText → (name : List ℕ) → (line : ℕ) → TraceText
with_procedure trace name line = record trace { text = with_line trace.text (procedure_line name line) }

-- the line of a body that a place is in, the first being 1: the newlines before it are counted
abbrev pub line_at : (body : List ℕ) → (place : ℕ) → ℕ
line_at body place = count_by is_newline (take place body) + 1
