-- A request that is answered as a step of the machine.
use Rattle.std.proofs.Common.{◌≡◌, ◌≢◌, ◌&&◌, ℕ, Bool, true, false, IsTrue, IsFalse, List}
use Rattle.std.proofs.Common.{◌++◌, Option, Some, None, OnOk, Result, is_err, Ok, Err, is_none}
use Rattle.std.proofs.Common.{refl, subst}
use Rattle.tt_calls.specs.declared.request.Request.{Request}
use Rattle.tt_run.specs.Acting.{ReadsBy}
use Rattle.tt_run.specs.Desk.{Devices, Ground, can_act, input_left}
use Rattle.tt_run.specs.declared.fault.StepFault.{StepFault}
use Rattle.tt_run.specs.declared.fault.StepFault.TheVariants as fault
use Rattle.tt_lines.specs.Lines.{TakesLine, ReadsKnown, reads_line}
use Rattle.tt_machine.specs.Machine.{ThreadAsks, CanStep, IsBarred, Machine, ReadsInput, Steps, after_act, with_new_threads}
use Rattle.tt_machine.specs.Machine.{with_reply, over, silent, waits}
use Rattle.tt_shared.specs.Acts.{act}
use Rattle.tt_shared.specs.Enabled.{enabled}
use Rattle.tt_shared.specs.declared.applied.Line.{Line}
use Rattle.tt_threads.specs.Rows.{is_living}
use Rattle.tt_core.specs.inside.Standing.{IsIts}

-- ---- tests ----

pub both : (a b : Bool) → IsTrue (a && b) → IsTrue a × IsTrue b
both true b is = (refl, is)
both false b is = absurd (cc is)

pub some-none : {X : Type 0} {x : X} → Some x ≡ None → ⊥
some-none is = cc

true-false : {b : Bool} → IsTrue b → b ≡ false → ⊥
true-false is also = cc

none-of : {X : Type 0} (found : Option X) → IsTrue (is_none found) → found ≡ None
none-of None is = refl
none-of (Some x) is = absurd (cc is)

decide : (b : Bool) → (IsFalse b → ⊥) → IsTrue b
decide true f = refl
decide false f = absurd (f refl)

err-is : {T : Type 0} {result : Result T StepFault} {one other : StepFault} → result ≡ Err one → result ≡ Err other → one ≡ other
err-is is also = cc

-- what a result that is no error has
pub on-ok : {T F : Type 0} (P : Type 0) (result : Result T F) → is_err result ≡ false → OnOk result P → P
on-ok P (Ok x) fine is = is
on-ok P (Err e) fine is = absurd (cc fine)

-- what a request that can be answered has
pub record Able {S K E : Type 0} (desk : Ground S K E) (number : ℕ) (request : Request) : Type 0 where
  pub nothing_met : desk.kept ≡ None
  pub going : desk.shared.over ≡ None
  pub lives : IsTrue (is_living desk.shared.rows number)
  pub enabled : IsTrue (enabled desk.shared number request)

pub able : {S K E : Type 0} (desk : Ground S K E) (number : ℕ) (request : Request) → IsTrue (can_act desk number request) → Able desk number request
able desk number request is =
    let a = both ((is_none desk.kept && is_none desk.shared.over) && is_living desk.shared.rows number) (enabled desk.shared number request) is in
    let b = both (is_none desk.kept && is_none desk.shared.over) (is_living desk.shared.rows number) a.0 in
    let c = both (is_none desk.kept) (is_none desk.shared.over) b.0 in
    record { nothing_met = none-of desk.kept c.0; going = none-of desk.shared.over c.1; lives = b.1; enabled = a.1 }

-- it could have been answered, if something else was met
pub could-be : {S K E T : Type 0} (desk : Ground S K E) (number : ℕ) (request : Request) (result : Result T StepFault) (is : StepFault)
    → desk.kept ≡ None → (desk.kept ≡ None → IsFalse (can_act desk number request) → result ≡ Err fault.NotEnabled)
    → result ≡ Err is → is ≢ fault.NotEnabled → IsTrue (can_act desk number request)
could-be desk number request result is kept refused failed other =
    decide (can_act desk number request) (λ cannot. other (err-is failed (refused kept cannot)))

-- ---- what is read ----

record IsRead (is : Bool) (input : List ℕ) (line : Line) (left : Option (List ℕ)) : Type 0 where
  rest : List ℕ
  told : left ≡ Some rest
  reads : ReadsInput is input line rest

known-read : (old new : Option (List ℕ)) (input : List ℕ) (line : Line) → old ≡ Some input → ReadsKnown old new line → IsRead true input line new
known-read None new input line is reads = absurd (cc is)
known-read (Some held) None input line is reads = absurd reads
known-read (Some held) (Some left) input line is reads =
    let same : held ≡ input = cc is in
    record { rest = left; told = refl; reads = subst (λ (bytes : List ℕ). TakesLine bytes line left) same reads }

was-read : {S K E : Type 0} (held : S → Option (List ℕ)) (is : Bool) (old new : Devices S K E) (input : List ℕ) (line : Line)
    → input_left held old ≡ Some input → ReadsBy is held old new line → IsRead is input line (input_left held new)
was-read held true old new input line told reads = known-read (input_left held old) (input_left held new) input line told reads
was-read held false old new input line told reads = record {
  rest = input;
  told = rw (reads.1, reads.2) told;
  reads = (reads.0, refl);
}

-- ---- a step of the machine ----

-- wherever its threads are, this one asks so, if it lives
abbrev pub AsksIn : (Machine → Type 0) → (number : ℕ) → Request → (serving : List ℕ) → Type 0
AsksIn Where number request serving =
    (machine : Machine) → Where machine → IsTrue (is_living machine.shared.rows number) → ThreadAsks machine number request serving

pub can-go : {S K E : Type 0} (held : S → Option (List ℕ)) (desk : Ground S K E) (number : ℕ) (request : Request) (serving : List ℕ) (machine : Machine)
    → IsIts desk.shared (input_left held desk.devices) machine
    → Able desk number request
    → ThreadAsks machine number request serving
    → CanStep machine number
can-go held desk number request serving machine its can asking = record {
  request = request;
  serving = serving;
  going = rw (← its.is_shared) can.going;
  asks = asking;
  enabled = rw (← its.is_shared) can.enabled;
}

-- the step that answering a request is
pub record Goes {S K E : Type 0} (held : S → Option (List ℕ)) (old new : Ground S K E)
    (number : ℕ) (request : Request) (line : Line) (machine : Machine) : Type 0 where
  pub next : Machine
  pub steps : Steps machine number next
  pub asked : steps.can.request ≡ request
  pub took : steps.line ≡ line
  pub setup : next.setup ≡ machine.setup
  pub shared : new.shared ≡ next.shared
  pub left : input_left held new.devices ≡ Some next.input
  pub threads : next.threads ≡ with_new_threads (with_reply machine.threads number (act old.shared number request line).gives.reply) new.shared.rows
  pub out : next.out ≡ machine.out ++ (act old.shared number request line).gives.out
  pub err : next.err ≡ machine.err ++ (act old.shared number request line).gives.err

pub goes : {S K E : Type 0} (held : S → Option (List ℕ)) (old new : Ground S K E) (number : ℕ) (request : Request) (serving : List ℕ)
    (line : Line) (machine : Machine)
    → IsIts old.shared (input_left held old.devices) machine
    → Able old number request
    → ThreadAsks machine number request serving
    → ReadsBy (reads_line request) held old.devices new.devices line
    → new.shared ≡ (act old.shared number request line).state
    → Goes held old new number request line machine
goes held old new number request serving line machine its can asking read did =
    let was = was-read held (reads_line request) old.devices new.devices machine.input line its.is_left read in
    record {
      next = after_act machine number (act machine.shared number request line) was.rest;
      steps = record {
        can = record {
          request = request;
          serving = serving;
          going = rw (← its.is_shared) can.going;
          asks = asking;
          enabled = rw (← its.is_shared) can.enabled;
        };
        line = line;
        left = was.rest;
        read = was.reads;
        becomes = refl;
      };
      asked = refl;
      took = refl;
      setup = refl;
      shared = rw (← its.is_shared) did;
      left = was.told;
      threads = rw (did, its.is_shared) refl;
      out = rw its.is_shared refl;
      err = rw its.is_shared refl;
    }

-- a thread that is asked nothing that can be answered takes no step
pub barred-asking : {S K E : Type 0} (held : S → Option (List ℕ)) (desk : Ground S K E) (number : ℕ) (request : Request) (serving : List ℕ) (machine : Machine)
    → IsIts desk.shared (input_left held desk.devices) machine → desk.kept ≡ None
    → (IsTrue (is_living machine.shared.rows number) → ThreadAsks machine number request serving)
    → IsFalse (can_act desk number request)
    → IsBarred machine number
barred-asking held desk number request serving machine its kept asking unable =
    by-cases desk.kept machine.shared.over (is_living machine.shared.rows number) (enabled machine.shared number request) kept refl refl refl
    (rw (← its.is_shared) unable)
  where
    by-cases : (met : Option StepFault) (ended : Option ℕ) (lives enables : Bool)
        → met ≡ None → machine.shared.over ≡ ended → is_living machine.shared.rows number ≡ lives → enabled machine.shared number request ≡ enables
        → IsFalse (((is_none met && is_none ended) && lives) && enables)
        → IsBarred machine number
    by-cases (Some met) ended lives enables is_none is_over is_living is_enabled unable = absurd (some-none is_none)
    by-cases None (Some code) lives enables is_none is_over is_living is_enabled unable = over is_over
    by-cases None None false enables is_none is_over is_living is_enabled unable =
        silent (λ other during other_asks. true-false other_asks.lives is_living)
    by-cases None None true false is_none is_over is_living is_enabled unable = waits (asking is_living) is_enabled
    by-cases None None true true is_none is_over is_living is_enabled unable = absurd (cc unable)
