-- A step has one outcome, and so has a run.
use Rattle.std.proofs.Common.{◌≡◌, ◌∙◌, ℕ, Bool, true, false, IsTrue, IsFalse, List, [], ◌∷◌, ◌++◌, Option, Some, None, refl, sym, subst}
use Rattle.tt_calls.specs.Numbers.{at_number}
use Rattle.tt_calls.specs.declared.request.Request.{Request}
use Rattle.tt_lines.proofs.LineLemmas.{one-line}
use Rattle.tt_machine.proofs.OneRequest.{one_request}
use Rattle.tt_machine.specs.Machine.{ThreadAsks, CanStep, IsBarred, Machine, ReadsInput, Runs, Steps, Thread, over, silent, waits, none, more}
use Rattle.tt_lines.specs.Lines.{reads_line}
use Rattle.tt_kept.specs.Beginning.{IsNext}
use Rattle.tt_shared.specs.Enabled.{enabled}
use Rattle.tt_shared.specs.declared.applied.Line.{Line}

same_thread : (threads : List Thread) (number : ℕ) (one other : Thread)
    → at_number threads number ≡ Some one → at_number threads number ≡ Some other → one ≡ other
same_thread threads number one other is also = let same : Some one ≡ Some other = sym is ∙ also in cc

-- a thread asks one request
pub same_request : (machine : Machine) (number : ℕ) (one other : Request) (serving during : List ℕ)
    → ThreadAsks machine number one serving → ThreadAsks machine number other during → one ≡ other
same_request machine number one other serving during a b =
    let same : b.thread ≡ a.thread = same_thread machine.threads number b.thread a.thread b.made a.made in
    let next = subst (λ (thread : Thread). IsNext machine.setup number thread.start thread.replies other during) same b.next in
    (one_request machine.setup number a.thread.start a.thread.replies one other serving during a.next next).0

same_read : (is : Bool) (held left rest : List ℕ) (line also : Line)
    → ReadsInput is held line left → ReadsInput is held also rest → (line ≡ also) × (left ≡ rest)
same_read true held left rest line also a b = one-line held left rest line also a b
same_read false held left rest line also a b = ((a.0 ∙ sym b.0), (a.1 ∙ sym b.1))

pub same_step : (old one other : Machine) (number : ℕ) → Steps old number one → Steps old number other → one ≡ other
same_step old one other number a b =
    let asks : a.can.request ≡ b.can.request = same_request old number a.can.request b.can.request a.can.serving b.can.serving a.can.asks b.can.asks in
    let read : ReadsInput (reads_line a.can.request) old.input b.line b.left =
    subst (λ (request : Request). ReadsInput (reads_line request) old.input b.line b.left) (sym asks) b.read in
    let same = same_read (reads_line a.can.request) old.input a.left b.left a.line b.line a.read read in
    let line : a.line ≡ b.line = same.0 in
    let left : a.left ≡ b.left = same.1 in
    a.becomes ∙ rw (asks, line, left) (sym b.becomes)

not_both : (b : Bool) → IsTrue b → IsFalse b → ⊥
not_both true is other = cc
not_both false is other = cc

over-not : {X : Type 0} {found : Option X} {x : X} → found ≡ Some x → found ≡ None → ⊥
over-not is going = cc

pub not_barred : (machine : Machine) (number : ℕ) → CanStep machine number → IsBarred machine number → ⊥
not_barred machine number can (over is) = let going = can.going in absurd (over-not is going)
not_barred machine number can (silent asks) = asks can.request can.serving can.asks
not_barred machine number can (waits {request = request} {serving = serving} asks waiting) =
    let same : request ≡ can.request = same_request machine number request can.request serving can.serving asks can.asks in
    not_both (enabled machine.shared number can.request) can.enabled
    (subst (λ (one : Request). IsFalse (enabled machine.shared number one)) same waiting)

pub same_run : (old one other : Machine) (schedule : List ℕ) → Runs old schedule one → Runs old schedule other → one ≡ other
same_run old one other [] none none = refl
same_run old one other (number ∷ schedule) (more {next = next} step rest) (more {next = following} also others) =
    let same : following ≡ next = same_step old following next number also step in
    same_run next one other schedule rest (subst (λ (machine : Machine). Runs machine schedule other) same others)

pub one_more : (old next new : Machine) (schedule : List ℕ) (number : ℕ)
    → Runs old schedule next → Steps next number new → Runs old (schedule ++ number ∷ []) new
one_more old next new [] number none step = more step none
one_more old next new (first ∷ schedule) number (more {next = second} taken rest) step =
    more taken (one_more second next new schedule number rest step)
