-- How a settled run ends.
use Rattle.std.proofs.Common.{◌≡◌, ◌≢◌, ◌∙◌, ℕ, false, List, ◌∷◌, ◌++◌, length, Option, None, Some}
use Rattle.std.proofs.Common.{IsSome, refl, sym, ap, subst, arith, length-append}
use Rattle.tt_core.specs.Faithful.{is_cut}
use Rattle.tt_machine.proofs.Steps.{not_barred}
use Rattle.tt_machine.specs.Machine.{CanStep, IsStuck, Machine}
use Rattle.tt_session.specs.AnswerLaws.{IsSettled}
use Rattle.tt_session.specs.Choosing.{Freely, InTurn, Mode, Replaying, limit_of}
use Rattle.tt_session.specs.Ending.{EndsAs, IsFull, IsRefused, IsWhole, cause_of}
use Rattle.tt_session.specs.Status.{ended_status}
use Rattle.tt_session.specs.declared.status.End.{End}
use Rattle.tt_session.specs.declared.status.End.TheVariants as ends
use Rattle.tt_session.specs.declared.status.Place.TheVariants.{Entry}
use Rattle.tt_session.specs.declared.status.Status.{Status}
use Rattle.tt_session.specs.declared.status.Status.TheVariants.{Done, BadSchedule, ScheduleEnded, Stalled, StepLimit}

-- ---- how a settled run ends

pub data EndView (mode : Mode) (machine : Machine) (schedule : List ℕ) : Status → Type 0 where
  over : {code : ℕ} → IsWhole mode schedule → machine.shared.over ≡ Some code → EndView mode machine schedule (Done code)
  not_over : mode ≡ Replaying schedule → machine.shared.over ≡ None → EndView mode machine schedule ScheduleEnded
  refused : {number : ℕ} → IsRefused number mode machine schedule → EndView mode machine schedule (BadSchedule (Entry number))
  stuck : IsSome (limit_of mode) → IsStuck machine → EndView mode machine schedule Stalled
  full : {steps : ℕ} → IsFull steps mode machine schedule → EndView mode machine schedule (StepLimit steps)

pub end-view : (end : End) (mode : Mode) (machine : Machine) (schedule : List ℕ) → IsSettled (ended_status end)
    → EndsAs end mode machine schedule → EndView mode machine schedule (ended_status end)
end-view (ends.Done code) mode machine schedule settled is = over is.0 is.1
end-view ends.ScheduleEnded mode machine schedule settled is = not_over is.0 is.1
end-view (ends.Barred number) mode machine schedule settled is = refused is
end-view ends.Stalled mode machine schedule settled is = stuck is.0 is.1
end-view (ends.StepLimit steps) mode machine schedule settled is = full is
end-view ends.ReadFault mode machine schedule settled is = absurd settled
end-view ends.WriteFault mode machine schedule settled is = absurd settled
end-view ends.NoMemory mode machine schedule settled is = absurd settled

pub whole-replayed : (given schedule : List ℕ) → IsWhole (Replaying given) schedule → Replaying given ≡ Replaying schedule
whole-replayed given schedule is = ap Replaying (sym is)

pub same-given : (given schedule : List ℕ) → Replaying given ≡ Replaying schedule → given ≡ schedule
same-given given schedule is = cc

-- a run after its whole list isn't refused
pub not-refused : (mode : Mode) (machine : Machine) (schedule : List ℕ) (number : ℕ) → IsWhole mode schedule → IsRefused number mode machine schedule → ⊥
not-refused (Replaying given) machine schedule number whole is =
    let given_is = same-given given (schedule ++ is.thread ∷ is.later) is.next in
    omega (arith, ap length (whole ∙ given_is), length-append schedule (is.thread ∷ is.later))
not-refused (InTurn steps) machine schedule number whole is = absurd (cc is.next)
not-refused (Freely steps) machine schedule number whole is = absurd (cc is.next)

pub replayed-whole : (mode : Mode) (schedule : List ℕ) → mode ≡ Replaying schedule → IsWhole mode schedule
replayed-whole mode schedule is = let P : Mode → Type 0 = λ m. IsWhole m schedule in subst P (sym is) refl

pub no-limit : (mode : Mode) (list : List ℕ) → mode ≡ Replaying list → limit_of mode ≡ None
no-limit mode list is = ap limit_of is

pub some-limit : (limit : Option ℕ) → IsSome limit → limit ≡ None → ⊥
some-limit None some none = cc
some-limit (Some steps) some none = cc

pub over-can : (machine : Machine) (code thread : ℕ) → machine.shared.over ≡ Some code → CanStep machine thread → ⊥
over-can machine code thread is can = cc (sym is ∙ can.going)

-- one machine has one end
pub same-end : (one other : Status) (mode : Mode) (machine : Machine) (schedule : List ℕ) → EndView mode machine schedule one
    → EndView mode machine schedule other → one ≡ other
same-end one other mode machine schedule (over {code = code} a is) (over {code = value} b also) =
    let same : code ≡ value = cc (sym is ∙ also) in
    ap Done same
same-end one other mode machine schedule (over a is) (not_over b also) = absurd (cc (sym is ∙ also))
same-end one other mode machine schedule (over a is) (refused {number = number} b) = absurd (not-refused mode machine schedule number a b)
same-end one other mode machine schedule (over a is) (stuck b c) = absurd (cc (sym is ∙ c.going))
same-end one other mode machine schedule (over {code = code} a is) (full b) = absurd (over-can machine code b.thread is b.can)
same-end one other mode machine schedule (not_over a is) (over b also) = absurd (cc (sym is ∙ also))
same-end one other mode machine schedule (not_over a is) (not_over b also) = refl
same-end one other mode machine schedule (not_over a is) (refused {number = number} b) =
    absurd (not-refused mode machine schedule number (replayed-whole mode schedule a) b)
same-end one other mode machine schedule (not_over a is) (stuck b c) = absurd (some-limit (limit_of mode) b (no-limit mode schedule a))
same-end one other mode machine schedule (not_over a is) (full b) = absurd (cc (sym b.limit ∙ no-limit mode schedule a))
same-end one other mode machine schedule (refused {number = number} a) (over b also) = absurd (not-refused mode machine schedule number b a)
same-end one other mode machine schedule (refused {number = number} a) (not_over b also) =
    absurd (not-refused mode machine schedule number (replayed-whole mode schedule b) a)
same-end one other mode machine schedule (refused a) (refused b) = ap (λ (n : ℕ). BadSchedule (Entry n)) (a.number_is ∙ sym b.number_is)
same-end one other mode machine schedule (refused a) (stuck b c) = absurd (some-limit (limit_of mode) b (no-limit mode _ a.next))
same-end one other mode machine schedule (refused a) (full b) = absurd (cc (sym b.limit ∙ no-limit mode _ a.next))
same-end one other mode machine schedule (stuck a c) (over b also) = absurd (cc (sym also ∙ c.going))
same-end one other mode machine schedule (stuck a c) (not_over b also) = absurd (some-limit (limit_of mode) a (no-limit mode schedule b))
same-end one other mode machine schedule (stuck a c) (refused b) = absurd (some-limit (limit_of mode) a (no-limit mode _ b.next))
same-end one other mode machine schedule (stuck a c) (stuck b d) = refl
same-end one other mode machine schedule (stuck a c) (full b) = absurd (not_barred machine b.thread b.can (c.barred b.thread))
same-end one other mode machine schedule (full a) (over {code = code} b also) = absurd (over-can machine code a.thread also a.can)
same-end one other mode machine schedule (full a) (not_over b also) = absurd (cc (sym a.limit ∙ no-limit mode schedule b))
same-end one other mode machine schedule (full a) (refused b) = absurd (cc (sym a.limit ∙ no-limit mode _ b.next))
same-end one other mode machine schedule (full a) (stuck b c) = absurd (not_barred machine a.thread a.can (c.barred a.thread))
same-end one other mode machine schedule (full {steps = steps} a) (full {steps = most} b) =
    let same : steps ≡ most = cc (sym a.limit ∙ b.limit) in
    ap StepLimit same

-- of a settled run each sink got what the machine wrote
pub uncut : (end : End) → IsSettled (ended_status end) → is_cut (cause_of end) ≡ false
uncut (ends.Done code) settled = refl
uncut ends.ScheduleEnded settled = refl
uncut (ends.Barred number) settled = refl
uncut ends.Stalled settled = refl
uncut (ends.StepLimit steps) settled = refl
uncut ends.ReadFault settled = absurd settled
uncut ends.WriteFault settled = absurd settled
uncut ends.NoMemory settled = absurd settled

-- a settled run met no failed write
pub not-write : (end : End) → IsSettled (ended_status end) → end ≢ ends.WriteFault
not-write (ends.Done code) settled is = absurd (cc is)
not-write ends.ScheduleEnded settled is = absurd (cc is)
not-write (ends.Barred number) settled is = absurd (cc is)
not-write ends.Stalled settled is = absurd (cc is)
not-write (ends.StepLimit steps) settled is = absurd (cc is)
not-write ends.ReadFault settled is = absurd settled
not-write ends.WriteFault settled is = absurd settled
not-write ends.NoMemory settled is = absurd settled
