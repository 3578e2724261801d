-- What is shown at a place depends on the place alone.
use Rattle.std.proofs.Common.{◌≡◌, ◌∙◌, ◌<◌, ◌≤◌, ◌⊎◌, inl, inr, ℕ, suc, zero, IsTrue, IsFalse, Bool, List, [], ◌∷◌, ◌++◌, length, take}
use Rattle.std.proofs.Common.{Option, Some, None, ap, arith, refl, slice_index, subst, sym}
use Rattle.tt_calls.specs.declared.request.Request.{Request}
use Rattle.tt_debug.specs.Lines.{place_line, thread_line}
use Rattle.tt_debug.specs.DebugLaws.{ShownOnceLaw}
use Rattle.tt_debug.specs.Shown.{AreLines, AreThreads, ComesTo, IsHeld, IsLineOf, Shows, absent, barred, ended, living}
use Rattle.tt_debug.specs.declared.command.Command.{Command}
use Rattle.tt_debug.specs.declared.command.Command.TheVariants.{Step, Back, To, Threads, Queue, Array, Bytes, Unknown}
use Rattle.tt_kept.specs.declared.setup.Setup.{Setup}
use Rattle.tt_machine.proofs.Steps.{not_barred, same_request, same_run, same_step}
use Rattle.tt_machine.specs.Machine.{CanStep, IsBarred, Machine, Runs, ThreadAsks, more, none, start_machine}
use Rattle.tt_shared.specs.Enabled.{enabled}
use Rattle.tt_threads.specs.Rows.{is_living}

-- ---- places ----

-- who goes past a place takes the step there
can-there : (given : List ℕ) (place later : ℕ) (old one other : Machine)
    → Runs old (take place given) one → Runs old (take later given) other → place < later → place < length given
    → CanStep one (slice_index given place)
can-there [] place later old one other ran further less within = absurd (omega (arith, within))
can-there (thread ∷ given) zero zero old one other ran further less within = absurd (omega (arith, less))
can-there (thread ∷ given) zero (suc later) old one other none (more step rest) less within = step.can
can-there (thread ∷ given) (suc place) zero old one other ran further less within = absurd (omega (arith, less))
can-there (thread ∷ given) (suc place) (suc later) old one other (more {next = next} step rest) (more {next = following} also others) less within =
    let same : following ≡ next = same_step old following next thread also step in
    can-there given place later next one other rest
    (subst (λ (machine : Machine). Runs machine (take later given) other) same others) (omega (arith, less)) (omega (arith, within))

not-past : (setup : Setup) (given : List ℕ) (place later : ℕ) (one other : Machine)
    → Runs (start_machine setup []) (take place given) one → Runs (start_machine setup []) (take later given) other
    → later ≤ length given → IsHeld given place one → place < later → ⊥
not-past setup given place later one other ran further within (ended is) less = omega (arith, is, within, less)
not-past setup given place later one other ran further within (barred there bars) less =
    not_barred one (slice_index given place)
    (can-there given place later (start_machine setup []) one other ran further less there) bars

-- one doesn't stop before where another comes
not-before : (setup : Setup) (given : List ℕ) (wanted place later : ℕ)
    → (one : ComesTo setup given wanted place) → (other : ComesTo setup given wanted later) → place < later → ⊥
not-before setup given wanted place later one other less = by-stop one.stops other.stops
  where
    by-stop : (place ≡ wanted) ⊎ ((place < wanted) × IsHeld given place one.machine)
        → (later ≡ wanted) ⊎ ((later < wanted) × IsHeld given later other.machine) → ⊥
    by-stop (inl is) (inl also) = omega (arith, is, also, less)
    by-stop (inl is) (inr held) = omega (arith, is, held.0, less)
    by-stop (inr held) last =
        not-past setup given place later one.machine other.machine one.ran other.ran other.within held.1 less

either-less : (a b : ℕ) → (a < b → ⊥) → (b < a → ⊥) → a ≡ b
either-less zero zero not_less not_more = refl
either-less zero (suc b) not_less not_more = absurd (not_less (omega arith))
either-less (suc a) zero not_less not_more = absurd (not_more (omega arith))
either-less (suc a) (suc b) not_less not_more =
    ap suc (either-less a b (λ less. not_less (omega (arith, less))) (λ more. not_more (omega (arith, more))))

come-once : (setup : Setup) (given : List ℕ) (wanted place later : ℕ)
    → ComesTo setup given wanted place → ComesTo setup given wanted later → place ≡ later
come-once setup given wanted place later one other =
    either-less place later (not-before setup given wanted place later one other) (not-before setup given wanted later place other one)

-- ---- threads ----

true-false : {b : Bool} → IsTrue b → IsFalse b → ⊥
true-false is also = cc

line-once : (machine : Machine) (number : ℕ) (text other : List ℕ) → IsLineOf machine number text → IsLineOf machine number other → text ≡ other
line-once machine number text other (living {request = one} {serving = serving} asks is) (living {request = two} {serving = during} also other_is) =
    let same : one ≡ two = same_request machine number one two serving during asks also in
    is ∙ (ap (λ (request : Request). thread_line number (enabled machine.shared number request) request) same ∙ sym other_is)
line-once machine number text other (living asks is) (absent gone nothing) = absurd (true-false asks.lives gone)
line-once machine number text other (absent gone nothing) (living asks is) = absurd (true-false asks.lives gone)
line-once machine number text other (absent gone is) (absent also nothing) = is ∙ sym nothing

lines-once : (machine : Machine) (number : ℕ) (text other : List ℕ) → AreLines machine number text → AreLines machine number other → text ≡ other
lines-once machine zero text other is also = is ∙ sym also
lines-once machine (suc number) text other one two =
    let before : one.before ≡ two.before = lines-once machine number one.before two.before one.are two.are in
    let last : one.last ≡ two.last = line-once machine (suc number) one.last two.last one.is two.is in
    one.joined ∙ rw (before, last) (sym two.joined)

threads-once : (over : Option ℕ) (machine : Machine) (text other : List ℕ) → AreThreads over machine text → AreThreads over machine other → text ≡ other
threads-once None machine text other one two = lines-once machine (length machine.shared.rows) text other one two
threads-once (Some code) machine text other one two = one ∙ sym two

-- ---- commands ----

moved-once : (setup : Setup) (given : List ℕ) (wanted : ℕ) (text other : List ℕ) (later last : ℕ)
    → ComesTo setup given wanted later × (text ≡ place_line later) → ComesTo setup given wanted last × (other ≡ place_line last)
    → (text ≡ other) × (later ≡ last)
moved-once setup given wanted text other later last one two =
    let same : later ≡ last = come-once setup given wanted later last one.0 two.0 in
    (one.1 ∙ (ap place_line same ∙ sym two.1), same)

stayed-once : (shown text other : List ℕ) (place later last : ℕ)
    → (text ≡ shown) × (later ≡ place) → (other ≡ shown) × (last ≡ place) → (text ≡ other) × (later ≡ last)
stayed-once shown text other place later last one two = (one.0 ∙ sym two.0, one.1 ∙ sym two.1)

shows-once : (setup : Setup) (given : List ℕ) (command : Command) (place : ℕ) (machine : Machine) (text other : List ℕ) (later last : ℕ)
    → Shows setup given command place machine text later → Shows setup given command place machine other last
    → (text ≡ other) × (later ≡ last)
shows-once setup given (Step count) place machine text other later last one two = moved-once setup given _ text other later last one two
shows-once setup given (Back count) place machine text other later last one two = moved-once setup given _ text other later last one two
shows-once setup given (To wanted) place machine text other later last one two = moved-once setup given _ text other later last one two
shows-once setup given Threads place machine text other later last one two =
    (threads-once machine.shared.over machine text other one.0 two.0, one.1 ∙ sym two.1)
shows-once setup given (Queue thread) place machine text other later last one two = stayed-once _ text other place later last one two
shows-once setup given (Array name) place machine text other later last one two = stayed-once _ text other place later last one two
shows-once setup given Bytes place machine text other later last one two = stayed-once _ text other place later last one two
shows-once setup given Unknown place machine text other later last one two = stayed-once _ text other place later last one two

pub shown_once : ShownOnceLaw
shown_once setup given place line text other later last one two =
    let same : two.machine ≡ one.machine = same_run (start_machine setup []) two.machine one.machine (take place given) two.ran one.ran in
    shows-once setup given _ place one.machine text other later last one.shows
    (subst (λ (machine : Machine). Shows setup given _ place machine other last) same two.shows)
