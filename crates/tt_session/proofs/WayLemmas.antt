-- That a list, or turns, are followed in one way.
use Rattle.std.proofs.Common.{◌≡◌, ◌⊎◌, ◌∙◌, ◌≤◌, ◌<◌, ◌+◌, ℕ, suc, List, [], ◌∷◌, ◌++◌, length, Some}
use Rattle.std.proofs.Common.{refl, sym, ap, subst, arith, inl, inr, append-nil}
use Rattle.tt_core.specs.Stage.{IsNextAfter}
use Rattle.tt_machine.proofs.Steps.{not_barred, same_step}
use Rattle.tt_machine.specs.Machine.{CanStep, IsBarred, IsStuck, Machine, Runs, Steps, start_machine}
use Rattle.tt_machine.specs.Machine as run
use Rattle.tt_session.specs.Choosing.{Allows, Chooses, Freely, InTurn, Mode, Replaying, TakesTurns, limit_of}
use Rattle.tt_session.specs.Choosing as turn
use Rattle.tt_session.specs.declared.status.Status.{Status}
use Rattle.tt_session.proofs.EndLemmas.{EndView, over, not_over, refused, stuck, full, same-given}

-- ---- a list is followed in one way

-- the machine can't take the next of these steps
abbrev pub Stops : Machine → List ℕ → Type 0
Stops machine [] = Unit {0}
Stops machine (thread ∷ rest) = IsBarred machine thread

-- a step that can't be taken is none of a run
pub no-run : (machine last : Machine) (thread : ℕ) (threads : List ℕ) → IsBarred machine thread → Runs machine (thread ∷ threads) last → ⊥
no-run machine last thread threads barred (run.more step rest) = not_barred machine thread step.can barred

pub same-way : (machine one other : Machine) (xs ys p q : List ℕ) → Runs machine xs one → Runs machine ys other → Stops one p → Stops other q
    → xs ++ p ≡ ys ++ q → xs ≡ ys
same-way machine one other [] [] p q ran also stops ends e = refl
same-way machine one other [] (y ∷ ys) p q run.none also stops ends e =
    let next : Stops machine (y ∷ (ys ++ q)) = subst (λ (rest : List ℕ). Stops machine rest) e stops in
    absurd (no-run machine other y ys next also)
same-way machine one other (x ∷ xs) [] p q ran run.none stops ends e =
    let next : Stops machine (x ∷ (xs ++ p)) = subst (λ (rest : List ℕ). Stops machine rest) (sym e) ends in
    absurd (no-run machine one x xs next ran)
same-way machine one other (x ∷ xs) (y ∷ ys) p q (run.more {next = next} step ran) (run.more {next = following} taken also) stops ends e =
    let first : y ≡ x = cc e in
    let rest : xs ++ p ≡ ys ++ q = cc e in
    let same : following ≡ next = same_step machine following next x (rw (← first) taken) step in
    let others = same-way next one other xs ys p q ran (subst (λ (now : Machine). Runs now ys other) same also) stops ends rest in
    ap (λ (t : List ℕ). x ∷ t) others ∙ ap (λ (n : ℕ). n ∷ ys) (sym first)

-- what is left of its list, and that the machine can't take the first of it
pub record IsStopped (machine : Machine) (schedule given : List ℕ) : Type 0 where
  pub rest : List ℕ
  pub cut : given ≡ schedule ++ rest
  pub stops : Stops machine rest

pub stopped : (status : Status) (given : List ℕ) (machine : Machine) (schedule : List ℕ) → EndView (Replaying given) machine schedule status
    → IsStopped machine schedule given
stopped status given machine schedule (over whole is) = record { rest = []; cut = sym whole ∙ sym (append-nil schedule); stops = tt }
stopped status given machine schedule (not_over whole is) = record { rest = []; cut = same-given given schedule whole ∙ sym (append-nil schedule); stops = tt }
stopped status given machine schedule (refused is) = record { rest = is.thread ∷ is.later; cut = same-given given _ is.next; stops = is.refused }
stopped status given machine schedule (stuck some is) = absurd (cc some)
stopped status given machine schedule (full is) = absurd (cc is.limit)

-- ---- turns are taken in one way

-- who is next is one
pub same-next : (after one other : ℕ) (machine : Machine) → IsNextAfter after (Some one) machine → IsNextAfter after (Some other) machine → one ≡ other
same-next after one other machine (can, where_one) (also, where_other) = go where_one where_other
  where
    no : (number : ℕ) → CanStep machine number → IsBarred machine number → ⊥
    no number can barred = not_barred machine number can barred

    equal : ¬ (one < other) → ¬ (other < one) → one ≡ other
    equal not_less not_more = omega (arith, not_less, not_more)

    go : ((after < one) × ((number : ℕ) → after < number → number < one → IsBarred machine number))
        ⊎ ((one ≤ after) × ((number : ℕ) → after < number → IsBarred machine number) × ((number : ℕ) → number < one → IsBarred machine number))
        → ((after < other) × ((number : ℕ) → after < number → number < other → IsBarred machine number))
        ⊎ ((other ≤ after) × ((number : ℕ) → after < number → IsBarred machine number) × ((number : ℕ) → number < other → IsBarred machine number))
        → one ≡ other
    go (inl above) (inl beyond) = equal (λ less. no one can (beyond.1 one above.0 less)) (λ less. no other also (above.1 other beyond.0 less))
    go (inl above) (inr below) = absurd (no one can (below.1 one above.0))
    go (inr below) (inl beyond) = absurd (no other also (below.1 other beyond.0))
    go (inr below) (inr under) = equal (λ less. no one can (under.2 one less)) (λ less. no other also (below.2 other less))

-- no further turn is taken from this machine, with this many steps
abbrev pub Rests : Machine → (count steps : ℕ) → Type 0
Rests machine count steps = (count ≡ steps) ⊎ ((number : ℕ) → IsBarred machine number)

pub no-turn : (machine : Machine) (after thread : ℕ) (schedule : List ℕ) (count steps : ℕ) → Rests machine count steps
    → count + length (thread ∷ schedule) ≤ steps → TakesTurns after machine (thread ∷ schedule) → ⊥
no-turn machine after thread schedule count steps (inl all) within turns = omega (arith, all, within)
no-turn machine after thread schedule count steps (inr barred) within (turn.more is step turns) = not_barred machine thread step.can (barred thread)

pub same-turns : (machine one other : Machine) (after count steps : ℕ) (xs ys : List ℕ) → TakesTurns after machine xs
    → TakesTurns after machine ys → Runs machine xs one → Runs machine ys other
    → count + length xs ≤ steps → count + length ys ≤ steps → Rests one (count + length xs) steps → Rests other (count + length ys) steps → xs ≡ ys
same-turns machine one other after count steps [] [] turns also ran goes within room rests stays = refl
same-turns machine one other after count steps [] (y ∷ ys) turns also run.none goes within room rests stays =
    absurd (no-turn machine after y ys count steps (more-rests rests) room also)
  where
    more-rests : Rests machine (count + 0) steps → Rests machine count steps
    more-rests (inl all) = inl (omega (arith, all))
    more-rests (inr barred) = inr barred
same-turns machine one other after count steps (x ∷ xs) [] turns also ran run.none within room rests stays =
    absurd (no-turn machine after x xs count steps (more-rests stays) within turns)
  where
    more-rests : Rests machine (count + 0) steps → Rests machine count steps
    more-rests (inl all) = inl (omega (arith, all))
    more-rests (inr barred) = inr barred
same-turns machine one other after count steps (x ∷ xs) (y ∷ ys) (turn.more {new = after_one} first step turns)
    (turn.more {new = after_other} second taken also) (run.more {next = next} moves ran) (run.more {next = following} goes on) within room rests stays =
    let same : y ≡ x = same-next after y x machine second first in
    let here : after_one ≡ next = same_step machine after_one next x step moves in
    let there : after_other ≡ next = same_step machine after_other next x (rw (← same) taken) moves in
    let later : following ≡ next = same_step machine following next x (rw (← same) goes) moves in
    let rest = same-turns next one other x (count + 1) steps xs ys
    (subst (λ (m : Machine). TakesTurns x m xs) here turns)
    (subst (λ (m : Machine). TakesTurns x m ys) there (subst (λ (n : ℕ). TakesTurns n after_other ys) same also))
    ran (subst (λ (m : Machine). Runs m ys other) later on) (omega (arith, within)) (omega (arith, room)) (shift one (length xs) rests)
    (shift other (length ys) stays) in
    ap (λ (t : List ℕ). x ∷ t) rest ∙ ap (λ (n : ℕ). n ∷ ys) (sym same)
  where
    shift : (at : Machine) (n : ℕ) → Rests at (count + suc n) steps → Rests at (count + 1 + n) steps
    shift at n (inl all) = inl (omega (arith, all))
    shift at n (inr barred) = inr barred

pub rests : (status : Status) (steps : ℕ) (machine : Machine) (schedule : List ℕ) → EndView (InTurn steps) machine schedule status
    → Rests machine (0 + length schedule) steps
rests status steps machine schedule (over {code = code} whole is) = inr (λ number. run.over is)
rests status steps machine schedule (not_over whole is) = absurd (cc whole)
rests status steps machine schedule (refused is) = absurd (cc is.next)
rests status steps machine schedule (stuck some is) = inr is.barred
rests status steps machine schedule (full {steps = most} is) = let same : steps ≡ most = cc is.limit in inl (omega (arith, is.full, same))
