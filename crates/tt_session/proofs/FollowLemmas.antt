-- How far a schedule was followed.
use Rattle.std.proofs.Common.{◌≡◌, ◌∙◌, ◌<◌, ◌≤◌, ◌+◌, ℕ, zero, suc, refl, List, [], ◌∷◌, ◌++◌, length, take, drop, slice_index}
use Rattle.std.proofs.Common.{◌⊎◌, inl, inr, Option, None, Some, IfSome, sym, ap, subst, arith, add-one, append_assoc, drop-cons}
use Rattle.std.proofs.lemmas.List.{length-take-le, take-append-drop}
use Rattle.tt_devices.specs.Faults.{Rises}
use Rattle.tt_core.specs.Faithful.{AsksLine}
use Rattle.tt_core.specs.Stage.{OfMachine, SameBeginning, Stage}
use Rattle.tt_machine.proofs.Steps.{same_run}
use Rattle.tt_machine.specs.Machine.{IsBarred, Machine, Runs, start_machine}
use Rattle.tt_session.specs.Choosing.{Replaying}
use Rattle.tt_core.specs.Parts.{IsFirstPart}
use Rattle.tt_session.specs.Ending.{StopsAtLine, IsRefused}
use Rattle.tt_session.specs.inside.Following.{AtRun}

-- a system has taken the steps of a list up to a place
pub record IsFollowing {S K E : Type 0} (reads : S → ℕ) (faults : K → ℕ) (errors : E → ℕ) (old now : Stage S K E) (list : List ℕ) (place : ℕ) : Type 0 where
  pub taken : now.desk.schedule ≡ take place list
  pub going : now.desk.kept ≡ None
  pub same : SameBeginning old now
  pub reads_steady : reads now.desk.devices.input ≡ reads old.desk.devices.input
  pub steady : faults now.desk.devices.output ≡ faults old.desk.devices.output
  pub errors_steady : errors now.desk.devices.errors ≡ errors old.desk.devices.errors
  pub no_output : place ≡ 0 → now.desk.devices.output ≡ old.desk.devices.output
  pub no_errors : place ≡ 0 → now.desk.devices.errors ≡ old.desk.devices.errors

pub first-part : (taken list : List ℕ) (place : ℕ) → taken ≡ take place list → IsFirstPart taken list
first-part taken list place is = record { rest = drop place list; cut = rw is (sym (take-append-drop place list)) }

-- the step at this place comes after those before it
next-is : (taken list : List ℕ) (place : ℕ) → place < length list → taken ≡ take place list → list ≡ taken ++ slice_index list place ∷ drop (place + 1) list
next-is taken list place within is = rw (is, add-one, ← drop-cons list place 0 within) (sym (take-append-drop place list))

-- if no step was taken, none of the list was reached
pub none-taken : (taken list : List ℕ) (place : ℕ) → place ≤ length list → taken ≡ take place list → taken ≡ [] → place ≡ 0
none-taken taken list place within is none = sym (length-take-le place list within) ∙ ap length (sym is ∙ none)

-- one more step was taken
pub first-more : (taken list : List ℕ) (place thread : ℕ) → place < length list → taken ≡ take place list → thread ≡ slice_index list place
    → IsFirstPart (taken ++ thread ∷ []) list
first-more taken list place thread within is thread_is = record {
  rest = drop (place + 1) list;
  cut = rw (thread_is, append_assoc taken (slice_index list place ∷ []) (drop (place + 1) list)) (next-is taken list place within is);
}

pub refused-at : (schedule list : List ℕ) (place thread : ℕ) (machine : Machine) → place < length list → schedule ≡ take place list
    → thread ≡ slice_index list place → IsBarred machine thread → IsRefused (place + 1) (Replaying list) machine schedule
refused-at schedule list place thread machine within taken thread_is barred = record {
  thread = slice_index list place;
  later = drop (place + 1) list;
  next = ap Replaying (next-is schedule list place within taken);
  number_is = rw (taken, length-take-le place list (omega arith)) (omega arith);
  refused = rw (← thread_is) barred;
}

-- the thread of the next entry asks for a line
pub reading-at : (schedule list : List ℕ) (place thread : ℕ) (machine : Machine) → place < length list → schedule ≡ take place list
    → thread ≡ slice_index list place → AsksLine thread machine → StopsAtLine (Replaying list) machine schedule
reading-at schedule list place thread machine within taken thread_is asks = record {
  thread = thread;
  due = first-more schedule list place thread within taken thread_is;
  asks = asks;
}

-- a list with an entry added isn't empty
pub some-entry : (taken new : List ℕ) (thread : ℕ) → new ≡ taken ++ thread ∷ [] → new ≡ [] → ⊥
some-entry [] new thread is none = cc
some-entry (one ∷ taken) new thread is none = cc

-- ---- the machine after a schedule ----

-- what holds of it holds of each
pub at-run : {S K E : Type 0} (held : S → Option (List ℕ)) (stage : Stage S K E) (P : Machine → Type 0) (Q : Machine → Machine → Type 0)
    → OfMachine held stage P → ((begun machine : Machine) → P machine → Q begun machine) → AtRun held stage Q
at-run held stage P Q is f = go (held stage.began.input) is
  where
    go : (told : Option (List ℕ))
        → IfSome told (λ input. (machine : Machine) × Runs (start_machine stage.setup input) stage.desk.schedule machine × P machine)
        → IfSome told
        (λ input. (machine : Machine) → Runs (start_machine stage.setup input) stage.desk.schedule machine → Q (start_machine stage.setup input) machine)
    go None is = tt
    go (Some input) is = λ machine ran.
        let same : is.0 ≡ machine = same_run (start_machine stage.setup input) is.0 machine stage.desk.schedule is.1 ran in
        subst (Q (start_machine stage.setup input)) same (f (start_machine stage.setup input) is.0 is.2)

-- of any machine
pub of-any : {S K E : Type 0} (held : S → Option (List ℕ)) (stage : Stage S K E) (Q : Machine → Machine → Type 0)
    → ((begun machine : Machine) → Q begun machine) → AtRun held stage Q
of-any held stage Q f = go (held stage.began.input)
  where
    go : (told : Option (List ℕ))
        → IfSome told
        (λ input. (machine : Machine) → Runs (start_machine stage.setup input) stage.desk.schedule machine → Q (start_machine stage.setup input) machine)
    go None = tt
    go (Some input) = λ machine ran. f (start_machine stage.setup input) machine

-- and another fact with it
pub at-both : {S K E : Type 0} (held : S → Option (List ℕ)) (stage : Stage S K E) (P Q R : Machine → Machine → Type 0)
    → AtRun held stage P → AtRun held stage Q → ((begun machine : Machine) → P begun machine → Q begun machine → R begun machine) → AtRun held stage R
at-both held stage P Q R one other f = go (held stage.began.input) one other
  where
    go : (told : Option (List ℕ))
        → IfSome told
        (λ input. (machine : Machine) → Runs (start_machine stage.setup input) stage.desk.schedule machine → P (start_machine stage.setup input) machine)
        → IfSome told
        (λ input. (machine : Machine) → Runs (start_machine stage.setup input) stage.desk.schedule machine → Q (start_machine stage.setup input) machine)
        → IfSome told
        (λ input. (machine : Machine) → Runs (start_machine stage.setup input) stage.desk.schedule machine → R (start_machine stage.setup input) machine)
    go None one other = tt
    go (Some input) one other = λ machine ran. f (start_machine stage.setup input) machine (one machine ran) (other machine ran)

-- of the same steps from the same beginning
pub same-run-of : {S K E : Type 0} (held : S → Option (List ℕ)) (now new : Stage S K E) (Q : List ℕ → Machine → Machine → Type 0)
    → SameBeginning now new → new.desk.schedule ≡ now.desk.schedule → AtRun held now (Q now.desk.schedule) → AtRun held new (Q new.desk.schedule)
same-run-of held now new Q same steps is = rw (same.setup, same.began, steps) is

-- ---- what stays ----

pub same-beginning : {S K E : Type 0} (old mid new : Stage S K E) → SameBeginning old mid → SameBeginning mid new → SameBeginning old new
same-beginning old mid new one other = record { setup = other.setup ∙ one.setup; began = other.began ∙ one.began }

pub rises-from : (old mid new : ℕ) → mid ≡ old → Rises mid new → Rises old new
rises-from old mid new is rises = subst (λ (n : ℕ). Rises n new) is rises

pub either-rises : (old mid new before between after : ℕ) → mid ≡ old → between ≡ before → Rises mid new ⊎ Rises between after
    → Rises old new ⊎ Rises before after
either-rises old mid new before between after is also (inl rises) = inl (rises-from old mid new is rises)
either-rises old mid new before between after is also (inr rises) = inr (rises-from before between after also rises)

-- the list was followed, and perhaps one entry more
pub first-or-more : (taken new list : List ℕ) (place thread : ℕ) → place < length list → taken ≡ take place list → thread ≡ slice_index list place
    → (new ≡ taken) ⊎ (new ≡ taken ++ thread ∷ []) → IsFirstPart new list
first-or-more taken new list place thread within is thread_is (inl same) =
    subst (λ (steps : List ℕ). IsFirstPart steps list) (sym same) (first-part taken list place is)
first-or-more taken new list place thread within is thread_is (inr more) =
    subst (λ (steps : List ℕ). IsFirstPart steps list) (sym more) (first-more taken list place thread within is thread_is)

-- what was not put if no step was taken
pub nothing-put : {X : Type 0} (taken new list : List ℕ) (place thread : ℕ) (old mid last : X) → place ≤ length list → taken ≡ take place list
    → (new ≡ taken) ⊎ (new ≡ taken ++ thread ∷ []) → (new ≡ taken → last ≡ mid) → (place ≡ 0 → mid ≡ old)
    → new ≡ [] → last ≡ old
nothing-put taken new list place thread old mid last within is (inl same) stays before empty =
    stays same ∙ before (none-taken taken list place within is (sym same ∙ empty))
nothing-put taken new list place thread old mid last within is (inr more) stays before empty = absurd (some-entry taken new thread more empty)

-- all of a list was followed
pub followed : {X : Type 0} (place : ℕ) (taken list : List X) → length list ≤ place → taken ≡ take place list → taken ≡ list
followed place taken list past is = is ∙ take-past place list past
  where
    take-past : {X : Type 0} (n : ℕ) (xs : List X) → length xs ≤ n → take n xs ≡ xs
    take-past zero [] le = refl
    take-past (suc n) [] le = refl
    take-past zero (x ∷ xs) le = absurd (omega (arith, le))
    take-past {X = X} (suc n) (x ∷ xs) le = ap (λ (rest : List X). x ∷ rest) (take-past n xs (omega (arith, le)))
