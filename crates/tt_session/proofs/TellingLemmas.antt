-- What the steps of a run were, while it goes on; and there is one list of entries of a run.
use Rattle.std.proofs.Common.{◌≡◌, ◌∙◌, ℕ, Bool, true, false, refl, List, [], ◌∷◌, ◌++◌, Option, None, Some, IfSome, sym, ap, subst}
use Rattle.std.proofs.Common.{◌<◌, ◌+◌, length, take, take-suc, slice_index, add-one}
use Rattle.tt_before.specs.Steps.{Entry, Stepped, step}
use Rattle.tt_before.specs.declared.order.Order.{Order}
use Rattle.tt_before.specs.inside.Told.{IsOrderOf}
use Rattle.tt_calls.specs.declared.request.Request.{Request}
use Rattle.tt_core.specs.Stage.{OfMachine, SameBeginning, Stage}
use Rattle.tt_core.specs.Telling.{IsStep}
use Rattle.tt_core.specs.declared.told.Told.{Told}
use Rattle.tt_lines.proofs.LineLemmas.{one-line}
use Rattle.tt_lines.specs.Lines.{reads_line}
use Rattle.tt_machine.proofs.Steps.{same_request, same_run, same_step}
use Rattle.tt_machine.specs.Machine.{Machine, ReadsInput, Runs, start_machine}
use Rattle.tt_machine.specs.Machine as run
use Rattle.tt_session.proofs.FollowLemmas.{IsFollowing}
use Rattle.tt_session.specs.Telling.{AreEntries, IsEntry, ToldAs, entry_of, none, more}
use Rattle.tt_session.specs.inside.Following.{AtRun}
use Rattle.tt_shared.specs.Acts.{act}
use Rattle.tt_shared.specs.declared.applied.Line.{Line}

-- ---- one list of entries ----

same-line : (is : Bool) (held left rest : List ℕ) (line also : Line) → ReadsInput is held line left → ReadsInput is held also rest → line ≡ also
same-line true held left rest line also a b = (one-line held left rest line also a b).0
same-line false held left rest line also a b = a.0 ∙ sym b.0

same-entry : (old : Machine) (number : ℕ) (one other : Entry) (next following : Machine)
    → IsEntry old number one next → IsEntry old number other following → one ≡ other
same-entry old number one other next following a b =
    let asks : a.steps.can.request ≡ b.steps.can.request =
    same_request old number a.steps.can.request b.steps.can.request a.steps.can.serving b.steps.can.serving a.steps.can.asks b.steps.can.asks in
    let read : ReadsInput (reads_line a.steps.can.request) old.input b.steps.line b.steps.left =
    subst (λ (request : Request). ReadsInput (reads_line request) old.input b.steps.line b.steps.left) (sym asks) b.steps.read in
    let line : a.steps.line ≡ b.steps.line =
    same-line (reads_line a.steps.can.request) old.input a.steps.left b.steps.left a.steps.line b.steps.line a.steps.read read in
    a.is ∙ rw (asks, line) (sym b.is)

-- a run has one list of entries
pub one_entries : (old new last : Machine) (threads : List ℕ) (one other : List Entry)
    → AreEntries old threads one new → AreEntries old threads other last → one ≡ other
one_entries old new last [] one other none none = refl
one_entries old new last (number ∷ threads) one other (more {next = next} {entry = entry} {entries = entries} is rest)
    (more {next = following} {entry = also} {entries = others} too after) =
    let same : following ≡ next = same_step old following next number too.steps is.steps in
    let first : entry ≡ also = same-entry old number entry also next following is too in
    let later : entries ≡ others = one_entries next new last threads entries others rest
    (subst (λ (machine : Machine). AreEntries machine threads others last) same after) in
    rw (first, later) refl

-- entries are those of a run
pub run-of-entries : (old new : Machine) (threads : List ℕ) (entries : List Entry) → AreEntries old threads entries new → Runs old threads new
run-of-entries old new [] entries none = run.none
run-of-entries old new (number ∷ threads) entries (more {next = next} {entries = later} is rest) =
    run.more is.steps (run-of-entries next new threads later rest)

-- one more at the end
pub one-more-entry : (old next new : Machine) (threads : List ℕ) (entries : List Entry) (number : ℕ) (entry : Entry)
    → AreEntries old threads entries next → IsEntry next number entry new → AreEntries old (threads ++ number ∷ []) (entries ++ entry ∷ []) new
one-more-entry old next new [] entries number entry none is = more is none
one-more-entry old next new (first ∷ threads) entries number entry (more {next = second} {entries = later} taken rest) is =
    more taken (one-more-entry second next new threads later number entry rest is)

-- ---- while a run goes on ----

-- the order is of the entries so far
abbrev pub IsToldAt : {S K E : Type 0} → (held : S → Option (List ℕ)) → Stage S K E → Order → Type 0
IsToldAt held stage order =
    IfSome (held stage.began.input) (λ input. (machine : Machine) × ToldAs (start_machine stage.setup input) machine stage.desk.schedule order)

-- a list was followed up to a place, and each step was told
pub record IsTelling {S K E : Type 0} (held : S → Option (List ℕ)) (reads : S → ℕ) (faults : K → ℕ) (errors : E → ℕ) (old now : Stage S K E)
    (list : List ℕ) (place : ℕ) (order : Order) : Type 0 where
  pub following : IsFollowing reads faults errors old now list place
  pub count : order.count ≡ place
  pub told : IsToldAt held now order

-- one more step was taken
pub taken-more : (taken new list : List ℕ) (place thread : ℕ) → place < length list → taken ≡ take place list → thread ≡ slice_index list place
    → new ≡ taken ++ thread ∷ [] → new ≡ take (place + 1) list
taken-more taken new list place thread within is thread_is added = added ∙ rw (is, thread_is, add-one) (sym (take-suc list place 0 within))

-- no entry yet
none-told : {S K E : Type 0} (held : S → Option (List ℕ)) (stage : Stage S K E) (order : Order)
    → stage.desk.schedule ≡ [] → IsOrderOf [] order → IsToldAt held stage order
none-told held stage order empty is = go (held stage.began.input)
  where
    go : (told : Option (List ℕ))
        → IfSome told (λ input. (machine : Machine) × ToldAs (start_machine stage.setup input) machine stage.desk.schedule order)
    go None = tt
    go (Some input) = (start_machine stage.setup input, record { entries = []; are = rw empty none; order = is })

-- the entry that is told is that of the step
told-entry : (number : ℕ) (told : Told) (machine : Machine) (is : IsStep number told machine)
    → IsEntry machine number (Stepped (step number told.request told.reply told.made)) is.next
told-entry number told machine is = record { steps = is.steps; is = rw (is.request, is.reply, is.made) refl }

-- one more was told
pub more-told : {S K E : Type 0} (held : S → Option (List ℕ)) (now new : Stage S K E) (before after : Order) (number : ℕ) (told : Told)
    → SameBeginning now new → new.desk.schedule ≡ now.desk.schedule ++ number ∷ []
    → IsToldAt held now before → OfMachine held now (IsStep number told)
    → ((entries : List Entry) → IsOrderOf entries before
    → IsOrderOf (entries ++ Stepped (step number told.request told.reply told.made) ∷ []) after)
    → IsToldAt held new after
more-told held now new before after number told same steps is stepped adds = rw (same.setup, same.began, steps) (go (held now.began.input) is stepped)
  where
    go : (bytes : Option (List ℕ))
        → IfSome bytes (λ input. (machine : Machine) × ToldAs (start_machine now.setup input) machine now.desk.schedule before)
        → IfSome bytes (λ input. (machine : Machine) × Runs (start_machine now.setup input) now.desk.schedule machine × IsStep number told machine)
        → IfSome bytes (λ input. (machine : Machine) × ToldAs (start_machine now.setup input) machine (now.desk.schedule ++ number ∷ []) after)
    go None is stepped = tt
    go (Some input) is stepped =
        let begun = start_machine now.setup input in
        let ran = run-of-entries begun is.0 now.desk.schedule is.1.entries is.1.are in
        let one : stepped.0 ≡ is.0 = same_run begun stepped.0 is.0 now.desk.schedule stepped.1 ran in
        let one_step : IsStep number told is.0 = subst (λ (machine : Machine). IsStep number told machine) one stepped.2 in (
          one_step.next,
          record {
            entries = is.1.entries ++ Stepped (step number told.request told.reply told.made) ∷ [];
            are = one-more-entry begun is.0 one_step.next now.desk.schedule is.1.entries number _ is.1.are (told-entry number told is.0 one_step);
            order = adds is.1.entries is.1.order;
          },
        )

-- all that was told
pub told-run : {S K E : Type 0} (held : S → Option (List ℕ)) (stage : Stage S K E) (order : Order)
    → IsToldAt held stage order → AtRun held stage (λ begun machine. ToldAs begun machine stage.desk.schedule order)
told-run held stage order is = go (held stage.began.input) is
  where
    go : (bytes : Option (List ℕ))
        → IfSome bytes (λ input. (machine : Machine) × ToldAs (start_machine stage.setup input) machine stage.desk.schedule order)
        → IfSome bytes (λ input. (machine : Machine) → Runs (start_machine stage.setup input) stage.desk.schedule machine
        → ToldAs (start_machine stage.setup input) machine stage.desk.schedule order)
    go None is = tt
    go (Some input) is = λ machine ran.
        let begun = start_machine stage.setup input in
        let same : is.0 ≡ machine =
        same_run begun is.0 machine stage.desk.schedule (run-of-entries begun is.0 stage.desk.schedule is.1.entries is.1.are) ran in
        subst (λ (last : Machine). ToldAs begun last stage.desk.schedule order) same is.1

-- a system that has taken no step
pub begin-telling : {S K E : Type 0} (held : S → Option (List ℕ)) (reads : S → ℕ) (faults : K → ℕ) (errors : E → ℕ) (stage : Stage S K E)
    (list : List ℕ) (order : Order)
    → stage.desk.schedule ≡ [] → stage.desk.kept ≡ None → IsOrderOf [] order
    → IsTelling held reads faults errors stage stage list 0 order
begin-telling held reads faults errors stage list order fresh going empty = record {
  following = record {
    taken = fresh;
    going = going;
    same = record { setup = refl; began = refl };
    reads_steady = refl;
    steady = refl;
    errors_steady = refl;
    no_output = λ z. refl;
    no_errors = λ z. refl;
  };
  count = empty.counted;
  told = none-told held stage order fresh empty;
}
