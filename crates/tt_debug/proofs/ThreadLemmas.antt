-- The lines of threads.
use Rattle.std.proofs.Common.{◌≡◌, ◌∙◌, ◌+◌, ℕ, suc, zero, Bool, true, false, IsTrue, IsFalse, List, [], ◌++◌, length, Option, Some, None}
use Rattle.std.proofs.Common.{add-one, ap, inl, inr, ◌⊎◌, refl, subst, sym}
use Rattle.laws_living.proofs.Asking.{living_law}
use Rattle.laws_living.specs.Living.{IsWaiting}
use Rattle.tt_calls.specs.declared.request.Request.{Request}
use Rattle.tt_core.specs.Stage.{OfMachine, Stage}
use Rattle.tt_core.specs.Telling.{IsAsking, IsSilent}
use Rattle.tt_debug.proofs.PlaceLemmas.{of-both, of-run}
use Rattle.tt_debug.specs.Lines.{thread_line}
use Rattle.tt_debug.specs.Shown.{AreLines, AreThreads, IsLineOf, absent, living}
use Rattle.tt_machine.proofs.Steps.{same_request}
use Rattle.tt_machine.specs.Machine.{CanStep, IsBarred, Machine, Runs, ThreadAsks, over, silent, start_machine, waits}
use Rattle.tt_shared.specs.Enabled.{enabled}
use Rattle.tt_shared.specs.State.{State}
use Rattle.tt_threads.specs.Rows.{is_living}

none-some : {X : Type 0} {found : Option X} {x : X} → found ≡ None → found ≡ Some x → ⊥
none-some is also = cc

not-living : (b : Bool) → (IsTrue b → ⊥) → IsFalse b
not-living true never = absurd (never refl)
not-living false never = refl

-- what is enabled, by what can be done
can-be : (machine : Machine) (number : ℕ) (request : Request) (serving : List ℕ)
    → ThreadAsks machine number request serving → CanStep machine number → enabled machine.shared number request ≡ true
can-be machine number request serving asks can =
    let same = same_request machine number request can.request serving can.serving asks can.asks in
    rw same can.enabled

cannot-be : (machine : Machine) (number : ℕ) (request : Request) (serving : List ℕ)
    → machine.shared.over ≡ None → ThreadAsks machine number request serving → IsBarred machine number
    → enabled machine.shared number request ≡ false
cannot-be machine number request serving going asks (over is) = absurd (none-some going is)
cannot-be machine number request serving going asks (silent never) = absurd (never request serving asks)
cannot-be machine number request serving going asks (waits {request = other} {serving = during} also unable) =
    let same = same_request machine number request other serving during asks also in
    rw same unable

module _ {S K E : Type 0} (held : S → Option (List ℕ)) (stage : Stage S K E) where
  -- a thread that asks nothing doesn't live
  pub no-line : (number : ℕ) → OfMachine held stage (IsSilent number) → OfMachine held stage (λ machine. machine.shared.over ≡ None)
      → OfMachine held stage (λ machine. IsLineOf machine number [])
  no-line number nothing going =
      let both = of-both held stage (IsSilent number) (λ machine. machine.shared.over ≡ None)
      (λ machine. IsSilent number machine × (machine.shared.over ≡ None)) nothing going (λ machine one other. (one, other)) in
      of-run held stage _ _ both (λ input machine ran facts.
      absent (not-living (is_living machine.shared.rows number) (λ lives.
      never machine number facts.0 (living_law stage.setup input machine stage.desk.schedule number ran facts.1 lives))) refl)
    where
      never : (machine : Machine) (number : ℕ) → IsSilent number machine → CanStep machine number ⊎ IsWaiting machine number → ⊥
      never machine number nothing (inl can) = nothing can.request can.serving can.asks
      never machine number nothing (inr waiting) = nothing waiting.request waiting.serving waiting.asks

  -- the line of one that lives
  pub one-line : (number : ℕ) (request : Request) (can : Bool)
      → stage.desk.kept ≡ None
      → OfMachine held stage (IsAsking number request) → OfMachine held stage (λ machine. machine.shared.over ≡ None)
      → (IsTrue can → OfMachine held stage (λ machine. CanStep machine number))
      → (IsFalse can → stage.desk.kept ≡ None → OfMachine held stage (λ machine. IsBarred machine number))
      → OfMachine held stage (λ machine. IsLineOf machine number (thread_line number can request))
  one-line number request true kept asking going could bars =
      of-both held stage _ _ _ asking (could refl) (λ machine asked can.
      living asked.asks
      (ap (λ (is : Bool). thread_line number is request) (sym (can-be machine number request asked.serving asked.asks can))))
  one-line number request false kept asking going could bars =
      let both = of-both held stage (IsAsking number request) (λ machine. machine.shared.over ≡ None)
      (λ machine. IsAsking number request machine × (machine.shared.over ≡ None)) asking going (λ machine one other. (one, other)) in
      of-both held stage _ _ _ both (bars refl kept) (λ machine asked barred.
      living asked.0.asks
      (ap (λ (is : Bool). thread_line number is request)
      (sym (cannot-be machine number request asked.0.serving asked.1 asked.0.asks barred))))

  -- no thread yet
  pub no-lines : OfMachine held stage (λ machine. machine.shared.over ≡ None) → OfMachine held stage (λ machine. AreLines machine 0 [])
  no-lines going = of-run held stage _ _ going (λ input machine ran is. refl)

  -- one thread more
  pub more-lines : (before : ℕ) (old new last : List ℕ)
      → OfMachine held stage (λ machine. AreLines machine before old) → new ≡ old ++ last
      → OfMachine held stage (λ machine. IsLineOf machine (before + 1) last)
      → OfMachine held stage (λ machine. AreLines machine (before + 1) new)
  more-lines before old new last lines is line =
      of-both held stage _ _ _ lines line (λ machine are one.
      subst (λ (n : ℕ). AreLines machine n new) (sym (add-one before))
      (record {
        before = old;
        last = last;
        are = are;
        is = subst (λ (n : ℕ). IsLineOf machine n last) (add-one before) one;
        joined = is;
      }))

  -- all of them
  pub all-lines : (count : ℕ) (shared : State) (text : List ℕ)
      → OfMachine held stage (λ machine. AreLines machine count text)
      → OfMachine held stage (λ machine. machine.shared ≡ shared) → count ≡ length shared.rows
      → OfMachine held stage (λ machine. machine.shared.over ≡ None)
      → OfMachine held stage (λ machine. AreThreads machine.shared.over machine text)
  all-lines count shared text lines same is going =
      let both = of-both held stage (λ machine. machine.shared ≡ shared) (λ machine. machine.shared.over ≡ None)
      (λ machine. (machine.shared ≡ shared) × (machine.shared.over ≡ None)) same going (λ machine one other. (one, other)) in
      of-both held stage _ _ _ lines both (λ machine are facts.
      let many : count ≡ length machine.shared.rows = is ∙ ap (λ (state : State). length state.rows) (sym facts.0) in
      subst (λ (over : Option ℕ). AreThreads over machine text) (sym facts.1)
      (subst (λ (n : ℕ). AreLines machine n text) many are))

  -- none are shown when the run is over
  pub over-lines : (code : Option ℕ) (last : ℕ) → code ≡ Some last → OfMachine held stage (λ machine. machine.shared.over ≡ code)
      → OfMachine held stage (λ machine. AreThreads machine.shared.over machine [])
  over-lines code last is ends = of-run held stage _ _ ends (λ input machine ran over.
      subst (λ (some : Option ℕ). AreThreads some machine []) (sym (over ∙ is)) refl)
