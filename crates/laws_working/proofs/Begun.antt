-- Which job of a pool a thread has begun, after the moves of its pool.
use Rattle.std.proofs.Common.{◌≡◌, ◌∙◌, ◌+◌, ◌≤◌, ◌==◌, ◌⊎◌, inl, inr, ℕ, zero, suc, Bool, true, false, if◌then◌else◌, List, [], ◌∷◌, ◌++◌}
use Rattle.std.proofs.Common.{Contains, Option, Some, None, ap, refl, sym, subst, arith, ⊎_elim}
use Rattle.std.proofs.lemmas.List.Elements.{Contains-append_cases}
use Rattle.std.specs.BTreeMap.{insert_entry}
use Rattle.std.specs.Ordering.{nat_cmp}
use Rattle.laws_pools.proofs.BegunJobs.{every-contains, some_same}
use Rattle.laws_pools.proofs.Moves.{Ends, IsNoBegin, Move, Moves, begins, both, cancels, done, ends, gets, lost, one, posts, quiet, suspends}
use Rattle.laws_pools.proofs.Tables.{insert_here, insert_other, none_counts, none_there, remove_other}
use Rattle.laws_pools.proofs.Views.{numbered}
use Rattle.laws_pools.specs.PoolHappenings.{PoolHappening, Began, Done}
use Rattle.laws_sends.proofs.Cuts.{Every}
use Rattle.laws_sends.proofs.Entries.{at, total-insert, total-remove}
use Rattle.laws_sends.proofs.Totals.{total}
use Rattle.laws_sends.proofs.Weights.{first_of, one_other, one_same}
use Rattle.laws_shared.proofs.Deciding.{differs, same}
use Rattle.tt_calls.specs.declared.outcome.Outcome.{Outcome}
use Rattle.tt_pools.specs.Jobs.{JobTable, with_outcome, without}
use Rattle.tt_pools.specs.declared.jobs.Begun.{Begun}

abbrev begun_of : (n : ℕ) (detached : Bool) → Begun
begun_of n detached = record { job = n; detached = detached }

pub only : {X : Type 0} (x y : X) → Contains (x ∷ []) y → x ≡ y
only x y (zero, within, is) = is
only x y (suc k, within, is) = let no : ⊥ = omega (arith, within) in absurd no

pub nothing : {X : Type 0} (x : X) → Contains [] x → ⊥
nothing x there = let no : ⊥ = omega (arith, there.1) in no

left_begun : (jobs : JobTable) (u : ℕ) (begun : Begun) (outcome : Outcome) → (with_outcome jobs u begun outcome).begun ≡ without jobs.begun u
left_begun jobs u begun outcome = go begun.detached
  where
    go : (b : Bool) → (if b then record jobs { begun = without jobs.begun u }
        else record jobs { begun = without jobs.begun u; done = insert_entry nat_cmp jobs.done begun.job outcome }).begun ≡ without jobs.begun u
    go true = refl
    go false = refl

module _ (t : ℕ) where
  -- it has begun one at most
  abbrev pub Few : JobTable → Type 0
  Few jobs = total (numbered t) jobs.begun ≤ 1

  -- what was begun is no other one of its
  abbrev NoneBegun : List PoolHappening → JobTable → Type 0
  NoneBegun happened old = (k : ℕ) → Contains happened (Began k t) → at t old.begun ≡ None

  few_by : (on now : Bool) (old new : JobTable) (happened : List PoolHappening) → Move on old now new happened → NoneBegun happened old → Few old → Few new
  few_by on _ old _ _ quiet none few = few
  few_by on _ old _ _ (posts script from detached) none few = few
  few_by on _ old _ _ (cancels n job found own) none few = few
  few_by on _ old _ _ (begins n u job later is goes_on) none few = go (u == t) refl
    where
      more : total (numbered t) (insert_entry nat_cmp old.begun u (begun_of n job.detached))
          ≤ numbered t (u, begun_of n job.detached) + total (numbered t) old.begun
      more = total-insert (numbered t) old.begun u (begun_of n job.detached)

      go : (b : Bool) → (u == t) ≡ b → total (numbered t) (insert_entry nat_cmp old.begun u (begun_of n job.detached)) ≤ 1
      go true mine =
          let alike = same u t mine in
          let free = none n (subst (λ (v : ℕ). Contains (Began n u ∷ []) (Began n v)) alike (first_of (Began n u) [])) in
          omega (arith, more, one_same u t alike, none_counts t old.begun free)
      go false apart = omega (arith, more, one_other u t (differs u t apart), few)
  few_by on _ old _ _ (ends u begun outcome what found end) none few =
      subst (λ es. total (numbered t) es ≤ 1) (sym (left_begun old u begun outcome))
      (omega (arith, total-remove (numbered t) u old.begun begun found, few))
  few_by on _ old _ _ (gets n u outcome found) none few = few
  few_by on _ old _ _ (suspends now) none few = few

  -- after the end of its one job it has none
  none_left : (jobs : JobTable) (begun : Begun) (outcome : Outcome) → at t jobs.begun ≡ Some begun → Few jobs
      → at t (with_outcome jobs t begun outcome).begun ≡ None
  none_left jobs begun outcome found few =
      subst (λ es. at t es ≡ None) (sym (left_begun jobs t begun outcome))
      (none_there t (without jobs.begun t) (omega (arith, total-remove (numbered t) t jobs.begun begun found, one_same t t refl, few)))

  was_by : (on now : Bool) (old new : JobTable) (happened : List PoolHappening) → Move on old now new happened → Few old → (job : Begun)
      → at t new.begun ≡ Some job → (at t old.begun ≡ Some job) ⊎ Contains happened (Began job.job t)
  was_by on _ old _ _ quiet few job there = inl there
  was_by on _ old _ _ (posts script from detached) few job there = inl there
  was_by on _ old _ _ (cancels n other found own) few job there = inl there
  was_by on _ old _ _ (begins n u queued later is goes_on) few job there = go (u == t) refl
    where
      go : (b : Bool) → (u == t) ≡ b → (at t old.begun ≡ Some job) ⊎ Contains (Began n u ∷ []) (Began job.job t)
      go true mine =
          let alike = same u t mine in
          let found : at t (insert_entry nat_cmp old.begun u (begun_of n queued.detached)) ≡ Some (begun_of n queued.detached) =
          subst (λ (v : ℕ). at v (insert_entry nat_cmp old.begun u (begun_of n queued.detached)) ≡ Some (begun_of n queued.detached))
          alike (insert_here u old.begun (begun_of n queued.detached)) in
          let both : Some (begun_of n queued.detached) ≡ Some job = sym found ∙ there in
          let is_job : begun_of n queued.detached ≡ job = some_same _ job both in
          let number : n ≡ job.job = ap (λ (one : Begun). one.job) is_job in
          inr (subst (λ (v : ℕ). Contains (Began n u ∷ []) (Began v t)) number
          (subst (λ (v : ℕ). Contains (Began n u ∷ []) (Began n v)) alike (first_of (Began n u) [])))
      go false apart = inl (sym (insert_other t u old.begun _ (λ alike. differs u t apart (sym alike))) ∙ there)
  was_by on _ old _ _ (ends u begun outcome what found end) few job there = go (u == t) refl
    where
      go : (b : Bool) → (u == t) ≡ b → (at t old.begun ≡ Some job) ⊎ Contains (what ∷ []) (Began job.job t)
      go true mine =
          let alike = same u t mine in
          let none : at t (with_outcome old u begun outcome).begun ≡ None =
          subst (λ (v : ℕ). at t (with_outcome old v begun outcome).begun ≡ None) (sym alike)
          (none_left old begun outcome (subst (λ (v : ℕ). at v old.begun ≡ Some begun) alike found) few) in
          let no : None ≡ Some job = sym none ∙ there in
          absurd (cc no)
      go false apart =
          inl (sym (remove_other t u old.begun (λ alike. differs u t apart (sym alike))) ∙ ap (at t) (sym (left_begun old u begun outcome)) ∙ there)
  was_by on _ old _ _ (gets n u outcome found) few job there = inl there
  was_by on _ old _ _ (suspends now) few job there = inl there

  done_by : (on now : Bool) (old new : JobTable) (happened : List PoolHappening) (n : ℕ) (outcome : Outcome) → Move on old now new happened → Few old
      → Contains happened (Done n t outcome) → at t new.begun ≡ None
  done_by on _ old _ _ n outcome quiet few is = absurd (nothing _ is)
  done_by on _ old _ _ n outcome (posts script from detached) few is = let no = only _ _ is in absurd (cc no)
  done_by on _ old _ _ n outcome (cancels m other found own) few is = let no = only _ _ is in absurd (cc no)
  done_by on _ old _ _ n outcome (begins m u queued later first goes_on) few is = let no = only _ _ is in absurd (cc no)
  done_by on _ old _ _ n outcome (ends u begun came what found end) few is = go end (only _ _ is)
    where
      go : {came : Outcome} {what : PoolHappening} → Ends begun.job u came what → what ≡ Done n t outcome → at t (with_outcome old u begun came).begun ≡ None
      go (done came) same_one =
          let alike : u ≡ t = cc same_one in
          subst (λ (v : ℕ). at t (with_outcome old v begun came).begun ≡ None) (sym alike)
          (none_left old begun came (subst (λ (v : ℕ). at v old.begun ≡ Some begun) alike found) few)
      go lost is_done = absurd (cc is_done)
  done_by on _ old _ _ n outcome (gets m u other found) few is = let no = only _ _ is in absurd (cc no)
  done_by on _ old _ _ n outcome (suspends now) few is = let no = only _ _ is in absurd (cc no)

  -- ---- some moves ----

  no_begin : (happened : List PoolHappening) → Every IsNoBegin happened → (k : ℕ) → ¬ (Contains happened (Began k t))
  no_begin happened every k there = every-contains IsNoBegin happened (Began k t) every there

  pub few_on : (on now : Bool) (old new : JobTable) (happened : List PoolHappening) → Moves on old now new happened → NoneBegun happened old → Few old
      → Few new
  few_on on now old new happened (one move) none few = few_by on now old new happened move none few
  few_on on now old new _ (both {then = mid} {middle = middle} {first = first} {second = second} plain others here next) none few =
      few_on mid now middle new second next (λ k there. absurd (no_begin second others k there))
      (few_on on mid old middle first here (λ k there. absurd (no_begin first plain k there)) few)

  pub was_on : (on now : Bool) (old new : JobTable) (happened : List PoolHappening) → Moves on old now new happened → Few old → (job : Begun)
      → at t new.begun ≡ Some job → (at t old.begun ≡ Some job) ⊎ Contains happened (Began job.job t)
  was_on on now old new happened (one move) few job there = was_by on now old new happened move few job there
  was_on on now old new _ (both {then = mid} {middle = middle} {first = first} {second = second} plain others here next) few job there =
      go (was_on mid now middle new second next (few_on on mid old middle first here (λ k is. absurd (no_begin first plain k is)) few) job there)
      (was_on on mid old middle first here few job)
    where
      go : (at t middle.begun ≡ Some job) ⊎ Contains second (Began job.job t)
          → (at t middle.begun ≡ Some job → (at t old.begun ≡ Some job) ⊎ Contains first (Began job.job t))
          → (at t old.begun ≡ Some job) ⊎ Contains (first ++ second) (Began job.job t)
      go (inr is) before = absurd (no_begin second others job.job is)
      go (inl is) before =
          ⊎_elim (λ was. inl was) (λ begun. absurd (no_begin first plain job.job begun)) (before is)

  -- who had begun none has begun none, if none begins
  still_none : (on now : Bool) (old new : JobTable) (happened : List PoolHappening) → Moves on old now new happened → Every IsNoBegin happened → Few old
      → at t old.begun ≡ None → at t new.begun ≡ None
  still_none on now old new happened moves every few gone = go (at t new.begun) refl
    where
      go : (found : Option Begun) → at t new.begun ≡ found → found ≡ None
      go None there = refl
      go (Some job) there =
          ⊎_elim (λ was. let absent : None ≡ Some job = sym gone ∙ was in absurd (cc absent))
          (λ begun. absurd (no_begin happened every job.job begun))
          (was_on on now old new happened moves few job there)

  pub done_on : (on now : Bool) (old new : JobTable) (happened : List PoolHappening) (n : ℕ) (outcome : Outcome) → Moves on old now new happened → Few old
      → Contains happened (Done n t outcome) → at t new.begun ≡ None
  done_on on now old new happened n outcome (one move) few is = done_by on now old new happened n outcome move few is
  done_on on now old new _ n outcome (both {then = mid} {middle = middle} {first = first} {second = second} plain others here next) few is =
      let later : Few middle = few_on on mid old middle first here (λ k there. absurd (no_begin first plain k there)) few in
      ⊎_elim
      (λ there. still_none mid now middle new second next others later (done_on on mid old middle first n outcome here few there))
      (λ there. done_on mid now middle new second n outcome next later there)
      (Contains-append_cases first second (Done n t outcome) is)
