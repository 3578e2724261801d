-- What becomes of a job that a thread has begun, by the moves of its pool.
use Rattle.std.proofs.Common.{◌≡◌, ◌≢◌, ◌∙◌, ◌==◌, ℕ, zero, suc, Bool, true, false, if◌then◌else◌, List, [], ◌∷◌, ◌++◌, Contains, Some}
use Rattle.std.proofs.Common.{ap, refl, sym, subst, arith}
use Rattle.std.proofs.lemmas.List.Elements.{Contains-append_left, Contains-append_right}
use Rattle.std.specs.BTreeMap.{insert_entry}
use Rattle.std.specs.Ordering.{nat_cmp}
use Rattle.laws_pools.proofs.Moves.{Ends, IsNoBegin, Move, Moves, begins, both, cancels, done, ends, gets, lost, one, posts, quiet, suspends}
use Rattle.laws_pools.proofs.Tables.{insert_here, insert_other, remove_other}
use Rattle.laws_pools.specs.PoolHappenings.{PoolHappening, Posted, Cancelled, Began, Done, Lost, Got, Suspended}
use Rattle.laws_sends.proofs.Cuts.{Every, every-append}
use Rattle.laws_sends.proofs.Entries.{at}
use Rattle.laws_sends.proofs.Weights.{first_of}
use Rattle.laws_shared.proofs.Deciding.{differs, same}
use Rattle.tt_calls.specs.declared.outcome.Outcome.{Outcome}
use Rattle.tt_pools.specs.Jobs.{JobTable, with_begun_job, without}
use Rattle.tt_pools.specs.declared.jobs.Begun.{Begun}

pub every-contains : {X : Type 0} (P : X → Type 0) (xs : List X) (x : X) → Every P xs → Contains xs x → P x
every-contains P [] x every there = absurd (let no : ⊥ = omega (arith, there.1) in no)
every-contains P (y ∷ ys) x every (zero, within, is) = subst P is every.0
every-contains P (y ∷ ys) x every (suc k, within, is) = every-contains P ys x every.1 (k, omega (arith, within), is)

-- ---- a job that has begun ----

-- thread t has it still, or it has ended
pub data Goes (t : ℕ) (begun : Begun) (new : JobTable) (happened : List PoolHappening) : Type 0 where
  stays : at t new.begun ≡ Some begun → Goes t begun new happened
  is_done : (outcome : Outcome) → Contains happened (Done begun.job t outcome) → Goes t begun new happened
  is_lost : Contains happened (Lost begun.job t) → Goes t begun new happened

-- if that thread begins no other
abbrev pub BeginsNone : (t : ℕ) → List PoolHappening → Type 0
BeginsNone t happened = (n : ℕ) → ¬ (Contains happened (Began n t))

pub some_same : {X : Type 0} (x y : X) → Some x ≡ Some y → x ≡ y
some_same x y is = cc is

module _ (t : ℕ) (begun : Begun) where
  by_end : (old : JobTable) (u : ℕ) (other : Begun) (outcome : Outcome) (what : PoolHappening) → at u old.begun ≡ Some other → Ends other.job u outcome what
      → at t old.begun ≡ Some begun → (b : Bool)
      → Goes t begun (if b then record old { begun = without old.begun u }
      else record old { begun = without old.begun u; done = insert_entry nat_cmp old.done other.job outcome }) (what ∷ [])
  by_end old u other outcome what found end there = go (u == t) refl
    where
      others : u ≢ t → (b : Bool) → Goes t begun (if b then record old { begun = without old.begun u }
          else record old { begun = without old.begun u; done = insert_entry nat_cmp old.done other.job outcome }) (what ∷ [])
      others apart true = stays (remove_other t u old.begun (λ alike. apart (sym alike)) ∙ there)
      others apart false = stays (remove_other t u old.begun (λ alike. apart (sym alike)) ∙ there)

      ended : {outcome : Outcome} {what : PoolHappening} {new : JobTable} → begun ≡ other → u ≡ t → Ends other.job u outcome what → Goes t begun new (what ∷ [])
      ended job_is mine (done outcome) =
          is_done outcome (subst (λ v. Contains (Done other.job u outcome ∷ []) (Done begun.job v outcome)) mine
          (subst (λ job. Contains (Done other.job u outcome ∷ []) (Done job.job u outcome)) (sym job_is) (first_of (Done other.job u outcome) [])))
      ended job_is mine lost =
          is_lost (subst (λ v. Contains (Lost other.job u ∷ []) (Lost begun.job v)) mine
          (subst (λ job. Contains (Lost other.job u ∷ []) (Lost job.job u)) (sym job_is) (first_of (Lost other.job u) [])))

      go : (b : Bool) → (u == t) ≡ b → (b : Bool) → Goes t begun (if b then record old { begun = without old.begun u }
          else record old { begun = without old.begun u; done = insert_entry nat_cmp old.done other.job outcome }) (what ∷ [])
      go true is detached =
          let mine = same u t is in
          let job_is : begun ≡ other = some_same begun other (sym there ∙ ap (λ v. at v old.begun) (sym mine) ∙ found) in
          ended job_is mine end
      go false is detached = others (differs u t is) detached

  by_move : (on now : Bool) (old new : JobTable) (happened : List PoolHappening) → Move on old now new happened → BeginsNone t happened
      → at t old.begun ≡ Some begun
      → Goes t begun new happened
  by_move on _ old _ _ quiet none there = stays there
  by_move on _ old _ _ (posts script from detached) none there = stays there
  by_move on _ old _ _ (cancels n job found own) none there = stays there
  by_move on _ old _ _ (begins n u job later is goes_on) none there = go (u == t) refl
    where
      go : (b : Bool) → (u == t) ≡ b
          → Goes t begun (with_begun_job old u (n, job) later) (Began n u ∷ [])
      go true mine = absurd (none n (subst (λ v. Contains (Began n u ∷ []) (Began n v)) (same u t mine) (first_of (Began n u) [])))
      go false other = stays (insert_other t u old.begun _ (λ alike. differs u t other (sym alike)) ∙ there)
  by_move on _ old _ _ (ends u other outcome what found end) none there = by_end old u other outcome what found end there other.detached
  by_move on _ old _ _ (gets n u outcome found) none there = stays there
  by_move on _ old _ _ (suspends now) none there = stays there

  pub by_moves : (on now : Bool) (old new : JobTable) (happened : List PoolHappening) → Moves on old now new happened → BeginsNone t happened
      → at t old.begun ≡ Some begun
      → Goes t begun new happened
  by_moves on now old new happened (one move) none there = by_move on now old new happened move none there
  by_moves on now old new _ (both {then = mid} {middle = middle} {first = first} {second = second} plain others here next) none there =
      go (by_moves on mid old middle first here (λ n is. none n (Contains-append_left first second _ is)) there)
      (λ still. by_moves mid now middle new second next (λ n is. none n (Contains-append_right first second _ is)) still)
    where
      later : Goes t begun new second → Goes t begun new (first ++ second)
      later (stays there) = stays there
      later (is_done outcome there) = is_done outcome (Contains-append_right first second _ there)
      later (is_lost there) = is_lost (Contains-append_right first second _ there)

      go : Goes t begun middle first → (at t middle.begun ≡ Some begun → Goes t begun new second) → Goes t begun new (first ++ second)
      go (stays there) on = later (on there)
      go (is_done outcome there) on = is_done outcome (Contains-append_left first second _ there)
      go (is_lost there) on = is_lost (Contains-append_left first second _ there)

-- ---- a job that begins ----

-- thread t has it
pub record Has (n t : ℕ) (new : JobTable) : Type 0 where
  pub begun : Begun
  pub there : at t new.begun ≡ Some begun
  pub job : begun.job ≡ n

module _ (n t : ℕ) where
  nothing : {new : JobTable} (happened : List PoolHappening) → Every IsNoBegin happened → Contains happened (Began n t) → Has n t new
  nothing happened every there = absurd (every-contains IsNoBegin happened (Began n t) every there)

  first_is : (what : PoolHappening) → Contains (what ∷ []) (Began n t) → what ≡ Began n t
  first_is what (zero, within, is) = is
  first_is what (suc k, within, is) = let no : ⊥ = omega (arith, within) in absurd no

  begun_by : (on now : Bool) (old new : JobTable) (happened : List PoolHappening) → Move on old now new happened → Contains happened (Began n t) → Has n t new
  begun_by on _ old _ _ quiet there = nothing [] tt there
  begun_by on _ old _ _ (posts script from detached) there = nothing (Posted old.next from detached ∷ []) (tt, tt) there
  begun_by on _ old _ _ (cancels m job found own) there = nothing (Cancelled m ∷ []) (tt, tt) there
  begun_by on _ old _ _ (begins m u job later is goes_on) there =
      let alike : Began m u ≡ Began n t = first_is (Began m u) there in
      let number : m ≡ n = cc alike in
      let thread : u ≡ t = cc alike in
      record {
        begun = record { job = m; detached = job.detached };
        there = ap (λ v. at v (insert_entry nat_cmp old.begun u (record { job = m; detached = job.detached }))) (sym thread)
            ∙ insert_here u old.begun (record { job = m; detached = job.detached });
        job = number;
      }
  begun_by on _ old _ _ (ends u other outcome what found end) there = go end there
    where
      go : {outcome : Outcome} {what : PoolHappening} {new : JobTable} → Ends other.job u outcome what → Contains (what ∷ []) (Began n t) → Has n t new
      go (done outcome) there = nothing (Done other.job u outcome ∷ []) (tt, tt) there
      go lost there = nothing (Lost other.job u ∷ []) (tt, tt) there
  begun_by on _ old _ _ (gets m u outcome found) there = nothing (Got m u outcome ∷ []) (tt, tt) there
  begun_by on _ old _ _ (suspends now) there = nothing (Suspended now ∷ []) (tt, tt) there

  pub has_it : (on now : Bool) (old new : JobTable) (happened : List PoolHappening) → Moves on old now new happened → Contains happened (Began n t)
      → Has n t new
  has_it on now old new happened (one move) there = begun_by on now old new happened move there
  has_it on now old new _ (both {first = first} {second = second} plain others here next) there =
      nothing (first ++ second) (every-append IsNoBegin first second plain others) there
