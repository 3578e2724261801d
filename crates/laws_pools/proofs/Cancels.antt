-- tpool::cancel takes jobs out of the queue, one after the other.
use Rattle.std.proofs.Common.{◌≡◌, ◌∙◌, ◌||◌, ℕ, Bool, true, false, not, if◌then◌else◌, List, [], ◌∷◌, ◌++◌, flat_map, Option, Some, None, ap, refl, sym, subst}
use Rattle.std.proofs.Common.{append_assoc, append-nil}
use Rattle.std.specs.List.{fold}
use Rattle.laws_sends.proofs.Cuts.{Every, every-append}
use Rattle.laws_pools.proofs.Moves.{IsNoBegin, Moves, both, cancels, one, quiet}
use Rattle.laws_pools.specs.PoolHappenings.{Cancelled as job_cancelled, cancellation, cancellation_of}
use Rattle.tt_ids.specs.Ids.{number_named}
use Rattle.tt_pools.specs.Jobs.{Cancelled, cancels as jobs_cancelled, JobTable, at, cancels_one, is_begun, is_done, is_own_queued, is_queued, without}
use Rattle.tt_pools.specs.Jobs.{without_queued}
use Rattle.tt_pools.specs.declared.jobs.Queued.{Queued}

-- a queued job is taken out
pub taken_out : (on : Bool) (jobs : JobTable) (text : List ℕ) → is_queued jobs text ≡ true → Moves on jobs on (without_queued jobs text) (cancellation text)
taken_out on jobs text queued = go (number_named text) refl
  where
    own : (job : Queued) → not job.detached ≡ true → job.detached ≡ false
    own job is = at_bit job.detached is
      where
        at_bit : (b : Bool) → not b ≡ true → b ≡ false
        at_bit true is = absurd (cc is)
        at_bit false is = refl

    at_number : (n : ℕ) → (found : Option Queued) → at jobs.queued n ≡ found → is_own_queued found ≡ true
        → Moves on jobs on (record jobs { queued = without jobs.queued n }) (job_cancelled n ∷ [])
    at_number n None there is = absurd (cc is)
    at_number n (Some job) there is = one (cancels n job there (own job is))

    go : (found : Option ℕ) → number_named text ≡ found → Moves on jobs on (without_queued jobs text) (cancellation text)
    go None is =
        let no : false ≡ true = sym (ap (λ named. elim named [ Some n ↦ is_own_queued (at jobs.queued n) | None ↦ false ]) is) ∙ queued in
        absurd (cc no)
    go (Some n) is =
        let mine : is_own_queued (at jobs.queued n) ≡ true =
        sym (ap (λ named. elim named [ Some n ↦ is_own_queued (at jobs.queued n) | None ↦ false ]) is) ∙ queued in
        let here : Moves on jobs on (record jobs { queued = without jobs.queued n }) (cancellation_of (Some n)) = at_number n (at jobs.queued n) refl mine in
        subst (λ named. Moves on jobs on (elim named [ Some n ↦ record jobs { queued = without jobs.queued n } | None ↦ jobs ]) (cancellation_of named))
        (sym is) here

-- the jobs that are gone after more texts, and how they went
record Gone (on : Bool) (before after : Cancelled) : Type 0 where
  more : List (List ℕ)
  gone : after.gone ≡ before.gone ++ more
  moves : Moves on before.jobs on after.jobs (flat_map cancellation more)

none_gone : (on : Bool) (before after : Cancelled) → after.gone ≡ before.gone → after.jobs ≡ before.jobs → Gone on before after
none_gone on before after gone jobs = record {
  more = [];
  gone = gone ∙ sym (append-nil before.gone);
  moves = subst (λ now. Moves on before.jobs on now []) (sym jobs) (one quiet);
}

step : (on : Bool) (before : Cancelled) (text : List ℕ) → Gone on before (cancels_one before text)
step on before text =
    first (is_queued before.jobs text) _ refl (second (is_begun before.jobs text || is_done before.jobs text) _ refl refl)
  where
    first : (b : Bool) (other : Cancelled) → is_queued before.jobs text ≡ b → Gone on before other
        → Gone on before (if b then record before { jobs = without_queued before.jobs text; gone = before.gone ++ text ∷ [] } else other)
    first true other is gone = record {
      more = text ∷ [];
      gone = refl;
      moves = subst (Moves on before.jobs on (without_queued before.jobs text)) (sym (append-nil (cancellation text))) (taken_out on before.jobs text is);
    }
    first false other is gone = gone

    second : (b : Bool) (other : Cancelled) → other.gone ≡ before.gone → other.jobs ≡ before.jobs → Gone on before (if b then other else before)
    second true other gone jobs = none_gone on before other gone jobs
    second false other gone jobs = none_gone on before before refl refl

-- by which no job begins
none_begin : (texts : List (List ℕ)) → Every IsNoBegin (flat_map cancellation texts)
none_begin [] = tt
none_begin (text ∷ texts) = every-append IsNoBegin (cancellation text) (flat_map cancellation texts) (go (number_named text)) (none_begin texts)
  where
    go : (found : Option ℕ) → Every IsNoBegin (cancellation_of found)
    go None = tt
    go (Some n) = (tt, tt)

flat-append : (xs ys : List (List ℕ)) → flat_map cancellation (xs ++ ys) ≡ flat_map cancellation xs ++ flat_map cancellation ys
flat-append [] ys = refl
flat-append (x ∷ xs) ys =
    ap (λ rest. cancellation x ++ rest) (flat-append xs ys)
    ∙ sym (append_assoc (cancellation x) (flat_map cancellation xs) (flat_map cancellation ys))

all : (on : Bool) (before : Cancelled) (texts : List (List ℕ)) → Gone on before (fold cancels_one before texts)
all on before [] = record { more = []; gone = sym (append-nil before.gone); moves = one quiet }
all on before (text ∷ texts) =
    let first = step on before text in
    let later = all on (cancels_one before text) texts in
    record {
      more = first.more ++ later.more;
      gone = later.gone ∙ ap (λ gone. gone ++ later.more) first.gone ∙ append_assoc before.gone first.more later.more;
      moves = subst (Moves on before.jobs on (fold cancels_one before (text ∷ texts)).jobs) (sym (flat-append first.more later.more))
          (both (none_begin first.more) (none_begin later.more) first.moves later.moves);
    }

pub by_cancels : (on : Bool) (jobs : JobTable) (texts : List (List ℕ))
    → Moves on jobs on (jobs_cancelled jobs texts).jobs (flat_map cancellation (jobs_cancelled jobs texts).gone)
by_cancels on jobs listed =
    let gone = all on (record { jobs = jobs; gone = []; others = [] }) listed in
    subst (λ texts. Moves on jobs on (jobs_cancelled jobs listed).jobs (flat_map cancellation texts)) (sym gone.gone) gone.moves
