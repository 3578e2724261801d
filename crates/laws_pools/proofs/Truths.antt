-- What is queued was posted, what was begun has begun, and what is done has come to that.
use Rattle.std.proofs.Common.{◌≡◌, ℕ, Bool, true, false, List, [], ◌∷◌, ◌++◌, Contains, if◌then◌else◌, Some, refl, subst}
use Rattle.std.proofs.lemmas.List.Elements.{Contains-append_left, Contains-push}
use Rattle.std.specs.BTreeMap.{insert_entry}
use Rattle.std.specs.Ordering.{nat_cmp}
use Rattle.laws_pools.proofs.Moves.{Ends, Move, begins, cancels, done, ends, gets, lost, posts, quiet, suspends}
use Rattle.laws_pools.specs.PoolHappenings.{PoolHappening, Posted, Cancelled, Began, Done, Lost, Got}
use Rattle.laws_pools.specs.PoolJobs as spec
use Rattle.laws_pools.specs.PoolJobs.{CameTo, IsPosted}
use Rattle.laws_sends.proofs.Cuts.{Every, every-on}
use Rattle.laws_sends.proofs.Entries.{at, every-at, every-insert, every-remove}
use Rattle.tt_calls.specs.declared.outcome.Outcome.{Outcome}
use Rattle.tt_pools.specs.Jobs.{JobTable, without}
use Rattle.tt_pools.specs.declared.jobs.Begun.{Begun}
use Rattle.tt_pools.specs.declared.jobs.Queued.{Queued}

abbrev pub QueuedTrue : List PoolHappening → ℕ × Queued → Type 0
QueuedTrue hs entry = IsPosted hs entry.0 entry.1.detached

pub record BegunTrue (hs : List PoolHappening) (entry : ℕ × Begun) : Type 0 where
  pub posted : IsPosted hs entry.1.job entry.1.detached
  pub began : Contains hs (Began entry.1.job entry.0)

pub record DoneTrue (hs : List PoolHappening) (entry : ℕ × Outcome) : Type 0 where
  pub posted : IsPosted hs entry.0 false
  pub is : CameTo hs entry.0 entry.1

pub record Truths (hs : List PoolHappening) (jobs : JobTable) : Type 0 where
  pub queued : Every (QueuedTrue hs) jobs.queued
  pub begun : Every (BegunTrue hs) jobs.begun
  pub done : Every (DoneTrue hs) jobs.done

-- ---- after more has happened ----

module _ (hs more : List PoolHappening) where
  pub posted_on : (n : ℕ) (detached : Bool) → IsPosted hs n detached → IsPosted (hs ++ more) n detached
  posted_on n detached is = record { from = is.from; posted = Contains-append_left hs more _ is.posted }

  came_on : (n : ℕ) (outcome : Outcome) → CameTo hs n outcome → CameTo (hs ++ more) n outcome
  came_on n _ (spec.CameTo.done t outcome there) = spec.CameTo.done t outcome (Contains-append_left hs more _ there)
  came_on n _ (spec.CameTo.lost t there) = spec.CameTo.lost t (Contains-append_left hs more _ there)

  pub queued_on : (es : List (ℕ × Queued)) → Every (QueuedTrue hs) es → Every (QueuedTrue (hs ++ more)) es
  queued_on es every = every-on (QueuedTrue hs) (QueuedTrue (hs ++ more)) (λ entry. posted_on entry.0 entry.1.detached) es every

  pub begun_on : (es : List (ℕ × Begun)) → Every (BegunTrue hs) es → Every (BegunTrue (hs ++ more)) es
  begun_on es every =
      every-on (BegunTrue hs) (BegunTrue (hs ++ more))
      (λ entry is. record { posted = posted_on entry.1.job entry.1.detached is.posted; began = Contains-append_left hs more _ is.began }) es every

  pub done_on : (es : List (ℕ × Outcome)) → Every (DoneTrue hs) es → Every (DoneTrue (hs ++ more)) es
  done_on es every =
      every-on (DoneTrue hs) (DoneTrue (hs ++ more))
      (λ entry is. record { posted = posted_on entry.0 false is.posted; is = came_on entry.0 entry.1 is.is }) es every

  pub truths_more : (jobs : JobTable) → Truths hs jobs → Truths (hs ++ more) jobs
  truths_more jobs truths = record {
    queued = queued_on jobs.queued truths.queued;
    begun = begun_on jobs.begun truths.begun;
    done = done_on jobs.done truths.done;
  }

-- ---- moves ----

module _ (hs : List PoolHappening) (jobs : JobTable) (truths : Truths hs jobs) where
  by_end : (t : ℕ) (begun : Begun) (outcome : Outcome) (one : PoolHappening) → at t jobs.begun ≡ Some begun → Ends begun.job t outcome one
      → (b : Bool) → begun.detached ≡ b
      → Truths (hs ++ one ∷ []) (if b then record jobs { begun = without jobs.begun t }
      else record jobs { begun = without jobs.begun t; done = insert_entry nat_cmp jobs.done begun.job outcome })
  by_end t begun outcome one there end true is = record {
    queued = queued_on hs (one ∷ []) jobs.queued truths.queued;
    begun = every-remove (BegunTrue (hs ++ one ∷ [])) t jobs.begun (begun_on hs (one ∷ []) jobs.begun truths.begun);
    done = done_on hs (one ∷ []) jobs.done truths.done;
  }
  by_end t begun outcome one there end false is = record {
    queued = queued_on hs (one ∷ []) jobs.queued truths.queued;
    begun = every-remove (BegunTrue (hs ++ one ∷ [])) t jobs.begun (begun_on hs (one ∷ []) jobs.begun truths.begun);
    done = every-insert (DoneTrue (hs ++ one ∷ [])) jobs.done begun.job outcome (done_on hs (one ∷ []) jobs.done truths.done) (record {
      posted = posted_on hs (one ∷ []) begun.job false
          (subst (IsPosted hs begun.job) is (every-at (BegunTrue hs) t jobs.begun begun truths.begun there).posted);
      is = came end;
    });
  }
    where
      came : {outcome : Outcome} {one : PoolHappening} → Ends begun.job t outcome one → CameTo (hs ++ one ∷ []) begun.job outcome
      came (done outcome) = spec.CameTo.done t outcome (Contains-push hs (Done begun.job t outcome))
      came lost = spec.CameTo.lost t (Contains-push hs (Lost begun.job t))

pub truths_on : (hs : List PoolHappening) (on now : Bool) (old new : JobTable) (happened : List PoolHappening) → Move on old now new happened → Truths hs old
    → Truths (hs ++ happened) new
truths_on hs on _ old _ _ quiet truths = truths_more hs [] old truths
truths_on hs on _ old _ _ (posts script from detached) truths = record {
  queued = every-insert (QueuedTrue (hs ++ Posted old.next from detached ∷ [])) old.queued old.next _ (queued_on hs _ old.queued truths.queued)
      (record { from = from; posted = Contains-push hs (Posted old.next from detached) });
  begun = begun_on hs _ old.begun truths.begun;
  done = done_on hs _ old.done truths.done;
}
truths_on hs on _ old _ _ (cancels n job there own) truths = record {
  queued = every-remove (QueuedTrue (hs ++ Cancelled n ∷ [])) n old.queued (queued_on hs _ old.queued truths.queued);
  begun = begun_on hs _ old.begun truths.begun;
  done = done_on hs _ old.done truths.done;
}
truths_on hs on _ old _ _ (begins n t job later is goes_on) truths =
    let queued : Every (QueuedTrue (hs ++ Began n t ∷ [])) ((n, job) ∷ later) =
    subst (Every (QueuedTrue (hs ++ Began n t ∷ []))) is (queued_on hs _ old.queued truths.queued) in
    record {
      queued = queued.1;
      begun = every-insert (BegunTrue (hs ++ Began n t ∷ [])) old.begun t _ (begun_on hs _ old.begun truths.begun)
          (record { posted = queued.0; began = Contains-push hs (Began n t) });
      done = done_on hs _ old.done truths.done;
    }
truths_on hs on _ old _ _ (ends t begun outcome one there end) truths = by_end hs old truths t begun outcome one there end begun.detached refl
truths_on hs on _ old _ _ (gets n t outcome there) truths = record {
  queued = queued_on hs _ old.queued truths.queued;
  begun = begun_on hs _ old.begun truths.begun;
  done = every-remove (DoneTrue (hs ++ Got n t outcome ∷ [])) n old.done (done_on hs _ old.done truths.done);
}
truths_on hs on _ old _ _ (suspends now) truths = truths_more hs _ old truths
