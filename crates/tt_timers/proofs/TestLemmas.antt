-- The tests of entries are those of the timers.
use Rattle.std.proofs.Common.{◌≡◌, ◌∙◌, ◌&&◌, ◌==◌, ℕ, Bool, true, false, not, List, map}
use Rattle.std.proofs.Common.{refl, sym, ap, subst, arith, rules}
use Rattle.std.proofs.lemmas.Map.Views.{exact_unsigned_eq}
use Rattle.std.specs.BTreeMap.{is_at}
use Rattle.std.specs.List.{filter, list_any}
use Rattle.std.specs.Ordering.{is_eq}
use Rattle.std.specs.Prelude.{nat_le}
use Rattle.tt_timers.specs.Pending.{Timer, is_of, is_script, is_script_of, is_sleep, is_sleep_of, is_wait_of}
use Rattle.tt_timers.specs.declared.spot.Owner.{Owner}
use Rattle.tt_timers.specs.declared.spot.Spot.{Spot}
use Rattle.tt_timers.specs.declared.spot.Waiting.{Waiting}
use Rattle.tt_timers.specs.declared.timer.TimerKind.{TimerKind}
use Rattle.tt_timers.specs.declared.timer.TimerKind.TheVariants.{Script, Sleep, Condition}
use Rattle.tt_timers.specs.inside.Entries.{is_owned, is_up_to, owner_cmp, owner_of, rank, timer_at}
use Rattle.tt_timers.proofs.EntryLemmas.{any-is, filter-is}
use Rattle.tt_timers.proofs.KeyLemmas.{owner-self, same-owner}

wait-kind : (kind : TimerKind) → nat_le (rank kind) 1 ≡ not (is_script kind)
wait-kind (Script script) = refl
wait-kind Sleep = refl
wait-kind Condition = refl

sleep-kind : (kind : TimerKind) → nat_le (rank kind) 0 ≡ is_sleep kind
sleep-kind (Script script) = refl
sleep-kind Sleep = refl
sleep-kind Condition = refl

any-kind : (kind : TimerKind) → nat_le (rank kind) 2 ≡ true
any-kind (Script script) = refl
any-kind Sleep = refl
any-kind Condition = refl

and-true : (b : Bool) → (b && true) ≡ b
and-true true = refl
and-true false = refl

pub wait-is : (thread : ℕ) (entry : Spot × Waiting) → is_up_to thread 1 entry ≡ is_wait_of thread (timer_at entry)
wait-is thread entry = ap (λ b. (entry.1.thread == thread) && b) (wait-kind entry.1.kind)

pub sleep-is : (thread : ℕ) (entry : Spot × Waiting) → is_up_to thread 0 entry ≡ is_sleep_of thread (timer_at entry)
sleep-is thread entry = ap (λ b. (entry.1.thread == thread) && b) (sleep-kind entry.1.kind)

pub any-kind-is : (thread : ℕ) (entry : Spot × Waiting) → is_up_to thread 2 entry ≡ is_of thread (timer_at entry)
any-kind-is thread entry = ap (λ b. (entry.1.thread == thread) && b) (any-kind entry.1.kind) ∙ and-true (entry.1.thread == thread)

-- ---- the script of a number ----

same-truth : (a b : Bool) → (a ≡ true → b ≡ true) → (b ≡ true → a ≡ true) → a ≡ b
same-truth true b to from = sym (to refl)
same-truth false true to from = from refl
same-truth false false to from = refl

both-true : (a b : Bool) → (a && b) ≡ true → (a ≡ true) × (b ≡ true)
both-true true true e = (refl, refl)
both-true true false e = absurd (cc e)
both-true false b e = absurd (cc e)

is-same : (a b : ℕ) → a ≡ b → (a == b) ≡ true
is-same a b e = search (rules, e)

script-rank : (kind : TimerKind) → 2 ≡ rank kind → is_script kind ≡ true
script-rank (Script script) e = refl
script-rank Sleep e = absurd (omega (arith, e))
script-rank Condition e = absurd (omega (arith, e))

rank-script : (kind : TimerKind) → is_script kind ≡ true → 2 ≡ rank kind
rank-script (Script script) e = refl
rank-script Sleep e = absurd (cc e)
rank-script Condition e = absurd (cc e)

abbrev pub script_owner : (thread number : ℕ) → Owner
script_owner thread number = record { thread = thread; rank = 2; number = number }

pub script-is : (thread number : ℕ) (entry : Spot × Waiting) → is_owned (script_owner thread number) entry ≡ is_script_of thread number (timer_at entry)
script-is thread number entry = same-truth (is_owned (script_owner thread number) entry) (is_script_of thread number (timer_at entry)) to from
  where
    to : is_owned (script_owner thread number) entry ≡ true → is_script_of thread number (timer_at entry) ≡ true
    to owned =
        let owners : script_owner thread number ≡ owner_of entry = same-owner (script_owner thread number) (owner_of entry) owned in
        rw (
          is-same entry.1.thread thread (ap (λ one. one.thread) (sym owners)),
          is-same entry.0.number number (ap (λ one. one.number) (sym owners)),
          script-rank entry.1.kind (ap (λ one. one.rank) owners),
        )
        refl

    from : is_script_of thread number (timer_at entry) ≡ true → is_owned (script_owner thread number) entry ≡ true
    from is =
        let first = both-true (entry.1.thread == thread) ((entry.0.number == number) && is_script entry.1.kind) is in
        let second = both-true (entry.0.number == number) (is_script entry.1.kind) first.1 in
        let threads : entry.1.thread ≡ thread = exact_unsigned_eq entry.1.thread thread first.0 in
        let numbers : entry.0.number ≡ number = exact_unsigned_eq entry.0.number number second.0 in
        let ranks : 2 ≡ rank entry.1.kind = rank-script entry.1.kind second.1 in
        let owners : script_owner thread number ≡ owner_of entry = search (rules, threads, numbers, ranks) in
        subst (λ one. is_at (owner_cmp (script_owner thread number)) one ≡ true) owners (ap is_eq (owner-self (script_owner thread number)))

-- ---- all of a sort ----

pub dropped-is : (sort : Spot × Waiting → Bool) (test : Timer → Bool) → ((entry : Spot × Waiting) → sort entry ≡ test (timer_at entry)) →
    (entries : List (Spot × Waiting)) → map timer_at (filter (λ entry. not (sort entry)) entries) ≡ filter (λ timer. not (test timer)) (map timer_at entries)
dropped-is sort test same entries = (λ i. map timer_at (filter (λ entry. not (same entry i)) entries)) ∙ filter-is test entries

pub found-is : (sort : Spot × Waiting → Bool) (test : Timer → Bool) → ((entry : Spot × Waiting) → sort entry ≡ test (timer_at entry)) →
    (entries : List (Spot × Waiting)) → list_any sort entries ≡ list_any test (map timer_at entries)
found-is sort test same entries = (λ i. list_any (λ entry. same entry i) entries) ∙ sym (any-is test entries)
