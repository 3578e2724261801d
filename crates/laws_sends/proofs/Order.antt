-- Scripts at the tail of a queue stand in the order of their numbers.
use Rattle.std.proofs.Common.{◌≡◌, ◌<◌, ◌≤◌, ◌==◌, ℕ, nat_lt, Bool, true, false, not, List, [], ◌∷◌, ◌++◌, if◌then◌else◌, ap, refl, sym, subst, arith}
use Rattle.std.proofs.lemmas.Bool.Decides.{nat_tests}
use Rattle.std.specs.Bool.{⊤}
use Rattle.laws_sends.proofs.Begins.{Counted, by_thread}
use Rattle.laws_sends.proofs.Moves.{Move, begins, ends, fills, gets, quiet, sent, sets}
use Rattle.laws_sends.proofs.Numbers.{Numbers, deaths_none, none_if}
use Rattle.laws_sends.proofs.Totals.{total, total-append, total-le}
use Rattle.laws_sends.proofs.Views.{at_tail, is_number, one_if, placed, posted, posted_to, scripts_at, times}
use Rattle.laws_sends.proofs.Weights.{both_most, one_other, one_same, others_none}
use Rattle.laws_shared.proofs.Deciding.{same}
use Rattle.laws_shared.specs.Happenings.{Happening, Posted, Began, Finished, Died, Got, Set, GetsHold, Frees, Owner}
use Rattle.tt_shared.specs.State.{State}

abbrev pub InOrder : List Happening → List ℕ → Type 0
InOrder hs [] = ⊤
InOrder hs (n ∷ numbers) =
    ((k : ℕ) → 0 < times k numbers → 0 < total (at_tail n) hs → 0 < total (at_tail k) hs → n < k) × InOrder hs numbers

abbrev pub Ordered : List Happening → State → Type 0
Ordered hs state = (t : ℕ) → InOrder hs (scripts_at state.queues t)

-- ---- weights ----

pub posted_least : (n t : ℕ) (one : Happening) → posted_to n t one ≤ posted n one
posted_least n t (Posted m from to recipient head) = both_most (to == t) (m == n)
posted_least n t (Began m u) = omega arith
posted_least n t (Finished m outcome) = omega arith
posted_least n t (Died m) = omega arith
posted_least n t (Got m u told) = omega arith
posted_least n t (Set m u value) = omega arith
posted_least n t (GetsHold lock u) = omega arith
posted_least n t (Frees lock u) = omega arith
posted_least n t (Owner channel owner) = omega arith

tail_least : (n : ℕ) (one : Happening) → at_tail n one ≤ posted n one
tail_least n (Posted m from to recipient head) = both_most (not head) (m == n)
tail_least n (Began m u) = omega arith
tail_least n (Finished m outcome) = omega arith
tail_least n (Died m) = omega arith
tail_least n (Got m u told) = omega arith
tail_least n (Set m u value) = omega arith
tail_least n (GetsHold lock u) = omega arith
tail_least n (Frees lock u) = omega arith
tail_least n (Owner channel owner) = omega arith

-- what is in a queue has a number below the next one
pub below : (hs : List Happening) (state : State) (t n : ℕ) → Numbers hs state.posts.next → Counted hs state → 0 < times n (scripts_at state.queues t)
    → n < state.posts.next
below hs state t n numbers counted there = go (nat_lt n state.posts.next) refl
  where
    go : (b : Bool) → nat_lt n state.posts.next ≡ b → n < state.posts.next
    go true is = grind (arith, nat_tests, is)
    go false is =
        let above : state.posts.next ≤ n = grind (arith, nat_tests, is) in
        let most = total-le (posted_to n t) (posted n) (posted_least n t) hs in
        let no : ⊥ = omega (arith, counted.most n t, there, most, numbers.later n above) in absurd no

-- ---- lists ----

grows : (hs happened : List Happening) (ns : List ℕ) → ((k : ℕ) → 0 < times k ns → total (at_tail k) happened ≡ 0) → InOrder hs ns → InOrder (hs ++ happened) ns
grows hs happened [] none is = tt
grows hs happened (n ∷ ns) none is = (
  λ k there first second.
      is.0 k there
      (omega (arith, first, total-append (at_tail n) hs happened, none n (omega (arith, one_same n n refl))))
      (omega (arith, second, total-append (at_tail k) hs happened, none k (omega (arith, there)))),
  grows hs happened ns (λ k there. none k (omega (arith, there))) is.1,
)

pushed : (hs : List Happening) (ns : List ℕ) (m : ℕ) → ((k : ℕ) → 0 < times k ns → k < m) → InOrder hs ns → InOrder hs (ns ++ m ∷ [])
pushed hs [] m under is = (λ k there. let no : ⊥ = omega (arith, there) in absurd no, tt)
pushed hs (n ∷ ns) m under is = (λ k there first second. go k (m == k) refl there first second, pushed hs ns m (λ k there. under k (omega (arith, there))) is.1)
  where
    go : (k : ℕ) (b : Bool) → (m == k) ≡ b → 0 < times k (ns ++ m ∷ []) → 0 < total (at_tail n) hs → 0 < total (at_tail k) hs → n < k
    go k true at there first second = omega (arith, same m k at, under n (omega (arith, one_same n n refl)))
    go k false at there first second =
        let not_it : one_if (m == k) ≡ 0 = ap one_if at in
        is.0 k (omega (arith, there, total-append (is_number k) ns (m ∷ []), not_it)) first second

headed : (hs : List Happening) (ns : List ℕ) (m : ℕ) → total (at_tail m) hs ≡ 0 → InOrder hs ns → InOrder hs (m ∷ ns)
headed hs ns m none is = (λ k there first second. let no : ⊥ = omega (arith, first, none) in absurd no, is)

-- ---- moves ----

module _ (hs : List Happening) (old : State) (numbers : Numbers hs old.posts.next) (counted : Counted hs old) (ordered : Ordered hs old) where
  still : (t : ℕ) (happened : List Happening) → ((k : ℕ) → total (at_tail k) happened ≡ 0) → InOrder (hs ++ happened) (scripts_at old.queues t)
  still t happened none = grows hs happened (scripts_at old.queues t) (λ k there. none k) (ordered t)

  unposted : (from to : ℕ) (recipient : _) (head : Bool) (t k : ℕ) → 0 < times k (scripts_at old.queues t) →
      total (at_tail k) (Posted old.posts.next from to recipient head ∷ []) ≡ 0
  unposted from to recipient head t k there =
      let under : k < old.posts.next = below hs old t k numbers counted there in
      let not_it : one_if (old.posts.next == k) ≡ 0 = one_other old.posts.next k (λ is. omega (arith, is, under)) in
      omega (arith, both_most (not head) (old.posts.next == k), not_it)

  by_post : (from to : ℕ) (recipient : _) (head : Bool) → InOrder (hs ++ Posted old.posts.next from to recipient head ∷ [])
      (placed head old.posts.next (scripts_at old.queues to))
  by_post from to recipient true =
      let none = total-le (at_tail old.posts.next) (posted old.posts.next) (tail_least old.posts.next) hs in
      headed _ (scripts_at old.queues to) old.posts.next
      (omega (
        arith,
        total-append (at_tail old.posts.next) hs (Posted old.posts.next from to recipient true ∷ []),
        none,
        numbers.later old.posts.next (omega arith),
      ))
      (grows hs _ (scripts_at old.queues to) (unposted from to recipient true to) (ordered to))
  by_post from to recipient false =
      pushed _ (scripts_at old.queues to) old.posts.next (λ k there. below hs old to k numbers counted there)
      (grows hs _ (scripts_at old.queues to) (unposted from to recipient false to) (ordered to))

  pub ordered_on : (new : State) (happened : List Happening) → Move old new happened → Ordered (hs ++ happened) new
  ordered_on new _ (quiet happened others scripts is rows) t =
      subst (InOrder (hs ++ happened)) (sym (scripts t))
      (still t happened (λ k. others_none (at_tail k) (λ lock u. refl) (λ lock u. refl) (λ channel owner. refl) happened others))
  ordered_on new _ (sent from to recipient head but is rows) t =
      by_thread (InOrder (hs ++ Posted old.posts.next from to recipient head ∷ [])) old.queues new.queues to t _ but
      (λ alike. by_post from to recipient head)
      (λ other. grows hs _ (scripts_at old.queues t) (unposted from to recipient head t) (ordered t))
  ordered_on new _ (begins n u rest there but lives is rows) t =
      by_thread (InOrder (hs ++ Began n u ∷ [])) old.queues new.queues u t _ but
      (λ alike. (subst (InOrder (hs ++ Began n u ∷ [])) there (still u (Began n u ∷ []) (λ k. omega arith))).1)
      (λ other. still t (Began n u ∷ []) (λ k. omega arith))
  ordered_on new _ (fills n outcome slot there waits queues is rows) t =
      subst (λ one. InOrder (hs ++ Finished n outcome ∷ []) (scripts_at one t)) (sym queues) (still t (Finished n outcome ∷ []) (λ k. omega arith))
  ordered_on new _ (sets n outcome post told there scripts is rows) t =
      subst (InOrder (hs ++ Finished n outcome ∷ (if told then Set n post.sender outcome.value ∷ [] else []))) (sym (scripts t))
      (still t _ (λ k. omega (arith, none_if (at_tail k) told (Set n post.sender outcome.value) refl)))
  ordered_on new _ (gets n u slot told there mine fits queues is rows) t =
      subst (λ one. InOrder (hs ++ Got n u told ∷ []) (scripts_at one t)) (sym queues) (still t (Got n u told ∷ []) (λ k. omega arith))
  ordered_on new _ (ends u but is ended rows) t =
      by_thread (InOrder (hs ++ _)) old.queues new.queues u t [] but (λ alike. tt)
      (λ other. still t _ (λ k. deaths_none (at_tail k) old u (λ m. refl) (λ m v value. refl)))
