-- Places of threads, and what becomes of them.
use Rattle.std.proofs.Common.{◌≡◌, ◌∙◌, ◌+◌, ◌-◌, ◌<◌, ◌≤◌, ℕ, zero, suc, Bool, true, false, IsTrue, IsFalse, List, [], ◌∷◌}
use Rattle.std.proofs.Common.{◌++◌, length, Option, Some, None, ap, append-nil, append_assoc, inl, inr}
use Rattle.std.proofs.Common.{nat_le, rules, arith, refl, slice_get, sym, subst}
use Rattle.std.specs.Option.{option_flatten, option_map}
use Rattle.tt_calls.specs.Numbers.{at_number}
use Rattle.tt_calls.specs.declared.outcome.Code.{Code}
use Rattle.tt_calls.specs.declared.outcome.Code.TheVariants as code
use Rattle.tt_calls.specs.declared.reply.Reply.{Reply}
use Rattle.tt_calls.specs.declared.start.Start.{Start}
use Rattle.tt_kept.specs.Asking.{AsksNext, asks, ends, end_by, goes_on}
use Rattle.tt_kept.specs.Beginning.{IsNext}
use Rattle.tt_interp.specs.Interps as interps
use Rattle.tt_interp.specs.Interps.{Interpreter, coming, request_of, serving_of}
use Rattle.tt_interp.specs.declared.interp.Standing.{Standing}
use Rattle.tt_interp.specs.declared.interp.Standing.TheVariants as standing
use Rattle.tt_kept.specs.declared.kept.Kept.{Kept}
use Rattle.tt_kept.specs.declared.setup.Setup.{Setup}
use Rattle.tt_run.specs.Desk.{Ground}
use Rattle.tt_outcomes.specs.Endings.{code_of}
use Rattle.tt_machine.specs.Machine.{Thread, with_reply, thread_with_reply}
use Rattle.tt_machine.proofs.OneRequest.{nothing_after}
use Rattle.tt_threads.specs.Rows.{row_of}
use Rattle.tt_threads.specs.declared.row.Row.{Row}
use Rattle.tt_core.proofs.PlaceLemmas.{HaveBegun, add-suc, each-at, each-none, each-set, numbered, one-begun, one-more, told-is}
use Rattle.tt_core.specs.inside.Crew.{ArePlaced, BeginsLast, IsFirstReady, IsReadyAfter, IsPlaced, IsReplied, AsksNothing}
use Rattle.tt_core.specs.inside.Crew.{Places, StandsIn, TakesReply, interp_of, is_ready}

-- ---- numbers ----

one-plus : (n : ℕ) → 1 + (suc n - 1) ≡ suc n
one-plus n = omega arith

numbered-place : (places : Places) (n : ℕ) → interp_of places (suc n) ≡ option_flatten (slice_get places n)
numbered-place places n = ap option_flatten (numbered places n)

-- ---- by number ----

placed-some : (found : Option (Option Interpreter)) (interp : Interpreter) → option_flatten found ≡ Some interp → found ≡ Some (Some interp)
placed-some None interp is = absurd (cc is)
placed-some (Some None) interp is = absurd (cc is)
placed-some (Some (Some one)) interp is = ap Some is

-- the thread that an interpreter stands for
pub record StandsFor (setup : Setup) (number : ℕ) (threads : List Thread) (interp : Interpreter) : Type 0 where
  pub thread : Thread
  pub made : at_number threads number ≡ Some thread
  pub stands : StandsIn interp setup number thread

pub stands-for : (setup : Setup) (number : ℕ) (threads : List Thread) (places : Places) (interp : Interpreter)
    → ArePlaced setup 1 threads places → interp_of places number ≡ Some interp → StandsFor setup number threads interp
stands-for setup zero threads places interp are is = absurd (cc is)
stands-for setup (suc k) threads places interp are is =
    let found = each-at (IsPlaced setup) 1 k threads places (Some interp) are
    (placed-some (slice_get places k) interp (sym (numbered-place places k) ∙ is)) in
    record {
      thread = found.thread;
      made = numbered threads k ∙ found.there;
      stands = subst (λ (n : ℕ). IsPlaced setup n found.thread (Some interp)) (one-more k) found.placed;
    }

none-some : {X : Type 0} {found : Option X} {x : X} → found ≡ None → found ≡ Some x → ⊥
none-some is also = cc

-- a thread without a place was never made, or asks nothing
none-made : (threads : List Thread) (k : ℕ) (thread : Thread) → slice_get threads k ≡ None → at_number threads (suc k) ≡ Some thread → ⊥
none-made threads k thread none made = none-some none (sym (numbered threads k) ∙ made)

by-place : (setup : Setup) (k : ℕ) (threads : List Thread) (places : Places) (found : Option (Option Interpreter)) (thread : Thread)
    → ArePlaced setup 1 threads places → slice_get places k ≡ found → option_flatten found ≡ None
    → at_number threads (suc k) ≡ Some thread → AsksNothing setup (suc k) thread
by-place setup k threads places None thread are at none made =
    absurd (none-made threads k thread (each-none (IsPlaced setup) 1 k threads places are at) made)
by-place setup k threads places (Some (Some interp)) thread are at none made = absurd (cc none)
by-place setup k threads places (Some None) thread are at none made =
    let found = each-at (IsPlaced setup) 1 k threads places None are at in
    let same : found.thread ≡ thread = let is = sym found.there ∙ (sym (numbered threads k) ∙ made) in cc is in
    subst (λ (one : Thread). AsksNothing setup (suc k) one) same
    (subst (λ (n : ℕ). IsPlaced setup n found.thread None) (one-more k) found.placed)

zero-made : (threads : List Thread) (thread : Thread) → at_number threads 0 ≡ Some thread → ⊥
zero-made threads thread made = absurd (cc made)

pub silent : (setup : Setup) (number : ℕ) (threads : List Thread) (places : Places) (thread : Thread)
    → ArePlaced setup 1 threads places → interp_of places number ≡ None
    → at_number threads number ≡ Some thread → AsksNothing setup number thread
silent setup zero threads places thread are none made = absurd (zero-made threads thread made)
silent setup (suc k) threads places thread are none made =
    by-place setup k threads places (slice_get places k) thread are refl (sym (numbered-place places k) ∙ none) made

-- ---- a reply ----

-- what an interpreter asks that halts
pub asks-at : (kept : Kept) (at : Standing) → IsTrue (interps.is_halted at) → AsksNext (coming at) kept [] (request_of at) (serving_of at)
asks-at kept (standing.Fresh start me limit) halted = absurd (cc halted)
asks-at kept (standing.Asks stack request) halted = asks refl
asks-at kept (standing.Over stack ending) halted = ends refl

ends-all : (is : Code) → goes_on (end_by is) ≡ false
ends-all code.Fine = refl
ends-all code.Failed = refl
ends-all code.Returned = refl
ends-all code.Broke = refl
ends-all code.Continued = refl

is-false : (b : Bool) → IsFalse b → b ≡ false
is-false true is = absurd (cc is)
is-false false is = refl

last-of : (at : Standing) (reply : Reply) → IsTrue (interps.is_halted at) → IsFalse (interps.fits at (Some reply)) → goes_on (request_of at) ≡ false
last-of (standing.Fresh start me limit) reply halted unfit = absurd (cc halted)
last-of (standing.Asks stack request) reply halted unfit = is-false (goes_on request) unfit
last-of (standing.Over stack ending) reply halted unfit = ends-all (code_of ending)

pub stands-asking : (setup : Setup) (number : ℕ) (thread : Thread) (interp : Interpreter) → (is : StandsIn interp setup number thread)
    → IsNext setup number thread.start thread.replies (request_of interp.standing) (serving_of interp.standing)
stands-asking setup number thread interp is =
    subst (λ (replies : List Reply). IsNext setup number thread.start replies (request_of interp.standing) (serving_of interp.standing))
    (append-nil thread.replies)
    (is.later [] (request_of interp.standing) (serving_of interp.standing) (asks-at interp.kept interp.standing is.halted))

pub goes-placed : (setup : Setup) (number : ℕ) (thread : Thread) (interp : Interpreter) (reply : Reply) (place : Option Interpreter)
    → StandsIn interp setup number thread → TakesReply interp reply place → IsPlaced setup number (thread_with_reply reply thread) place
goes-placed setup number thread interp reply (Some later) is goes = record {
  halted = goes.1;
  later = λ replies request serving next.
      subst (λ (all : List Reply). IsNext setup number thread.start all request serving)
      (sym (append_assoc thread.replies (reply ∷ []) replies))
      (is.later (reply ∷ replies) request serving (goes.0 replies request serving next));
}
goes-placed setup number thread interp reply None is goes = λ request serving next.
    nothing_after setup number thread.start thread.replies (request_of interp.standing) request
    (serving_of interp.standing) serving reply
    (stands-asking setup number thread interp is) (last-of interp.standing reply is.halted goes) next

number-is : (number : ℕ) (places : Places) (interp : Interpreter) → interp_of places number ≡ Some interp → 1 + (number - 1) ≡ number
number-is zero places interp is = absurd (cc is)
number-is (suc k) places interp is = one-plus k

-- a thread gets its reply
pub replied-placed : (setup : Setup) (number : ℕ) (reply : Reply) (threads : List Thread) (old new : Places)
    → ArePlaced setup 1 threads old → IsReplied number reply old new → ArePlaced setup 1 (with_reply threads number reply) new
replied-placed setup number reply threads old new are is =
    let found = stands-for setup number threads old is.interp are is.found in
    let one = goes-placed setup number found.thread is.interp reply is.place found.stands is.goes in
    let at = subst (λ (k : ℕ). IsPlaced setup k (thread_with_reply reply found.thread) is.place) (sym (number-is number old is.interp is.found)) one in
    let set = each-set (IsPlaced setup) 1 (number - 1) threads old (thread_with_reply reply found.thread) is.place are at in
    rw (told-is threads number reply found.thread found.made, is.put) set

-- ---- threads begin ----

-- a thread that was made begins
pub begins-one : (setup : Setup) (begun : Start) (number : ℕ) (fresh later : Interpreter) (old new : Places)
    → number ≡ length old + 1 → interps.StandsFor fresh setup number begun → interps.GoesOn later fresh None
    → IsTrue (interps.is_halted later.standing) → new ≡ old ++ Some later ∷ []
    → BeginsLast setup (record { start = begun; replies = [] }) old new
begins-one setup begun number fresh later old new next stands goes halted pushed = record {
  interp = later;
  pushed = pushed;
  stands = subst (λ (n : ℕ). StandsIn later setup n (record { start = begun; replies = [] })) (next ∙ add-suc (length old)) (record {
    halted = halted;
    later = λ replies request serving asks. stands replies request serving (goes replies request serving asks);
  });
}

-- one more has begun
pub one-more-begun : (setup : Setup) (rows : List Row) (old mid new : Places) (number : ℕ) (begun : Start)
    → HaveBegun (IsPlaced setup) rows old mid → number ≡ length mid + 1
    → option_map (λ (row : Row). row.start) (row_of rows number) ≡ Some begun
    → BeginsLast setup (record { start = begun; replies = [] }) mid new
    → HaveBegun (IsPlaced setup) rows old new
one-more-begun setup rows old mid new number begun have next started one =
    one-begun (IsPlaced setup) rows old mid new number begun (Some one.interp) have next started one.pushed one.stands

-- ---- in turn ----

beyond-get : (places : Places) (k : ℕ) → length places ≤ k → slice_get places k ≡ None
beyond-get [] k le = refl
beyond-get (place ∷ places) zero le = absurd (omega (arith, le))
beyond-get (place ∷ places) (suc k) le = beyond-get places k (omega (arith, le))

beyond : (places : Places) (number : ℕ) → length places < number → interp_of places number ≡ None
beyond places zero above = refl
beyond places (suc k) above = numbered-place places k ∙ ap option_flatten (beyond-get places k (omega (arith, above)))

pub beyond-ready : {S K E : Type 0} (desk : Ground S K E) (places : Places) (number : ℕ) → length places < number → IsFalse (is_ready desk places number)
beyond-ready desk places number above = rw (beyond places number above) refl

pub zero-ready : {S K E : Type 0} (desk : Ground S K E) (places : Places) → IsFalse (is_ready desk places 0)
zero-ready desk places = refl

-- the first above one
pub turn-above : (ready : ℕ → Bool) (after last next : ℕ) → IsFirstReady ready (after + 1) last (Some next) → IsReadyAfter ready after (Some next)
turn-above ready after last next is =
    (is.0, inl ((omega (arith, is.1)), (λ number over under. is.3 number (omega (arith, over)) under)))

-- else the first up to it
pub turn-below : (ready : ℕ → Bool) (after last to : ℕ) (next : Option ℕ)
    → IsFalse (ready 0) → ((number : ℕ) → last < number → IsFalse (ready number))
    → (to ≤ after) × (to ≤ last) × ((number : ℕ) → number ≤ after → number ≤ last → number ≤ to)
    → IsFirstReady ready (after + 1) last None → IsFirstReady ready 1 to next
    → IsReadyAfter ready after next
turn-below ready after last to next at_zero past least above below = by-next next below
  where
    over : (number : ℕ) → after < number → IsFalse (ready number)
    over number more = by-order (nat_le number last) refl
      where
        by-order : (b : Bool) → nat_le number last ≡ b → IsFalse (ready number)
        by-order true is = above number (omega (arith, more)) (search (rules, arith))
        by-order false is = past number (search (rules, arith))

    by-next : (next : Option ℕ) → IsFirstReady ready 1 to next → IsReadyAfter ready after next
    by-next None first = λ number. nowhere number
      where
        nowhere : (number : ℕ) → IsFalse (ready number)
        nowhere zero = at_zero
        nowhere (suc k) = by-order (nat_le (suc k) after) refl
          where
            by-order : (b : Bool) → nat_le (suc k) after ≡ b → IsFalse (ready (suc k))
            by-order true is = within (nat_le (suc k) last) refl
              where
                within : (b : Bool) → nat_le (suc k) last ≡ b → IsFalse (ready (suc k))
                within true also = first (suc k) (omega arith) (least.2 (suc k) (search (rules, arith)) (search (rules, arith)))
                within false also = past (suc k) (search (rules, arith))
            by-order false is = over (suc k) (search (rules, arith))
    by-next (Some next) first =
        (first.0, inr ((omega (arith, first.2, least.0)), over, (λ number under. before number under)))
      where
        before : (number : ℕ) → number < next → IsFalse (ready number)
        before zero under = at_zero
        before (suc k) under = first.3 (suc k) (omega arith) under
