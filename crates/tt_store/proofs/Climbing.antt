-- Callers are gone up one after the other.
use Rattle.std.proofs.Common.{◌≡◌, ℕ, zero, suc, ◌+◌, ◌-◌, ◌<◌, Some, None, sym, refl, ◌∙◌, ap, arith}
use Rattle.tt_store.specs.Levels.{Levels, above, caller_of}

-- the callers that are still to be gone up lead to where all of them lead
abbrev pub LeadsOn : Levels → (done frame start : ℕ) → Type 0
LeadsOn levels done frame start = (more : ℕ) → above levels more frame ≡ above levels (done + more) start

-- from a frame that is not the global one its caller is one up
pub one_up : (levels : Levels) (more frame : ℕ) → 0 < frame
    → above levels more (caller_of levels frame) ≡ above levels (suc more) frame
one_up levels more zero called = absurd (omega arith)
one_up levels more (suc frame) called = refl

counts : (done more : ℕ) → done + suc more ≡ done + 1 + more
counts done more = omega arith

-- so one more is gone up
pub goes_on : (levels : Levels) (done frame start : ℕ) → 0 < frame
    → LeadsOn levels done frame start → LeadsOn levels (done + 1) (caller_of levels frame) start
goes_on levels done frame start called leads more =
    one_up levels more frame called
    ∙ (leads (suc more) ∙ ap (λ count. above levels count start) (counts done more))

-- with callers left at the global frame there is none
pub none_above : (levels : Levels) (left frame : ℕ) → frame ≡ 0 → 0 < left → above levels left frame ≡ None
none_above levels zero frame global more = absurd (omega arith)
none_above levels (suc left) zero global more = refl
none_above levels (suc left) (suc frame) global more = absurd (omega arith)

leaves : (count done : ℕ) → done < count → suc (count - (done + 1)) ≡ count - done
leaves count done more = omega arith

-- one of those left is gone up
pub one_less : (levels : Levels) (count done frame : ℕ) → 0 < frame → done < count
    → above levels (count - (done + 1)) (caller_of levels frame) ≡ above levels (count - done) frame
one_less levels count done frame called more =
    one_up levels (count - (done + 1)) frame called ∙ ap (λ left. above levels left frame) (leaves count done more)

nothing : (done : ℕ) → done + 0 ≡ done
nothing done = omega arith

-- at the global frame all of them are gone up
pub at_end : (levels : Levels) (done frame start : ℕ) → frame ≡ 0
    → LeadsOn levels done frame start → above levels done start ≡ Some 0
at_end levels done frame start global leads =
    sym (ap (λ count. above levels count start) (nothing done)) ∙ (sym (leads 0) ∙ ap (λ frame. Some frame) global)
