-- Frames stay there while procedures and scripts begin and end.
use Rattle.std.proofs.Common.{◌≡◌, ◌⊎◌, inl, inr, ℕ, zero, suc, ◌+◌, ◌-◌, ◌<◌, ◌≤◌, Bool, true, false, ◌&&◌, List, [], ◌∷◌, ◌++◌}
use Rattle.std.proofs.Common.{Option, Some, None, IsTrue, length, take, get_or, refl, ap, sym, subst, ◌∙◌, arith, true≢false, if◌then◌else◌, drop}
use Rattle.std.proofs.lemmas.Bool.{cases_lt, ltb-true, lt-ltb}
use Rattle.std.proofs.lemmas.List.{get_or-append-add, get_or-take, get_or_append_left, get_or_past}
use Rattle.std.specs.Prelude.{nat_le, nat_lt}
use Rattle.tt_vars.proofs.FrameLemmas.{none_is_some, same_some}
use Rattle.tt_store.specs.Levels.{HasDepth, IsNested, Levels, above, caller_of, fits, levels_after, with_frames, with_procedure_level, with_script_in}
use Rattle.tt_store.specs.declared.nesting.Begun.{Begun}
use Rattle.tt_store.specs.declared.nesting.Begun.TheVariants.{Procedure, Script}
use Rattle.tt_variable_commands.specs.Counting.{IsAlong, IsFrame, IsFrameBy, count_of, frame_below, frame_up, is_numbered}
use Rattle.tt_vars.specs.Variables.{Frame}

-- ---- callers are lower ----

caller-lower : (levels : Levels) → IsNested levels → (frame : ℕ) → caller_of levels (suc frame) ≤ frame
caller-lower levels nested frame = elim (cases_lt (suc frame) (length levels.callers)) [
  | inl lt ↦ let less = nested.lower (suc frame) (omega arith) lt in omega (arith, less)
  | inr ge ↦ let past = get_or_past levels.callers (suc frame) 0 ge in omega (arith, past)
]

above-lower : (levels : Levels) → IsNested levels → (count frame up : ℕ) → above levels count frame ≡ Some up → up ≤ frame
above-lower levels nested zero frame up is = let same = same_some is in omega (arith, same)
above-lower levels nested (suc count) zero up is = absurd (none_is_some is)
above-lower levels nested (suc count) (suc frame) up is =
    let lower = above-lower levels nested count (caller_of levels (suc frame)) up is in
    omega (arith, lower, caller-lower levels nested frame)

deep : (levels : Levels) → IsNested levels → (most frame : ℕ) → frame < most → (depth : ℕ) × (above levels depth frame ≡ Some 0)
deep levels nested zero frame less = absurd (omega (arith, less))
deep levels nested (suc most) zero less = (0, refl)
deep levels nested (suc most) (suc frame) less =
    let further = deep levels nested most (caller_of levels (suc frame)) (omega (arith, less, caller-lower levels nested frame)) in
    (suc further.0, further.1)

-- the global frame is some number of callers up
pub has_depth : (levels : Levels) → IsNested levels → (depth : ℕ) × HasDepth levels depth
has_depth levels nested = deep levels nested (suc levels.current) levels.current (omega arith)

-- ---- the frame that a word means ----

pub means : (word : List ℕ) (levels : Levels) → IsNested levels → (frame : Option ℕ) × IsFrame word levels frame
means word levels nested = by (is_numbered word)
  where
    along : (number : Option ℕ) → (frame : Option ℕ) × IsAlong levels number frame
    along None = (None, refl)
    along (Some number) = let depth = has_depth levels nested in (frame_below levels depth.0 number, (depth.0, depth.1, refl))

    by : (numbered : Bool) → (frame : Option ℕ) × IsFrameBy numbered word levels frame
    by true = along (count_of (drop 1 word))
    by false = (frame_up levels (count_of word), refl)

-- it is no higher than the current one
pub means-lower : (word : List ℕ) (levels : Levels) (frame : ℕ) → IsNested levels → IsFrame word levels (Some frame) → frame ≤ levels.current
means-lower word levels frame nested is = by (is_numbered word) is
  where
    up : (count : Option ℕ) → Some frame ≡ frame_up levels count → frame ≤ levels.current
    up None is = absurd (none_is_some (sym is))
    up (Some count) is = above-lower levels nested count levels.current frame (sym is)

    below : (depth number : ℕ) (there : Bool) → Some frame ≡ (if there then above levels (depth - number) levels.current else None) → frame ≤ levels.current
    below depth number true is = above-lower levels nested (depth - number) levels.current frame (sym is)
    below depth number false is = absurd (none_is_some (sym is))

    along : (number : Option ℕ) → IsAlong levels number (Some frame) → frame ≤ levels.current
    along None is = absurd (none_is_some (sym is))
    along (Some number) is = below is.0 number (nat_le number is.0) is.2

    by : (numbered : Bool) → IsFrameBy numbered word levels (Some frame) → frame ≤ levels.current
    by true is = along (count_of (drop 1 word)) is
    by false is = up (count_of word) is

-- ---- what keeps them nested ----

both : (a b : Bool) → IsTrue a → IsTrue b → IsTrue (a && b)
both true b one other = other
both false b one other = one

first : (a b : Bool) → IsTrue (a && b) → IsTrue a
first true b all = refl
first false b all = all

second : (a b : Bool) → IsTrue (a && b) → IsTrue b
second true b all = all
second false b all = absurd (true≢false (sym all))

pub nested-frames : (levels : Levels) (frames : List Frame) → IsNested levels → length frames ≡ length levels.frames → IsNested (with_frames levels frames)
nested-frames levels frames nested counted = record {
  counted = nested.counted ∙ sym counted;
  there = omega (arith, nested.there, counted);
  lower = nested.lower;
  ends = subst (λ n. IsTrue (fits levels.begun n)) (sym counted) nested.ends;
}

pub nested-script : (levels : Levels) (frame : ℕ) → IsNested levels → frame < length levels.frames → IsNested (with_script_in frame levels)
nested-script levels frame nested lt = record {
  counted = nested.counted;
  there = lt;
  lower = nested.lower;
  ends =
      both (nat_lt levels.current (length levels.frames)) (fits levels.begun (length levels.frames))
      (lt-ltb levels.current (length levels.frames) nested.there) nested.ends;
}

one-more : {X : Type 0} (xs : List X) (x : X) → length (xs ++ x ∷ []) ≡ suc (length xs)
one-more [] x = refl
one-more (y ∷ ys) x = ap suc (one-more ys x)

pub nested-procedure : (levels : Levels) → IsNested levels → IsNested (with_procedure_level levels)
nested-procedure levels nested = record {
  counted = one-more levels.callers levels.current ∙ ap suc nested.counted ∙ sym (one-more levels.frames []);
  there = omega (arith, one-more levels.frames []);
  lower = λ frame called within. lower frame called within (cases_lt frame (length levels.callers));
  ends = subst (λ n. IsTrue (fits (Procedure ∷ levels.begun) n)) (sym (one-more levels.frames []))
      (both (nat_lt 0 (length levels.frames)) (fits levels.begun (length levels.frames))
      (lt-ltb 0 (length levels.frames) (omega (arith, nested.there))) nested.ends);
}
  where
    lower : (frame : ℕ) → 0 < frame → frame < length (levels.callers ++ levels.current ∷ []) → (frame < length levels.callers) ⊎ (length levels.callers ≤ frame)
        → get_or (levels.callers ++ levels.current ∷ []) frame 0 < frame
    lower frame called within (inl lt) =
        let same = get_or_append_left levels.callers (levels.current ∷ []) 0 frame lt in
        let less = nested.lower frame called lt in
        omega (arith, same, less)
    lower frame called within (inr ge) =
        let last : frame ≡ length levels.callers + 0 = omega (arith, within, ge, one-more levels.callers levels.current) in
        let is : get_or (levels.callers ++ levels.current ∷ []) frame 0 ≡ levels.current =
        ap (λ k. get_or (levels.callers ++ levels.current ∷ []) k 0) last ∙ get_or-append-add levels.callers (levels.current ∷ []) 0 0 in
        omega (arith, is, last, nested.there, nested.counted)

length-take-less : {X : Type 0} (n : ℕ) (xs : List X) → length xs ≡ suc n → length (take n xs) ≡ n
length-take-less zero xs is = refl
length-take-less (suc n) [] is = absurd (omega (arith, is))
length-take-less (suc n) (x ∷ xs) is = ap suc (length-take-less n xs (omega (arith, is)))

abbrev ended : Levels → List Begun → ℕ → Levels
ended levels begun n = record {
  frames = take n levels.frames;
  callers = take n levels.callers;
  current = caller_of levels n;
  begun = begun;
}

pub nested-after : (levels : Levels) (begun : List Begun) → levels.begun ≡ begun → IsNested levels → IsNested (levels_after levels begun)
nested-after levels [] is nested = nested
nested-after levels (Script back ∷ begun) is nested =
    let fit : IsTrue (fits (Script back ∷ begun) (length levels.frames)) = subst (λ b. IsTrue (fits b (length levels.frames))) is nested.ends in record {
      counted = nested.counted;
      there = ltb-true back (length levels.frames) (first (nat_lt back (length levels.frames)) (fits begun (length levels.frames)) fit);
      lower = nested.lower;
      ends = second (nat_lt back (length levels.frames)) (fits begun (length levels.frames)) fit;
    }
nested-after levels (Procedure ∷ begun) is nested =
    by (length levels.frames) refl (subst (λ b. IsTrue (fits b (length levels.frames))) is nested.ends)
  where
    less : (n : ℕ) → suc n - 1 ≡ n
    less n = omega arith

    by : (n : ℕ) → length levels.frames ≡ n → IsTrue (fits (Procedure ∷ begun) n) → IsNested (levels_after levels (Procedure ∷ begun))
    by zero is fit = absurd (true≢false (sym fit))
    by (suc n) is fit =
        let some : 0 < n = ltb-true 0 n (first (nat_lt 0 n) (fits begun n) fit) in
        let frames : length (take n levels.frames) ≡ n = length-take-less n levels.frames is in
        let callers : length (take n levels.callers) ≡ n = length-take-less n levels.callers (nested.counted ∙ is) in
        subst (λ k. IsNested (ended levels begun k)) (sym (ap (λ k. k - 1) is ∙ less n)) (record {
          counted = callers ∙ sym frames;
          there = (let lower = nested.lower n some (omega (arith, nested.counted, is)) in omega (arith, lower, frames));
          lower = λ frame called within.
              let same = get_or-take n levels.callers frame 0 (omega (arith, within, callers)) in
              let lower = nested.lower frame called (omega (arith, within, callers, nested.counted, is)) in
              omega (arith, same, lower);
          ends = subst (λ k. IsTrue (fits begun k)) (sym frames) (second (nat_lt 0 n) (fits begun n) fit);
        })
