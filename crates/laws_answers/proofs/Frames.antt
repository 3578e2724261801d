-- What keeps links from leading in a circle: whatever is written, removed or linked, and frames that come and go.
use Rattle.std.proofs.Common.{◌≡◌, inl, inr, ℕ, ◌+◌, ◌<◌, Bool, true, false, cond, not, List, [], ◌∷◌}
use Rattle.std.proofs.Common.{Option, Some, None, bytes_eq, length, slice_set, refl, ap, sym, subst, ◌∙◌, true≢false, arith}
use Rattle.std.proofs.lemmas.List.{get_or-set_same, get_or-set_other}
use Rattle.std.proofs.lemmas.Bool.{cases_eq}
use Rattle.std.specs.Cmp.Lexicographic.{nat_list_eq_equiv, bytes_decides}
use Rattle.tt_vars.proofs.EndLemmas.{ends-kept}
use Rattle.tt_vars.proofs.FrameLemmas.{none_is_some}
use Rattle.tt_vars.specs.Links.{at, frame_at}
use Rattle.tt_vars.specs.Variables.{Frame, Name, leads, variable_named, with, without}
use Rattle.tt_vars.specs.declared.variable.Place.{Place}
use Rattle.tt_vars.specs.declared.variable.Variable.{Variable}
use Rattle.tt_vars.specs.inside.Ending.{KeepsLinks, LinksEnd, rank}

-- no name stands twice
abbrev pub Once : Frame → Type 0
Once [] = Unit {0}
Once (e ∷ es) = (variable_named es e.0 ≡ None) × Once es

pub named-with : (es : Frame) (n q : Name) (v : Variable) → variable_named (with es n v) q ≡ cond (bytes_eq q n) (Some v) (variable_named es q)
named-with [] n q v = refl
named-with (e ∷ es) n q v = by (bytes_eq n e.0) refl (named-with es n q v)
  where
    second : (c d : Bool) → (c ≡ true → d ≡ false)
        → cond c (Some e.1) (cond d (Some v) (variable_named es q)) ≡ cond d (Some v) (cond c (Some e.1) (variable_named es q))
    second true true apart = absurd (true≢false (apart refl))
    second true false apart = refl
    second false d apart = refl

    by : (b : Bool) → bytes_eq n e.0 ≡ b → variable_named (with es n v) q ≡ cond (bytes_eq q n) (Some v) (variable_named es q)
        → variable_named (cond b ((e.0, v) ∷ es) (e ∷ with es n v)) q ≡ cond (bytes_eq q n) (Some v) (cond (bytes_eq q e.0) (Some e.1) (variable_named es q))
    by true is rest =
        let same : n ≡ e.0 = (bytes_decides n e.0).0 is in
        subst (λ m. cond (bytes_eq q m) (Some v) (variable_named es q)
        ≡ cond (bytes_eq q n) (Some v) (cond (bytes_eq q m) (Some e.1) (variable_named es q))) same
        (over (bytes_eq q n))
      where
        over : (c : Bool) → cond c (Some v) (variable_named es q) ≡ cond c (Some v) (cond c (Some e.1) (variable_named es q))
        over true = refl
        over false = refl
    by false is rest =
        ap (cond (bytes_eq q e.0) (Some e.1)) rest
        ∙ second (bytes_eq q e.0) (bytes_eq q n)
        (λ one. apart (bytes_eq q n) refl one)
      where
        apart : (d : Bool) → bytes_eq q n ≡ d → bytes_eq q e.0 ≡ true → d ≡ false
        apart false at one = refl
        apart true at one =
            let there : n ≡ e.0 = sym ((bytes_decides q n).0 at) ∙ (bytes_decides q e.0).0 one in
            absurd (true≢false (sym (subst (λ m. bytes_eq n m ≡ true) there (nat_list_eq_equiv.refl n)) ∙ is))

pub once-with : (es : Frame) (n : Name) (v : Variable) → Once es → Once (with es n v)
once-with [] n v once = (refl, tt)
once-with (e ∷ es) n v once = by (bytes_eq n e.0) refl (once-with es n v once.1)
  where
    by : (b : Bool) → bytes_eq n e.0 ≡ b → Once (with es n v) → Once (cond b ((e.0, v) ∷ es) (e ∷ with es n v))
    by true is rest = once
    by false is rest = (
      named-with es n e.0 v ∙ ap (λ b. cond b (Some v) (variable_named es e.0)) (nat_list_eq_equiv.symm e.0 n ∙ is) ∙ once.0,
      rest,
    )

-- ---- a name less ----

other-name : (n m q : Name) → n ≡ m → bytes_eq n q ≡ false → bytes_eq q m ≡ false
other-name n m q same apart = subst (λ p. bytes_eq q p ≡ false) same (nat_list_eq_equiv.symm q n ∙ apart)

not-both : (n m q : Name) → bytes_eq n m ≡ false → bytes_eq n q ≡ true → bytes_eq q m ≡ false
not-both n m q apart is = subst (λ p. bytes_eq p m ≡ false) ((bytes_decides n q).0 is) apart

named-without : (es : Frame) (n q : Name) → Once es → variable_named (without es n) q ≡ cond (bytes_eq n q) None (variable_named es q)
named-without [] n q once = by (bytes_eq n q)
  where
    by : (c : Bool) → None ≡ cond {A = Option Variable} c None None
    by true = refl
    by false = refl
named-without (e ∷ es) n q once = by (bytes_eq n e.0) (bytes_eq n q) refl refl (named-without es n q once.1)
  where
    by : (b c : Bool) → bytes_eq n e.0 ≡ b → bytes_eq n q ≡ c → variable_named (without es n) q ≡ cond c None (variable_named es q)
        → variable_named (cond b es (e ∷ without es n)) q ≡ cond c None (cond (bytes_eq q e.0) (Some e.1) (variable_named es q))
    by true true here is rest = ap (variable_named es) (sym ((bytes_decides n q).0 is) ∙ (bytes_decides n e.0).0 here) ∙ once.0
    by true false here is rest = sym (ap (λ b. cond b (Some e.1) (variable_named es q)) (other-name n e.0 q ((bytes_decides n e.0).0 here) is))
    by false true here is rest = ap (λ b. cond b (Some e.1) (variable_named (without es n) q)) (not-both n e.0 q here is) ∙ rest
    by false false here is rest = ap (cond (bytes_eq q e.0) (Some e.1)) rest

pub once-without : (es : Frame) (n : Name) → Once es → Once (without es n)
once-without [] n once = tt
once-without (e ∷ es) n once = by (bytes_eq n e.0) refl (once-without es n once.1)
  where
    by : (b : Bool) → bytes_eq n e.0 ≡ b → Once (without es n) → Once (cond b es (e ∷ without es n))
    by true is rest = once.1
    by false is rest = (named-without es n e.0 once.1 ∙ ap (λ b. cond b None (variable_named es e.0)) is ∙ once.0, rest)

rank-skip : (k : Name) (e : Name × Variable) (es : Frame) → bytes_eq k e.0 ≡ false → rank k (e ∷ es) ≡ 1 + rank k es
rank-skip k e es h = ap (λ b. cond (not b) (1 + rank k es) 0) h

rank-without : (es : Frame) (n k m : Name) → bytes_eq n k ≡ false → bytes_eq n m ≡ false → rank k es < rank m es → rank k (without es n) < rank m (without es n)
rank-without [] n k m apart_k apart_m lt = lt
rank-without (e ∷ es) n k m apart_k apart_m lt = by (bytes_eq n e.0) refl (rank-without es n k m apart_k apart_m)
  where
    later : (b c : Bool) → cond (not b) (1 + rank k es) 0 < cond (not c) (1 + rank m es) 0
        → (rank k es < rank m es → rank k (without es n) < rank m (without es n))
        → cond (not b) (1 + rank k (without es n)) 0 < cond (not c) (1 + rank m (without es n)) 0
    later true true less rest = less
    later true false less rest = omega arith
    later false true less rest = absurd (omega (arith, less))
    later false false less rest =
        let shorter : rank k (without es n) < rank m (without es n) = rest (omega (arith, less)) in
        omega (arith, shorter)

    by : (b : Bool) → bytes_eq n e.0 ≡ b → (rank k es < rank m es → rank k (without es n) < rank m (without es n))
        → rank k (cond b es (e ∷ without es n)) < rank m (cond b es (e ∷ without es n))
    by true is rest =
        let same : n ≡ e.0 = (bytes_decides n e.0).0 is in
        let shorter : rank k es < rank m es =
        omega (arith, lt, rank-skip k e es (other-name n e.0 k same apart_k), rank-skip m e es (other-name n e.0 m same apart_m)) in
        shorter
    by false is rest = later (bytes_eq k e.0) (bytes_eq m e.0) lt rest

pub keeps-gone : (es : Frame) (n : Name) → Once es → KeepsLinks es (without es n)
keeps-gone es n once k to h =
    (before k to h, λ m next g lt. rank-without es n k m (apart k to h) (apart m next g) lt)
  where
    apart : (k : Name) (to : Option Place) → leads (variable_named (without es n) k) ≡ Some to → bytes_eq n k ≡ false
    apart k to h = by (bytes_eq n k) refl
      where
        by : (b : Bool) → bytes_eq n k ≡ b → bytes_eq n k ≡ false
        by false e = e
        by true e = absurd (none_is_some (ap leads (sym (named-without es n k once ∙ ap (λ b. cond b None (variable_named es k)) e)) ∙ h))

    before : (k : Name) (to : Option Place) → leads (variable_named (without es n) k) ≡ Some to → leads (variable_named es k) ≡ Some to
    before k to h = ap leads (sym (named-without es n k once ∙ ap (λ b. cond b None (variable_named es k)) (apart k to h))) ∙ h

-- ---- frames ----

-- no links lead in a circle, and no name stands twice in a frame
pub record Sound (frames : List Frame) : Type 0 where
  pub ends : LinksEnd frames
  pub once : (i : ℕ) → Once (frame_at frames i)

pub once-set : (frames : List Frame) (i : ℕ) (new : Frame) → ((k : ℕ) → Once (frame_at frames k)) → i < length frames → Once new
    → (k : ℕ) → Once (frame_at (slice_set frames i new) k)
once-set frames i new once lt here k = elim (cases_eq k i) [
  | inl e ↦ subst Once (sym (ap (frame_at (slice_set frames i new)) e ∙ get_or-set_same frames i new [] lt)) here
  | inr apart ↦ subst Once (sym (get_or-set_other frames i k new [] apart)) (once k)
]

-- one frame is another one, with no further links
pub sound-set : (frames : List Frame) (i : ℕ) (new : Frame) → Sound frames → i < length frames → KeepsLinks (frame_at frames i) new → Once new
    → Sound (slice_set frames i new)
sound-set frames i new sound lt keeps once = record {
  ends = ends-kept frames i (frame_at frames i) new sound.ends lt keeps refl;
  once = once-set frames i new sound.once lt once;
}
