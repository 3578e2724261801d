-- Links of a frame stay, in their order, if what is no link is written or removed.
use Rattle.std.proofs.Common.{◌≡◌, ℕ, zero, suc, ◌+◌, ◌<◌, Bool, true, false, cond, not, [], ◌∷◌, Option, Some, None}
use Rattle.std.proofs.Common.{bytes_eq, slice_get, remove, refl, ap, sym, subst, ◌∙◌, true≢false, arith, is_some}
use Rattle.std.specs.Cmp.Lexicographic.{nat_list_eq_equiv}
use Rattle.std.specs.List.{position_or_len}
use Rattle.std.specs.Map.{keys_of, values_of, lookup, set_value}
use Rattle.std.proofs.lemmas.Map.{keys-set_value}
use Rattle.std.specs.Option.{IfSome}
use Rattle.indexmap.specs.IndexMap.{set_value_at}
use Rattle.tt_names.specs.Names.{Updates}
use Rattle.tt_vars.specs.declared.variable.Place.{Place}
use Rattle.tt_vars.specs.declared.variable.Variable.{Variable}
use Rattle.tt_vars.specs.declared.variable.Variable.TheVariants.{Scalar, Array, Link}
use Rattle.tt_vars.specs.Variables.{Name, Frame, variable_named, leads, with}
use Rattle.tt_vars.specs.inside.Ending.{rank, KeepsLinks}
use Rattle.tt_vars.specs.inside.Found.{without_at, removed_in}
use Rattle.tt_vars.proofs.FrameLemmas.{same_some, none_is_some, keys-set_at, set_value-insert}

pub link_is_there : (v : Option Variable) (to : Option Place) → leads v ≡ Some to → is_some v ≡ true
link_is_there None to h = absurd (none_is_some h)
link_is_there (Some v) to h = refl

leads-cond : (c : Bool) (x y r s : Option Variable) → leads x ≡ leads y → leads r ≡ leads s → leads (cond c x r) ≡ leads (cond c y s)
leads-cond true x y r s front back = front
leads-cond false x y r s front back = back

-- ---- the names stay ----

keeps-keys : (es fs : Frame) → keys_of fs ≡ keys_of es → ((q : Name) → leads (variable_named fs q) ≡ leads (variable_named es q)) → KeepsLinks es fs
keeps-keys es fs keys same k to h =
    (sym (same k) ∙ h, λ m next g lt. subst (λ ks. position_or_len (bytes_eq k) ks < position_or_len (bytes_eq m) ks) (sym keys) lt)

leads-set_value : (es : Frame) (n : Name) (v w : Variable) → lookup (bytes_eq n) es ≡ Some v → leads (Some w) ≡ leads (Some v) → (q : Name) →
    leads (variable_named (set_value (bytes_eq n) es w) q) ≡ leads (variable_named es q)
leads-set_value [] n v w at same q = absurd (none_is_some at)
leads-set_value (e ∷ es) n v w at same q = by (bytes_eq n e.0) at (λ h. leads-set_value es n v w h same q)
  where
    by : (b : Bool) → cond b (Some e.1) (lookup (bytes_eq n) es) ≡ Some v
        → (lookup (bytes_eq n) es ≡ Some v → leads (variable_named (set_value (bytes_eq n) es w) q) ≡ leads (variable_named es q))
        → leads (variable_named (cond b ((e.0, w) ∷ es) (e ∷ set_value (bytes_eq n) es w)) q) ≡ leads (cond (bytes_eq q e.0) (Some e.1) (variable_named es q))
    by true at rest = leads-cond (bytes_eq q e.0) (Some w) (Some e.1) (variable_named es q) (variable_named es q) (same ∙ ap leads (sym at)) refl
    by false at rest = leads-cond (bytes_eq q e.0) (Some e.1) (Some e.1) (variable_named (set_value (bytes_eq n) es w) q) (variable_named es q) refl (rest at)

-- a name that is there takes what leads where it led
pub keeps-through : (es : Frame) (n : Name) (v w : Variable) → variable_named es n ≡ Some v → leads (Some w) ≡ leads (Some v) → KeepsLinks es (with es n w)
keeps-through es n v w at same =
    subst (KeepsLinks es) (set_value-insert es n v w at)
    (keeps-keys es (set_value (bytes_eq n) es w) (keys-set_value (bytes_eq n) es w) (leads-set_value es n v w at same))

leads-set_at : (es : Frame) (i : ℕ) (v w : Variable) → slice_get (values_of es) i ≡ Some v → leads (Some w) ≡ leads (Some v) → (q : Name) →
    leads (variable_named (set_value_at es i w) q) ≡ leads (variable_named es q)
leads-set_at [] i v w at same q = absurd (none_is_some at)
leads-set_at (e ∷ es) zero v w at same q = leads-cond (bytes_eq q e.0) (Some w) (Some e.1) (variable_named es q) (variable_named es q) (same ∙ ap leads (sym at)) refl
leads-set_at (e ∷ es) (suc i) v w at same q =
    leads-cond (bytes_eq q e.0) (Some e.1) (Some e.1) (variable_named (set_value_at es i w) q) (variable_named es q) refl (leads-set_at es i v w at same q)

pub keeps-set_at : (es : Frame) (i : ℕ) (v w : Variable) → slice_get (values_of es) i ≡ Some v → leads (Some w) ≡ leads (Some v) →
    KeepsLinks es (set_value_at es i w)
keeps-set_at es i v w at same = keeps-keys es (set_value_at es i w) (keys-set_at es i w) (leads-set_at es i v w at same)

-- ---- a new name, which goes last ----

leads-with : (es : Frame) (n : Name) (v : Variable) (q : Name) → leads (Some v) ≡ None → variable_named es n ≡ None → leads (variable_named (with es n v) q) ≡ leads (variable_named es q)
leads-with [] n v q no_link absent = leads-cond (bytes_eq q n) (Some v) None None None no_link refl ∙ by (bytes_eq q n)
  where
    by : (c : Bool) → leads (cond c None None) ≡ None
    by true = refl
    by false = refl
leads-with (e ∷ es) n v q no_link absent = by (bytes_eq n e.0) absent (leads-with es n v q no_link)
  where
    by : (b : Bool) → cond b (Some e.1) (variable_named es n) ≡ None → (variable_named es n ≡ None → leads (variable_named (with es n v) q) ≡ leads (variable_named es q))
        → leads (variable_named (cond b ((e.0, v) ∷ es) (e ∷ with es n v)) q) ≡ leads (cond (bytes_eq q e.0) (Some e.1) (variable_named es q))
    by true absent rest = absurd (none_is_some (sym absent))
    by false absent rest = leads-cond (bytes_eq q e.0) (Some e.1) (Some e.1) (variable_named (with es n v) q) (variable_named es q) refl (rest absent)

rank-front : (c : Bool) (e : Variable) (old : Option Variable) (m n : ℕ) → is_some (cond c (Some e) old) ≡ true → (is_some old ≡ true → m ≡ n) →
    cond (not c) (1 + m) 0 ≡ cond (not c) (1 + n) 0
rank-front true e old m n there rest = refl
rank-front false e old m n there rest = ap (λ r. 1 + r) (rest there)

-- a name that is there keeps its place
pub rank-with : (es : Frame) (n : Name) (v : Variable) (k : Name) → is_some (variable_named es k) ≡ true → rank k (with es n v) ≡ rank k es
rank-with [] n v k there = absurd (true≢false (sym there))
rank-with (e ∷ es) n v k there = by (bytes_eq n e.0) (rank-with es n v k)
  where
    by : (b : Bool) → (is_some (variable_named es k) ≡ true → rank k (with es n v) ≡ rank k es) → rank k (cond b ((e.0, v) ∷ es) (e ∷ with es n v)) ≡ rank k (e ∷ es)
    by true rest = refl
    by false rest = rank-front (bytes_eq k e.0) e.1 (variable_named es k) (rank k (with es n v)) (rank k es) there rest

keeps-with : (es : Frame) (n : Name) (v : Variable) → leads (Some v) ≡ None → variable_named es n ≡ None → KeepsLinks es (with es n v)
keeps-with es n v no_link absent k to h =
    let was : (q : Name) (next : Option Place) → leads (variable_named (with es n v) q) ≡ Some next → leads (variable_named es q) ≡ Some next =
    λ q next g. sym (leads-with es n v q no_link absent) ∙ g in
    let stays : (q : Name) (next : Option Place) → leads (variable_named (with es n v) q) ≡ Some next → rank q (with es n v) ≡ rank q es =
    λ q next g. rank-with es n v q (link_is_there (variable_named es q) next (was q next g)) in
    (was k to h, λ m next g lt. omega (arith, stays k to h, stays m next g, lt))

pub keeps-new : (es fs : Frame) (n : Name) (v : Variable) → leads (Some v) ≡ None → variable_named es n ≡ None → fs ≡ with es n v → KeepsLinks es fs
keeps-new es fs n v no_link absent is = subst (KeepsLinks es) (sym is) (keeps-with es n v no_link absent)

-- ---- a name less ----

rank-skip : (k : Name) (e : Name × Variable) (es : Frame) → bytes_eq k e.0 ≡ false → rank k (e ∷ es) ≡ 1 + rank k es
rank-skip k e es h = ap (λ b. cond (not b) (1 + rank k es) 0) h

rank-remove : (es : Frame) (i : ℕ) (n : Name) (v : Variable) (k m : Name) → slice_get es i ≡ Some (n, v) → bytes_eq n k ≡ false → bytes_eq n m ≡ false →
    rank k es < rank m es → rank k (remove es i) < rank m (remove es i)
rank-remove [] i n v k m at apart_k apart_m lt = absurd (none_is_some at)
rank-remove (e ∷ es) zero n v k m at apart_k apart_m lt =
    let is : e.0 ≡ n = ap (λ p. p.0) (same_some at) in
    let skip : (q : Name) → bytes_eq n q ≡ false → rank q (e ∷ es) ≡ 1 + rank q es =
    λ q a. rank-skip q e es (ap (bytes_eq q) is ∙ nat_list_eq_equiv.symm q n ∙ a) in
    let shorter : rank k es < rank m es = omega (arith, lt, skip k apart_k, skip m apart_m) in
    shorter
rank-remove (e ∷ es) (suc i) n v k m at apart_k apart_m lt = by (bytes_eq k e.0) (bytes_eq m e.0) lt (rank-remove es i n v k m at apart_k apart_m)
  where
    by : (b c : Bool) → cond (not b) (1 + rank k es) 0 < cond (not c) (1 + rank m es) 0 → (rank k es < rank m es → rank k (remove es i) < rank m (remove es i))
        → cond (not b) (1 + rank k (remove es i)) 0 < cond (not c) (1 + rank m (remove es i)) 0
    by true true lt rest = lt
    by true false lt rest = omega arith
    by false true lt rest = absurd (omega (arith, lt))
    by false false lt rest = let shorter : rank k (remove es i) < rank m (remove es i) = rest (omega (arith, lt)) in omega (arith, shorter)

module _ (es fs : Frame) (i : ℕ) (n : Name) (v : Variable) (at : slice_get es i ≡ Some (n, v)) (others : (q : Name) → variable_named fs q ≡ cond (bytes_eq n q) None (variable_named es q)) where
  apart : (k : Name) (to : Option Place) → leads (variable_named fs k) ≡ Some to → bytes_eq n k ≡ false
  apart k to h = by (bytes_eq n k) refl
    where
      by : (b : Bool) → bytes_eq n k ≡ b → bytes_eq n k ≡ false
      by false e = e
      by true e = absurd (none_is_some (ap leads (sym (others k ∙ ap (λ b. cond b None (variable_named es k)) e)) ∙ h))

  before : (k : Name) (to : Option Place) → leads (variable_named fs k) ≡ Some to → leads (variable_named es k) ≡ Some to
  before k to h = ap leads (sym (others k ∙ ap (λ b. cond b None (variable_named es k)) (apart k to h))) ∙ h

  keeps-removed : fs ≡ remove es i → KeepsLinks es fs
  keeps-removed is k to h =
      (before k to h, λ m next g lt. subst (λ gs. rank k gs < rank m gs) (sym is) (rank-remove es i n v k m at (apart k to h) (apart m next g) lt))

keeps-itself : (es : Frame) → KeepsLinks es es
keeps-itself es k to h = (h, λ m next g lt. lt)

none_less : (es : Frame) (i : ℕ) → slice_get es i ≡ None → remove es i ≡ es
none_less [] zero at = refl
none_less [] (suc i) at = refl
none_less (e ∷ es) zero at = absurd (none_is_some (sym at))
none_less (e ∷ es) (suc i) at = ap (λ l. e ∷ l) (none_less es i at)

pub keeps-taken : (es fs : Frame) (i : ℕ) → fs ≡ remove es i → IfSome (slice_get es i) (λ p. Updates es fs p.0 None) → KeepsLinks es fs
keeps-taken es fs i is updates = by (slice_get es i) refl updates
  where
    by : (r : Option (Name × Variable)) → slice_get es i ≡ r → IfSome r (λ p. Updates es fs p.0 None) → KeepsLinks es fs
    by None at updates = subst (KeepsLinks es) (sym (is ∙ none_less es i at)) (keeps-itself es)
    by (Some p) at updates = keeps-removed es fs i p.0 p.1 at updates is

keeps-element : (es : Frame) (place : ℕ) (element : Name) → KeepsLinks es (removed_in es place (slice_get (values_of es) place) (Some element))
keeps-element es place element = by (slice_get (values_of es) place) refl
  where
    led : (v : Variable) → leads (Some (without_at v element)) ≡ leads (Some v)
    led (Scalar text) = refl
    led (Array elements) = refl
    led (Link to) = refl

    by : (v : Option Variable) → slice_get (values_of es) place ≡ v → KeepsLinks es (removed_in es place v (Some element))
    by None at = keeps-itself es
    by (Some v) at = keeps-set_at es place v (without_at v element) at (led v)

pub keeps-without : (es fs : Frame) (place : ℕ) (element : Name) → fs ≡ removed_in es place (slice_get (values_of es) place) (Some element) → KeepsLinks es fs
keeps-without es fs place element is = subst (KeepsLinks es) (sym is) (keeps-element es place element)
