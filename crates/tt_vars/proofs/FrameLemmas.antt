-- What the changes of a frame leave of its names.
use Rattle.std.proofs.Common.{◌≡◌, ℕ, zero, suc, Bool, true, false, cond, List, [], ◌∷◌, Some, None, Result, Ok, Err}
use Rattle.std.proofs.Common.{bytes_eq, slice_get, refl, ap, sym, ◌∙◌, true≢false, is_some, unwrap_or}
use Rattle.std.specs.Map.{keys_of, values_of, lookup, set_value}
use Rattle.std.proofs.lemmas.Map.Steps.{set_value_same}
use Rattle.indexmap.specs.IndexMap.{set_value_at, insert_entry}
use Rattle.tt_vars.specs.declared.answers.VarFault.{VarFault}
use Rattle.tt_vars.specs.declared.answers.Written.{Written}
use Rattle.tt_vars.specs.declared.variable.Variable.{Variable}
use Rattle.tt_vars.specs.Variables.{Name, Frame, variable_named, with, result_of, Puts}

pub same_some : {A : Type 0} {x y : A} → Some x ≡ Some y → x ≡ y
same_some {A} {x} e = ap (λ r. unwrap_or r x) e

pub none_is_some : {A : Type 0} {x : A} → None ≡ Some x → ⊥
none_is_some e = true≢false (sym (ap is_some e))

pub set_value_at-same : {K X : Type 0} (es : List (K × X)) (i : ℕ) (v : X) → slice_get (values_of es) i ≡ Some v → set_value_at es i v ≡ es
set_value_at-same [] i v at = refl
set_value_at-same (e ∷ es) zero v at = ap (λ w. (e.0, w) ∷ es) (sym (same_some at))
set_value_at-same (e ∷ es) (suc i) v at = ap (λ l. e ∷ l) (set_value_at-same es i v at)

pub keys-set_at : {K X : Type 0} (es : List (K × X)) (i : ℕ) (v : X) → keys_of (set_value_at es i v) ≡ keys_of es
keys-set_at [] i v = refl
keys-set_at (e ∷ es) zero v = refl
keys-set_at (e ∷ es) (suc i) v = ap (λ l. e.0 ∷ l) (keys-set_at es i v)

-- a name that is there takes the value in its place
pub set_value-insert : {X : Type 0} (es : List (Name × X)) (n : Name) (v w : X) → lookup (bytes_eq n) es ≡ Some v →
    set_value (bytes_eq n) es w ≡ insert_entry bytes_eq es n w
set_value-insert [] n v w at = absurd (none_is_some at)
set_value-insert {X} (e ∷ es) n v w at = by (bytes_eq n e.0) at (set_value-insert es n v w)
  where
    by : (b : Bool) → cond b (Some e.1) (lookup (bytes_eq n) es) ≡ Some v
        → (lookup (bytes_eq n) es ≡ Some v → set_value (bytes_eq n) es w ≡ insert_entry bytes_eq es n w)
        → cond b ((e.0, w) ∷ es) (e ∷ set_value (bytes_eq n) es w) ≡ cond b ((e.0, w) ∷ es) (e ∷ insert_entry bytes_eq es n w)
    by true at rest = refl
    by false at rest = ap (λ l. e ∷ l) (rest at)

with_same : (frame : Frame) (n : Name) (v : Variable) → variable_named frame n ≡ Some v → with frame n v ≡ frame
with_same frame n v at = sym (set_value-insert frame n v v at) ∙ set_value_same (bytes_eq n) frame v at

-- what is written to a variable is written to its frame
pub puts-through : (frame : Frame) (n : Name) (v w : Variable) (made : Result Variable VarFault) (answer : Written) →
    variable_named frame n ≡ Some v → Puts made v w answer → Puts (result_of (with frame n) made) frame (with frame n w) answer
puts-through frame n v w (Ok made) answer at h = (h.0, ap (with frame n) h.1)
puts-through frame n v w (Err fault) answer at h = (h.0, ap (with frame n) h.1 ∙ with_same frame n v at)

pub with_same_frame : (frame : Frame) (n : Name) (v w : Variable) → variable_named frame n ≡ Some v → w ≡ v → with frame n w ≡ frame
with_same_frame frame n v w at is = ap (with frame n) is ∙ with_same frame n v at
