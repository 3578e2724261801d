-- Whose each note is, by the number of a view and the index there, as views are split and joined.
use Rattle.std.proofs.Common.{◌≡◌, ◌≢◌, ℕ, zero, suc, ◌+◌, Bool, cond, eqb, sym, refl, ap, ◌∙◌, eq-eqb, ne_eqb}

-- once view id gave its first note to a new view
abbrev pub given : ℕ → ℕ → ℕ × ℕ → ℕ × ℕ
given id new (at, zero) = cond (eqb at id) (new, zero) (at, zero)
given id new (at, suc k) = cond (eqb at id) (at, k) (at, suc k)

pub given_first : (id new : ℕ) (x : ℕ × ℕ) → x ≡ (id, 0) → given id new x ≡ (new, 0)
given_first id new x e = let by : Bool → ℕ × ℕ = λ b. cond b (new, 0) (id, 0) in ap (given id new) e ∙ ap by (eq-eqb id id refl)

pub given_next : (id new k : ℕ) (x : ℕ × ℕ) → x ≡ (id, suc k) → given id new x ≡ (id, k)
given_next id new k x e = let by : Bool → ℕ × ℕ = λ b. cond b (id, k) (id, suc k) in ap (given id new) e ∙ ap by (eq-eqb id id refl)

pub given_other : (id new at k : ℕ) (x : ℕ × ℕ) → at ≢ id → x ≡ (at, k) → given id new x ≡ (at, k)
given_other id new at zero x other e = let by : Bool → ℕ × ℕ = λ b. cond b (new, 0) (at, 0) in ap (given id new) e ∙ ap by (ne_eqb at id other)
given_other id new at (suc k) x other e = let by : Bool → ℕ × ℕ = λ b. cond b (at, k) (at, suc k) in ap (given id new) e ∙ ap by (ne_eqb at id other)

-- once view id took in the n notes of another and put them before its own
abbrev pub merged : ℕ → ℕ → ℕ → ℕ × ℕ → ℕ × ℕ
merged id other n x = cond (eqb x.0 other) (id, x.1) (cond (eqb x.0 id) (id, n + x.1) x)

pub merged_other : (id other n k : ℕ) (x : ℕ × ℕ) → x ≡ (other, k) → merged id other n x ≡ (id, k)
merged_other id other n k x e = let by : Bool → ℕ × ℕ = λ b. cond b (id, k) (cond (eqb other id) (id, n + k) (other, k)) in ap (merged id other n) e ∙ ap by (eq-eqb other other refl)

pub merged_own : (id other n k : ℕ) (x : ℕ × ℕ) → other ≢ id → x ≡ (id, k) → merged id other n x ≡ (id, n + k)
merged_own id other n k x apart e = let by : Bool → ℕ × ℕ = λ b. cond b (id, k) (cond (eqb id id) (id, n + k) (id, k)) in let then : Bool → ℕ × ℕ = λ b. cond b (id, n + k) (id, k) in
    ap (merged id other n) e ∙ (ap by (ne_eqb id other (λ h. apart (sym h))) ∙ ap then (eq-eqb id id refl))

pub merged_rest : (id other n at k : ℕ) (x : ℕ × ℕ) → at ≢ other → at ≢ id → x ≡ (at, k) → merged id other n x ≡ (at, k)
merged_rest id other n at k x apart apart' e = let by : Bool → ℕ × ℕ = λ b. cond b (id, k) (cond (eqb at id) (id, n + k) (at, k)) in let then : Bool → ℕ × ℕ = λ b. cond b (id, n + k) (at, k) in
    ap (merged id other n) e ∙ (ap by (ne_eqb at other apart) ∙ ap then (ne_eqb at id apart'))
