-- The newest values, if they lie on others.
use Rattle.std.proofs.Common.{◌≡◌, ℕ, ◌-◌, List, [], ◌∷◌, ◌++◌, length, reverse, take, drop, refl, sym, ap, ◌∙◌, length-drop, take-append-drop}
use Rattle.std.proofs.lemmas.List.{length-reverse, reverse-append, reverse-reverse}

pub taken : {X : Type 0} (front vs : List X) → take (length front) (front ++ vs) ≡ front
taken [] vs = refl
taken {X} (v ∷ front) vs = ap (λ (us : List X). v ∷ us) (taken front vs)

pub dropped : {X : Type 0} (front vs : List X) → drop (length front) (front ++ vs) ≡ vs
dropped [] vs = refl
dropped (v ∷ front) vs = dropped front vs

-- values from the newest to the oldest, the other way round
turned : {X : Type 0} (us : List X) (k : ℕ) → reverse us ≡ reverse (drop k us) ++ reverse (take k us)
turned {X} us k = ap (λ (ws : List X). reverse ws) (sym (take-append-drop k us)) ∙ reverse-append (take k us) (drop k us)

counted : {X : Type 0} (us : List X) (k : ℕ) → length us - k ≡ length (reverse (drop k us))
counted us k = sym (length-reverse (drop k us) ∙ length-drop k us)

newest_of : {X : Type 0} (us : List X) (k : ℕ) → drop (length us - k) (reverse us) ≡ reverse (take k us)
newest_of {X} us k =
    ap (λ (n : ℕ). drop n (reverse us)) (counted us k)
    ∙ ap (λ (ws : List X). drop (length (reverse (drop k us))) ws) (turned us k)
    ∙ dropped (reverse (drop k us)) (reverse (take k us))

others_of : {X : Type 0} (us : List X) (k : ℕ) → take (length us - k) (reverse us) ≡ reverse (drop k us)
others_of {X} us k =
    ap (λ (n : ℕ). take n (reverse us)) (counted us k)
    ∙ ap (λ (ws : List X). take (length (reverse (drop k us))) ws) (turned us k)
    ∙ taken (reverse (drop k us)) (reverse (take k us))

-- the same from the oldest to the newest
pub newest : {X : Type 0} (items : List X) (k : ℕ) → drop (length items - k) items ≡ reverse (take k (reverse items))
newest {X} items k =
    ap (λ (n : ℕ). drop (n - k) items) (sym (length-reverse items))
    ∙ ap (λ (ws : List X). drop (length (reverse items) - k) ws) (sym (reverse-reverse items))
    ∙ newest_of (reverse items) k

pub others : {X : Type 0} (items : List X) (k : ℕ) → reverse (take (length items - k) items) ≡ drop k (reverse items)
others {X} items k =
    ap (λ (ws : List X). reverse ws)
    (ap (λ (n : ℕ). take (n - k) items) (sym (length-reverse items))
    ∙ ap (λ (ws : List X). take (length (reverse items) - k) ws) (sym (reverse-reverse items))
    ∙ others_of (reverse items) k)
    ∙ reverse-reverse (drop k (reverse items))
