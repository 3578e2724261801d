use Rattle.std.proofs.Common.{◌≡◌, ◌+◌, ℕ, List, ◌++◌, take, drop, Bool, true, false, Option, None, Some, refl, sym, ap}
use Rattle.std.proofs.Common.{◌∙◌, append-nil, add-zero, append_assoc, []}
use Rattle.std.specs.Bool.{if◌then◌else◌}
use Rattle.std.specs.Io.KnownBytes.{Consumes, Keeps}
use Rattle.std.proofs.lemmas.List.{take-append-drop, drop-drop}
use Rattle.tt_devices.specs.Streams.{Grows, GrowsByPart, Stays, LosesPart}

-- what a sink got grew by nothing if it stayed
pub Grows-same : (got : Option (List ℕ)) → Grows got got []
Grows-same None = tt
Grows-same (Some bytes) = sym (append-nil bytes)

-- two pieces one after the other are one
pub Grows-append : (old mid new : Option (List ℕ)) (piece more : List ℕ) → Grows old mid piece → Grows mid new more → Grows old new (piece ++ more)
Grows-append None mid new piece more p q = tt
Grows-append (Some old) None new piece more p q = absurd p
Grows-append (Some old) (Some mid) None piece more p q = absurd q
Grows-append (Some old) (Some mid) (Some new) piece more p q = q ∙ (ap (λ (bytes : List ℕ). bytes ++ more) p ∙ append_assoc old piece more)

-- a first part of a piece was kept, or nothing
pub grows-part : (old new piece : List ℕ) (n : ℕ) (b : Bool) → new ≡ (if b then old ++ take n piece else old) → GrowsByPart (Some old) (Some new) piece
grows-part old new piece n true e = record { part = take n piece; rest = drop n piece; cut = sym (take-append-drop n piece); grew = e }
grows-part old new piece n false e = record { part = []; rest = piece; cut = refl; grew = rw append-nil e }

-- what a source held is what was copied, and what it holds then
pub takes-left : (left bytes room : List ℕ) (taken n : ℕ) → drop taken bytes ≡ left → take n room ≡ take n left → left ≡ take n room ++ drop (taken + n) bytes
takes-left left bytes room taken n e filled = rw (filled, ← drop-drop n taken bytes, e) (sym (take-append-drop n left))

-- what stays stays with what comes after it
pub Stays-same : (held : Option (List ℕ)) → Stays held held
Stays-same None = tt
Stays-same (Some bytes) = refl

pub Stays-trans : (old mid new : Option (List ℕ)) → Stays old mid → Stays mid new → Stays old new
Stays-trans None mid new p q = tt
Stays-trans (Some old) None new p q = absurd p
Stays-trans (Some old) (Some mid) None p q = absurd q
Stays-trans (Some old) (Some mid) (Some new) p q = q ∙ p

pub Consumes-after : (old mid new : Option (List ℕ)) (bytes : List ℕ) → Stays old mid → Consumes mid new bytes → Consumes old new bytes
Consumes-after None mid new bytes p q = tt
Consumes-after (Some old) None new bytes p q = absurd p
Consumes-after (Some old) (Some mid) None bytes p q = absurd q
Consumes-after (Some old) (Some mid) (Some new) bytes p q = sym p ∙ q

-- a sink that stays grew as before
pub Grows-before : (old mid new : Option (List ℕ)) (piece : List ℕ) → Grows old mid piece → Keeps mid new → Grows old new piece
Grows-before None mid new piece p q = tt
Grows-before (Some old) None new piece p q = absurd p
Grows-before (Some old) (Some mid) None piece p q = absurd q
Grows-before (Some old) (Some mid) (Some new) piece p q = q ∙ p

-- two parts taken one after the other are one
pub Consumes-append : (old mid new : Option (List ℕ)) (bytes more : List ℕ) → Consumes old mid bytes → Consumes mid new more → Consumes old new (bytes ++ more)
Consumes-append None mid new bytes more p q = tt
Consumes-append (Some old) None new bytes more p q = absurd p
Consumes-append (Some old) (Some mid) None bytes more p q = absurd q
Consumes-append (Some old) (Some mid) (Some new) bytes more p q = p ∙ (ap (λ (xs : List ℕ). bytes ++ xs) q ∙ sym (append_assoc bytes more new))

-- how far a piece was put: its first part is out, and the rest isn't
pub record IsPutUpTo (old new : Option (List ℕ)) (piece rest : List ℕ) : Type 0 where
  pub part : List ℕ
  pub cut : piece ≡ part ++ rest
  pub grew : Grows old new part

pub put-none : (got : Option (List ℕ)) (piece : List ℕ) → IsPutUpTo got got piece piece
put-none got piece = record { part = []; cut = refl; grew = Grows-same got }

pub put-stays : (old mid new : Option (List ℕ)) (piece rest : List ℕ) → IsPutUpTo old mid piece rest → Keeps mid new → IsPutUpTo old new piece rest
put-stays old mid new piece rest p q = record { part = p.part; cut = p.cut; grew = Grows-before old mid new p.part p.grew q }

pub put-more : (old mid new : Option (List ℕ)) (piece rest : List ℕ) (n : ℕ) → IsPutUpTo old mid piece rest → Grows mid new (take n rest) →
    IsPutUpTo old new piece (drop n rest)
put-more old mid new piece rest n p q = record {
  part = p.part ++ take n rest;
  cut = p.cut ∙ (ap (λ (bytes : List ℕ). p.part ++ bytes) (sym (take-append-drop n rest)) ∙ sym (append_assoc p.part (take n rest) (drop n rest)));
  grew = Grows-append old mid new p.part (take n rest) p.grew q;
}

pub put-part : (old new : Option (List ℕ)) (piece rest : List ℕ) → IsPutUpTo old new piece rest → GrowsByPart old new piece
put-part old new piece rest p = record { part = p.part; rest = rest; cut = p.cut; grew = p.grew }

pub put-whole : (old new : Option (List ℕ)) (piece rest : List ℕ) → rest ≡ [] → IsPutUpTo old new piece rest → Grows old new piece
put-whole old new piece rest e p =
    let whole : piece ≡ p.part = p.cut ∙ (ap (λ (bytes : List ℕ). p.part ++ bytes) e ∙ append-nil p.part) in
    rw whole p.grew

-- some first bytes were taken, and then more
pub loses-more : (old mid new : Option (List ℕ)) (bytes more : List ℕ) → Consumes old mid bytes → Consumes mid new more → LosesPart old new
loses-more old mid new bytes more p q = record { part = bytes ++ more; lost = Consumes-append old mid new bytes more p q }

-- a write of nothing leaves what there was
pub Grows-nothing : (old new : Option (List ℕ)) → Grows old new [] → Stays old new
Grows-nothing None new p = tt
Grows-nothing (Some old) None p = absurd p
Grows-nothing (Some old) (Some new) p = p ∙ append-nil old

-- nothing is left if nothing was left and nothing was taken
pub rest-none : (left bytes : List ℕ) (taken n : ℕ) → drop taken bytes ≡ left → n ≡ 0 → left ≡ [] → drop (taken + n) bytes ≡ []
rest-none left bytes taken n e none empty = rw (none, add-zero, e) empty
