-- The function of glob patterns answers what matches.
use Rattle.std.proofs.Common.{◌≡◌, ◌≢◌, Bool, true, false, ◌&&◌, ◌||◌, List, [], ◌∷◌, ◌++◌, refl, sym, ap, subst, ◌∙◌, append_assoc, append-nil, rules}
use Rattle.std.specs.Prelude.{Some, codes, bytes_eq, if◌then◌else◌}
use Rattle.std.proofs.lemmas.Slice.Eq.{bytes_eq-Decides}
use Rattle.tt_text.proofs.GlobLemmas.{any_first, escape_first, is_other, is_this, lone_first, ordinary_first, run_end, set_first}
use Rattle.tt_text.specs.Characters.{Character}
use Rattle.tt_text.specs.Glob.{Matches, empty, run, any, set, escape, last_backslash, itself, IsOrdinary, after_set, set_members, is_listed}
use Rattle.tt_text.specs.GlobFunction.{GlobLaw, Sign, Run, Any, Opens, Escapes, Itself, sign_of, Outside, InSet}
use Rattle.tt_text.specs.GlobFunction.{Escaped, passes_first, passes_sign, passes_some_end, reads}

both : (a b : Bool) → (a && b) ≡ true → (a ≡ true) × (b ≡ true)
both true b e = (refl, e)
both false b e = absurd (search rules)

or_right : (a b : Bool) → b ≡ true → (a || b) ≡ true
or_right true b e = refl
or_right false b e = e

and_both : (a b : Bool) → a ≡ true → b ≡ true → (a && b) ≡ true
and_both a b e f = rw (e, f) refl

-- ---- what a sign says of its character ----

data IsSigned (c : Character) : Sign → Type 0 where
  run_sign : c ≡ codes "*" → IsSigned c Run
  any_sign : c ≡ codes "?" → IsSigned c Any
  set_sign : c ≡ codes "[" → IsSigned c Opens
  escape_sign : c ≡ codes "\\" → IsSigned c Escapes
  own_sign : IsOrdinary c → IsSigned c Itself

signed : (c : Character) → IsSigned c (sign_of c)
signed c = first (bytes_eq c (codes "*")) refl
  where
    fourth : c ≢ codes "*" → c ≢ codes "?" →
        c ≢ codes "[" → (answer : Bool) → bytes_eq c (codes "\\") ≡ answer → IsSigned c (if answer then Escapes else Itself)
    fourth no_run no_any no_set true is = escape_sign (is_this c 92 is)
    fourth no_run no_any no_set false is = own_sign (record { no_run = no_run; no_any = no_any; no_set = no_set; no_escape = is_other c 92 is })

    third : c ≢ codes "*" → c ≢ codes "?" → (answer : Bool) →
        bytes_eq c (codes "[") ≡ answer → IsSigned c (if answer then Opens else if bytes_eq c (codes "\\") then Escapes else Itself)
    third no_run no_any true is = set_sign (is_this c 91 is)
    third no_run no_any false is = fourth no_run no_any (is_other c 91 is) (bytes_eq c (codes "\\")) refl

    second : c ≢ codes "*" → (answer : Bool) → bytes_eq c (codes "?") ≡ answer →
        IsSigned c (if answer then Any else if bytes_eq c (codes "[") then Opens else if bytes_eq c (codes "\\") then Escapes else Itself)
    second no_run true is = any_sign (is_this c 63 is)
    second no_run false is = third no_run (is_other c 63 is) (bytes_eq c (codes "[")) refl

    first : (answer : Bool) → bytes_eq c (codes "*") ≡ answer →
        IsSigned c (if answer then Run else if bytes_eq c (codes "?") then Any else if bytes_eq c
        (codes "[") then Opens else if bytes_eq c (codes "\\") then Escapes else Itself)
    first true is = run_sign (is_this c 42 is)
    first false is = second (is_other c 42 is) (bytes_eq c (codes "?")) refl

-- ---- ends and first characters ----

record SomeEnd (passes : List Character → Bool) (text : List Character) : Type 0 where
  skipped : List Character
  rest : List Character
  cut : text ≡ skipped ++ rest
  passed : passes rest ≡ true

some_end : (passes : List Character → Bool) (text : List Character) → passes_some_end passes text ≡ true → SomeEnd passes text
some_end passes [] e = record { skipped = []; rest = []; cut = refl; passed = e }
some_end passes (c ∷ text) e = go (passes (c ∷ text)) refl (λ h. some_end passes text h) e
  where
    go : (here : Bool) → passes (c ∷ text) ≡ here → (passes_some_end passes text ≡ true → SomeEnd passes text) →
        (here || passes_some_end passes text) ≡ true → SomeEnd passes (c ∷ text)
    go true is later e = record { skipped = []; rest = c ∷ text; cut = refl; passed = is }
    go false is later e =
        let found = later e in
        record { skipped = c ∷ found.skipped; rest = found.rest; cut = ap (λ t. c ∷ t) found.cut; passed = found.passed }

end_passes : (passes : List Character → Bool) (skipped rest : List Character) → passes rest ≡ true → passes_some_end passes (skipped ++ rest) ≡ true
end_passes passes [] [] e = e
end_passes passes [] (c ∷ rest) e = rw e refl
end_passes passes (c ∷ skipped) rest e = or_right (passes (c ∷ skipped ++ rest)) _ (end_passes passes skipped rest e)

record SomeFirst (first : Character → Bool) (later : List Character → Bool) (text : List Character) : Type 0 where
  c : Character
  rest : List Character
  cut : text ≡ c ∷ rest
  passed : first c ≡ true
  passes : later rest ≡ true

some_first : (first : Character → Bool) (later : List Character → Bool) (text : List Character) → passes_first first later text ≡ true →
    SomeFirst first later text
some_first first later [] e = absurd (search rules)
some_first first later (c ∷ text) e =
    let parts = both (first c) (later text) e in
    record { c = c; rest = text; cut = refl; passed = parts.0; passes = parts.1 }

-- ---- from the function ----

-- from inside of a set
record SetMatch (members pattern text : List Character) : Type 0 where
  c : Character
  rest : List Character
  after : List Character
  cut : text ≡ c ∷ rest
  closed : after_set pattern ≡ Some after
  listed : is_listed (members ++ set_members pattern) c ≡ true
  matches : Matches after rest

sound_sign : (p : Character) (pattern text : List Character) → ((t : List Character) → reads Outside pattern t ≡ true → Matches pattern t) →
    (reads (InSet []) pattern text ≡ true → SetMatch [] pattern text) → (p ≡ codes "\\" → reads Escaped pattern text ≡ true → Matches (p ∷ pattern) text) →
    (sign : Sign) → IsSigned p sign → passes_sign sign p (reads Outside pattern) (reads (InSet []) pattern) (reads Escaped pattern) text ≡ true →
    Matches (p ∷ pattern) text
sound_sign p pattern text later inside escaped Run (run_sign is) e =
    let found = some_end (reads Outside pattern) text e in
    run found.skipped is found.cut (later found.rest found.passed)
sound_sign p pattern text later inside escaped Any (any_sign is) e =
    let found = some_first (λ c. true) (reads Outside pattern) text e in
    subst (λ t. Matches (p ∷ pattern) t) (sym found.cut) (any is (later found.rest found.passes))
sound_sign p pattern text later inside escaped Opens (set_sign is) e =
    let found = inside e in
    subst (λ t. Matches (p ∷ pattern) t) (sym found.cut) (set is found.closed found.listed found.matches)
sound_sign p pattern text later inside escaped Escapes (escape_sign is) e = escaped is e
sound_sign p pattern text later inside escaped Itself (own_sign is) e =
    let found = some_first (bytes_eq p) (reads Outside pattern) text e in
    let same : p ≡ found.c = (bytes_eq-Decides p found.c).0 found.passed in
    subst (λ t. Matches (p ∷ pattern) t) (ap (λ c. c ∷ found.rest) same ∙ sym found.cut) (itself is (later found.rest found.passes))

sound_member : (members : List Character) (p : Character) (pattern text : List Character) →
    ((t : List Character) → reads Outside pattern t ≡ true → Matches pattern t) →
    (reads (InSet (members ++ p ∷ [])) pattern text ≡ true → SetMatch (members ++ p ∷ []) pattern text) → (ends : Bool) → bytes_eq p (codes "]") ≡ ends →
    (if ends then passes_first (is_listed members) (reads Outside pattern) text else reads (InSet (members ++ p ∷ [])) pattern text) ≡ true →
    SetMatch members (p ∷ pattern) text
sound_member members p pattern text later inside true is e =
    let found = some_first (is_listed members) (reads Outside pattern) text e in
    let closed : after_set (p ∷ pattern) ≡ Some pattern = rw (after_set, is) refl in
    let nothing : set_members (p ∷ pattern) ≡ [] = rw (set_members, is) refl in
    record {
      c = found.c;
      rest = found.rest;
      after = pattern;
      cut = found.cut;
      closed = closed;
      listed = rw (nothing, append-nil members) found.passed;
      matches = later found.rest found.passes;
    }
sound_member members p pattern text later inside false is e =
    let found = inside e in
    let closed : after_set (p ∷ pattern) ≡ after_set pattern = rw (after_set, is) refl in
    let more : set_members (p ∷ pattern) ≡ p ∷ set_members pattern = rw (set_members, is) refl in
    record {
      c = found.c;
      rest = found.rest;
      after = found.after;
      cut = found.cut;
      closed = closed ∙ found.closed;
      listed = rw (more, sym (append_assoc members (p ∷ []) (set_members pattern))) found.listed;
      matches = found.matches;
    }

mutual
  sound : (pattern text : List Character) → reads Outside pattern text ≡ true → Matches pattern text
  sound [] [] e = empty
  sound [] (c ∷ text) e = absurd (search rules)
  sound (p ∷ pattern) text e =
      sound_sign p pattern text (λ t h. sound pattern t h) (λ h. sound_set [] pattern text h) (λ is h. sound_escaped p pattern text is h)
      (sign_of p) (signed p) e

  sound_escaped : (p : Character) (pattern text : List Character) → p ≡ codes "\\" → reads Escaped pattern text ≡ true → Matches (p ∷ pattern) text
  sound_escaped p [] [] is e = absurd (search rules)
  sound_escaped p [] (c ∷ []) is e =
      let same : p ≡ c = is ∙ sym (is_this c 92 e) in
      subst (λ d. Matches (p ∷ []) (d ∷ [])) same (last_backslash is)
  sound_escaped p [] (c ∷ d ∷ text) is e = absurd (search rules)
  sound_escaped p (q ∷ pattern) text is e =
      let found = some_first (bytes_eq q) (reads Outside pattern) text e in
      let same : q ≡ found.c = (bytes_eq-Decides q found.c).0 found.passed in
      subst (λ t. Matches (p ∷ q ∷ pattern) t) (ap (λ c. c ∷ found.rest) same ∙ sym found.cut) (escape is (sound pattern found.rest found.passes))

  sound_set : (members pattern text : List Character) → reads (InSet members) pattern text ≡ true → SetMatch members pattern text
  sound_set members [] text e = absurd (search rules)
  sound_set members (p ∷ pattern) text e =
      sound_member members p pattern text (λ t h. sound pattern t h) (λ h. sound_set (members ++ p ∷ []) pattern text h) (bytes_eq p (codes "]")) refl e

-- ---- to the function ----

complete_sign : (p : Character) (pattern text : List Character) → ((t : List Character) → Matches pattern t → reads Outside pattern t ≡ true) →
    ((after : List Character) (c : Character) (rest : List Character) → after_set pattern ≡ Some after → is_listed (set_members pattern) c ≡ true →
    Matches after rest → reads (InSet []) pattern (c ∷ rest) ≡ true) → (p ≡ codes "\\" → reads Escaped pattern text ≡ true) → Matches (p ∷ pattern) text →
    (sign : Sign) → IsSigned p sign → passes_sign sign p (reads Outside pattern) (reads (InSet []) pattern) (reads Escaped pattern) text ≡ true
complete_sign p pattern text later inside escaped m Run (run_sign is) =
    let found = run_end is m in
    rw (found.cut) (end_passes (reads Outside pattern) found.skipped found.rest (later found.rest found.matches))
complete_sign p pattern text later inside escaped m Any (any_sign is) =
    let found = any_first is m in
    rw (found.cut) (later found.rest found.matches)
complete_sign p pattern text later inside escaped m Opens (set_sign is) =
    let found = set_first is m in
    rw (found.cut) (inside found.after found.first found.rest found.closed found.listed found.matches)
complete_sign p pattern text later inside escaped m Escapes (escape_sign is) = escaped is
complete_sign p pattern text later inside escaped m Itself (own_sign is) =
    let found = ordinary_first is m in
    let here : bytes_eq p p ≡ true = (bytes_eq-Decides p p).1 refl in
    rw (found.cut) (and_both (bytes_eq p p) (reads Outside pattern found.rest) here (later found.rest found.matches))

empty_only : (rest : List Character) → Matches [] rest → rest ≡ []
empty_only rest empty = refl

complete_member : (members : List Character) (p : Character) (pattern after : List Character) (c : Character) (rest : List Character) →
    ((t : List Character) → Matches pattern t → reads Outside pattern t ≡ true) →
    (after_set pattern ≡ Some after → is_listed ((members ++ p ∷ []) ++ set_members pattern) c ≡ true →
    reads (InSet (members ++ p ∷ [])) pattern (c ∷ rest) ≡ true) → after_set (p ∷ pattern) ≡ Some after →
    is_listed (members ++ set_members (p ∷ pattern)) c ≡ true → Matches after rest → (ends : Bool) → bytes_eq p (codes "]") ≡ ends →
    (if ends then passes_first (is_listed members) (reads Outside pattern) (c ∷ rest) else reads (InSet (members ++ p ∷ [])) pattern (c ∷ rest)) ≡ true
complete_member members p pattern after c rest later inside closed listed m true is =
    let ended : after_set (p ∷ pattern) ≡ Some pattern = rw (after_set, is) refl in
    let same : pattern ≡ after = cc (ended, closed) in
    let nothing : set_members (p ∷ pattern) ≡ [] = rw (set_members, is) refl in
    let whole : members ++ set_members (p ∷ pattern) ≡ members = rw nothing (append-nil members) in
    let here : is_listed members c ≡ true = subst (λ ms. is_listed ms c ≡ true) whole listed in
    and_both (is_listed members c) (reads Outside pattern rest) here (later rest (subst (λ q. Matches q rest) (sym same) m))
complete_member members p pattern after c rest later inside closed listed m false is =
    let on : after_set (p ∷ pattern) ≡ after_set pattern = rw (after_set, is) refl in
    let more : set_members (p ∷ pattern) ≡ p ∷ set_members pattern = rw (set_members, is) refl in
    let whole : members ++ set_members (p ∷ pattern) ≡ (members ++ p ∷ []) ++ set_members pattern =
    rw more (sym (append_assoc members (p ∷ []) (set_members pattern))) in
    inside (sym on ∙ closed) (subst (λ ms. is_listed ms c ≡ true) whole listed)

mutual
  complete : (pattern text : List Character) → Matches pattern text → reads Outside pattern text ≡ true
  complete [] text empty = refl
  complete (p ∷ pattern) text m =
      complete_sign p pattern text (λ t h. complete pattern t h) (λ after c rest closed listed h. complete_set [] pattern after c rest closed listed h)
      (λ is. complete_escaped p pattern text is m) m (sign_of p) (signed p)

  complete_escaped : (p : Character) (pattern text : List Character) → p ≡ codes "\\" → Matches (p ∷ pattern) text → reads Escaped pattern text ≡ true
  complete_escaped p [] text is m =
      let found = lone_first is m in
      let nothing : found.rest ≡ [] = empty_only found.rest found.matches in
      rw (found.cut, nothing, is) refl
  complete_escaped p (q ∷ pattern) text is m =
      let found = escape_first is m in
      let here : bytes_eq q q ≡ true = (bytes_eq-Decides q q).1 refl in
      rw (found.cut) (and_both (bytes_eq q q) (reads Outside pattern found.rest) here (complete pattern found.rest found.matches))

  complete_set : (members pattern after : List Character) (c : Character) (rest : List Character) → after_set pattern ≡ Some after →
      is_listed (members ++ set_members pattern) c ≡ true → Matches after rest → reads (InSet members) pattern (c ∷ rest) ≡ true
  complete_set members [] after c rest closed listed m = absurd (search rules)
  complete_set members (p ∷ pattern) after c rest closed listed m =
      complete_member members p pattern after c rest (λ t h. complete pattern t h)
      (λ e f. complete_set (members ++ p ∷ []) pattern after c rest e f m) closed listed m (bytes_eq p (codes "]")) refl

pub glob_law : GlobLaw
glob_law pattern text = (sound pattern text, complete pattern text)
