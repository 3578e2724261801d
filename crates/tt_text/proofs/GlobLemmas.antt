-- What a pattern's first piece says of the texts that the pattern matches.
use Rattle.std.proofs.Common.{◌≡◌, ◌≢◌, ℕ, suc, true, false, List, [], ◌∷◌, ◌++◌, length, refl, sym, ap, subst, ◌∙◌, ◌↔◌, arith, append_assoc, Bor}
use Rattle.std.specs.Prelude.{Option, Some, None, codes, bytes_eq, IsTrue, MatchOption, ◌==◌}
use Rattle.std.proofs.lemmas.Slice.Eq.{bytes_eq-Decides}
use Rattle.std.proofs.lemmas.Bool.{eqb-true, eq-eqb}
use Rattle.tt_text.proofs.CharacterLemmas.{first_character}
use Rattle.tt_text.specs.Characters.{Character, characters}
use Rattle.tt_text.specs.Glob.{Matches, empty, run, any, set, escape, last_backslash, itself, IsOrdinary, after_set, set_members, is_listed}
use Rattle.tt_text.specs.inside.GlobScan.{BeginsWithNoRun, MatchesEnd, MatchesAfterFirst, MatchesAfter, TakesFirst, Means, RefusesFirst}

-- a character is not two bytes at once
differ : (p : Character) (a b : ℕ) → p ≡ a ∷ [] → p ≡ b ∷ [] → a ≢ b → ⊥
differ p a b e f n = n (cc)

-- no run at the front: a first character is needed
pub needs_character : {p : Character} {pattern : List Character} → p ≢ codes "*" → Matches (p ∷ pattern) [] → ⊥
needs_character n (run skipped e cut m) = n e

pub run_end : {p : Character} {pattern text : List Character} → p ≡ codes "*" → Matches (p ∷ pattern) text → MatchesEnd pattern text
run_end e (run skipped f cut m) = record { skipped = skipped; rest = _; cut = cut; matches = m }
run_end {p} e (any f m) = absurd (differ p 42 63 e f (omega arith))
run_end {p} e (set f closed listed m) = absurd (differ p 42 91 e f (omega arith))
run_end {p} e (escape f m) = absurd (differ p 42 92 e f (omega arith))
run_end {p} e (last_backslash f) = absurd (differ p 42 92 e f (omega arith))
run_end e (itself o m) = absurd (o.no_run e)

pub any_first : {p : Character} {pattern text : List Character} → p ≡ codes "?" → Matches (p ∷ pattern) text → MatchesAfterFirst pattern text
any_first {p} e (run skipped f cut m) = absurd (differ p 63 42 e f (omega arith))
any_first e (any {c} {text} f m) = record { first = c; rest = text; cut = refl; matches = m }
any_first {p} e (set f closed listed m) = absurd (differ p 63 91 e f (omega arith))
any_first {p} e (escape f m) = absurd (differ p 63 92 e f (omega arith))
any_first {p} e (last_backslash f) = absurd (differ p 63 92 e f (omega arith))
any_first e (itself o m) = absurd (o.no_any e)

-- a text that begins with a character which a set lists
pub record Listed (pattern text : List Character) : Type 0 where
  pub first : Character
  pub rest : List Character
  pub after : List Character
  pub cut : text ≡ first ∷ rest
  pub closed : after_set pattern ≡ Some after
  pub listed : IsTrue (is_listed (set_members pattern) first)
  pub matches : Matches after rest

pub set_first : {p : Character} {pattern text : List Character} → p ≡ codes "[" → Matches (p ∷ pattern) text → Listed pattern text
set_first {p} e (run skipped f cut m) = absurd (differ p 91 42 e f (omega arith))
set_first {p} e (any f m) = absurd (differ p 91 63 e f (omega arith))
set_first e (set {c} {after} {text} f closed listed m) =
    record { first = c; rest = text; after = after; cut = refl; closed = closed; listed = listed; matches = m }
set_first {p} e (escape f m) = absurd (differ p 91 92 e f (omega arith))
set_first {p} e (last_backslash f) = absurd (differ p 91 92 e f (omega arith))
set_first e (itself o m) = absurd (o.no_set e)

pub escape_first : {p c : Character} {pattern text : List Character} → p ≡ codes "\\" → Matches (p ∷ c ∷ pattern) text → MatchesAfter c pattern text
escape_first {p} e (run skipped f cut m) = absurd (differ p 92 42 e f (omega arith))
escape_first {p} e (any f m) = absurd (differ p 92 63 e f (omega arith))
escape_first {p} e (set f closed listed m) = absurd (differ p 92 91 e f (omega arith))
escape_first e (escape {text} f m) = record { rest = text; cut = refl; matches = m }
escape_first e (itself o m) = absurd (o.no_escape e)

pub lone_first : {p : Character} {text : List Character} → p ≡ codes "\\" → Matches (p ∷ []) text → MatchesAfter p [] text
lone_first {p} e (run skipped f cut m) = absurd (differ p 92 42 e f (omega arith))
lone_first {p} e (any f m) = absurd (differ p 92 63 e f (omega arith))
lone_first {p} e (set f closed listed m) = absurd (differ p 92 91 e f (omega arith))
lone_first e (last_backslash f) = record { rest = []; cut = refl; matches = empty }
lone_first e (itself o m) = absurd (o.no_escape e)

pub ordinary_first : {c : Character} {pattern text : List Character} → IsOrdinary c → Matches (c ∷ pattern) text → MatchesAfter c pattern text
ordinary_first o (run skipped f cut m) = absurd (o.no_run f)
ordinary_first o (any f m) = absurd (o.no_any f)
ordinary_first o (set f closed listed m) = absurd (o.no_set f)
ordinary_first o (escape f m) = absurd (o.no_escape f)
ordinary_first o (last_backslash f) = absurd (o.no_escape f)
ordinary_first o (itself {text} p m) = record { rest = text; cut = refl; matches = m }

-- each kind of first piece

pub nothing_refuses : (c : Character) → RefusesFirst [] c
nothing_refuses c text h = elim h [ ]

pub any_takes : (p c : Character) (pattern : List Character) → p ≡ codes "?" → TakesFirst (p ∷ pattern) pattern c
any_takes p c pattern e = record { takes = λ text m. any e m; only = λ text m. any_first e m }

pub set_takes : (p c : Character) (pattern after : List Character) → p ≡ codes "[" → after_set pattern ≡ Some after
    → is_listed (set_members pattern) c ≡ true → TakesFirst (p ∷ pattern) after c
set_takes p c pattern after e closed listed = record {
  takes = λ text m. set e closed listed m;
  only = λ text m.
      let h = set_first e m in
      let same : h.after ≡ after = cc (h.closed, closed) in
      record { first = h.first; rest = h.rest; cut = h.cut; matches = subst (λ a. Matches a h.rest) same h.matches };
}

pub set_unlisted : (p c : Character) (pattern : List Character) → p ≡ codes "[" → is_listed (set_members pattern) c ≡ false → RefusesFirst (p ∷ pattern) c
set_unlisted p c pattern e unlisted text m =
    let h = set_first e m in
    let same : c ≡ h.first = cc (h.cut) in
    absurd (cc (h.listed, unlisted, ap (is_listed (set_members pattern)) same))

pub set_unclosed : (p c : Character) (pattern : List Character) → p ≡ codes "[" → after_set pattern ≡ None → RefusesFirst (p ∷ pattern) c
set_unclosed p c pattern e unclosed text m = let h = set_first e m in absurd (cc (h.closed, unclosed))

pub escape_means : (p c : Character) (pattern : List Character) → p ≡ codes "\\" → Means (p ∷ c ∷ pattern) pattern c
escape_means p c pattern e = record { takes = λ text m. escape e m; only = λ text m. escape_first e m }

lone_takes : (p : Character) (text : List Character) → p ≡ codes "\\" → Matches [] text → Matches (p ∷ []) (p ∷ text)
lone_takes p [] e m = last_backslash e
lone_takes p (c ∷ text) e m = elim m [ ]

pub lone_means : (p : Character) (pattern : List Character) → p ≡ codes "\\" → pattern ≡ [] → Means (p ∷ pattern) pattern p
lone_means p pattern e last =
    let alone : Means (p ∷ []) [] p = record {
      takes = λ text m. lone_takes p text e m;
      only = λ text m. lone_first e m;
    } in
    subst (λ q. Means (p ∷ q) q p) (sym last) alone

pub ordinary_means : (c : Character) (pattern : List Character) → IsOrdinary c → Means (c ∷ pattern) pattern c
ordinary_means c pattern o = record { takes = λ text m. itself o m; only = λ text m. ordinary_first o m }

pub means_takes : (pattern after : List Character) (c d : Character) → Means pattern after c → c ≡ d → TakesFirst pattern after d
means_takes pattern after c d m e = record {
  takes = λ text h. subst (λ x. Matches pattern (x ∷ text)) e (m.takes text h);
  only = λ text h. let a = m.only text h in record { first = c; rest = a.rest; cut = a.cut; matches = a.matches };
}

pub means_refuses : (pattern after : List Character) (c d : Character) → Means pattern after c → c ≢ d → RefusesFirst pattern d
means_refuses pattern after c d m n text h = let a = m.only (d ∷ text) h in n (cc (a.cut))

-- the tests that the scan makes

pub is_this : (c : Character) (b : ℕ) → bytes_eq c (b ∷ []) ≡ true → c ≡ b ∷ []
is_this c b e = (bytes_eq-Decides c (b ∷ [])).0 e

pub is_other : (c : Character) (b : ℕ) → bytes_eq c (b ∷ []) ≡ false → c ≢ b ∷ []
is_other c b e same = let yes = (bytes_eq-Decides c (b ∷ [])).1 same in absurd (cc (e, yes))

pub set_answer : (o : Option (Bor (List ℕ))) (p c : Character) (pattern : List Character) → p ≡ codes "[" → is_listed (set_members pattern) c ≡ true
    → MatchOption o (after_set pattern ≡ None) (λ after. after_set pattern ≡ Some (characters after.now))
    → MatchOption o (RefusesFirst (p ∷ pattern) c) (λ after. TakesFirst (p ∷ pattern) (characters after.now) c)
set_answer None p c pattern e listed unclosed = set_unclosed p c pattern e unclosed
set_answer (Some after) p c pattern e listed closed = set_takes p c pattern (characters after.now) e closed listed

-- one step of the scan

same_rest : (c d : Character) (t u : List Character) → c ∷ t ≡ d ∷ u → u ≡ t
same_rest c d t u e = cc

pub step_here : (pattern after text later : List Character) (c : Character) → text ≡ c ∷ later → TakesFirst pattern after c
    → Matches pattern text ↔ Matches after later
step_here pattern after text later c e takes = (
  λ m. let h = takes.only text m in subst (Matches after) (same_rest c h.first later h.rest (sym e ∙ h.cut)) h.matches,
  λ m. subst (Matches pattern) (sym e) (takes.takes later m),
)

later_end : (after later skipped rest : List Character) (c d : Character) → c ∷ later ≡ skipped ++ (d ∷ rest) → Matches after rest → MatchesEnd after later
later_end after later [] rest c d e m = record { skipped = []; rest = rest; cut = cc; matches = m }
later_end after later (x ∷ skipped) rest c d e m = record {
  skipped = skipped ++ (d ∷ []);
  rest = rest;
  cut = same_rest x c (skipped ++ (d ∷ rest)) later (sym e) ∙ sym (append_assoc skipped (d ∷ []) rest);
  matches = m;
}

pub step_later : (pattern after text later : List Character) (c : Character) → text ≡ c ∷ later → TakesFirst pattern after c
    → MatchesEnd pattern text → MatchesEnd after later
step_later pattern after text later c e takes end =
    let h = takes.only end.rest end.matches in
    later_end after later end.skipped h.rest c h.first (sym e ∙ end.cut ∙ ap (λ r. end.skipped ++ r) h.cut) h.matches

-- a run may skip nothing
pub at_once : (pattern text : List Character) → Matches pattern text → MatchesEnd pattern text
at_once pattern text m = record { skipped = []; rest = text; cut = refl; matches = m }

pub run_takes : (pattern after text : List Character) → pattern ≡ codes "*" ∷ after → MatchesEnd after text → Matches pattern text
run_takes pattern after text e end = subst (λ p. Matches p text) (sym e) (run end.skipped refl end.cut end.matches)

pub run_passes : (pattern after text : List Character) → pattern ≡ codes "*" ∷ after → MatchesEnd pattern text → MatchesEnd after text
run_passes pattern after text e end =
    let inner = run_end refl (subst (λ p. Matches p end.rest) e end.matches) in
    record {
      skipped = end.skipped ++ inner.skipped;
      rest = inner.rest;
      cut = end.cut ∙ ap (λ r. end.skipped ++ r) inner.cut ∙ sym (append_assoc end.skipped inner.skipped inner.rest);
      matches = inner.matches;
    }

-- if the text is at its end

no_characters : (pattern : List Character) → BeginsWithNoRun pattern → (pattern ≡ [] → ⊥) → ¬ Matches pattern []
no_characters [] first some m = some refl
no_characters (c ∷ pattern) first some m = needs_character first m

pub text_left : (bytes : List ℕ) → characters bytes ≡ [] → bytes ≡ []
text_left [] e = refl
text_left (b ∷ bytes) e = absurd (cc (e, first_character b _ (b ∷ bytes) bytes refl refl))

pub end_needs_nothing : (left rest : List ℕ) → rest ≡ [] → BeginsWithNoRun (characters left) → (left ≡ [] → ⊥) → ¬ Matches (characters left) (characters rest)
end_needs_nothing left rest e first some m =
    no_characters (characters left) first (λ none. some (text_left left none)) (subst (λ r. Matches (characters left) (characters r)) e m)

pub whole_matches : (left rest : List ℕ) → left ≡ [] → rest ≡ [] → Matches (characters left) (characters rest)
whole_matches left rest e f = subst (λ l. Matches (characters l) (characters rest)) (sym e) (subst (λ r. Matches [] (characters r)) (sym f) empty)

-- if a segment fails, it may fit at a later place

nothing_left : (skipped rest : List Character) → [] ≡ skipped ++ rest → rest ≡ []
nothing_left [] rest e = sym e
nothing_left (x ∷ skipped) rest e = absurd (cc)

skipped_some : (pattern text later : List Character) (c : Character) → text ≡ c ∷ later → ¬ Matches pattern text
    → (skipped rest : List Character) → text ≡ skipped ++ rest → Matches pattern rest → MatchesEnd pattern later
skipped_some pattern text later c e n [] rest cut m = absurd (n (subst (Matches pattern) (sym cut) m))
skipped_some pattern text later c e n (x ∷ skipped) rest cut m =
    record { skipped = skipped; rest = rest; cut = same_rest x c (skipped ++ rest) later (sym cut ∙ e); matches = m }

pub no_later : (pattern text : List Character) → text ≡ [] → ¬ Matches pattern text → ¬ MatchesEnd pattern text
no_later pattern text e n end = n (subst (Matches pattern) (nothing_left end.skipped end.rest (sym e ∙ end.cut) ∙ sym e) end.matches)

pub go_later : (pattern text later : List Character) (c : Character) → text ≡ c ∷ later → ¬ Matches pattern text
    → MatchesEnd pattern text ↔ MatchesEnd pattern later
go_later pattern text later c e n = (
  λ end. skipped_some pattern text later c e n end.skipped end.rest end.cut end.matches,
  λ end. record { skipped = c ∷ end.skipped; rest = end.rest; cut = e ∙ ap (λ t. c ∷ t) end.cut; matches = end.matches },
)

pub is_nothing : (xs : List ℕ) → (length xs == 0) ≡ true → xs ≡ []
is_nothing [] e = refl
is_nothing (x ∷ xs) e = absurd (ne-zero (eqb-true _ _ e))
  where
    ne-zero : suc (length xs) ≡ 0 → ⊥
    ne-zero f = absurd (omega (arith, f))

pub is_something : (xs : List ℕ) → (length xs == 0) ≡ false → xs ≡ [] → ⊥
is_something xs e none = absurd (cc (e, eq-eqb (length xs) 0 (ap length none)))
