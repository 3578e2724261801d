-- One step of each reader.
use Rattle.std.proofs.Common.{◌≡◌, ℕ, ◌+◌, ◌-◌, true, false, List, drop, take, refl, ap, ◌∙◌, arith, Some, None}
use Rattle.std.proofs.lemmas.List.{drop-drop}
use Rattle.tt_text.specs.Braces.{matching_brace, further}
use Rattle.tt_script.proofs.Bracing.{further-none, further-some}
use Rattle.tt_script.specs.Reading.{Read, takes, fails, after, map_read, separates, before_separator, braced, letters_of, joined_lines}
use Rattle.tt_script.specs.declared.command.ParseFault.TheVariants.{CloseBrace, AfterBrace}
use Rattle.tt_script.specs.declared.command.Place.{Place}

-- ---- how reads are put together ----

pub after-after : {A : Type 0} (m n : ℕ) (r : Read A) → after m (after n r) ≡ after (m + n) r
after-after m n (takes value k) = ap (takes value) (omega arith)
after-after m n (fails fault) = refl

pub after-zero : {A : Type 0} (r : Read A) → after 0 r ≡ r
after-zero (takes value k) = ap (takes value) (omega arith)
after-zero (fails fault) = refl

pub after-mapped : {A B : Type 0} (n : ℕ) (f : A → B) (r : Read A) → after n (map_read f r) ≡ map_read f (after n r)
after-mapped n f (takes value k) = refl
after-mapped n f (fails fault) = refl

pub mapped-mapped : {A B C : Type 0} (f : B → C) (g : A → B) (r : Read A) → map_read f (map_read g r) ≡ map_read (λ x. f (g x)) r
mapped-mapped f g (takes value k) = refl
mapped-mapped f g (fails fault) = refl

pub mapped-same : {A B : Type 0} (f g : A → B) → ((x : A) → f x ≡ g x) → (r : Read A) → map_read f r ≡ map_read g r
mapped-same f g same (takes value k) = ap (λ v. takes v k) (same value)
mapped-same f g same (fails fault) = refl

-- ---- words in braces ----

pub braced-closed : (place : Place) (text : List ℕ) (n : ℕ) → matching_brace text ≡ Some n → separates place (drop (n + 1) text) ≡ true →
    braced place text ≡ takes (letters_of (joined_lines 0 (take n text))) (n + 1)
unfolding braced
braced-closed place text n e f = rw (e, braced, f, before_separator)

pub braced-after : (place : Place) (text : List ℕ) (n : ℕ) → matching_brace text ≡ Some n → separates place (drop (n + 1) text) ≡ false →
    braced place text ≡ fails AfterBrace
unfolding braced
braced-after place text n e f = rw (e, braced, f, before_separator)

pub braced-open : (place : Place) (text : List ℕ) → matching_brace text ≡ None → braced place text ≡ fails CloseBrace
unfolding braced
braced-open place text e = rw (e, braced)

module _ (place : Place) (text : List ℕ) (from end : ℕ) (h : Some end ≡ further from (matching_brace (drop from text))) where
  -- the text after the brace that closes
  after_brace : drop (end - from + 1) (drop from text) ≡ drop (end + 1) text
  after_brace =
      let order = (further-some from end (matching_brace (drop from text)) h).1 in
      let same : from + (end - from + 1) ≡ end + 1 = omega arith in
      drop-drop (end - from + 1) from text ∙ ap (λ k. drop k text) same

  pub braced_at-closed : separates place (drop (end + 1) text) ≡ true →
      after from (braced place (drop from text)) ≡ takes (letters_of (joined_lines 0 (take (end - from) (drop from text)))) (end + 1)
  braced_at-closed f =
      let found = further-some from end (matching_brace (drop from text)) h in
      let order = found.1 in
      let same : from + (end - from + 1) ≡ end + 1 = omega arith in
      ap (after from) (braced-closed place (drop from text) (end - from) found.0 (ap (separates place) after_brace ∙ f))
      ∙ ap (takes (letters_of (joined_lines 0 (take (end - from) (drop from text))))) same

  pub braced_at-after : separates place (drop (end + 1) text) ≡ false → after from (braced place (drop from text)) ≡ fails AfterBrace
  braced_at-after f =
      let found = further-some from end (matching_brace (drop from text)) h in
      ap (after from) (braced-after place (drop from text) (end - from) found.0 (ap (separates place) after_brace ∙ f))

pub braced_at-open : (place : Place) (text : List ℕ) (from : ℕ) → None ≡ further from (matching_brace (drop from text)) →
    after from (braced place (drop from text)) ≡ fails CloseBrace
braced_at-open place text from h = ap (after from) (braced-open place (drop from text) (further-none from _ h))
