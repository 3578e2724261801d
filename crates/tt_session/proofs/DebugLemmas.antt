-- The lines of a debugging session, and what was shown of them so far.
use Rattle.std.proofs.Common.{◌≡◌, ◌≢◌, ◌∙◌, ◌<◌, ◌+◌, ◌-◌, ℕ, zero, suc, Bool, true, false, List, [], ◌∷◌, ◌++◌, length, take, drop, get_or}
use Rattle.std.proofs.Common.{Option, None, Some, if◌then◌else◌, refl, sym, ap, subst, arith, inl, inr, add-one, append_assoc, append-nil, lt-ltb}
use Rattle.std.specs.List.{position, position_or_len}
use Rattle.std.proofs.lemmas.Bool.{cases_lt}
use Rattle.std.proofs.lemmas.List.{length-drop, take_all}
use Rattle.std.proofs.lemmas.List.Quantifiers.{position-Some}
use Rattle.std.proofs.lemmas.List.Sums.{fails_before_first}
use Rattle.tt_debug.specs.Shown.{IsShownAt}
use Rattle.tt_devices.proofs.StreamLemmas.{Grows-append, Grows-same}
use Rattle.tt_devices.specs.Faults.{Rises}
use Rattle.tt_devices.specs.Streams.{Grows, GrowsByPart}
use Rattle.tt_devices.specs.declared.sink.Sink.{Ghosts as OfSink}
use Rattle.tt_kept.specs.declared.setup.Setup.{Setup}
use Rattle.tt_session.proofs.LineLemmas.{part-after}
use Rattle.tt_session.specs.Debugging.{AreShown, Shows, ShowsAll, ShowsPart, before_lines, is_newline, lines_of}
use Rattle.tt_session.specs.Debugging as shows

-- ---- lines ----

-- the bytes before the first newline are the first line
cut-at : (text : List ℕ) (place : ℕ) → place < length text → is_newline (get_or text place 0) ≡ true
    → ((k : ℕ) → k < place → is_newline (get_or text k 0) ≡ false) → lines_of text ≡ take place text ∷ lines_of (drop (suc place) text)
cut-at [] place within is before = absurd (omega (arith, within))
cut-at (byte ∷ text) zero within is before =
    ap (λ (b : Bool). if b then [] ∷ lines_of text else before_lines byte (lines_of text)) is
cut-at (byte ∷ text) (suc place) within is before =
    let rest = cut-at text place (omega (arith, within)) is (λ k less. before (suc k) (omega (arith, less))) in
    ap (λ (b : Bool). if b then [] ∷ lines_of text else before_lines byte (lines_of text)) (before 0 (omega arith))
    ∙ ap (λ (lines : List (List ℕ)). before_lines byte lines) rest

-- all bytes are one line if there is no newline
uncut : (text : List ℕ) → text ≢ [] → ((k : ℕ) → k < length text → is_newline (get_or text k 0) ≡ false) → lines_of text ≡ text ∷ []
uncut [] some none = absurd (some refl)
uncut (byte ∷ []) some none =
    ap (λ (b : Bool). if b then [] ∷ [] else (byte ∷ []) ∷ []) (none 0 (omega arith))
uncut (byte ∷ next ∷ text) some none =
    let rest = uncut (next ∷ text) (λ is. cc is) (λ k within. none (suc k) (omega (arith, within))) in
    ap (λ (b : Bool). if b then [] ∷ lines_of (next ∷ text) else before_lines byte (lines_of (next ∷ text))) (none 0 (omega arith))
    ∙ ap (λ (lines : List (List ℕ)). before_lines byte lines) rest

-- the line up to the first newline, and what follows that
pub cut-line : (text : List ℕ) (place : ℕ) → position is_newline text ≡ Some place
    → lines_of text ≡ take place text ∷ lines_of (take (length text - (place + 1)) (drop (place + 1) text))
cut-line text place is =
    let found = position-Some is_newline text place 0 is in
    let rest : take (length text - (place + 1)) (drop (place + 1) text) ≡ drop (suc place) text =
    take_all (length text - (place + 1)) (drop (place + 1) text) (omega (arith, length-drop (place + 1) text))
    ∙ ap (λ (n : ℕ). drop n text) (add-one place) in
    cut-at text place found.0 found.1 found.2 ∙ ap (λ (bytes : List ℕ). take place text ∷ lines_of bytes) (sym rest)

some-none : {X : Type 0} (x : X) → Some x ≡ None → ⊥
some-none x is = cc is

-- the only line
pub only-line : (text : List ℕ) → text ≢ [] → position is_newline text ≡ None → lines_of text ≡ text ∷ []
only-line text some none = uncut text some (λ k within. passes k within)
  where
    passes : (k : ℕ) → k < length text → is_newline (get_or text k 0) ≡ false
    passes k within = elim (cases_lt (position_or_len is_newline text) (length text)) [
      | inl inside ↦ absurd (some-none (position_or_len is_newline text) (rw (lt-ltb (position_or_len is_newline text) (length text) inside) at none))
      | inr past ↦ fails_before_first is_newline text k 0 (omega (arith, past, within))
    ]

-- ---- what is shown ----

-- one line more
pub shows-more : (setup : Setup) (given : List ℕ) (place later last : ℕ) (lines : List (List ℕ)) (shown line text : List ℕ)
    → Shows setup given place lines shown later → IsShownAt setup given later line text last
    → Shows setup given place (lines ++ line ∷ []) (shown ++ text) last
shows-more setup given place later last [] shown line text shows.none is =
    subst (λ (all : List ℕ). Shows setup given place (line ∷ []) all last) (append-nil text) (shows.more is shows.none)
shows-more setup given place later last (first ∷ lines) shown line text (shows.more {later = next} {text = front} {shown = back} at rest) is =
    subst (λ (all : List ℕ). Shows setup given place (first ∷ (lines ++ line ∷ [])) all last) (sym (append_assoc front back text))
    (shows.more at (shows-more setup given next later last lines back line text rest is))

module _ {K : Type 0} (output : OfSink K) where
  -- the first lines were answered, and these are left
  pub record IsShownSoFar (setup : Setup) (given : List ℕ) (lines : List (List ℕ)) (place : ℕ) (left : List ℕ) (old now : K) : Type 0 where
    pub first : List (List ℕ)
    pub cut : lines ≡ first ++ lines_of left
    pub shown : List ℕ
    pub shows : Shows setup given 0 first shown place
    pub grew : Grows (output.got old) (output.got now) shown
    pub steady : output.fault_count now ≡ output.fault_count old

  pub none-shown : (setup : Setup) (given text : List ℕ) (place : ℕ) (now : K) → place ≡ 0 → IsShownSoFar setup given (lines_of text) place text now now
  none-shown setup given text place now is = record {
    first = [];
    cut = refl;
    shown = [];
    shows = subst (λ (n : ℕ). Shows setup given 0 [] [] n) (sym is) shows.none;
    grew = Grows-same (output.got now);
    steady = refl;
  }

  -- one line more was answered
  pub one-more-shown : (setup : Setup) (given : List ℕ) (lines : List (List ℕ)) (place later : ℕ) (left line after text : List ℕ) (old now new : K)
      → IsShownSoFar setup given lines place left old now → lines_of left ≡ line ∷ lines_of after → IsShownAt setup given place line text later
      → Grows (output.got now) (output.got new) text → output.fault_count new ≡ output.fault_count now
      → IsShownSoFar setup given lines later after old new
  one-more-shown setup given lines place later left line after text old now new so_far is at grew steady = record {
    first = so_far.first ++ line ∷ [];
    cut = so_far.cut ∙ (ap (λ (rest : List (List ℕ)). so_far.first ++ rest) is ∙ sym (append_assoc so_far.first (line ∷ []) (lines_of after)));
    shown = so_far.shown ++ text;
    shows = shows-more setup given 0 place later so_far.first so_far.shown line text so_far.shows at;
    grew = Grows-append (output.got old) (output.got now) (output.got new) so_far.shown text so_far.grew grew;
    steady = steady ∙ so_far.steady;
  }

  -- the last line was answered
  pub all-shown : (setup : Setup) (given : List ℕ) (lines : List (List ℕ)) (place : ℕ) (left : List ℕ) (old now : K)
      → IsShownSoFar setup given lines place left old now → left ≡ [] → ShowsAll output setup given lines old now
  all-shown setup given lines place left old now so_far none = record {
    shown = so_far.shown;
    last = place;
    shows = subst (λ (all : List (List ℕ)). Shows setup given 0 all so_far.shown place)
        (sym (so_far.cut ∙ (ap (λ (text : List ℕ). so_far.first ++ lines_of text) none ∙ append-nil so_far.first))) so_far.shows;
    grew = so_far.grew;
    steady = so_far.steady;
  }

  -- no further line was answered
  pub part-shown : (setup : Setup) (given : List ℕ) (lines : List (List ℕ)) (place : ℕ) (left : List ℕ) (old now : K)
      → IsShownSoFar setup given lines place left old now → ShowsPart output setup given lines old now
  part-shown setup given lines place left old now so_far = record {
    first = so_far.first;
    rest = lines_of left;
    cut = so_far.cut;
    shown = so_far.shown;
    last = place;
    shows = so_far.shows;
    grew = record { part = so_far.shown; rest = []; cut = sym (append-nil so_far.shown); grew = so_far.grew };
  }

  -- output failed in an answer
  pub cut-shown : (setup : Setup) (given : List ℕ) (lines : List (List ℕ)) (place later : ℕ) (left line after text : List ℕ) (old now new : K)
      → IsShownSoFar setup given lines place left old now → lines_of left ≡ line ∷ lines_of after → IsShownAt setup given place line text later
      → GrowsByPart (output.got now) (output.got new) text → ShowsPart output setup given lines old new
  cut-shown setup given lines place later left line after text old now new so_far is at part = record {
    first = so_far.first ++ line ∷ [];
    rest = lines_of after;
    cut = so_far.cut ∙ (ap (λ (rest : List (List ℕ)). so_far.first ++ rest) is ∙ sym (append_assoc so_far.first (line ∷ []) (lines_of after)));
    shown = so_far.shown ++ text;
    last = later;
    shows = shows-more setup given 0 place later so_far.first so_far.shown line text so_far.shows at;
    grew = part-after (output.got old) (output.got now) (output.got new) so_far.shown text so_far.grew part;
  }

  -- no line was answered
  pub nothing-shown : (setup : Setup) (given : List ℕ) (lines : List (List ℕ)) (now : K) → ShowsPart output setup given lines now now
  nothing-shown setup given lines now = record {
    first = [];
    rest = lines;
    cut = refl;
    shown = [];
    last = 0;
    shows = shows.none;
    grew = record { part = []; rest = []; cut = refl; grew = Grows-same (output.got now) };
  }
