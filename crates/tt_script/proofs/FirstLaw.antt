-- The first command that is read is the grammar's.
use Rattle.std.proofs.Common.{◌≡◌, ℕ, ◌+◌, ◌<◌, true, List, [], ◌∷◌, length, drop, refl, ap, sym, ◌∙◌, subst, arith}
use Rattle.std.proofs.lemmas.List.{length-drop}
use Rattle.tt_script.specs.Words.{PlainWord, PlainCommand, nothing, bad, command}
use Rattle.tt_script.specs.Reading.{most_open, Read, takes, fails, ends_command, level, words, gap, skipped, terminator_length, command_at, first}
use Rattle.tt_script.specs.Grammar.{IsSkipped, IsWords, last_word, next_word, IsFirst}
use Rattle.tt_script.specs.GrammarLaw.{CommandLaw, NothingLaw, FaultLaw}
use Rattle.tt_script.specs.declared.command.ParseFault.{ParseFault}
use Rattle.tt_script.specs.declared.command.Place.{Place}
use Rattle.tt_script.specs.declared.command.Place.TheVariants as places
use Rattle.tt_script.proofs.Cuts.{gap_cut, skipped_cut}
use Rattle.tt_script.proofs.IntoCuts.{gap_is, skipped_is, skipped_end-none}
use Rattle.tt_script.proofs.FromGrammar.{words_read}
use Rattle.tt_script.proofs.IntoGrammar.{words_stand, script_begins, takes-count}
use Rattle.tt_script.proofs.FirstSteps.{at-nothing, at-command, at-fault, first-on, same_command as same_numbers}

words_ended : {depth : ℕ} {place : Place} {text rest : List ℕ} {ws : List PlainWord} → IsWords depth place text ws rest →
    ends_command place (drop (gap 0 rest) rest) ≡ true
words_ended (last_word {place = place} w g e) = ap (ends_command place) (gap_cut g).place ∙ e
words_ended (next_word w g e ws) = words_ended ws

no_command : {c : PlainCommand} → nothing ≡ command c → ⊥
no_command e = cc

no_fault : {c : PlainCommand} {fault : ParseFault} {place : ℕ} → bad fault place ≡ command c → ⊥
no_fault e = cc

same_command : {c d : PlainCommand} → command c ≡ command d → c ≡ d
same_command e = cc

no_nothing : {fault : ParseFault} {place : ℕ} → nothing ≡ bad fault place → ⊥
no_nothing e = cc

command_read : (start : ℕ) (text : List ℕ) (ws : List PlainWord) (n : ℕ) → 0 < length text → words places.Script (level most_open) 0 text ≡ takes ws n →
    command_at start text ≡ command (record { words = ws; start = start; text_end = start + n; next = start + n + terminator_length (drop n text) })
command_read start [] ws n h e = absurd (omega arith)
command_read start (b ∷ text) ws n h e = at-command start b text ws n e

-- from the grammar to the function
pub first_read : (text : List ℕ) (c : PlainCommand) → IsFirst text c → first text ≡ command c
first_read text c h =
    let skip = skipped_cut h.skipped in
    let ws = words_read h.words in
    let gaps = gap_cut h.gap in
    let n : ℕ = ws.0.n in
    let tail : terminator_length (drop n h.begun) ≡ terminator_length h.after = ap terminator_length ws.0.cut.place in
    first-on text ∙ ap (command_at (skipped 0 text)) skip.place
    ∙ command_read (skipped 0 text) h.begun c.words n (omega (arith, ws.1, ws.0.cut.size)) ws.0.read
    ∙ same_numbers c.words _ _ _ c.start c.text_end c.next (omega (arith, skip.size, h.start)) (omega (arith, skip.size, ws.0.cut.size, h.text_end))
    (omega (arith, skip.size, ws.0.cut.size, h.text_end, gaps.size, tail, h.next, length-drop 1 h.terminator))

-- what is read stands in the grammar
stands : (text xs : List ℕ) (ws : List PlainWord) (n : ℕ) → drop (skipped 0 text) text ≡ xs → 0 < length xs →
    words places.Script (level most_open) 0 xs ≡ takes ws n →
    IsFirst text (record { words = ws; start = skipped 0 text; text_end = skipped 0 text + n; next = skipped 0 text + n + terminator_length (drop n xs) })
stands text xs ws n e h r =
    let skip : IsSkipped text xs = subst (IsSkipped text) e (skipped_is 0 text) in
    let cut = skipped_cut skip in
    let found = words_stand most_open xs ws n (script_begins xs (skipped_end-none skip) h) r in
    let again = words_read found.0 in
    let same : again.0.n ≡ n = takes-count (sym again.0.read ∙ r) in
    let gaps = gap_cut (gap_is 0 (drop n xs)) in
    record {
      begun = xs;
      after = drop n xs;
      terminator = drop (gap 0 (drop n xs)) (drop n xs);
      skipped = skip;
      words = found.0;
      gap = gap_is 0 (drop n xs);
      ended = words_ended found.0;
      start = cut.size;
      text_end = omega (arith, cut.size, again.0.cut.size, same);
      next = omega (arith, cut.size, again.0.cut.size, same, gaps.size, length-drop 1 (drop (gap 0 (drop n xs)) (drop n xs)));
    }

-- what a text begins with, by what stands after what is skipped
data Begins (text : List ℕ) : Type 0 where
  whole : drop (skipped 0 text) text ≡ [] → first text ≡ nothing → Begins text
  faulty : (fault : ParseFault) (place : ℕ) → first text ≡ bad fault place → Begins text
  begun_by : (c : PlainCommand) → first text ≡ command c → IsFirst text c → Begins text

begins_so : (text : List ℕ) → Begins text
begins_so text = go (drop (skipped 0 text) text) refl
  where
    here : (xs : List ℕ) → drop (skipped 0 text) text ≡ xs → first text ≡ command_at (skipped 0 text) xs
    here xs e = first-on text ∙ ap (command_at (skipped 0 text)) e

    words_so : (b : ℕ) (xs : List ℕ) → drop (skipped 0 text) text ≡ b ∷ xs → (q : Read (List PlainWord)) →
        words places.Script (level most_open) 0 (b ∷ xs) ≡ q → Begins text
    words_so b xs e (fails fault) r = faulty fault (skipped 0 text) (here (b ∷ xs) e ∙ at-fault (skipped 0 text) b xs fault r)
    words_so b xs e (takes ws n) r = begun_by _ (here (b ∷ xs) e ∙ at-command (skipped 0 text) b xs ws n r) (stands text (b ∷ xs) ws n e (omega arith) r)

    go : (xs : List ℕ) → drop (skipped 0 text) text ≡ xs → Begins text
    go [] e = whole e (here [] e ∙ at-nothing (skipped 0 text) [] refl)
    go (b ∷ xs) e = words_so b xs e (words places.Script (level most_open) 0 (b ∷ xs)) refl

-- from the function to the grammar
pub first_is : (text : List ℕ) (c : PlainCommand) → first text ≡ command c → IsFirst text c
first_is text c e = go (begins_so text)
  where
    go : Begins text → IsFirst text c
    go (whole f g) = absurd (no_command (sym g ∙ e))
    go (faulty fault place g) = absurd (no_fault (sym g ∙ e))
    go (begun_by d g h) = subst (IsFirst text) (same_command (sym g ∙ e)) h

pub command_law : CommandLaw
command_law text c = (first_is text c, first_read text c)

nothing_left : (text : List ℕ) → IsSkipped text [] → first text ≡ nothing
nothing_left text h = first-on text ∙ at-nothing (skipped 0 text) (drop (skipped 0 text) text) (skipped_cut h).place

pub nothing_law : NothingLaw
nothing_law text = (λ e. go e (begins_so text), nothing_left text)
  where
    go : first text ≡ nothing → Begins text → IsSkipped text []
    go e (whole f g) = subst (IsSkipped text) f (skipped_is 0 text)
    go e (faulty fault place g) = absurd (no_nothing (sym e ∙ g))
    go e (begun_by c g h) = absurd (no_command (sym e ∙ g))

pub fault_law : FaultLaw
fault_law text = (
  λ (fault, place, e). (λ c h. no_fault (sym e ∙ first_read text c h), λ h. no_nothing (sym (nothing_left text h) ∙ e)),
  λ
      (no_first, no_skip). go no_first no_skip (begins_so text),
)
  where
    go : ((c : PlainCommand) → IsFirst text c → ⊥) → (IsSkipped text [] → ⊥) → Begins text → (fault : ParseFault) × (place : ℕ) × (first text ≡ bad fault place)
    go no_first no_skip (whole f g) = absurd (no_skip (subst (IsSkipped text) f (skipped_is 0 text)))
    go no_first no_skip (faulty fault place g) = (fault, place, g)
    go no_first no_skip (begun_by c g h) = absurd (no_first c h)
