-- The first command at a place.
use Rattle.std.proofs.Common.{◌≡◌, ℕ, ◌+◌, ◌-◌, ◌<◌, ◌≤◌, List, [], ◌∷◌, length, get_or, drop, refl, ap, sym, ◌∙◌, arith}
use Rattle.std.proofs.lemmas.List.{drop_more, drop-drop, drop_all}
use Rattle.tt_script.specs.Words.{PlainWord, nothing, bad, command}
use Rattle.tt_script.specs.Reading.{most_open, takes, fails, after, level, words, skipped, terminator_length, command_at, first, first_after}
use Rattle.tt_script.specs.declared.command.ParseFault.{ParseFault}
use Rattle.tt_script.specs.declared.command.Place.TheVariants as places
use Rattle.tt_script.proofs.CommandSteps.{after-takes, after-fails}

pub at-nothing : (start : ℕ) (text : List ℕ) → text ≡ [] → command_at start text ≡ nothing
unfolding command_at
at-nothing start text e = rw e

pub at-command : (start : ℕ) (b : ℕ) (text : List ℕ) (ws : List PlainWord) (n : ℕ) → words places.Script (level most_open) 0 (b ∷ text) ≡ takes ws n →
    command_at start (b ∷ text) ≡ command (record { words = ws; start = start; text_end = start + n; next = start + n + terminator_length (drop n (b ∷ text)) })
unfolding command_at
at-command start b text ws n e = rw (e, command_at)

pub at-fault : (start : ℕ) (b : ℕ) (text : List ℕ) (fault : ParseFault) → words places.Script (level most_open) 0 (b ∷ text) ≡ fails fault →
    command_at start (b ∷ text) ≡ bad fault start
unfolding command_at
at-fault start b text fault e = rw (e, command_at)

pub first-on : (text : List ℕ) → first text ≡ command_at (skipped 0 text) (drop (skipped 0 text) text)
unfolding first
first-on text = refl

pub same_command : (ws : List PlainWord) (a b c a' b' c' : ℕ) → a ≡ a' → b ≡ b' → c ≡ c' →
    command (record { words = ws; start = a; text_end = b; next = c }) ≡ command (record { words = ws; start = a'; text_end = b'; next = c' })
same_command ws a b c a' b' c' p q r =
    ap (λ x. command (record { words = ws; start = x; text_end = b; next = c })) p
    ∙ ap (λ x. command (record { words = ws; start = a'; text_end = x; next = c })) q
    ∙ ap (λ x. command (record { words = ws; start = a'; text_end = b'; next = x })) r

same_end : (start end : ℕ) → start ≤ end → start + (end - start) ≡ end
same_end start end h = omega arith

module _ (text : List ℕ) (from start : ℕ) (e : start ≡ from + skipped 0 (drop from text)) where
  at_start : drop (skipped 0 (drop from text)) (drop from text) ≡ drop start text
  at_start = drop-drop (skipped 0 (drop from text)) from text ∙ ap (λ k. drop k text) (sym e)

  pub first_at-nothing : start ≡ length text → first_after from (first (drop from text)) ≡ nothing
  first_at-nothing f = ap (first_after from) (first-on (drop from text) ∙ at-nothing (skipped 0 (drop from text)) _ (at_start ∙ drop_all start text (omega arith)))

  module _ (h : start < length text) where
    front : drop (skipped 0 (drop from text)) (drop from text) ≡ get_or text start 0 ∷ drop (start + 1) text
    front = at_start ∙ drop_more text start 0 h

    pub first_at-fault : (fault : ParseFault) → after start (words places.Script (level most_open) 0 (drop start text)) ≡ fails fault →
        first_after from (first (drop from text)) ≡ bad fault start
    first_at-fault fault f =
        let read = ap (words places.Script (level most_open) 0) (sym (drop_more text start 0 h))
        ∙ after-fails start (words places.Script (level most_open) 0 (drop start text)) fault f in
        ap (first_after from)
        (first-on (drop from text) ∙ ap (command_at (skipped 0 (drop from text))) front
        ∙ at-fault (skipped 0 (drop from text)) _ (drop (start + 1) text) fault read) ∙ ap (bad fault) (sym e)

    pub first_at-command : (ws : List PlainWord) (end next : ℕ) → after start (words places.Script (level most_open) 0 (drop start text)) ≡ takes ws end →
        next ≡ end + terminator_length (drop end text) →
        first_after from (first (drop from text)) ≡ command (record { words = ws; start = start; text_end = end; next = next })
    first_at-command ws end next f g =
        let s : ℕ = skipped 0 (drop from text) in
        let found = after-takes start end (words places.Script (level most_open) 0 (drop start text)) ws f in
        let order = found.1 in
        let read = ap (words places.Script (level most_open) 0) (sym (drop_more text start 0 h)) ∙ found.0 in
        let rest : drop (end - start) (get_or text start 0 ∷ drop (start + 1) text) ≡ drop end text =
        ap (drop (end - start)) (sym (drop_more text start 0 h)) ∙ drop-drop (end - start) start text
        ∙ ap (λ k. drop k text) (same_end start end order) in
        let size : terminator_length (drop (end - start) (get_or text start 0 ∷ drop (start + 1) text)) ≡ terminator_length (drop end text) =
        ap terminator_length rest in
        ap (first_after from) (first-on (drop from text) ∙ ap (command_at s) front ∙ at-command s _ (drop (start + 1) text) ws (end - start) read)
        ∙ same_command ws _ _ _ start end next (sym e) (omega arith) (omega arith)
