-- Runs by the grammar and by the function.
use Rattle.std.proofs.Common.{◌≡◌, ℕ, zero, suc, ◌+◌, ◌≤◌, Bool, List, [], ◌∷◌, ◌++◌, length, drop, refl, sym, ap}
use Rattle.std.proofs.Common.{subst, ◌∙◌, inl, inr, arith, drop-drop, length-drop}
use Rattle.std.proofs.lemmas.Bool.{cases_Bool, cases_eq}
use Rattle.tt_text.specs.Backslash.{backslash}
use Rattle.tt_lists.specs.ListText.{IsRun}
use Rattle.tt_lists.specs.ListText.IsRun.{at_end, stopped, letter, escape}
use Rattle.tt_lists.specs.Reading.{front_run, prepend}
use Rattle.tt_lists.specs.declared.run.Run.{Run}
use Rattle.tt_lists.proofs.Runs.{joined, same_run, backslash_le, run-stopped, run-letter, run-escape, run-escape_kept}

-- what follows one byte and n more
pub drop_next : (n b : ℕ) (text : List ℕ) → drop (1 + n) (b ∷ text) ≡ drop n text
drop_next n b text = let e : 1 + n ≡ suc n = omega arith in ap (λ k. drop k (b ∷ text)) e

-- the function's run is one by the grammar
pub run_sound : (stops : ℕ → Bool) (passed : ℕ) (text : List ℕ) → passed ≤ length text →
    IsRun stops (drop passed text) (front_run stops passed text).value (drop (front_run stops passed text).takes text)
run_sound stops zero [] h = at_end
run_sound stops (suc passed) [] h = absurd (omega arith)
run_sound stops (suc passed) (b ∷ text) h =
    subst (IsRun stops (drop passed text) (front_run stops passed text).value) (sym (drop_next (front_run stops passed text).takes b text))
    (run_sound stops passed text (omega arith))
run_sound stops zero (b ∷ text) h =
    let P : Run → Type 0 = λ r. IsRun stops (b ∷ text) r.value (drop r.takes (b ∷ text)) in
    elim (cases_Bool (stops b)) [
      | inl p ↦ subst P (sym (run-stopped stops b text p)) (stopped p)
      | inr p ↦ elim (cases_eq b 92) [
        | inl q ↦ (let s = backslash text in let r = front_run stops s.takes text in subst P (sym (run-escape_kept stops b text p q)) (subst (IsRun stops (b ∷ text) (s.value ++ r.value)) (sym (drop_next r.takes b text)) (escape p q (run_sound stops s.takes text (backslash_le text)) refl)))
        | inr q ↦ (let r = front_run stops zero text in subst P (sym (run-letter stops b text p q)) (subst (IsRun stops (b ∷ text) (b ∷ r.value)) (sym (drop_next r.takes b text)) (letter p q (run_sound stops zero text (omega arith)))))
      ]
    ]

-- a run by the grammar, as the function reads it
pub record ReadsRun (stops : ℕ → Bool) (text value rest : List ℕ) : Type 0 where
  pub takes : ℕ
  pub is : front_run stops 0 text ≡ record { value = value; takes = takes }
  pub cut : drop takes text ≡ rest
  pub size : takes + length rest ≡ length text

pub run_complete : {stops : ℕ → Bool} {text value rest : List ℕ} → IsRun stops text value rest → ReadsRun stops text value rest
run_complete at_end = record { takes = 0; is = refl; cut = refl; size = refl }
run_complete {stops} (stopped {b} {text} h) = record { takes = 0; is = run-stopped stops b text h; cut = refl; size = omega arith }
run_complete {stops} (letter {b} {text} {value} {rest} h e r) =
    let q = run_complete r in
    record {
      takes =
          1 + q.takes;
      is = run-letter stops b text h e ∙ ap (prepend (b ∷ [])) q.is;
      cut = drop_next q.takes b text ∙ q.cut;
      size = omega (arith, q.size);
    }
run_complete {stops} (escape {b} {text} {whole} {value} {rest} h e r w) =
    let q = run_complete r in
    let s = backslash text in
    record {
      takes = 1 + s.takes + q.takes;
      is = run-escape stops b text h e ∙ ap (joined s.value (1 + s.takes)) q.is ∙ same_run _ _ _ _ (sym w) refl;
      cut = (let n : 1 + s.takes + q.takes ≡ 1 + (s.takes + q.takes) = omega arith in ap (λ k. drop k (b ∷ text)) n ∙ drop_next (s.takes + q.takes) b text ∙ sym (drop-drop q.takes s.takes text) ∙ q.cut);
      size = omega (arith, q.size, length-drop s.takes text, backslash_le text);
    }
