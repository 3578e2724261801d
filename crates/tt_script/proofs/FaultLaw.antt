-- The fault that is answered is the first from the left.
use Rattle.std.proofs.Common.{◌≡◌, ℕ, ◌<◌, List, [], ◌∷◌, length, drop, refl, ap, sym, ◌∙◌, subst, arith}
use Rattle.tt_script.specs.Words.{PlainWord, PlainCommand, nothing, bad, command}
use Rattle.tt_script.specs.Reading.{most_open, Read, takes, fails, level, words, skipped, command_at, first}
use Rattle.tt_script.specs.Grammar.{IsSkipped}
use Rattle.tt_script.specs.FaultGrammar.{IsFirstFault}
use Rattle.tt_script.specs.GrammarLaw.{FirstFaultLaw}
use Rattle.tt_script.specs.declared.command.ParseFault.{ParseFault}
use Rattle.tt_script.specs.declared.command.Place.TheVariants as places
use Rattle.tt_script.proofs.Cuts.{skipped_cut}
use Rattle.tt_script.proofs.IntoCuts.{skipped_is, skipped_end-none}
use Rattle.tt_script.proofs.IntoGrammar.{script_begins}
use Rattle.tt_script.proofs.FirstSteps.{at-nothing, at-command, at-fault, first-on}
use Rattle.tt_script.proofs.FromFaults.{words_fail, words_fault_some}
use Rattle.tt_script.proofs.IntoFaults.{words_faulty}

fault_read : (start : ℕ) (text : List ℕ) (fault : ParseFault) → 0 < length text → words places.Script (level most_open) 0 text ≡ fails fault →
    command_at start text ≡ bad fault start
fault_read start [] fault h e = absurd (omega arith)
fault_read start (b ∷ text) fault h e = at-fault start b text fault e

-- from the relation to the function
fault_met : (text : List ℕ) (fault : ParseFault) (place : ℕ) → IsFirstFault text fault place → first text ≡ bad fault place
fault_met text fault place h =
    let skip = skipped_cut h.skipped in
    let here : skipped 0 text ≡ place = omega (arith, skip.size, h.start) in
    first-on text ∙ ap (command_at (skipped 0 text)) skip.place
    ∙ fault_read (skipped 0 text) h.begun fault (words_fault_some h.words) (words_fail h.words) ∙ ap (bad fault) here

same_fault : {fault other : ParseFault} {m n : ℕ} → bad fault m ≡ bad other n → fault ≡ other
same_fault e = cc

same_place : {fault other : ParseFault} {m n : ℕ} → bad fault m ≡ bad other n → m ≡ n
same_place e = cc

no_nothing : {fault : ParseFault} {n : ℕ} → nothing ≡ bad fault n → ⊥
no_nothing e = cc

no_command : {c : PlainCommand} {fault : ParseFault} {n : ℕ} → command c ≡ bad fault n → ⊥
no_command e = cc

-- from the function to the relation
fault_is : (text : List ℕ) (fault : ParseFault) (place : ℕ) → first text ≡ bad fault place → IsFirstFault text fault place
fault_is text fault place r = go (drop (skipped 0 text) text) refl
  where
    here : (xs : List ℕ) → drop (skipped 0 text) text ≡ xs → command_at (skipped 0 text) xs ≡ bad fault place
    here xs e = ap (command_at (skipped 0 text)) (sym e) ∙ sym (first-on text) ∙ r

    words_so : (b : ℕ) (xs : List ℕ) → drop (skipped 0 text) text ≡ b ∷ xs → (q : Read (List PlainWord)) →
        words places.Script (level most_open) 0 (b ∷ xs) ≡ q → IsFirstFault text fault place
    words_so b xs e (takes ws n) f = absurd (no_command (sym (at-command (skipped 0 text) b xs ws n f) ∙ here (b ∷ xs) e))
    words_so b xs e (fails other) f =
        let answer = sym (at-fault (skipped 0 text) b xs other f) ∙ here (b ∷ xs) e in
        let skip : IsSkipped text (b ∷ xs) = subst (IsSkipped text) e (skipped_is 0 text) in
        record {
          begun = b ∷ xs;
          skipped = skip;
          words = words_faulty most_open (b ∷ xs) fault (script_begins (b ∷ xs) (skipped_end-none skip) (omega arith)) (f ∙ ap fails (same_fault answer));
          start = omega (arith, (skipped_cut skip).size, same_place answer);
        }

    go : (xs : List ℕ) → drop (skipped 0 text) text ≡ xs → IsFirstFault text fault place
    go [] e = absurd (no_nothing (sym (at-nothing (skipped 0 text) [] refl) ∙ here [] e))
    go (b ∷ xs) e = words_so b xs e (words places.Script (level most_open) 0 (b ∷ xs)) refl

pub first_fault_law : FirstFaultLaw
first_fault_law text fault place = (fault_is text fault place, fault_met text fault place)
