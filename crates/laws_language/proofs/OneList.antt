-- A text has one list of commands.
use Rattle.std.proofs.Common.{◌≡◌, ℕ, ◌+◌, List, [], ◌∷◌, refl, ap, sym, ◌∙◌, subst}
use Rattle.tt_code.specs.Substitution.{words_needs}
use Rattle.tt_script.specs.Words.{PlainCommand, nothing, bad, command}
use Rattle.tt_script.specs.declared.command.ParseFault.{ParseFault}
use Rattle.tt_frames.specs.Programs.{PlainStep, Does}
use Rattle.laws_language.specs.ScriptSteps.{AreCommands, no_command, unreadable, one_command}

same_command : {c d : PlainCommand} → command c ≡ command d → c ≡ d
same_command e = cc

same_fault : {fault other : ParseFault} {start also : ℕ} → bad fault start ≡ bad other also → (fault ≡ other) × (start ≡ also)
same_fault e = (cc, cc)

nothing-bad : {fault : ParseFault} {start : ℕ} → nothing ≡ bad fault start → ⊥
nothing-bad e = cc

nothing-command : {c : PlainCommand} → nothing ≡ command c → ⊥
nothing-command e = cc

bad-command : {fault : ParseFault} {start : ℕ} {c : PlainCommand} → bad fault start ≡ command c → ⊥
bad-command e = cc

-- a command before others, by what it is read as
abbrev with_command : (from : ℕ) → PlainCommand → List PlainStep → List PlainStep
with_command from c later = Does (words_needs c.words) (from + c.start) (from + c.text_end) ∷ later

pub same_commands : (text : List ℕ) (from : ℕ) (one other : List PlainStep)
    → AreCommands text from one → AreCommands text from other → one ≡ other
same_commands text from [] [] a b = refl
same_commands text from _ _ (no_command e) (unreadable f) = absurd (nothing-bad (sym e ∙ f))
same_commands text from _ _ (no_command e) (one_command f rest) = absurd (nothing-command (sym e ∙ f))
same_commands text from _ _ (unreadable e) (no_command f) = absurd (nothing-bad (sym f ∙ e))
same_commands text from _ _ (unreadable e) (unreadable f) =
    let same = same_fault (sym e ∙ f) in
    rw (same.0, same.1) refl
same_commands text from _ _ (unreadable e) (one_command f rest) = absurd (bad-command (sym e ∙ f))
same_commands text from _ _ (one_command e rest) (no_command f) = absurd (nothing-command (sym f ∙ e))
same_commands text from _ _ (one_command e rest) (unreadable f) = absurd (bad-command (sym f ∙ e))
same_commands text from _ _ (one_command {c = c} {later = later} e rest) (one_command {c = d} {later = others} f more) =
    let same : d ≡ c = sym (same_command (sym e ∙ f)) in
    let after : AreCommands text (from + c.next) others =
    subst (λ (x : PlainCommand). AreCommands text (from + x.next) others) same more in
    ap (λ (x : List PlainStep). with_command from c x) (same_commands text (from + c.next) later others rest after)
    ∙ ap (λ (x : PlainCommand). with_command from x others) (sym same)
