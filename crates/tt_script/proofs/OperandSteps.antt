-- Operands of an expression are parts of a word.
use Rattle.std.proofs.Common.{◌≡◌, ℕ, ◌+◌, List, refl, ap, sym, subst, ◌∙◌}
use Rattle.tt_script.specs.Words.{PlainPart, script}
use Rattle.tt_script.specs.inside.Parsing.{Refuses}
use Rattle.tt_script.specs.Reading.{Read, takes, fails, after, and_then, Level, part, dollar}
use Rattle.tt_script.specs.declared.command.ParseFault.{ParseFault}
use Rattle.tt_script.specs.declared.stop.Stop.{Stop}
use Rattle.tt_script.specs.declared.stop.Stop.TheVariants.{Fault}
use Rattle.tt_script.proofs.Readers.{after-zero}
use Rattle.tt_script.proofs.PartSteps.{part-dollar, part-brackets}

-- a fault that is answered is that of the text
pub refused : {A : Type 0} (e : Stop) (fault : ParseFault) (read : Read A) → e ≡ Fault fault → Refuses e (after 0 read) → read ≡ fails fault
refused e fault read is h = let at_fault : after 0 read ≡ fails fault = subst (λ stop. Refuses stop (after 0 read)) is h in sym (after-zero read) ∙ at_fault

pub variable-part : (level : Level) (text : List ℕ) (r : Read PlainPart) → after 0 (dollar level text) ≡ r → part level 36 text ≡ r
variable-part level text r e = part-dollar level 36 text refl ∙ sym (after-zero (dollar level text)) ∙ e

pub script-part : (level : Level) (text inside : List ℕ) (n : ℕ) → after 0 (level.brackets text) ≡ takes inside n →
    part level 91 text ≡ takes (script inside) (n + 1)
script-part level text inside n e =
    part-brackets level 91 text refl refl
    ∙ ap (λ r. and_then r (λ inside n. takes (script inside) (n + 1))) (sym (after-zero (level.brackets text)) ∙ e)

pub script-fault : (level : Level) (text : List ℕ) (fault : ParseFault) → level.brackets text ≡ fails fault → part level 91 text ≡ fails fault
script-fault level text fault e =
    part-brackets level 91 text refl refl
    ∙ ap (λ r. and_then r (λ inside n. takes (script inside) (n + 1))) e
