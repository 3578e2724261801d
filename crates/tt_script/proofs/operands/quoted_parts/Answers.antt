use Rattle.std.proofs.Common.{sym, ◌∙◌}
use Rattle.tt_script.specs.Operands.{quoted_text}
use Rattle.tt_script.specs.Plain.{plain_parts}
use Rattle.tt_script.proofs.Keeping.{kept}
use Rattle.tt_script.proofs.Readers.{after-zero}
use Rattle.tt_script.proofs.operands.quoted_parts.Goals as goal

pub returns-in-Ok-clause-read : goal.returns-in-Ok-clause-read
returns-in-Ok-clause-read c =
    sym (after-zero (quoted_text c.args.text.now)) ∙ kept (λ parts. plain_parts parts.items) c.in-Ok.found _ c.in-Ok.ensures.read
