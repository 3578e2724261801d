use Rattle.std.proofs.Common.{sym}
use Rattle.tt_text.proofs.BraceSearch.{closes_alone, ends_alone}
use Rattle.tt_text.proofs.braces.matching_brace.Goals as goal

pub returns-in-Closes-clause-place : goal.returns-in-Closes-clause-place
returns-in-Closes-clause-place c = sym (closes_alone c.args.text.now c.in-Closes.place c.in-Closes.ensures)

pub returns-in-Ends-clause-place : goal.returns-in-Ends-clause-place
returns-in-Ends-clause-place c = sym (ends_alone c.args.text.now _ _ c.in-Ends.ensures)
