use Rattle.tt_text.proofs.BraceLemmas.{matching_brace_law, balanced_law}
use Rattle.tt_text.proofs.laws.matching_brace_law.Goals as goal

pub returns : goal.returns
returns c = record { law = matching_brace_law; balanced = balanced_law }
