use Rattle.tt_exprs.proofs.TokenLaw.{token_law}
use Rattle.tt_exprs.proofs.TextTree.{text_tree_law, text_error_law}
use Rattle.tt_exprs.proofs.laws.expression_text.Goals as goal

pub returns : goal.returns
returns c = record { tokens = token_law; tree = text_tree_law; error = text_error_law }
