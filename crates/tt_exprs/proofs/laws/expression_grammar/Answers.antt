use Rattle.tt_exprs.proofs.ExprLaw.{tree_law, depth_law, form_law}
use Rattle.tt_exprs.proofs.laws.expression_grammar.Goals as goal

pub returns : goal.returns
returns c = record { tree = tree_law; depth = depth_law; form = form_law }
