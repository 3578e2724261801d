use Rattle.std.specs.Bool.{one_answer}
use Rattle.tt_text.proofs.GlobLaw.{glob_law}
use Rattle.tt_text.specs.Characters.{characters}
use Rattle.tt_text.proofs.patterns.glob.Goals as goal

pub returns : goal.returns
returns c =
    let law = glob_law (characters c.args.pattern.now) (characters c.args.text.now) in
    record { matches = c.scanned-matches.ensures; answer = one_answer _ _ c.scanned-matches.ensures law }
