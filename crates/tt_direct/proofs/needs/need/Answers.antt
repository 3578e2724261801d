use Rattle.std.proofs.Common.{rules, None, Some}
use Rattle.tt_direct.proofs.Needing.{read_on}
use Rattle.tt_direct.proofs.needs.need.Goals as goal

pub returns-in_ok-needed-in-Variable : goal.returns-in_ok-needed-in-Variable
returns-in_ok-needed-in-Variable c =
    let answers = c.in_ok-ending-in-Variable.ensures.answers in
    record {
      needs = read_on c.in_ok-needed-in-Variable.needed c.args.running.now c.advance.new.self c.give.new.running c.in-Variable.name None
          answers.0 c.in_ok-ending-in-Variable.ending c.read.new.kept c.args.kept.now (search rules) (search rules) (search rules)
          c.in_ok-needed-in-Variable.ensures;
    }

pub returns-in_ok-needed-in-Element : goal.returns-in_ok-needed-in-Element
returns-in_ok-needed-in-Element c =
    let answers = c.in_ok-ending-in-Element.ensures.answers in
    record {
      needs = read_on c.in_ok-needed-in-Element.needed c.args.running.now c.advance.new.self c.give-in-Element.new.running c.in-Element.name
          (Some c.in-Element.index) answers.0 c.in_ok-ending-in-Element.ending c.read-in-Element.new.kept c.args.kept.now (search rules)
          (search rules) (search rules) c.in_ok-needed-in-Element.ensures;
    }
