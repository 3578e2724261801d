use Rattle.tt_direct.proofs.Spending.{ran_on}
use Rattle.tt_direct.proofs.commands.run_words.Goals as goal

pub returns : goal.returns
returns c =
    let answers = c.in_ok-got.ensures.answers in
    record {
      runs = λ go state. ran_on c.in_ok-ran.ran c.args.words c.in_ok-got.got c.answer.new.self c.args.kept.now go state answers
          (c.in_ok-ran.ensures.ran go state);
    }
