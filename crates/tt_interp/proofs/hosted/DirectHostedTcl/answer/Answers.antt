use Rattle.std.proofs.Common.{rules}
use Rattle.tt_kept.specs.Answering.{Answers}
use Rattle.tt_interp.proofs.Following.{answered_so}
use Rattle.tt_interp.proofs.hosted.DirectHostedTcl.answer.Goals as goal

pub returns-in_ok-got-in_default : goal.returns-in_ok-got-in_default
returns-in_ok-got-in_default c =
    let gives : Answers c.args.want c.args.host.now c.in_ok-got-in_default.got c.answer.new.self = search rules in
    record {
      answered =
          λ coming serving is. answered_so c.args.want c.in_ok-got-in_default.got coming serving c.answer.new.self c.args.host.now is gives;
    }
