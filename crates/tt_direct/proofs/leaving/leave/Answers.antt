use Rattle.std.proofs.Common.{rules}
use Rattle.tt_direct.proofs.Staying.{put_below}
use Rattle.tt_direct.proofs.leaving.leave.Goals as goal

pub returns : goal.returns
returns c =
    record {
      left = λ kept held whole before here on.
          put_below c.args.next c.args.frame c.args.place whole c.args.stack.now c.put.new.stack before here on (search rules) (search rules)
          (search rules);
    }
