use Rattle.std.proofs.Common.{rules}
use Rattle.std.specs.Option.{option_copied}
use Rattle.tt_vars.proofs.HereLemmas.{reads-here}
use Rattle.tt_vars.proofs.vars.Vars.read.Goals as goal

pub returns-in-Some : goal.returns-in-Some
returns-in-Some c = record {
  read = reads-here c.args.self.now c.args.frame c.args.name.now c.frame_in.result.now (search rules) (option_copied c.args.index)
      c.in-Some.value.now (search rules) (search rules);
}
