use Rattle.std.proofs.Common.{ap, ◌∙◌, sym}
use Rattle.tt_script.specs.Words.{none}
use Rattle.tt_script.specs.inside.Building.{before}
use Rattle.tt_script.proofs.Builds.{before-none, apart-none}
use Rattle.tt_script.proofs.builder.Builder.finish.Goals as goal

pub returns : goal.returns
returns c =
    sym (before-none c.close_letters.new.self.done.items)
    ∙ c.in_ok-close_letters.ensures.parts none
    ∙ ap (before c.args.self.now.done.items) (sym (apart-none c.args.self.now.letters))
