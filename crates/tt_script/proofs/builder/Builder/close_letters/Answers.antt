use Rattle.std.proofs.Common.{ap, ◌∙◌, sym, length, ◌==◌, ◌≡◌, false}
use Rattle.tt_script.specs.Words.{more, letters}
use Rattle.tt_script.specs.inside.Building.{before}
use Rattle.tt_script.proofs.Builds.{before-push, plain_letters, apart-letters}
use Rattle.tt_script.proofs.builder.Builder.close_letters.Goals as goal

pub returns-in_ok-push-clause-parts : goal.returns-in_ok-push-clause-parts
returns-in_ok-push-clause-parts c rest =
    let old = c.args.self.now in
    let full : (length old.letters == 0) ≡ false = cc in
    ap (λ done. before done rest) c.in_ok-push.ensures.items
    ∙ before-push old.done.items _ rest
    ∙ ap (λ part. before old.done.items (more part rest)) (plain_letters _ ∙ ap letters c.replace-letters.ensures.value)
    ∙ ap (before old.done.items) (sym (apart-letters old.letters rest full))
