use Rattle.std.proofs.Common.{ap, ◌∙◌}
use Rattle.tt_script.specs.Words.{with_letters}
use Rattle.tt_script.specs.inside.Building.{before}
use Rattle.tt_script.proofs.Builds.{with_letters-++}
use Rattle.tt_script.proofs.builder.Builder.push_letters.Goals as goal

pub returns-in_ok-push_bytes-in-Keep-clause-added : goal.returns-in_ok-push_bytes-in-Keep-clause-added
returns-in_ok-push_bytes-in-Keep-clause-added c keep rest =
    let old = c.args.self.now in
    ap (λ bs. before old.done.items (with_letters bs rest)) c.in_ok-push_bytes-in-Keep.ensures.pushed
    ∙ ap (before old.done.items) (with_letters-++ old.letters c.args.bytes.now rest)
