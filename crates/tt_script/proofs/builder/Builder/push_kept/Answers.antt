use Rattle.std.proofs.Common.{rules, ◌≡◌, ap, ◌∙◌, sym, ◌++◌, ◌∷◌, []}
use Rattle.tt_script.specs.Words.{PlainPart, letters, with_letters, with_part, more}
use Rattle.tt_script.specs.Plain.{plain_part}
use Rattle.tt_script.specs.inside.Building.{before}
use Rattle.tt_script.proofs.Builds.{before-push, other_part, plain_letters, with_letters-++}
use Rattle.tt_script.proofs.builder.Builder.push_kept.Goals as goal

pub returns-clause-added : goal.returns-clause-added
returns-clause-added c rest =
    let old = c.args.self.now in
    let whole = with_letters old.letters (with_part (plain_part c.args.part) rest) in
    ap (λ bs. before c.push_whole.new.self.done.items (with_letters bs rest)) c.push_whole.ensures.letters
    ∙ ap (λ done. before done (with_letters c.close_letters.new.self.letters rest)) c.in_ok-push_whole.ensures.done
    ∙ ap (λ bs. before (c.close_letters.new.self.done.items ++ c.args.part ∷ []) (with_letters bs rest)) c.in_ok-close_letters.ensures.letters
    ∙ before-push c.close_letters.new.self.done.items c.args.part rest
    ∙ c.in_ok-close_letters.ensures.parts (more (plain_part c.args.part) rest)
    ∙ ap (before old.done.items) (sym (other_part c.args.part c.in_default.not-Letters old.letters rest))

pub returns-in-Letters-clause-added : goal.returns-in-Letters-clause-added
returns-in-Letters-clause-added c rest =
    let old = c.args.self.now in
    let bytes = c.as_bytes.result.now in
    let is : plain_part c.args.part ≡ letters bytes = search (plain_letters, rules) in
    ap (λ bs. before old.done.items (with_letters bs rest)) c.in_ok-push_bytes.ensures.pushed
    ∙ ap (before old.done.items) (with_letters-++ old.letters bytes rest)
    ∙ ap (λ (part : PlainPart). before old.done.items (with_letters old.letters (with_part part rest))) (sym is)
