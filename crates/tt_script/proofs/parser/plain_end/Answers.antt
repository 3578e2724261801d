use Rattle.std.proofs.Common.{arith, sym, ◌∙◌}
use Rattle.tt_script.specs.inside.Scanning.{ends_run}
use Rattle.tt_script.proofs.PartSteps.{ended_within, plain_parts_at}
use Rattle.tt_script.proofs.Scanning.{run-within}
use Rattle.tt_script.proofs.parser.plain_end.Goals as goal

pub ends_parts-requires : goal.ends_parts-requires
ends_parts-requires c = omega (arith, run-within (ends_run c.args.ending) c.args.text.now c.args.from c.requires, c.letters_end-end.ensures)

pub returns-then-ends_parts : goal.returns-then-ends_parts
returns-then-ends_parts c =
    let text = c.args.text.now in
    let end = c.letters_end-end.result in
    let within = run-within (ends_run c.args.ending) text c.args.from c.requires in
    let ends = sym c.ends_parts.ensures ∙ c.if-ends_parts.true in
    record {
      read = λ level. plain_parts_at level c.args.ending text c.args.from end (omega (arith, c.letters_end-end.ensures))
          (omega (arith, within, c.letters_end-end.ensures)) (omega (arith, c.letters_end-end.ensures)) ends;
      within = (omega (arith, c.letters_end-end.ensures), ended_within c.args.ending text end (omega (arith, within, c.letters_end-end.ensures)) ends);
      ends = ends;
    }
