use Rattle.std.proofs.Common.{◌≡◌, ◌∙◌, ◌++◌, ap, take, List, ℕ, refl}
use Rattle.std.proofs.lemmas.List.{take-append-drop}
use Rattle.std.proofs.lemmas.Slice.Eq.{bytes_eq-Decides}
use Rattle.tt_schedule.specs.inside.Runs.{lines_from}
use Rattle.tt_schedule.specs.ScheduleText.{heading}
use Rattle.tt_schedule.proofs.RunLemmas.{are_lines}
use Rattle.tt_schedule.proofs.reading.read.Goals as goal

pub returns-in-Good : goal.returns-in-Good
returns-in-Good c =
    let front : take 11 c.args.text.now ≡ heading = (bytes_eq-Decides (take 11 c.args.text.now) heading).0 c.in-Some.ensures.cases.0 in
    let whole = take-append-drop 11 c.args.text.now in
    let rest = c.in-Some.ensures.cases.1 in
    let read = rw c.in-Good.is at c.in_ok-runs.ensures.exact in
    let text : c.args.text.now ≡ heading ++ c.in-Some.lines.now = cc in
    record {
      exact = record {
        lines = lines_from 0 c.in-Good.runs.items;
        are_lines = are_lines c.in-Good.runs.items read.0;
        spelled = text ∙ ap (λ (lines : List ℕ). heading ++ lines) read.1;
        steps = refl;
      };
    }
