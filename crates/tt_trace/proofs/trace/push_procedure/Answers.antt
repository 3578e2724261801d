use Rattle.std.proofs.Common.{List, ℕ, ◌++◌, ap, codes, ◌∙◌}
use Rattle.tt_trace.specs.Lines.{place_in_body}
use Rattle.tt_trace.proofs.Pieces.{in_pieces}
use Rattle.tt_trace.proofs.trace.push_procedure.Goals as goal

pub returns : goal.returns
returns c =
    let name = c.args.name.now in
    let place = place_in_body c.args.line in
    c.in_ok-push_place.ensures
    ∙ ap (λ (t : List ℕ). t ++ place) c.in_ok-push_bytes-2.ensures.pushed
    ∙ ap (λ (t : List ℕ). (t ++ name) ++ place) c.in_ok-push_bytes.ensures.pushed
    ∙ in_pieces c.args.text.now (codes "    (procedure \"") name place
