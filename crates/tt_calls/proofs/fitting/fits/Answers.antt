use Rattle.std.proofs.Common.{◌≡◌, sym, ◌∙◌}
use Rattle.std.specs.List.{list_any}
use denote.Enum.Bare.{sameb}
use Rattle.tt_calls.specs.Fitting.{shape_of, shapes_for}
use Rattle.tt_calls.specs.contracts.reply.Shape.{the_type}
use Rattle.tt_calls.proofs.Shapes.{found, finds}
use Rattle.tt_calls.proofs.fitting.fits.Goals as goal

pub returns : goal.returns
returns c =
    let is : c.contains.result ≡ list_any (λ y. sameb the_type y (shape_of c.args.reply.now)) (shapes_for c.args.request.now) =
    c.contains.ensures.value ∙ (λ i. list_any (λ y. sameb the_type y (c.shape.ensures.shape i)) (c.shapes_for.ensures i)) in
    record {
      fits = (
        (λ yes. found (shape_of c.args.reply.now) (shapes_for c.args.request.now) (sym is ∙ yes)),
        (λ has. is ∙ finds (shape_of c.args.reply.now) (shapes_for c.args.request.now) has),
      );
    }
