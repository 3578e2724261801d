use Rattle.std.proofs.Common.{drop, refl, ap, ◌∙◌}
use Rattle.tt_format.proofs.Layouts.{letters_field}
use Rattle.tt_format.proofs.fields.read_letters.Goals as goal

pub returns-clause-part : goal.returns-clause-part
returns-clause-part c =
    let template = c.args.template.now in (
      record {
        width = 0;
        width_is = refl;
        prints = letters_field template c.split_at.result.0.now c.in_ok-from_bytes.field-0 c.letter_count.result c.letter_count.ensures.count c.split_at.ensures.front
            c.in_ok-from_bytes.ensures.made;
      },
      c.split_at.ensures.back ∙ ap (λ k. drop k template) c.letter_count.ensures.count,
      refl,
    )
