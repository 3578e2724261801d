use Rattle.std.proofs.Common.{sym, ◌∙◌}
use Rattle.tt_list_commands.proofs.Repeats.{IsCut, long_list, short_list}
use Rattle.tt_list_commands.proofs.repeating.repeated_after.Goals as goal

pub returns-then-not-fits : goal.returns-then-not-fits
returns-then-not-fits c =
    let cut : IsCut c.args.values.now c.in_ok-first.first c.in_ok-again.again =
    record { some = c.requires.some; begins = c.in_ok-first.ensures.canonical; adds = c.in_ok-again.ensures } in
    long_list c.args.later c.args.values.now c.in_ok-first.first c.in_ok-again.again c.in_ok-from_bytes.field-0 cut
    (sym c.fits.ensures ∙ c.if-not-fits.true) c.in_ok-from_bytes.ensures.made

pub returns : goal.returns
returns c =
    let cut : IsCut c.args.values.now c.in_ok-first.first c.in_ok-again.again =
    record { some = c.requires.some; begins = c.in_ok-first.ensures.canonical; adds = c.in_ok-again.ensures } in
    short_list c.args.later c.args.values.now c.in_ok-items.items c.in_ok-first.first c.in_ok-again.again cut
    (sym c.fits.ensures ∙ c.if-not-fits.false) c.in_ok-items.ensures
