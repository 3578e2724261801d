use Rattle.std.proofs.Common.{sym, length-take-le}
use Rattle.tt_strings.proofs.Searches.{start_within}
use Rattle.tt_strings.proofs.finding.last_place.Goals as goal

pub slice_bounds-char_count-end : goal.slice_bounds-char_count-end
slice_bounds-char_count-end c =
    sym (length-take-le c.in-Some.start c.args.text.now (start_within c.args.needle.now c.args.text.now c.in-Some.start c.in-Some.ensures.0))
