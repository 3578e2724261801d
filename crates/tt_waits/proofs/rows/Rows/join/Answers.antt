use Rattle.std.proofs.Common.{◌∙◌, ap, length, refl, sym}
use Rattle.std.specs.Vec.{with_items}
use Rattle.std.proofs.lemmas.List.{with_items_is}
use Rattle.tt_waits.proofs.Bits.{same_or_apart}
use Rattle.tt_waits.proofs.Marking.{marks_joined_from}
use Rattle.tt_waits.proofs.rows.Rows.join.Goals as goal

pub join_words-requires-clause-apart : goal.join_words-requires-clause-apart
join_words-requires-clause-apart c = same_or_apart c.args.other c.args.into c.args.self.now.width

pub returns-clause-marks : goal.returns-clause-marks
returns-clause-marks c =
    let rows = c.args.self.now in
    let joined = c.join_words.new.words in
    marks_joined_from rows (record { count = rows.count; width = rows.width; words = with_items rows.words joined; filled = _; wide = _ }) refl refl
    c.as_mut_slice.result.now joined c.args.into c.args.other c.as_mut_slice.ensures.value c.requires.into c.requires.other
    (with_items_is rows.words joined (c.join_words.ensures.length ∙ ap length c.as_mut_slice.ensures.value ∙ sym rows.words.ok.0))
    c.join_words.ensures.joined c.join_words.ensures.others
