use Rattle.std.proofs.Common.{refl}
use Rattle.tt_evaluation.specs.Evaluation.{eval}
use Rattle.tt_frames.specs.Programs.{steps_of}
use Rattle.tt_script.specs.Reading.{braced, command_at, first, gap, joined_lines, part, parts, skipped, word, word_parts, words}
use Rattle.laws_pauses.proofs.laws.worked_pauses.Goals as goal

-- they are computed
pub returns : goal.returns
unfolding eval steps_of braced command_at first gap joined_lines part parts skipped word word_parts words
returns c = record { wants = refl; pauses = refl; ends = refl }
