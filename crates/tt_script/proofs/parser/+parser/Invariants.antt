use Rattle.std.proofs.Common.{◌≡◌, ◌+◌, ◌-◌, ◌*◌, ◌<◌, ◌≤◌, false, length, drop, Ok}
use Rattle.tt_script.specs.Reading as reading
use Rattle.tt_script.specs.inside.Building.{Adds}
use Rattle.tt_script.proofs.Keeping.{Gathered}
use Rattle.tt_script.proofs.parser.+parser.Given as goal

abbrev pub decreases-words : goal.decreases-words
decreases-words l = 10 * l.depth + 9

abbrev pub decreases-word : goal.decreases-word
decreases-word l = 10 * l.depth + 8

abbrev pub decreases-word_parts : goal.decreases-word_parts
decreases-word_parts l = 10 * l.depth + 7

abbrev pub decreases-quoted : goal.decreases-quoted
decreases-quoted l = 10 * l.depth + 6

abbrev pub decreases-parts : goal.decreases-parts
decreases-parts l = 10 * l.depth + 5

abbrev pub decreases-script_parts : goal.decreases-script_parts
decreases-script_parts l = 10 * l.depth + 6

abbrev pub decreases-push_more : goal.decreases-push_more
decreases-push_more l = 10 * l.depth + 5

abbrev pub decreases-push_parts : goal.decreases-push_parts
decreases-push_parts l = 10 * l.depth + 4

abbrev pub decreases-push_part : goal.decreases-push_part
decreases-push_part l = 10 * l.depth + 3

abbrev pub decreases-variable : goal.decreases-variable
decreases-variable l = 10 * l.depth + 2

abbrev pub decreases-index : goal.decreases-index
decreases-index l = 10 * l.depth + 1

abbrev pub decreases-brackets : goal.decreases-brackets
decreases-brackets l = 10 * l.depth + 1

abbrev pub decreases-commands : goal.decreases-commands
decreases-commands l = 10 * l.depth + 10

abbrev pub invariant-commands-next_command : goal.invariant-commands-next_command
invariant-commands-next_command l = record {
  begun : l.from ≤ l.at;
  within : l.at ≤ length l.text;
  read : reading.after l.from (reading.commands (reading.level l.depth) 0 (drop l.from l.text)) ≡ reading.after l.at
      (reading.commands (reading.level l.depth) 0 (drop l.at l.text));
}

abbrev pub decreases-commands-next_command : goal.decreases-commands-next_command
decreases-commands-next_command l = length l.text - l.at

abbrev pub invariant-words-next_word : goal.invariant-words-next_word
invariant-words-next_word l = record {
  begun : l.from ≤ l.at;
  within : l.at < length l.text;
  word : reading.separates l.place (drop l.at l.text) ≡ false;
  read : Gathered l.place (reading.level l.depth) l.text l.mode l.words.items l.from l.at;
}

abbrev pub decreases-words-next_word : goal.decreases-words-next_word
decreases-words-next_word l = length l.text - l.at

abbrev pub invariant-push_parts-loop-at : goal.invariant-push_parts-loop-at
invariant-push_parts-loop-at l = record {
  begun : l.from ≤ l.at;
  within : l.at ≤ length l.text;
  mode : l.builder.mode ≡ l.fn.builder.mode;
  read : Adds (reading.level l.depth) l.ending l.text l.fn.builder l.builder (Ok l.at) l.from;
}

abbrev pub decreases-push_parts-loop-at : goal.decreases-push_parts-loop-at
decreases-push_parts-loop-at l = length l.text - l.at
