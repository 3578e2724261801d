use Rattle.tt_strings.proofs.Ranges.{front_characters, rest_within, text_of}
use Rattle.tt_strings.proofs.places.leading.Goals as goal

pub slice_bounds-result-count : goal.slice_bounds-result-count
slice_bounds-result-count c = rest_within c.args.text.now c.after-rest.result.now c.args.count c.after-rest.ensures

pub returns-clause-text : goal.returns-clause-text
returns-clause-text c = text_of _ _ (front_characters c.args.text.now c.after-rest.result.now c.args.count c.after-rest.ensures)

pub returns-clause-characters : goal.returns-clause-characters
returns-clause-characters c = front_characters c.args.text.now c.after-rest.result.now c.args.count c.after-rest.ensures
