use Rattle.tt_session.proofs.reporting.text_of_races.Goals as goal

pub returns : goal.returns
returns c = record {
  races = c.in_ok-races.races;
  found = c.in_ok-races.ensures.races;
  text = c.in_ok-text.ensures.text;
}
