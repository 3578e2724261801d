use Rattle.tt_ids.proofs.Named.{named_is}
use Rattle.tt_ids.proofs.number.number_of.Goals as goal

pub returns : goal.returns
returns c =
    let said = c.read_number-number.ensures in
    record {
      small = said.small;
      read = said.read;
      none = said.none;
      named = named_is c.args.text.now c.read_number-number.result said.small said.read said.none;
    }
