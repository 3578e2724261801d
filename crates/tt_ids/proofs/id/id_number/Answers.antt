use Rattle.tt_ids.proofs.Named.{id_is}
use Rattle.tt_ids.proofs.id.id_number.Goals as goal

pub returns : goal.returns
returns c =
    let said = c.read_id-number.ensures in
    record {
      small = said.small;
      read = said.read;
      none = said.none;
      named = id_is c.args.kind c.args.text.now c.read_id-number.result said.small said.read said.none;
    }
