-- Lemmas for the proofs of callers.
use Rattle.std.proofs.lemmas.Fmt.{decimal_injective}
use Rattle.std.proofs.lemmas.List.{append_cancel_left}
use Rattle.std.specs.Fmt.{decimal}
use Rattle.tt_ids.specs.Ids.{IdLaw, letters}

pub ids_differ : IdLaw
ids_differ kind m n small small' e = decimal_injective m n small small' (append_cancel_left (letters kind) (decimal m) (decimal n) e)
