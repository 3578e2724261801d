use Rattle.std.proofs.Common.{rules}
use Rattle.std.proofs.lemmas.Map.Made.{map_same_pairs}
use Rattle.tt_slots.specs.Waiting.{slot_after_end}
use Rattle.tt_slots.proofs.slots.Slots.die_all.Goals as goal

pub returns : goal.returns
returns c =
    let e = map_same_pairs _ (slot_after_end c.args.target) _ (λ k v b w f' t. search rules) _ _ c.retain.ensures.filtered in
    record { died = search (rules, e) }
