use Rattle.std.proofs.Common.{rules}
use Rattle.std.proofs.lemmas.Map.Made.{filter_same_pairs, map_same_pairs}
use Rattle.tt_chans.specs.Ends.{after_end, stays_open}
use Rattle.tt_chans.proofs.chans.Chans.end.Goals as goal

pub returns : goal.returns
returns c =
    let open_still = filter_same_pairs _ (λ entry. stays_open c.args.thread entry.1) _ (λ k v b w f' t. search rules) _ _ c.retain.ensures.filtered in
    let moved = map_same_pairs _ (after_end c.args.thread) _ (λ k v b w f' t. search rules) _ _ c.retain-2.ensures.filtered in
    record { ended = search (rules, open_still, moved) }
