use Rattle.std.proofs.Common.{not, rules}
use Rattle.std.proofs.lemmas.Map.Made.{filter_same_pairs}
use Rattle.tt_shared.specs.Mail.{is_owed}
use Rattle.tt_shared.proofs.posts.Posts.end.Goals as goal

pub returns : goal.returns
returns c =
    let e = filter_same_pairs _ (λ entry. not (is_owed c.args.target entry.1)) _ (λ k v b w f' t. search rules) _ _ c.retain.ensures.filtered in
    record { ended = search (rules, e) }
