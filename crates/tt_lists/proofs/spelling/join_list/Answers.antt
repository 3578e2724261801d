use Rattle.std.proofs.Common.{sym, ap, subst, ◌∙◌}
use Rattle.tt_lists.specs.ListText.{IsListText}
use Rattle.tt_lists.specs.Reading.{split_of}
use Rattle.tt_lists.proofs.Joining.{lists_items, splits_back}
use Rattle.tt_lists.proofs.spelling.join_list.Goals as goal

pub returns-clause-lists : goal.returns-clause-lists
returns-clause-lists c = subst (λ text. IsListText text c.args.items.now) (sym c.in_ok-text.ensures) (lists_items c.args.items.now)

pub returns-clause-splits_back : goal.returns-clause-splits_back
returns-clause-splits_back c = ap split_of c.in_ok-text.ensures ∙ splits_back c.args.items.now
