-- The same is asked where the same comes.
use Rattle.std.proofs.Common.{◌≡◌, ℕ, List, [], ◌∷◌, sym, ◌∙◌}
use Rattle.tt_calls.specs.declared.reply.Reply.{Reply}
use Rattle.tt_calls.specs.declared.request.Request.{Request}
use Rattle.tt_outcomes.specs.declared.got.Got.{Got}
use Rattle.tt_outcomes.specs.declared.got.Got.TheVariants as gots
use Rattle.tt_kept.specs.Asking.{AsksNext, Coming, having, asks, after_reply, answered, ends}
use Rattle.tt_kept.specs.declared.kept.Kept.{Kept}

abbrev pub AreSame : Coming → Coming → Type 0
AreSame one other = (gots : List Got) → one gots ≡ other gots

same_after : {one other : Coming} (got : Got) → AreSame one other → AreSame (having got one) (having got other)
same_after got same gots = same (got ∷ gots)

-- the same is asked where the same comes
pub same_asked : {one other : Coming} {kept : Kept} {replies : List Reply} {request : Request} {serving : List ℕ}
    → AreSame one other → AsksNext one kept replies request serving → AsksNext other kept replies request serving
same_asked same (asks is) = asks (sym (same []) ∙ is)
same_asked same (after_reply {reply = reply} is goes rest) =
    after_reply (sym (same []) ∙ is) goes (same_asked (same_after (gots.Reply reply) same) rest)
same_asked same (answered got is gives rest) =
    answered got (sym (same []) ∙ is) gives (same_asked (same_after got same) rest)
same_asked same (ends is) = ends (sym (same []) ∙ is)
