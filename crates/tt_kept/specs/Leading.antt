-- What it means that one evaluation goes on from another (thread(n)).
use Rattle.std.specs.Prelude.{ℕ, List}
use Rattle.tt_calls.specs.declared.reply.Reply.{Reply}
use Rattle.tt_calls.specs.declared.request.Request.{Request}
use Rattle.tt_kept.specs.Asking.{AsksNext, Coming}
use Rattle.tt_kept.specs.declared.kept.Kept.{Kept}

-- what is asked from one place on, is asked from the other one on
abbrev pub LeadsTo : Coming → Kept → Coming → Kept → Type 0
LeadsTo later kept before held =
    (replies : List Reply) (request : Request) (serving : List ℕ) →
    AsksNext later kept replies request serving →
    AsksNext before held replies request serving
