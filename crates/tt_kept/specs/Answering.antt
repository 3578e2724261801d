-- What an evaluation gets for what it wants, from what its interpreter keeps (Tcl(n), vwait(n)).
use Rattle.std.specs.Prelude.{ℕ, ◌≡◌, Bool, true, false, List, [], codes}
use Rattle.tt_calls.specs.declared.outcome.Outcome.{Outcome}
use Rattle.tt_calls.specs.Outcomes.{fine}
use Rattle.tt_store.specs.Held.{IsRead, IsWritten, after_end, with_global_script, is_seen, without_watch, with_watch}
use Rattle.tt_store.specs.declared.answers.Answer.{Answer}
use Rattle.tt_store.specs.declared.answers.Answer.TheVariants as answers
use Rattle.tt_outcomes.specs.declared.got.Got.{Got}
use Rattle.tt_outcomes.specs.declared.got.Got.TheVariants as gots
use Rattle.tt_outcomes.specs.declared.want.Want.{Want}
use Rattle.tt_outcomes.specs.declared.want.Want.TheVariants as want
use Rattle.tt_kept.specs.Commands.{Runs, with_store}
use Rattle.tt_kept.specs.declared.kept.Kept.{Kept}

-- the empty value
abbrev pub nothing : Got
nothing = gots.Value (fine [])

-- 1 or 0
abbrev pub truth : Bool → Got
truth true = gots.Value (fine (codes "1"))
truth false = gots.Value (fine (codes "0"))

-- what running words comes to
abbrev pub got_of : (words : List (List ℕ)) → Answer → Got
got_of words (answers.Outcome outcome) = gots.Value outcome
got_of words (answers.Body body text) = gots.RunBody body text
got_of words answers.Other = gots.Own words

abbrev pub Answers : Want → (old : Kept) → Got → (new : Kept) → Type 0
Answers (want.ReadVar name index) old got new =
    (outcome : Outcome) × IsRead old.store name index outcome × (got ≡ gots.Value outcome) × (new ≡ old)
Answers (want.WriteVar name index value) old got new =
    (outcome : Outcome)
    × IsWritten old.store name index value outcome new.store
    × (got ≡ gots.Value outcome)
    × (new ≡ with_store old new.store)
Answers (want.RunWords words) old got new =
    (answer : Answer) × Runs words old answer new × (got ≡ got_of words answer)
Answers want.Enter old got new = (got ≡ nothing) × (new ≡ with_store old (with_global_script old.store))
Answers (want.Leave body) old got new = (got ≡ nothing) × (new ≡ with_store old (after_end old.store))
Answers (want.Watch name) old got new = (got ≡ nothing) × (new ≡ with_store old (with_watch name old.store))
Answers want.Seen old got new = (got ≡ truth (is_seen old.store)) × (new ≡ old)
Answers want.Unwatch old got new = (got ≡ nothing) × (new ≡ with_store old (without_watch old.store))
Answers (want.Ask request) old got new = ⊥
