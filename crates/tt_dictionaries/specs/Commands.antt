-- dict(n), over what an interpreter keeps of variables.
use Rattle.std.specs.Prelude.{◌≡◌, ℕ, Bool, true, false, not, ◌&&◌, bytes_eq, List, [], ◌∷◌, codes}
use Rattle.tt_calls.specs.declared.outcome.Outcome.{Outcome}
use Rattle.tt_dict.specs.Changing.{change_answer}
use Rattle.tt_dict.specs.Table.{call_of}
use Rattle.tt_dict.specs.declared.call.DictCall.{DictCall}
use Rattle.tt_dict.specs.declared.call.DictCall.TheVariants.{Done, Variable, Loop}
use Rattle.tt_pairs.specs.Reading.{reading_of}
use Rattle.tt_script.specs.Names.{plain_name}
use Rattle.tt_store.specs.Held.{Held}
use Rattle.tt_store.specs.Scalars.{Changes}
use Rattle.tt_store.specs.declared.answers.Answer.{Answer}
use Rattle.tt_store.specs.declared.answers.Answer.TheVariants as answers

-- a variable's value is read, a missing one as the empty dictionary, and what the change makes of it is written
abbrev pub RunsCall : DictCall → (old : Held) → Answer → (new : Held) → Type 0
RunsCall (Done outcome) old answer new = (answer ≡ answers.Outcome outcome) × (new ≡ old)
RunsCall (Variable name change) old answer new =
    (outcome : Outcome)
    × Changes name [] (λ text. change_answer change (reading_of text)) old outcome new
    × (answer ≡ answers.Outcome outcome)
RunsCall (Loop looping) old answer new = (answer ≡ answers.Other) × (new ≡ old)

-- another command changes nothing
abbrev pub RunsIf : (named : Bool) → (words : List (List ℕ)) → (old : Held) → Answer → (new : Held) → Type 0
RunsIf false words old answer new = (answer ≡ answers.Other) × (new ≡ old)
RunsIf true words old answer new = RunsCall (call_of words) old answer new

-- the name is that of dict(n)
abbrev pub is_dict : (word : List ℕ) → Bool
is_dict word = bytes_eq (plain_name word) (codes "dict")

-- a loop evaluates scripts, and is none of the commands here
abbrev pub loops : (words : List (List ℕ)) → Bool
loops [] = false
loops (word ∷ words) = bytes_eq word (codes "for")

-- what a whole command comes to, its name first
abbrev pub Runs : (words : List (List ℕ)) → (old : Held) → Answer → (new : Held) → Type 0
Runs [] old answer new = (answer ≡ answers.Other) × (new ≡ old)
Runs (word ∷ words) old answer new = RunsIf (is_dict word && not (loops words)) words old answer new
