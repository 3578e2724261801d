-- What info(n) reports of variables and levels.
use Rattle.std.specs.Prelude.{◌≡◌, ℕ, Bool, List, [], ◌∷◌, bytes_eq, codes, decimal, Option, Some, None, if◌then◌else◌}
use Rattle.tt_calls.specs.declared.outcome.Outcome.{Outcome}
use Rattle.tt_calls.specs.Outcomes.{error_outcome, fine}
use Rattle.tt_store.specs.declared.answers.Answer.{Answer}
use Rattle.tt_store.specs.declared.answers.Answer.TheVariants as answers
use Rattle.tt_store.specs.Commands.{Coming}
use Rattle.tt_store.specs.Held.{Held, IsThere, Refuses}
use Rattle.tt_store.specs.Levels.{HasDepth}
use Rattle.tt_calls.specs.Usages.{bad_option, wrong_number}
use Rattle.tt_variable_commands.specs.declared.levels.telling.Topic.{Topic}
use Rattle.tt_variable_commands.specs.declared.levels.telling.Topic.TheVariants as topic
use Rattle.tt_variable_commands.specs.Vocabulary.{truth}

abbrev pub topic_of : (word : List ℕ) → Option Topic
topic_of word =
    if bytes_eq word (codes "exists") then Some topic.Exists else
    if bytes_eq word (codes "level") then Some topic.Level else
    if bytes_eq word (codes "procs") then Some topic.Procs else None

abbrev pub bit : Bool → Outcome
bit there = fine (truth there)

-- info exists: whether a variable or an element is there
abbrev pub exists : (words : List (List ℕ)) → (old : Held) → Outcome → (new : Held) → Type 0
exists (name ∷ []) old outcome new =
    (there : Bool)
    × IsThere name old there
    × (outcome ≡ bit there)
    × (new ≡ old)
exists words old outcome new = Refuses (codes "info exists varName") old outcome new

-- info level: how many callers up the global frame is
abbrev pub level : (words : List (List ℕ)) → (old : Held) → Outcome → (new : Held) → Type 0
level [] old outcome new =
    (depth : ℕ)
    × HasDepth old.levels depth
    × (outcome ≡ fine (decimal depth))
    × (new ≡ old)
level (word ∷ words) old outcome new = Refuses (codes "info level") old outcome new

-- what is reported of procedures stands elsewhere
abbrev pub Tells :
    Option Topic → (word : List ℕ) → (words : List (List ℕ)) →
    (old : Held) → Answer → (new : Held) → Type 0
Tells (Some topic.Exists) word words old answer new =
    (outcome : Outcome)
    × exists words old outcome new
    × (answer ≡ answers.Outcome outcome)
Tells (Some topic.Level) word words old answer new =
    (outcome : Outcome)
    × level words old outcome new
    × (answer ≡ answers.Outcome outcome)
Tells (Some topic.Procs) word words old answer new = (answer ≡ answers.Other) × (new ≡ old)
Tells None word words old answer new = (answer ≡ answers.Outcome (error_outcome (bad_option word))) × (new ≡ old)

abbrev pub info : Coming
info usage [] old answer new = (answer ≡ answers.Outcome (error_outcome (wrong_number usage))) × (new ≡ old)
info usage (word ∷ words) old answer new = Tells (topic_of word) word words old answer new
