-- Links to variables (global(n), upvar(n)).
use Rattle.std.specs.Prelude.{◌≡◌, ℕ, nat_lt, Bool, true, false, ◌||◌, ◌==◌, is_some, List, [], ◌∷◌, length, Option}
use Rattle.std.specs.Prelude.{Some, None}
use Rattle.tt_calls.specs.declared.outcome.Outcome.{Outcome}
use Rattle.tt_calls.specs.Outcomes.{fine}
use Rattle.tt_vars.specs.declared.answers.Linked.{Linked}
use Rattle.tt_vars.specs.declared.answers.Linked.TheVariants.{Yes, Exists, Itself}
use Rattle.tt_vars.specs.Variables.{Name}
use Rattle.tt_store.specs.Held.{Fails, Held, LinksTo, Meaning, Refuses}
use Rattle.tt_script.specs.Names.{global_of, plain_name}
use Rattle.tt_store.specs.Scalars.{outcome_by}
use Rattle.tt_variable_commands.specs.Counting.{IsFrame}
use Rattle.tt_variable_commands.specs.LevelMessages.{bad_level, bad_name, in_use, to_itself}
use Rattle.tt_variable_commands.specs.LevelWords.{is_odd, level_and_words}
use Rattle.tt_variable_commands.specs.Vocabulary.{is_element}

-- ---- one link ----

-- the message, if there is no link
abbrev pub message_of : (word : Name) → Linked → Option (List ℕ)
message_of word Yes = None
message_of word Exists = Some (in_use word)
message_of word Itself = Some to_itself

-- a local name, which a word gives, becomes a link to what another word names in a frame; `bad`: it can't be a link's
abbrev pub LinksOne :
    (bad : Bool) → (word local : Name) → (frame : ℕ) → (other : Name) →
    (old : Held) → (message : Option (List ℕ)) → (new : Held) → Type 0
LinksOne true word local frame other old message new = (message ≡ Some (bad_name word)) × (new ≡ old)
LinksOne false word local frame other old message new =
    (answer : Linked)
    × LinksTo old local frame other new answer
    × (message ≡ message_of word answer)

-- ---- one after the other ----

-- each is linked in turn, up to the first that can't be; then its message is the answer
pub data Each {X : Type 0} (Links : X → Held → Option (List ℕ) → Held → Type 0) :
    List X → (old : Held) → (message : Option (List ℕ)) → (new : Held) → Type 0
  where
    none : {held : Held} → Each Links [] held None held
    more : {x : X} {xs : List X} {old next new : Held} {message : Option (List ℕ)} →
        Links x old None next →
        Each Links xs next message new →
        Each Links (x ∷ xs) old message new
    fails : {x : X} {xs : List X} {message : List ℕ} {old new : Held} →
        Links x old (Some message) new →
        Each Links (x ∷ xs) old (Some message) new

-- ---- global(n) ----

-- a name, without a leading `::`, becomes a link to the global variable
abbrev pub LinksName :
    (word : Name) →
    (old : Held) → (message : Option (List ℕ)) → (new : Held) → Type 0
LinksName word old message new =
    LinksOne (is_element (plain_name word)) word (plain_name word) 0 word old message new

-- at global level nothing is done
abbrev pub GlobalBy :
    (is_global : Bool) → (names : List Name) →
    (old : Held) → Outcome → (new : Held) → Type 0
GlobalBy true names old outcome new = (outcome ≡ fine []) × (new ≡ old)
GlobalBy false names old outcome new =
    (message : Option (List ℕ))
    × Each LinksName names old message new
    × (outcome ≡ outcome_by message)

abbrev pub global : Meaning
global usage names old outcome new = GlobalBy (old.levels.current == 0) names old outcome new

-- ---- upvar(n) ----

-- a local name becomes a link to what another name names in a frame
abbrev pub LinksPair :
    (frame : ℕ) → (names : Name × Name) →
    (old : Held) → (message : Option (List ℕ)) → (new : Held) → Type 0
LinksPair frame (other, local) old message new =
    LinksOne (is_element local || is_some (global_of local)) local local frame other old message new

-- other names, and the local ones after them
abbrev pub pairs_of : (names : List Name) → List (Name × Name)
pairs_of [] = []
pairs_of (other ∷ []) = []
pairs_of (other ∷ local ∷ names) = (other, local) ∷ pairs_of names

abbrev pub LinksIn :
    (level : Name) → (frame : Option ℕ) → (names : List Name) →
    (old : Held) → Outcome → (new : Held) → Type 0
LinksIn level None names old outcome new = Fails (bad_level level) old outcome new
LinksIn level (Some frame) names old outcome new =
    (message : Option (List ℕ))
    × Each (LinksPair frame) (pairs_of names) old message new
    × (outcome ≡ outcome_by message)

-- the level is looked at before the names
abbrev pub LinksFrom :
    (level_and_names : Name × List Name) →
    (old : Held) → Outcome → (new : Held) → Type 0
LinksFrom (level, names) old outcome new =
    (frame : Option ℕ)
    × IsFrame level old.levels frame
    × LinksIn level frame names old outcome new

abbrev pub UpvarBy : (is_short : Bool) → Meaning
UpvarBy true usage words old outcome new = Refuses usage old outcome new
UpvarBy false usage words old outcome new = LinksFrom (level_and_words (is_odd words) words) old outcome new

abbrev pub upvar : Meaning
upvar usage words old outcome new = UpvarBy (nat_lt (length words) 2) usage words old outcome new
