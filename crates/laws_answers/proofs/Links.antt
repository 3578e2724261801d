-- Links are made one after the other: `global` and `upvar` always come to something.
use Rattle.std.proofs.Common.{◌≡◌, ◌==◌, ◌≤◌, ◌||◌, ℕ, Bool, true, false, List, [], ◌∷◌, Option, Some, None, ap, arith, is_some, length, nat_lt}
use Rattle.laws_answers.proofs.Holding.{link}
use Rattle.laws_answers.proofs.Nesting.{means, means-lower}
use Rattle.laws_answers.proofs.Scalars.{refuses}
use Rattle.laws_answers.proofs.Totals.{Good, Total, after, same, told}
use Rattle.tt_calls.specs.Outcomes.{error_outcome, fine}
use Rattle.tt_script.specs.Names.{global_of, plain_name}
use Rattle.tt_store.specs.Held.{Held}
use Rattle.tt_store.specs.Scalars.{outcome_by}
use Rattle.tt_variable_commands.specs.Counting.{IsFrame}
use Rattle.tt_variable_commands.specs.LevelMessages.{bad_level, bad_name}
use Rattle.tt_variable_commands.specs.LevelWords.{is_odd, level_and_words}
use Rattle.tt_variable_commands.specs.Linking.{Each, GlobalBy, LinksFrom, LinksIn, LinksName, LinksOne, LinksPair}
use Rattle.tt_variable_commands.specs.Linking.{UpvarBy, fails, global, message_of, more, none}
use Rattle.tt_variable_commands.specs.Linking.{pairs_of, upvar}
use Rattle.tt_variable_commands.specs.Vocabulary.{is_element}
use Rattle.tt_vars.specs.Variables.{Name}

links_one : (bad : Bool) (word local : Name) (frame : ℕ) (other : Name) (old : Held) → Good old → frame ≤ old.levels.current
    → Total (λ message new. LinksOne bad word local frame other old message new)
links_one true word local frame other old good lower = same old (Some (bad_name word)) good
links_one false word local frame other old good lower = told (message_of word) (link old local frame other good lower)

-- the same frame stays the current one
stays : (bad : Bool) (word local : Name) (frame : ℕ) (other : Name) (old : Held) (message : Option (List ℕ)) (new : Held)
    → LinksOne bad word local frame other old message new → new.levels.current ≡ old.levels.current
stays true word local frame other old message new is = ap (λ held. held.levels.current) is.1
stays false word local frame other old message new is = ap (λ held. held.levels.current) is.1.rest

-- ---- one after the other ----

abbrev Linking : Type 0 → Type 1
Linking X = X → Held → Option (List ℕ) → Held → Type 0

module _ {X : Type 0} (Links : Linking X) (frame : ℕ)
    (one : (x : X) (old : Held) → Good old → frame ≤ old.levels.current → Total (λ message new. Links x old message new))
    (current : (x : X) (old : Held) (message : Option (List ℕ)) (new : Held) → Links x old message new → new.levels.current ≡ old.levels.current) where
  lower : (x : X) (old : Held) (message : Option (List ℕ)) (new : Held) → Links x old message new → frame ≤ old.levels.current → frame ≤ new.levels.current
  lower x old message new is below = omega (arith, below, current x old message new is)

  Linked : List X → Held → Type 0
  Linked xs old = (message : Option (List ℕ)) × (new : Held) × Each Links xs old message new

  give : (xs : List X) (old : Held) → Good old → frame ≤ old.levels.current → Linked xs old
  unfolding Linked
  give [] old good below = (None, old, none)
  give (x ∷ xs) old good below =
      let total = one x old good below in
      by total.gives.0 total.gives.1 total.gives.2
      (λ next is. give xs next (total.keeps None next is) (lower x old None next is below))
    where
      by : (message : Option (List ℕ)) (next : Held) → Links x old message next → ((next : Held) → Links x old None next → Linked xs next) → Linked (x ∷ xs) old
      by None next is rest = let later = rest next is in (later.0, later.1, more is later.2)
      by (Some message) next is rest = (Some message, next, fails is)

  keep : (xs : List X) (old : Held) (message : Option (List ℕ)) (new : Held) → Good old → frame ≤ old.levels.current → Each Links xs old message new → Good new
  keep xs old message new good below none = good
  keep xs old message new good below (more {x = x} {xs = later} {next = next} is rest) =
      keep later next message new ((one x old good below).keeps None next is) (lower x old None next is below) rest
  keep xs old message new good below (fails {x = x} {message = why} is) = (one x old good below).keeps (Some why) new is

  pub each_total : (xs : List X) (old : Held) → Good old → frame ≤ old.levels.current → Total (λ message new. Each Links xs old message new)
  unfolding Linked
  each_total xs old good below = record { gives = give xs old good below; keeps = λ message new is. keep xs old message new good below is }

-- ---- global(n) ----

pub global_total : (usage : List ℕ) (names : List Name) (old : Held) → Good old → Total (λ outcome new. global usage names old outcome new)
global_total usage names old good = by (old.levels.current == 0)
  where
    by : (is : Bool) → Total (λ outcome new. GlobalBy is names old outcome new)
    by true = same old (fine []) good
    by false =
        told outcome_by (each_total LinksName 0
        (λ word held fit below. links_one (is_element (plain_name word)) word (plain_name word) 0 word held fit below)
        (λ word held message new is. stays (is_element (plain_name word)) word (plain_name word) 0 word held message new is) names old good (omega arith))

-- ---- upvar(n) ----

links_in : (level : Name) (frame : Option ℕ) (names : List Name) (old : Held) → Good old → IsFrame level old.levels frame
    → Total (λ outcome new. LinksIn level frame names old outcome new)
links_in level None names old good is = same old (error_outcome (bad_level level)) good
links_in level (Some frame) names old good is =
    told outcome_by (each_total (LinksPair frame) frame
    (λ pair held fit below. links_one (is_element pair.1 || is_some (global_of pair.1)) pair.1 pair.1 frame pair.0 held fit below)
    (λ pair held message new linked. stays (is_element pair.1 || is_some (global_of pair.1)) pair.1 pair.1 frame pair.0 held message new linked)
    (pairs_of names) old good (means-lower level old.levels frame good.nested is))

links_from : (level : Name) (names : List Name) (old : Held) → Good old → Total (λ outcome new. LinksFrom (level, names) old outcome new)
links_from level names old good = after (means level old.levels good.nested) (λ frame is. links_in level frame names old good is)

pub upvar_total : (usage : List ℕ) (words : List (List ℕ)) (old : Held) → Good old → Total (λ outcome new. upvar usage words old outcome new)
upvar_total usage words old good = by (nat_lt (length words) 2)
  where
    by : (short : Bool) → Total (λ outcome new. UpvarBy short usage words old outcome new)
    by true = refuses usage old good
    by false = let split = level_and_words (is_odd words) words in links_from split.0 split.1 old good
