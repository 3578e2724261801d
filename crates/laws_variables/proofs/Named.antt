-- A variable is set under the name that its thread asked for.
use Rattle.std.proofs.Common.{◌≡◌, ◌∙◌, ◌==◌, ℕ, Bool, true, false, List, [], ◌∷◌, ◌++◌, Contains, if◌then◌else◌, ap, refl, arith}
use Rattle.std.proofs.lemmas.Bool.Decides.{nat_tests}
use Rattle.std.proofs.lemmas.List.Elements.{Contains-append_left, Contains-push}
use Rattle.laws_sends.proofs.Cuts.{Along, Every, at_cut, every-on}
use Rattle.laws_sends.proofs.Entries.{every-at}
use Rattle.laws_shared.proofs.GoesOn.{goes_on}
use Rattle.laws_shared.specs.Actions.{Action, Acts, Moment, Reached, after, moments, more, none}
use Rattle.laws_shared.specs.Happenings.{Set, happenings_by}
use Rattle.laws_variables.proofs.Posts.{posts_after}
use Rattle.laws_variables.proofs.Runs.{each_found, reached_sound}
use Rattle.laws_variables.proofs.Silent.{SetHas, has_by}
use Rattle.laws_variables.proofs.Variables.{one_of}
use Rattle.laws_variables.specs.VariableEvents.{HasVariable, event_of_post}
use Rattle.laws_variables.specs.VariableNames.{IsAskedFor, IsSetAsAsked, VariableNameLaw}
use Rattle.tt_shared.specs.Mail.{variable_post}
use Rattle.tt_shared.specs.State.{State, start_state}
use Rattle.tt_shared.specs.declared.posts.VariablePost.{VariablePost}

-- a post that is there was asked for
abbrev pub Asked : List Moment → ℕ × VariablePost → Type 0
Asked seen entry = IsAskedFor seen entry.0 entry.1.sender entry.1.name

asked_on : (seen rest : List Moment) (entry : ℕ × VariablePost) → Asked seen entry → Asked (seen ++ rest) entry
asked_on seen rest entry is = record {
  moment = is.moment;
  text = is.text;
  script = is.script;
  head = is.head;
  earlier = Contains-append_left seen rest is.moment is.earlier;
  thread = is.thread;
  request = is.request;
  reply = is.reply;
}

-- what a moment sets was asked for
abbrev pub AllAsAsked : List Moment → Moment → Type 0
AllAsAsked seen moment = (n t : ℕ) (value : List ℕ) → Contains (happenings_by moment) (Set n t value) → IsSetAsAsked seen moment n t value

same_thread : (t : ℕ) → (t == t) ≡ true
same_thread t = go (t == t) refl
  where
    go : (b : Bool) → (t == t) ≡ b → b ≡ true
    go true is = refl
    go false is = absurd (grind (arith, nat_tests, is))

as_asked : (seen : List Moment) (moment : Moment) → Reached moment.before → Every (Asked seen) moment.before.posts.variables → AllAsAsked seen moment
as_asked seen moment reached every n t value set =
    let state = moment.before in
    let found = each_found state.posts.variables (reached_sound state reached).once in
    let has : HasVariable state n t = one_of (SetHas state) (happenings_by moment) (Set n t value) (has_by moment found) set in
    record {
      name = has.name;
      asked = every-at (Asked seen) n state.posts.variables (record { sender = t; target = has.target; name = has.name }) every has.there;
      is =
          ap (λ b. if b then event_of_post value (variable_post state.posts n) else []) (same_thread t)
          ∙ ap (event_of_post value) has.there;
    }

along : (seen : List Moment) (old new : State) (actions : List Action) → Acts old actions new → Reached old → Every (Asked seen) old.posts.variables
    → Along AllAsAsked seen (moments old actions)
along seen old new [] none reached every = tt
along seen old new (action ∷ actions) (more can rest) reached every =
    let moment : Moment = record { before = old; action = action } in
    let later = every-on (Asked seen) (Asked (seen ++ moment ∷ [])) (asked_on seen (moment ∷ [])) old.posts.variables every in
    let next = posts_after (Asked (seen ++ moment ∷ [])) moment (reached_sound old reached).queues can
    (λ n target name is. record {
      moment = moment;
      text = is.0;
      script = is.1;
      head = is.2;
      earlier = Contains-push seen moment;
      thread = refl;
      request = is.3;
      reply = is.4;
    }) later in
    (as_asked seen moment reached every, along (seen ++ moment ∷ []) (after old action) new actions rest (goes_on old action reached can) next)

pub variables_named : VariableNameLaw
variables_named main actions state before rest moment n t value acts is set =
    let start : Reached (start_state main) = record { main = main; actions = []; acts = none } in
    at_cut AllAsAsked [] (moments (start_state main) actions) before rest moment (along [] (start_state main) state actions acts start tt) is n t value set
