-- How many threads there are after so many actions (thread(n), tpool(n)).
use Rattle.std.specs.Prelude.{◌≡◌, ◌≤◌, ◌+◌, ◌*◌, ℕ, List, length, Some}
use Rattle.laws_shared.specs.Actions.{Action, Acts}
use Rattle.tt_calls.specs.declared.start.Start.{Start}
use Rattle.tt_ids.specs.ThreadNumbers.{IsInRange}
use Rattle.tt_schedule.specs.ScheduleText.{most_steps}
use Rattle.tt_shared.specs.State.{State, start_state}
use Rattle.tt_threads.specs.Rows.{living, most_living, row_of}
use Rattle.tt_threads.specs.declared.row.Row.{Row}

-- Of all threads that were made, main among them, 1,000 live at most. An action makes 900 at most, the workers of a
-- pool, or it ends one. So 900 threads more take 901 actions: 900 of them end a thread, and one makes a pool.
pub record ThreadsAreBounded (actions : List Action) (state : State) : Type 0 where
  pub few_live : living state.rows ≤ most_living
  pub few_made : 901 * length state.rows ≤ 900 * length actions + 900001
  -- so there are at most 998 more than actions
  pub few_more : length state.rows ≤ length actions + 998
  -- and after no more actions than a schedule has steps, a schedule can name each of them
  pub numbered :
      (number : ℕ) (row : Row) →
      length actions ≤ most_steps →
      row_of state.rows number ≡ Some row →
      IsInRange number

-- of every list of actions from the start
abbrev pub ThreadCountLaw : Type 0
ThreadCountLaw =
    (main : Start) (actions : List Action) (state : State) →
    Acts (start_state main) actions state →
    ThreadsAreBounded actions state
