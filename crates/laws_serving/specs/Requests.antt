-- Which requests take events, and which hand a post over (thread(n), thread::wait).
use Rattle.std.specs.Prelude.{ℕ, Bool, true, false, not, ◌&&◌, Option, Some, None, is_some}
use Rattle.tt_calls.specs.declared.pool_call.PoolCall.{PoolCall}
use Rattle.tt_calls.specs.declared.pool_call.PoolCall.TheVariants as pool
use Rattle.tt_calls.specs.declared.request.Request.{Request}
use Rattle.tt_calls.specs.declared.request.Request.TheVariants as ask

-- a call on pools that is answered an event while no job is done (tpool(n), tpool::wait)
abbrev pub is_look : PoolCall → Bool
is_look (pool.Look id jobs) = true
is_look call = false

abbrev pub takes_events : Request → Bool
takes_events ask.Take = true
takes_events ask.TakeReady = true
takes_events (ask.Pool call) = is_look call
takes_events request = false

-- the post that is handed over
abbrev pub delivered : Request → Option ℕ
delivered (ask.Deliver n outcome) = Some n
delivered request = None

-- neither
abbrev pub is_ordinary : Request → Bool
is_ordinary request = not (is_some (delivered request)) && not (takes_events request)
