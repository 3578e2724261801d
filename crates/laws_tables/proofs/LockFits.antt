-- What calls on locks are answered fits them.
use Rattle.std.proofs.Common.{◌≡◌, ℕ, true, not, List, ◌∷◌, refl}
use Rattle.laws_tables.proofs.LockRows.{IsMade, by_act as answered}
use Rattle.laws_tables.proofs.Shapes.{first, second}
use Rattle.laws_tables.proofs.Steps.{by_step}
use Rattle.laws_tables.specs.Fitting.{Fits}
use Rattle.tt_calls.specs.declared.lock_call.LockCall.{LockCall}
use Rattle.tt_calls.specs.declared.lock_call.LockCall.TheVariants as lock
use Rattle.tt_calls.specs.declared.reply.Reply.TheVariants as reply
use Rattle.tt_calls.specs.declared.request.Request.TheVariants as ask
use Rattle.tt_locks.specs.Calls as locks
use Rattle.tt_locks.specs.Table.{LockTable}
use Rattle.tt_shared.specs.State.{reply_of}

module _ (table : LockTable) (t : ℕ) where
  -- a call that is done, or refused
  by_made : (call : LockCall) → Fits (ask.Lock call) reply.Go
      → ((text : List ℕ) → Fits (ask.Lock call) (reply.Refused text))
      → IsMade (Fits (ask.Lock call)) call → Fits (ask.Lock call) (locks.act table t call).reply
  by_made call goes refused made = answered (Fits (ask.Lock call)) goes (λ b text. refused (b ∷ text)) table t call made

  by_act : (call : LockCall) → Fits (ask.Lock call) (locks.act table t call).reply
  by_act (lock.Create kind) = (0, first, refl)
  by_act (lock.Destroy which text) = by_made (lock.Destroy which text) (0, first, refl) (λ text. (1, second, refl)) (λ is. (1, second, refl))
  by_act call = by_made call (0, first, refl) (λ text. (1, second, refl)) tt

  pub lock_fits : (call : LockCall) → not (locks.waits table t call) ≡ true → Fits (ask.Lock call) (reply_of (locks.step_after table t call))
  lock_fits call ready = by_step (Fits (ask.Lock call)) (locks.waits table t call) (locks.act table t call) ready (by_act call)
