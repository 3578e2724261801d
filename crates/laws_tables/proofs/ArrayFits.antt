-- What calls on shared variables are answered fits them.
use Rattle.std.proofs.Common.{◌≡◌, ℕ, true, not, List, refl}
use Rattle.laws_tables.proofs.ArrayRows.{by_unholds}
use Rattle.laws_tables.proofs.Shapes.{first, second, third}
use Rattle.laws_tables.proofs.Steps.{by_step}
use Rattle.laws_tables.specs.Fitting.{Fits}
use Rattle.tt_calls.specs.declared.reply.Reply.{Reply}
use Rattle.tt_calls.specs.declared.reply.Reply.TheVariants as reply
use Rattle.tt_calls.specs.declared.request.Request.TheVariants as ask
use Rattle.tt_calls.specs.declared.tsv_call.TsvCall.{TsvCall}
use Rattle.tt_calls.specs.declared.tsv_call.TsvCall.TheVariants as tsv
use Rattle.tt_shared.specs.State.{reply_of}
use Rattle.tt_tsv.specs.Arrays.{Table}
use Rattle.tt_tsv.specs.Calls as arrays
use Rattle.tt_tsv.specs.Words.{usage_of_words}
use Rattle.laws_tables.proofs.ArrayRuns.{is_told, run_told}

-- a value, whether there is one, or a refusal
told_fits : (words : List (List ℕ)) (answered : Reply) → is_told answered ≡ true → Fits (ask.Tsv (tsv.Run words)) answered
told_fits words (reply.Value text) is = (0, first, refl)
told_fits words (reply.Found there text) is = (1, second, refl)
told_fits words (reply.Refused text) is = (2, third, refl)
told_fits words other is = absurd (cc is)

by_act : (table : Table) (t : ℕ) (call : TsvCall) → Fits (ask.Tsv call) (arrays.act table t call).reply
by_act table t (tsv.Hold name) = (0, first, refl)
by_act table t (tsv.Unhold name) = by_unholds (Fits (ask.Tsv (tsv.Unhold name))) table t name (0, first, refl) (1, second, refl)
by_act table t (tsv.Run words) = told_fits words _ (run_told table (usage_of_words words))

pub array_fits : (table : Table) (t : ℕ) (call : TsvCall) → not (arrays.waits table t call) ≡ true →
    Fits (ask.Tsv call) (reply_of (arrays.step_after table t call))
array_fits table t call ready = by_step (Fits (ask.Tsv call)) (arrays.waits table t call) (arrays.act table t call) ready (by_act table t call)
