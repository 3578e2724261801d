-- The arrays are what the calls on shared variables alone make of them.
use Rattle.std.proofs.Common.{◌≡◌, ◌∙◌, ℕ, Bool, true, false, not, if◌then◌else◌, IsTrue, List, [], ◌∷◌, map, Option, Some, None, ap, refl}
use Rattle.std.specs.List.{cons_option}
use Rattle.tt_calls.specs.declared.request.Request.{Request}
use Rattle.tt_calls.specs.declared.request.Request.TheVariants as ask
use Rattle.tt_calls.specs.declared.reply.Reply.{Reply}
use Rattle.tt_calls.specs.declared.reply.Step.{Step}
use Rattle.tt_calls.specs.declared.reply.Step.TheVariants as step
use Rattle.tt_calls.specs.declared.tsv_call.TsvCall.{TsvCall}
use Rattle.laws_shared.proofs.Families.{arrays_kept}
use Rattle.laws_shared.specs.Actions.{Action, CanHappen, action_result, after, more, none}
use Rattle.laws_shared.specs.ArrayCalls.{ArrayCall, array_call, array_calls, array_replies, array_steps, arrays_after, reply_where}
use Rattle.laws_shared.specs.SharedLaws.{ArraysAloneLaw, ArraysStandAlone}
use Rattle.tt_shared.specs.Acts.{act}
use Rattle.tt_shared.specs.Enabled.{enabled}
use Rattle.tt_shared.specs.State.{State, reply_of}
use Rattle.tt_shared.specs.declared.applied.Line.{Line}
use Rattle.tt_tsv.specs.Calls.{step_after, table_after, waits}
use Rattle.tt_tsv.specs.Calls as arrays
use Rattle.tt_tsv.specs.Arrays.{Table}

-- a call that need not wait is answered
answered : (table : Table) (t : ℕ) (call : TsvCall) → IsTrue (not (waits table t call)) →
    step.Reply (reply_of (step_after table t call)) ≡ step_after table t call
answered table t call ready = go (waits table t call) ready
  where
    go : (waiting : Bool) → IsTrue (not waiting) →
        step.Reply (reply_of (if waiting then step.Wait else step.Reply (arrays.act table t call).reply)) ≡
        (if waiting then step.Wait else step.Reply (arrays.act table t call).reply)
    go true ready = absurd (cc ready)
    go false ready = refl

one : (state : State) (t : ℕ) (request : Request) (line : Line) → IsTrue (enabled state t request)
    → ArraysStandAlone state ((record { thread = t; request = request; line = line }) ∷ []) (act state t request line).state
one state t (ask.Tsv call) line ready = record { arrays = refl; replies = ap (λ gives. gives ∷ []) (answered state.arrays t call ready) }
one state t request line ready = record { arrays = arrays_kept state t request line refl; replies = refl }

-- ---- one action after the other ----

first-is : {one other : Step} {steps others : List Step} → one ∷ steps ≡ other ∷ others → one ≡ other
first-is is = cc

more_arrays : (table : Table) (call : Option ArrayCall) (calls : List ArrayCall) →
    arrays_after (arrays_after table (cons_option call [])) calls ≡ arrays_after table (cons_option call calls)
more_arrays table None calls = refl
more_arrays table (Some call) calls = refl

more_replies : (old next : Table) (call : Option ArrayCall) (calls : List ArrayCall) (reply : Reply) (replies : List Reply)
    → next ≡ arrays_after old (cons_option call [])
    → map step.Reply (cons_option (reply_where call reply) []) ≡ array_steps old (cons_option call [])
    → map step.Reply replies ≡ array_steps next calls
    → map step.Reply (cons_option (reply_where call reply) replies) ≡ array_steps old (cons_option call calls)
more_replies old next None calls reply replies is first later = later ∙ ap (λ table. array_steps table calls) is
more_replies old next (Some call) calls reply replies is first later =
    ap (λ gives. gives ∷ map step.Reply replies) (first-is first)
    ∙ ap (λ gives. step_after old call.thread call.call ∷ gives) (later ∙ ap (λ table. array_steps table calls) is)

pub one_alone : (state : State) (action : Action) → CanHappen state action → ArraysStandAlone state (action ∷ []) (after state action)
one_alone state action can = one state action.thread action.request action.line can.enabled

pub arrays_alone : ArraysAloneLaw
arrays_alone old new [] none = record { arrays = refl; replies = refl }
arrays_alone old new (action ∷ actions) (more can rest) =
    let first = one_alone old action can in
    let next = after old action in
    let later = arrays_alone next new actions rest in
    let calls = array_calls actions in
    record {
      arrays = later.arrays ∙ ap (λ table. arrays_after table calls) first.arrays ∙ more_arrays old.arrays (array_call action) calls;
      replies = more_replies old.arrays next.arrays (array_call action) calls (action_result old action).gives.reply
          (array_replies next actions) first.arrays first.replies later.replies;
    }
