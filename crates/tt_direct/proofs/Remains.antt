-- What remains of plans, within any calls.
use Rattle.std.proofs.Common.{◌≡◌, sym, subst}
use Rattle.tt_evaluation.specs.Evaluation.{eval}
use Rattle.tt_evaluation.specs.Plans.{Asks}
use Rattle.tt_evaluation.proofs.Stacks.{finish_stop}
use Rattle.tt_frames.specs.Frames.{after}
use Rattle.tt_frames.specs.Tcl.{plan}
use Rattle.tt_frames.specs.Vocabulary.{TclPlan, Then}
use Rattle.tt_frames.specs.declared.state.Counts.{Counts}
use Rattle.tt_kept.specs.Answering.{Answers}
use Rattle.tt_kept.specs.Asking.{Coming, answered}
use Rattle.tt_kept.specs.Leading.{LeadsTo}
use Rattle.tt_kept.specs.declared.kept.Kept.{Kept}
use Rattle.tt_outcomes.specs.declared.got.Got.{Got}
use Rattle.tt_outcomes.specs.declared.want.Want.{Want}
use Rattle.tt_direct.specs.Leading.{GoesOn, within_calls}

-- a plan is what remains of the same plan
pub stays : (one other : TclPlan) (kept : Kept) → other ≡ one → GoesOn one kept other kept
stays one other kept same calls steps =
    subst (λ (p : TclPlan). LeadsTo (within_calls one calls steps) kept (within_calls p calls steps) kept) (sym same)
    (λ replies request serving asked. asked)

-- what remains of what remains
pub goes_on : {kept between held : Kept} (rest middle whole : TclPlan)
    → GoesOn rest kept middle between → GoesOn middle between whole held → GoesOn rest kept whole held
goes_on rest middle whole first then calls steps replies request serving asked =
    then calls steps replies request serving (first calls steps replies request serving asked)

-- what remains, if the plan is written otherwise
pub remains_as : {kept held : Kept} (rest other whole : TclPlan) → rest ≡ other → GoesOn rest kept whole held → GoesOn other kept whole held
remains_as {kept} {held} rest other whole is goes = subst (λ (p : TclPlan). GoesOn p kept whole held) is goes

-- what is wanted is answered
pub given : (want : Want) (state : Counts) (go : Got → Then) (got : Got) (kept held : Kept)
    → Answers want held got kept → GoesOn (go got state) kept (Asks want state go) held
given want state go got kept held gives calls steps replies request serving asked =
    answered got (finish_stop (eval plan) after calls want) gives asked

-- what is asked where it leads further
pub leads : {later middle before : Coming} {kept between held : Kept}
    → LeadsTo later kept middle between → LeadsTo middle between before held → LeadsTo later kept before held
leads first then replies request serving asked = then replies request serving (first replies request serving asked)
