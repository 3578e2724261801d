-- Whatever a thread wants of what it keeps, there is an answer.
use Rattle.std.proofs.Common.{◌≡◌, ℕ, false, List, [], ◌∷◌, arith, refl, subst, sym}
use Rattle.laws_answers.proofs.ArrayWrites.{written}
use Rattle.laws_answers.proofs.Frames.{Sound}
use Rattle.laws_answers.proofs.Holding.{finds}
use Rattle.laws_answers.proofs.Kept.{Keeps, arguments_keep, arguments_set, runs, stays}
use Rattle.laws_answers.proofs.Moves.{sound-nothing, sound-take}
use Rattle.laws_answers.proofs.Nesting.{nested-after}
use Rattle.laws_answers.proofs.Store.{good-script}
use Rattle.laws_answers.proofs.Totals.{Good}
use Rattle.laws_answers.specs.Pure.{PureAnswersLaw}
use Rattle.laws_pauses.specs.NextRequest.{is_request}
use Rattle.laws_pauses.specs.Threads.{AreAnswered, MayKeep, at_start, later}
use Rattle.tt_kept.specs.Answering.{Answers, got_of, nothing, truth}
use Rattle.tt_kept.specs.Beginning.{BeginsThread, globals}
use Rattle.tt_kept.specs.Commands.{with_store}
use Rattle.tt_kept.specs.declared.kept.Kept.{Kept}
use Rattle.tt_kept.specs.declared.setup.Setup.{Setup}
use Rattle.tt_outcomes.specs.declared.got.Got.{Got}
use Rattle.tt_outcomes.specs.declared.got.Got.TheVariants as gots
use Rattle.tt_outcomes.specs.declared.want.Want.{Want}
use Rattle.tt_outcomes.specs.declared.want.Want.TheVariants as want
use Rattle.tt_store.specs.Held.{Held, after_end, is_seen, nothing_held, value_of, with_global_script, with_watch, without_watch}
use Rattle.tt_store.specs.Levels.{levels_after}
use Rattle.tt_store.specs.Spots.{full_name, spot}
use Rattle.tt_store.specs.declared.nesting.Begun.{Begun}
use Rattle.tt_store.specs.declared.nesting.Begun.TheVariants.{Procedure, Script}

-- ---- at the start ----

good-nothing : Good nothing_held
good-nothing = record {
  sound = sound-nothing;
  nested = record {
    counted = refl;
    there = omega arith;
    lower = λ frame called within. absurd (omega (arith, called, within));
    ends = refl;
  };
}

pub begins : (setup : Setup) (me : ℕ) → (kept : Kept) × BeginsThread setup me kept
begins setup me =
    let set = arguments_set (globals me setup) nothing_held good-nothing in
    (record { store = set.0; procedures = [] }, record { variables = set.1; procedures = refl })

-- ---- each want ----

good-end : (held : Held) → Good held → Good (after_end held)
good-end held good = record { sound = by held.levels.begun; nested = nested-after held.levels held.levels.begun refl good.nested }
  where
    by : (begun : List Begun) → Sound (levels_after held.levels begun).frames
    by [] = good.sound
    by (Script back ∷ begun) = good.sound
    by (Procedure ∷ begun) = sound-take _ held.levels.frames good.sound

becomes : (old : Kept) (x : Got) (store : Held) → Good store → Keeps (λ got new. (got ≡ x) × (new ≡ with_store old store))
becomes old x store good = record {
  gives = (x, with_store old store, (refl, refl));
  keeps = λ got new is. subst (λ kept. Good kept.store) (sym is.1) good;
}

module _ (pures : PureAnswersLaw) where
  answers : (wanted : Want) (old : Kept) → Good old.store → is_request wanted ≡ false → Keeps (λ got new. Answers wanted old got new)
  answers (want.ReadVar name index) old good plain =
      let read = finds old.store (spot name index) good in record {
        gives = (gots.Value (value_of (full_name name index) read.0), old, (value_of (full_name name index) read.0, (read.0, read.1, refl), refl, refl));
        keeps = λ got new is. subst (λ kept. Good kept.store) (sym is.3) good;
      }
  answers (want.WriteVar name index value) old good plain =
      let total = written name index value old.store good in record {
        gives = (gots.Value total.gives.0, with_store old total.gives.1, (total.gives.0, total.gives.2, refl, refl));
        keeps = λ got new is. total.keeps is.0 new.store is.1;
      }
  answers (want.RunWords words) old good plain =
      let total = runs pures words old good in record {
        gives = (got_of words total.gives.0, total.gives.1, (total.gives.0, total.gives.2, refl));
        keeps = λ got new is. total.keeps is.0 new is.1;
      }
  answers want.Enter old good plain =
      becomes old nothing (with_global_script old.store) (good-script 0 old.store good (omega (arith, good.nested.there)))
  answers (want.Leave body) old good plain = becomes old nothing (after_end old.store) (good-end old.store good)
  answers (want.Watch name) old good plain =
      becomes old nothing (with_watch name old.store) (record { sound = good.sound; nested = good.nested })
  answers want.Seen old good plain = stays old (truth (is_seen old.store)) good
  answers want.Unwatch old good plain = becomes old nothing (without_watch old.store) (record { sound = good.sound; nested = good.nested })
  answers (want.Ask request) old good plain = absurd (cc plain)

  -- what a request is answered is none of this
  plainly : (wanted : Want) (old new : Kept) (got : Got) → Answers wanted old got new → is_request wanted ≡ false
  plainly (want.Ask request) old new got gives = absurd gives
  plainly (want.ReadVar name index) old new got gives = refl
  plainly (want.WriteVar name index value) old new got gives = refl
  plainly (want.RunWords words) old new got gives = refl
  plainly want.Enter old new got gives = refl
  plainly (want.Leave body) old new got gives = refl
  plainly (want.Watch name) old new got gives = refl
  plainly want.Seen old new got gives = refl
  plainly want.Unwatch old new got gives = refl

  pub good-kept : (setup : Setup) (me : ℕ) (kept : Kept) → MayKeep setup me kept → Good kept.store
  good-kept setup me kept (at_start begins) = arguments_keep (globals me setup) nothing_held kept.store good-nothing begins.variables
  good-kept setup me kept (later {old = old} wanted got before gives) =
      (answers wanted old (good-kept setup me old before) (plainly wanted old kept got gives)).keeps got kept gives

  pub are_answered : (setup : Setup) (me : ℕ) → AreAnswered setup me
  are_answered setup me wanted old may plain = (answers wanted old (good-kept setup me old may) plain).gives
