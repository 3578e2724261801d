-- Who lives goes on living by what others do, and who waits for its end waits on.
use Rattle.std.proofs.Common.{◌≡◌, ◌≢◌, ℕ, zero, suc, true, not, [], ◌∷◌, refl, sym, ap, subst, arith}
use Rattle.std.specs.List.{Contains}
use Rattle.laws_caught.specs.WaitLaws.{EndWaitLaw}
use Rattle.laws_pools.proofs.Living.{live_on}
use Rattle.laws_shared.specs.Actions.{Moment}
use Rattle.laws_shared.specs.Orderly.{later}
use Rattle.tt_threads.specs.Rows.{is_living}

-- a thread lives on after an action of another
pub lives_on : (moment : Moment) (u : ℕ) → moment.action.thread ≢ u → is_living moment.before.rows u ≡ true → is_living (later moment).rows u ≡ true
lives_on moment u other lives = live_on moment.before moment.action.thread moment.action.request moment.action.line u (λ end. other (sym end.alike)) lives

pub one_of : (a b : ℕ) → Contains (a ∷ []) b → a ≡ b
one_of a b (zero, within, is) = is
one_of a b (suc k, within, is) = absurd (omega (arith, within))

pub end_wait : EndWaitLaw
end_wait thread moment t u reached can small not_t not_u waits = record {
  lives = lives_on moment t not_t waits.lives;
  not_enabled = ap not (subst (λ one. is_living (later moment).rows one ≡ true) (sym (one_of thread u waits.named)) other_on);
  other_lives = other_on;
  named = waits.named;
}
  where
    other_on : is_living (later moment).rows u ≡ true
    other_on = lives_on moment u not_u waits.other_lives
