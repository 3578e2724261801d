-- Who has ended stays so, and who goes on has not asked for its end.
use Rattle.std.proofs.Common.{◌≡◌, ◌∙◌, ◌++◌, ◌-◌, ◌==◌, ℕ, zero, suc, Bool, true, false, if◌then◌else◌, List, [], ◌∷◌, length, drop, map}
use Rattle.std.proofs.Common.{slice_get, Option, Some, None, ap, refl, sym}
use Rattle.laws_sends.proofs.Moves.{Move, Moves, begins, both, ends, fills, gets, one, quiet, sent, sets}
use Rattle.laws_sends.proofs.Views.{StayEnded, has_ended, has_ended_at}
use Rattle.laws_shared.proofs.Numbered.{put_here}
use Rattle.laws_shared.specs.Happenings.{Happening}
use Rattle.tt_calls.specs.Numbers.{at_number}
use Rattle.tt_calls.specs.declared.request.Request.{Request}
use Rattle.tt_calls.specs.declared.request.Request.TheVariants as ask
use Rattle.tt_kept.specs.Asking.{goes_on}
use Rattle.tt_machine.specs.Machine.{Thread, new_thread, with_new_threads}
use Rattle.tt_shared.specs.Acts.{act}
use Rattle.tt_shared.specs.State.{State}
use Rattle.tt_shared.specs.declared.applied.Line.{Line}
use Rattle.tt_threads.specs.Rows.{ended_row, is_living, is_living_at, row_of, with_end_at}
use Rattle.tt_threads.specs.declared.row.Row.{Row}

stay_same : (old new : List Row) → new ≡ old → StayEnded old new
stay_same old new is u ended = ap (λ (rows : List Row). has_ended rows u) is ∙ ended

move_stays : (old new : State) (happened : List Happening) → Move old new happened → StayEnded old.rows new.rows
move_stays old new _ (quiet happened others scripts is rows) = rows
move_stays old new _ (sent from to recipient head but is rows) = stay_same old.rows new.rows rows
move_stays old new _ (begins n t rest there but lives is rows) = stay_same old.rows new.rows rows
move_stays old new _ (fills n outcome found there still queues is rows) = stay_same old.rows new.rows rows
move_stays old new _ (sets n outcome post told there scripts is rows) = stay_same old.rows new.rows rows
move_stays old new _ (gets n t found told there mine fits queues is rows) = stay_same old.rows new.rows rows
move_stays old new _ (ends t but is ended rows) = rows

pub moves_stay : (old new : State) (happened : List Happening) → Moves old new happened → StayEnded old.rows new.rows
moves_stay old new happened (one move) = move_stays old new happened move
moves_stay old new _ (both {middle = middle} {first = first} {second = second} here there) =
    λ u is. moves_stay middle new second there u (moves_stay old middle first here u is)

-- ---- the last request ----

end_ends : (rows : List Row) (t : ℕ) (code : _) (found : Option Row) → row_of rows t ≡ found → is_living_at found ≡ true
    → has_ended (with_end_at rows t code found) t ≡ true
end_ends rows t code None there lives = absurd (cc lives)
end_ends rows t code (Some row) there lives = ap has_ended_at (put_here rows t (ended_row row code) row there)

pub last_request : (state : State) (t : ℕ) (request : Request) (line : Line) → goes_on request ≡ false → is_living state.rows t ≡ true
    → (act state t request line).state.over ≡ None → has_ended (act state t request line).state.rows t ≡ false → ⊥
last_request state t (ask.End code) line last lives over still =
    let ended = end_ends state.rows t code (row_of state.rows t) refl lives in
    let both_ways : true ≡ false = sym ended ∙ still in
    absurd (cc both_ways)
last_request state t (ask.Exit code) line last lives over still = absurd (cc over)
last_request state t request line last lives over still = absurd (cc last)

-- ---- threads that are there ----

new_there : (rows : List Row) (i : ℕ) (row : Row) → slice_get rows i ≡ Some row
    → (thread : Thread) × (slice_get (map new_thread rows) i ≡ Some thread)
new_there [] i row there = absurd (cc there)
new_there (first ∷ rows) zero row there = (new_thread first, refl)
new_there (first ∷ rows) (suc i) row there = new_there rows i row there

in_place : (threads : List Thread) (rows : List Row) (i : ℕ) (row : Row) → slice_get rows i ≡ Some row
    → (thread : Thread) × (slice_get (threads ++ map new_thread (drop (length threads) rows)) i ≡ Some thread)
in_place [] rows i row there = new_there rows i row there
in_place (one_thread ∷ threads) rows zero row there = (one_thread, refl)
in_place (one_thread ∷ threads) [] (suc i) row there = absurd (cc there)
in_place (one_thread ∷ threads) (first ∷ rows) (suc i) row there = in_place threads rows i row there

-- who lives is there after a step
pub is_there : (threads : List Thread) (rows : List Row) (t : ℕ) → is_living rows t ≡ true
    → (thread : Thread) × (at_number (with_new_threads threads rows) t ≡ Some thread)
is_there threads rows t lives = go (t == 0) lives
  where
    some : (found : Option Row) → is_living_at found ≡ true → (row : Row) × (found ≡ Some row)
    some None is = absurd (cc is)
    some (Some row) is = (row, refl)

    go : (b : Bool) → is_living_at (if b then None else slice_get rows (t - 1)) ≡ true
        → (thread : Thread) × ((if b then None else slice_get (threads ++ map new_thread (drop (length threads) rows)) (t - 1)) ≡ Some thread)
    go true is = absurd (cc is)
    go false is = let row = some (slice_get rows (t - 1)) is in in_place threads rows (t - 1) row.0 row.1
