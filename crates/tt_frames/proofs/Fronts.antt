-- What is left of a list from a place on: what is there, and what comes after it.
use Rattle.std.proofs.Common.{◌≡◌, ℕ, zero, suc, ◌+◌, List, [], ◌∷◌, drop, length, map, slice_get, arith, Option, None, Some, refl, ap, sym, subst, ◌∙◌, ◌≤◌}
use Rattle.std.specs.Option.{option_map}
use Rattle.std.specs.Borrow.{Bor}
use Rattle.std.proofs.lemmas.List.{drop_all, length-map}
use Rattle.std.proofs.lemmas.Option.{slice_get_read}
use Rattle.std.specs.Slice.{IsItemAt}
use Rattle.tt_code.specs.Needs.{Needs}
use Rattle.tt_outcomes.specs.Endings.{error_ending}
use Rattle.tt_frames.specs.Programs.{PlainStep, Does, end_of, from_front, start_of}
use Rattle.tt_frames.specs.Scripts.{command, commands, command_end}
use Rattle.tt_frames.specs.Units.{past_limit, spending}
use Rattle.tt_frames.specs.declared.state.Counts.{Counts}

pub dropped :
    {X Y : Type 0} (v : X → Y) (xs : List X) (n : ℕ)
    → drop n (map v xs) ≡ from_front (option_map v (slice_get xs n)) (drop (suc n) (map v xs))
dropped v [] zero = refl
dropped v [] (suc n) = refl
dropped v (x ∷ xs) zero = refl
dropped v (x ∷ xs) (suc n) = dropped v xs n

-- the same of what a slice lends there
pub lent :
    {X Y : Type 0} (v : X → Y) (xs : List X) (n : ℕ) (r : Option (Bor X)) → IsItemAt xs n r
    → drop n (map v xs) ≡ from_front (option_map (λ x. v x.now) r) (drop (n + 1) (map v xs))
lent v xs n None item = drop_all n (map v xs) (subst (λ k. k ≤ n) (sym (length-map xs v)) item.3)
lent v xs n (Some x) item =
    let next : suc n ≡ n + 1 = omega arith in
    dropped v xs n
    ∙ ap (λ o. from_front (option_map v o) (drop (suc n) (map v xs)))
    (slice_get_read xs (length xs) n x.now refl item.3.0 item.1)
    ∙ ap (λ k. v x.now ∷ drop k (map v xs)) next

-- the commands of a script from one on that can be read: its unit is spent, and then it is done
pub begun :
    (text : List ℕ) (steps tail : List PlainStep) (words : Needs) (start end : ℕ) (last : List ℕ) (state : Counts)
    → steps ≡ Does words start end ∷ tail
    → commands text steps last state
    ≡ spending
    (command (command_end text (start_of steps) (end_of steps) (commands text tail)) words)
    (command_end text (start_of steps) (end_of steps) (commands text tail) (error_ending past_limit)) state
begun text steps tail words start end last state is =
    subst (λ (rest : List PlainStep). commands text rest last state
    ≡ spending
    (command (command_end text (start_of rest) (end_of rest) (commands text tail)) words)
    (command_end text (start_of rest) (end_of rest) (commands text tail) (error_ending past_limit)) state)
    (sym is) refl
