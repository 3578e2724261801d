-- Short texts are the same if their lengths and their rooms are.
use Rattle.std.proofs.Common.{◌≡◌, ◌≢◌, ℕ, ◌+◌, ◌≤◌, false, List, ◌++◌, length, take, drop, replicate, sym, ap, ◌∙◌}
use Rattle.std.proofs.lemmas.Bool.Decides.{same_from_decides}
use Rattle.std.proofs.lemmas.List.{drop-drop, length-take-le, take-append-drop}
use Rattle.std.proofs.lemmas.Slice.Eq.{bytes_eq-Decides}
use Rattle.std.specs.Str.{bytes_eq}
use Rattle.tt_text.specs.inside.Room.{IsRoom}

-- more bytes in front leave the rest of a room as it was
pub room_after : (len more : ℕ) (old new : List ℕ) → IsRoom len old
    → drop (len + more) new ≡ drop (len + more) old → IsRoom (len + more) new
room_after len more old new is rest =
    rest ∙ (sym (drop-drop more len old) ∙ (ap (drop more) is ∙ drop-drop more len (replicate 14 0)))

-- a room is its front, and nothing but 0 after it
whole : (len : ℕ) (room : List ℕ) → IsRoom len room → room ≡ take len room ++ drop len (replicate 14 0)
whole len room is = sym (take-append-drop len room) ∙ ap (λ (rest : List ℕ). take len room ++ rest) is

same_len : (n m : ℕ) (xs ys : List ℕ) → n ≤ length xs → m ≤ length ys → take n xs ≡ take m ys → n ≡ m
same_len n m xs ys within others same = sym (length-take-le n xs within) ∙ (ap length same ∙ length-take-le m ys others)

same_room : (n m : ℕ) (xs ys : List ℕ) → IsRoom n xs → IsRoom m ys → n ≡ m → take n xs ≡ take m ys → xs ≡ ys
same_room n m xs ys is others len same =
    whole n xs is
    ∙ (ap (λ (front : List ℕ). front ++ drop n (replicate 14 0)) same
    ∙ (ap (λ (k : ℕ). take m ys ++ drop k (replicate 14 0)) len ∙ sym (whole m ys others)))

-- of the same length they are the same if their rooms are
pub by_rooms : (n m : ℕ) (xs ys : List ℕ) → IsRoom n xs → IsRoom m ys → n ≡ m
    → bytes_eq xs ys ≡ bytes_eq (take n xs) (take m ys)
by_rooms n m xs ys is others len =
    let rooms = bytes_eq-Decides xs ys in
    let fronts = bytes_eq-Decides (take n xs) (take m ys) in
    same_from_decides (bytes_eq xs ys) (bytes_eq (take n xs) (take m ys))
    ((λ same. ap (take n) (rooms.0 same) ∙ ap (λ (k : ℕ). take k ys) len), λ same. rooms.1 (same_room n m xs ys is others len same))
    fronts

-- of other lengths they are not
pub by_lengths : (n m : ℕ) (xs ys : List ℕ) → n ≤ length xs → m ≤ length ys → n ≢ m
    → false ≡ bytes_eq (take n xs) (take m ys)
by_lengths n m xs ys within others differ =
    let fronts = bytes_eq-Decides (take n xs) (take m ys) in
    same_from_decides false (bytes_eq (take n xs) (take m ys))
    ((λ absurdly. absurd (cc absurdly)), λ same. absurd (differ (same_len n m xs ys within others same)))
    fronts
