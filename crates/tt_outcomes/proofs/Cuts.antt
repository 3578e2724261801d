-- Places that are cut to a text.
use Rattle.std.proofs.Common.{◌≡◌, ℕ, List, drop, length, min, take, ◌∙◌}
use Rattle.std.proofs.lemmas.List.{drop_min, take_min}

pub cut :
    (text : List ℕ) (start count : ℕ)
    → take (min count (length (drop (min start (length text)) text))) (drop (min start (length text)) text)
    ≡ take count (drop start text)
cut text start count =
    take_min count (drop (min start (length text)) text) ∙ (λ i. take count (drop_min start text i))
