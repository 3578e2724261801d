-- A list of shapes has one exactly if a look through it finds it.
use Rattle.std.proofs.Common.{rules, ◌≡◌, ℕ, zero, suc, ◌<◌, true, ◌||◌, List, [], ◌∷◌, length, get_or, sym, ap, ◌∙◌, arith}
use Rattle.std.specs.List.{Contains, list_any}
use Rattle.std.proofs.lemmas.Map.Views.{Contains-from_any}
use Rattle.std.proofs.Math.Bool.{or-true}
use denote.Enum.Bare.{sameb, same_true, true_same}
use Rattle.tt_calls.specs.declared.reply.Shape.{Shape}
use Rattle.tt_calls.specs.contracts.reply.Shape.{the_type}

pub found : (shape : Shape) (shapes : List Shape) → list_any (λ y. sameb the_type y shape) shapes ≡ true → Contains shapes shape
found shape shapes any = Contains-from_any {eq = λ q y. sameb the_type y q} (λ q y same. sym (same_true the_type (search rules) y q same)) shape shapes any

found_at : (shape : Shape) (shapes : List Shape) (k : ℕ) → k < length shapes → get_or shapes k shape ≡ shape →
    list_any (λ y. sameb the_type y shape) shapes ≡ true
found_at shape [] k inside at = absurd (omega arith)
found_at shape (y ∷ ys) zero inside at = ap (λ t. t || list_any (λ z. sameb the_type z shape) ys) (true_same the_type y shape at)
found_at shape (y ∷ ys) (suc k) inside at = ap (λ t. sameb the_type y shape || t) (found_at shape ys k (omega arith) at) ∙ or-true (sameb the_type y shape)

pub finds : (shape : Shape) (shapes : List Shape) → Contains shapes shape → list_any (λ y. sameb the_type y shape) shapes ≡ true
finds shape shapes has = found_at shape shapes has.0 has.1 has.2
