use Rattle.std.proofs.Common.{◌≡◌, ◌∙◌, ap, ◌++◌, ◌∷◌, [], length, slice_set, ℕ, List, rules}
use Rattle.std.proofs.Math.Seq.{set-append_seam}
use Rattle.tt_text.proofs.text.push_few.Goals as goal

pub returns-clause-pushed : goal.returns-clause-pushed
returns-clause-pushed c =
    let old = c.args.items.now.items in
    let few = c.set_few.new.self in
    let pushed : c.push_reserved.new.self.items ≡ old ++ c.new.result ∷ [] = search rules in
    let place : c.len-place.result ≡ length old = search rules in
    let same : few ≡ c.args.few.now = search rules in
    ap (λ (items : List (List ℕ)). slice_set items c.len-place.result few) pushed
    ∙ (ap (λ (at : ℕ). slice_set (old ++ c.new.result ∷ []) at few) place
    ∙ (set-append_seam old c.new.result [] few ∙ ap (λ (text : List ℕ). old ++ text ∷ []) same))
