use Rattle.std.proofs.Common.{◌≡◌, ap, ◌∙◌, List, ℕ, drop}
use Rattle.tt_devices.specs.Memory.{Supply}
use Rattle.tt_devices.proofs.StreamLemmas.{rest-none, takes-left}
use Rattle.tt_devices.proofs.memory_source.MemorySourceSource.take.Goals as goal

pub returns-clause-taken : goal.returns-clause-taken
returns-clause-taken c =
    let left = ap (λ (s : Supply). s.left) c.self.view_is in
    let slice : c.split_at.result.1.now ≡ c.args.self.now.left =
    c.split_at.ensures.back ∙ (ap (λ (bytes : List ℕ). drop c.self.inside.taken bytes) c.deref.ensures.value ∙ left) in
    let filled = rw slice at c.fill-count.ensures.filled in
    let none = rw slice at c.fill-count.ensures.none in
    (takes-left _ _ _ _ _ left filled, λ no some. rest-none _ _ _ _ left no (none no some))
