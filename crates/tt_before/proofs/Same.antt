-- Two objects are found equal exactly if they are the same.
use Rattle.std.proofs.Common.{◌≡◌, true, refl, ap}
use Rattle.std.proofs.lemmas.Bool.{eq-eqb, eqb-true}
use Rattle.std.proofs.lemmas.Slice.Eq.{bytes_eq-Decides}
use Rattle.tt_before.specs.inside.Kept.{is_same}
use Rattle.tt_before.specs.declared.object.Object.{Object}
use Rattle.tt_before.specs.declared.object.Object.TheVariants.{Line, Life, Queue, Queues, Slot, End, Pool, Lock, Array, Pipe}

pub to_same : (a b : Object) → is_same a b ≡ true → a ≡ b
to_same (Line m) (Line n) is = ap (λ k. Line k) (eqb-true m n is)
to_same (Life m) (Life n) is = ap (λ k. Life k) (eqb-true m n is)
to_same (Queue m) (Queue n) is = ap (λ k. Queue k) (eqb-true m n is)
to_same Queues Queues is = refl
to_same (Slot m) (Slot n) is = ap (λ k. Slot k) (eqb-true m n is)
to_same (End m) (End n) is = ap (λ k. End k) (eqb-true m n is)
to_same (Pool m) (Pool n) is = ap (λ k. Pool k) ((bytes_eq-Decides m n).0 is)
to_same (Lock m) (Lock n) is = ap (λ k. Lock k) ((bytes_eq-Decides m n).0 is)
to_same (Array m) (Array n) is = ap (λ k. Array k) ((bytes_eq-Decides m n).0 is)
to_same (Pipe m) (Pipe n) is = ap (λ k. Pipe k) (eqb-true m n is)
to_same a b is = absurd (cc is)

pub of_same : (a : Object) → is_same a a ≡ true
of_same (Line n) = eq-eqb n n refl
of_same (Life n) = eq-eqb n n refl
of_same (Queue n) = eq-eqb n n refl
of_same Queues = refl
of_same (Slot n) = eq-eqb n n refl
of_same (End n) = eq-eqb n n refl
of_same (Pool n) = (bytes_eq-Decides n n).1 refl
of_same (Lock n) = (bytes_eq-Decides n n).1 refl
of_same (Array n) = (bytes_eq-Decides n n).1 refl
of_same (Pipe n) = eq-eqb n n refl
