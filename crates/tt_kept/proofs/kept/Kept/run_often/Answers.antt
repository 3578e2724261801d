use Rattle.std.proofs.Common.{rules, ◌≡◌, ◌∷◌, ◌-◌, codes, None, bytes_eq, drop, length, take, refl}
use Rattle.std.specs.Map.{lookup}
use Rattle.tt_kept.proofs.Frequent.{often, opened, set_runs, incr_runs}
use Rattle.tt_kept.proofs.kept.Kept.run_often.Goals as goal

pub returns-in-len1-up-clause-some : goal.returns-in-len1-up-clause-some
returns-in-len1-up-clause-some c =
    let words = c.args.words.now in
    let rest = take (length words - 1) (drop 1 words) in
    let is : words ≡ codes "set" ∷ rest = opened words c.name-item.result (codes "set") (search rules) (search rules) (search rules) in
    let none : lookup (bytes_eq (codes "set")) c.args.self.now.procedures ≡ None = search rules in
    often (codes "set") set_runs c.set_often.result words rest c.args.self.now _ is none refl c.set_often.ensures.run

pub returns-in-len1-up-2-clause-some : goal.returns-in-len1-up-2-clause-some
returns-in-len1-up-2-clause-some c =
    let words = c.args.words.now in
    let rest = take (length words - 1) (drop 1 words) in
    let is : words ≡ codes "incr" ∷ rest = opened words c.name-item-2.result (codes "incr") (search rules) (search rules) (search rules) in
    let none : lookup (bytes_eq (codes "incr")) c.args.self.now.procedures ≡ None = search rules in
    often (codes "incr") incr_runs c.incr_often.result words rest c.args.self.now _ is none refl c.incr_often.ensures.run
