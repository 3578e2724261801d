use Rattle.std.proofs.Common.{rules, ◌≡◌, ◌∷◌, ◌-◌, codes, None, bytes_eq, drop, length, take, refl}
use Rattle.std.specs.Map.{lookup}
use Rattle.tt_kept.proofs.Frequent.{append_runs, lappend_runs, opened}
use Rattle.tt_kept.proofs.kept.Kept.run.Goals as goal

pub returns-in_ok-outcome-in-len1-up : goal.returns-in_ok-outcome-in-len1-up
returns-in_ok-outcome-in-len1-up c =
    let words = c.args.words.now in
    let rest = take (length words - 1) (drop 1 words) in
    let is : words ≡ codes "append" ∷ rest = opened words c.name-item.result (codes "append") (search rules) (search rules) (search rules) in
    let none : lookup (bytes_eq (codes "append")) c.args.self.now.procedures ≡ None = search rules in
    append_runs words rest c.in_ok-outcome-in-len1-up.outcome c.args.self.now _ is none refl c.in_ok-outcome-in-len1-up.ensures.run

pub returns-in_ok-outcome-in-len1-up-2 : goal.returns-in_ok-outcome-in-len1-up-2
returns-in_ok-outcome-in-len1-up-2 c =
    let words = c.args.words.now in
    let rest = take (length words - 1) (drop 1 words) in
    let is : words ≡ codes "lappend" ∷ rest = opened words c.name-item-2.result (codes "lappend") (search rules) (search rules) (search rules) in
    let none : lookup (bytes_eq (codes "lappend")) c.args.self.now.procedures ≡ None = search rules in
    lappend_runs words rest c.in_ok-outcome-in-len1-up-2.outcome c.args.self.now _ is none refl c.in_ok-outcome-in-len1-up-2.ensures.run
