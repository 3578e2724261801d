-- What leads on: the same does, and what leads on from what leads on.
use Rattle.std.specs.Prelude.{ℕ, ◌≡◌, List, [], ◌∷◌, Option}
use Rattle.std.proofs.Common.{sym, ◌∙◌}
use Rattle.tt_hosting.specs.Hosting.{having}
use Rattle.example_language.specs.Deliveries.{EndsWith, JobComing, LeadsOn, ends, given, delivered}

abbrev pub AreSame : JobComing → JobComing → Type 0
AreSame one other = (answers : List ℕ) → one answers ≡ other answers

same_after : {one other : JobComing} (got : ℕ) → AreSame one other → AreSame (having got one) (having got other)
same_after got same answers = same (got ∷ answers)

same_ends : {one other : JobComing} {host last : Option ℕ} {numbers : List ℕ} {outcome : ℕ} → AreSame one other →
    EndsWith one host numbers outcome last → EndsWith other host numbers outcome last
same_ends same (ends is) = ends (sym (same []) ∙ is)
same_ends same (given {number = number} is rest) = given (sym (same []) ∙ is) (same_ends (same_after number same) rest)
same_ends same (delivered is rest) = delivered (sym (same []) ∙ is) (same_ends (same_after 0 same) rest)

pub leads_same : (one other : JobComing) (host : Option ℕ) → AreSame one other → LeadsOn one host other host
leads_same one other host same numbers outcome last all = same_ends same all

pub leads_further : (last middle first : JobComing) (new between old : Option ℕ) → LeadsOn last new middle between →
    LeadsOn middle between first old → LeadsOn last new first old
leads_further last middle first new between old late early numbers outcome end all =
    early numbers outcome end (late numbers outcome end all)
