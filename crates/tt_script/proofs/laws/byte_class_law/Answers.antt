use Rattle.std.proofs.Common.{refl}
use Rattle.tt_script.proofs.laws.byte_class_law.Goals as goal

pub returns : goal.returns
returns c = record { white_space = λ b. refl; newlines = λ b. refl; blanks = λ b. refl; first_bytes = λ b. refl }
