use Rattle.tt_script.proofs.FaultLaw.{first_fault_law}
use Rattle.tt_script.proofs.FirstLaw.{command_law, nothing_law, fault_law}
use Rattle.tt_script.proofs.laws.grammar_law.Goals as goal

pub returns : goal.returns
returns c = record { command = command_law; nothing = nothing_law; fault = fault_law; first_fault = first_fault_law }
