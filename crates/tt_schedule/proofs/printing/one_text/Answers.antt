use Rattle.tt_schedule.proofs.LawLemmas.{one_list, one_place, one_text}
use Rattle.tt_schedule.proofs.printing.one_text.Goals as goal

pub returns-clause-one_list : goal.returns-clause-one_list
returns-clause-one_list c = one_list

pub returns-clause-one_place : goal.returns-clause-one_place
returns-clause-one_place c = one_place

pub returns-clause-one_text : goal.returns-clause-one_text
returns-clause-one_text c = one_text
