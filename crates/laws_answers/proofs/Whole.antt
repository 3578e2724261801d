-- Answers exist without a premise, and so each thread asks on.
use Rattle.laws_answers.proofs.Answers.{are_answered, begins, good-kept}
use Rattle.laws_answers.proofs.PureTable.{pure_answers}
use Rattle.laws_answers.proofs.Standing.{stands}
use Rattle.laws_answers.specs.Answered.{AlwaysAsksOnLaw, AnswersExistLaw, NamesStandLaw}
use Rattle.laws_pauses.proofs.Threads.{asks_on}

pub names_stand : NamesStandLaw
names_stand setup me kept place may = stands kept.store.levels.frames place (good-kept pure_answers setup me kept may).sound.ends

pub answers_exist : AnswersExistLaw
answers_exist setup me = (begins setup me, are_answered pure_answers setup me)

pub always_asks_on : AlwaysAsksOnLaw
always_asks_on setup me start =
    let exist = answers_exist setup me in
    asks_on setup me start exist.0.0 exist.0.1 exist.1
