-- Whatever a thread wants of what it keeps is answered, so it goes on asking (thread(n), upvar(n)).
use Rattle.std.specs.Prelude.{ℕ, Option}
use Rattle.laws_pauses.specs.Threads.{AreAnswered, AsksOn, MayKeep}
use Rattle.tt_calls.specs.declared.start.Start.{Start}
use Rattle.tt_kept.specs.Beginning.{BeginsThread}
use Rattle.tt_kept.specs.declared.kept.Kept.{Kept}
use Rattle.tt_kept.specs.declared.setup.Setup.{Setup}
use Rattle.tt_vars.specs.Links.{StandsFor}
use Rattle.tt_vars.specs.declared.variable.Place.{Place}

-- in what a thread may keep, no links lead in a circle: each name stands for a variable, an element or nothing
abbrev pub NamesStandLaw : Type 0
NamesStandLaw =
    (setup : Setup) (me : ℕ) (kept : Kept) (place : Place) →
    MayKeep setup me kept →
    (stands : Option Place) × StandsFor kept.store.levels.frames place stands

-- there is what a thread keeps at its start, and all that it may want of what it keeps then or later is answered
abbrev pub AnswersExistLaw : Type 0
AnswersExistLaw =
    (setup : Setup) (me : ℕ) →
    ((kept : Kept) × BeginsThread setup me kept) × AreAnswered setup me

-- so each thread asks something first, and after each reply with which it goes on
abbrev pub AlwaysAsksOnLaw : Type 0
AlwaysAsksOnLaw = (setup : Setup) (me : ℕ) (start : Start) → AsksOn setup me start
