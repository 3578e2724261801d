-- What a call that takes no runtime leaves.
use Rattle.tt_session.specs.declared.ended.Ended.{Ended}
use Rattle.tt_session.specs.declared.ended.Alone.{Alone}
use Rattle.tt_session.specs.declared.ended.Alone.TheVariants as alone

-- what it left meets this, if it did the whole work
abbrev pub IfEnded : {S K E : Type 0} → Alone S K E → (Ended S K E → Type 0) → Type 0
IfEnded (alone.Ended ended) fact = fact ended
IfEnded (alone.Plain input output errors) fact = Unit {0}

-- the streams meet this, if it hands them back
abbrev pub IfPlain : {S K E : Type 0} → Alone S K E → (S → K → E → Type 0) → Type 0
IfPlain (alone.Ended ended) fact = Unit {0}
IfPlain (alone.Plain input output errors) fact = fact input output errors
