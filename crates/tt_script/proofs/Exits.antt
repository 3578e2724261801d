-- The exits of the parser by `?`.
use Rattle.std.proofs.Common.{◌≡◌, ℕ, List, drop, ap, sym, subst, Result, Ok, Err}
use Rattle.std.specs.Prelude.{IsErrAnd}
use Rattle.tt_script.specs.inside.Parsing.{Answers, Continues, Refuses}
use Rattle.tt_script.specs.inside.Building.{Adds, Ends}
use Rattle.tt_script.specs.Reading.{Read, fails, after, map_read, and_then, Level, parts}
use Rattle.tt_script.specs.declared.builder.Builder.{Builder}
use Rattle.tt_script.specs.declared.command.Ending.{Ending}
use Rattle.tt_script.specs.declared.mode.Mode.{Mode}
use Rattle.tt_script.specs.declared.command.ParseFault.{ParseFault}
use Rattle.tt_script.specs.declared.stop.Stop.{Stop}
use Rattle.tt_script.specs.declared.stop.Stop.TheVariants.{NoMemory, Fault}

pub answers_exit : {X A : Type 0} (mode : Mode) (view : X → A) (r : Result (X × ℕ) Stop) (e : Stop) (read : Read A) → IsErrAnd r (λ y. y ≡ e) →
    Refuses e read → Answers mode view r read
answers_exit mode view (Ok x) e read h k = absurd h
answers_exit mode view (Err y) e read h k = subst (λ stop. Refuses stop read) (sym h) k

pub adds_exit : (level : Level) (ending : Ending) (text : List ℕ) (old new : Builder) (r : Result ℕ Stop) (e : Stop) (at : ℕ) → IsErrAnd r (λ y. y ≡ e) →
    Refuses e (after at (parts level ending 0 (drop at text))) → Adds level ending text old new r at
adds_exit level ending text old new (Ok next) e at h k = absurd h
adds_exit level ending text old new (Err y) e at h k = subst (λ stop. Refuses stop (after at (parts level ending 0 (drop at text)))) (sym h) k

pub ends_exit : (level : Level) (ending : Ending) (text : List ℕ) (old new : Builder) (r : Result ℕ Stop) (e : Stop) (from : ℕ) → IsErrAnd r (λ y. y ≡ e) →
    Refuses e (after from (parts level ending 0 (drop from text))) → Ends level ending text old new r from
ends_exit level ending text old new (Ok end) e from h k = absurd h
ends_exit level ending text old new (Err y) e from h k = subst (λ stop. Refuses stop (after from (parts level ending 0 (drop from text)))) (sym h) k

pub continues_exit : {A : Type 0} (from : ℕ → Read A) (r : Result ℕ Stop) (e : Stop) (read : Read A) → IsErrAnd r (λ y. y ≡ e) → Refuses e read →
    Continues r from read
continues_exit from (Ok x) e read h k = absurd h
continues_exit from (Err y) e read h k = subst (λ stop. Refuses stop read) (sym h) k

-- a fault of what is read first is that of the whole
pub refuses-and_then : {A B : Type 0} (e : Stop) (r : Read A) (f : A → ℕ → Read B) → Refuses e r → Refuses e (and_then r f)
refuses-and_then NoMemory r f h = tt
refuses-and_then (Fault fault) r f h = ap (λ s. and_then s f) h

pub refuses-mapped : {A B : Type 0} (e : Stop) (f : A → B) (r : Read A) → Refuses e r → Refuses e (map_read f r)
refuses-mapped NoMemory f r h = tt
refuses-mapped (Fault fault) f r h = ap (map_read f) h

pub refuses-same : {A : Type 0} (e : Stop) (r s : Read A) → s ≡ r → Refuses e r → Refuses e s
refuses-same e r s same h = subst (Refuses e) (sym same) h

pub refuses_by : {A B : Type 0} (e : Stop) (r : Read A) (s : Read B) → ((fault : ParseFault) → r ≡ fails fault → s ≡ fails fault) → Refuses e r → Refuses e s
refuses_by NoMemory r s by h = tt
refuses_by (Fault fault) r s by h = by fault h
