-- That a find is replayed.
use Rattle.std.proofs.Common.{◌≡◌, ◌∙◌, ℕ, List, Option, None, Some, IsSome, refl, sym, ap, subst}
use Rattle.tt_devices.specs.Memory.{Supply}
use Rattle.tt_devices.specs.declared.files.Files.{Ghosts as OfFiles}
use Rattle.tt_devices.specs.declared.sink.Sink.{Ghosts as OfSink}
use Rattle.tt_devices.specs.declared.source.Source.{Ghosts as OfSource}
use Rattle.tclsearch.specs.FindLaws.{FindLaw}
use Rattle.tt_search.specs.Searched.{IsWholeInput, in_memory}
use Rattle.tt_session.specs.AnswerLaws.{IsSettled, ReplayLaw}
use Rattle.tt_session.specs.Choosing.{Mode, limit_of}
use Rattle.tt_session.specs.declared.status.Status.{Status}
use Rattle.tt_words.specs.Asked.{plain}

-- all of a known input is in the source in memory
is-input : (known : Option (List ℕ)) (input : List ℕ) (supply : Supply) → known ≡ Some input → IsWholeInput known supply → supply.left ≡ input
is-input None input supply is whole = absurd (cc is)
is-input (Some held) input supply is whole = let same : held ≡ input = cc is in whole ∙ same

module _ {F S K E : Type 0} (files : OfFiles F) (source : OfSource S) (output : OfSink K) (errors : OfSink E) where
  pub find_law : ReplayLaw files in_memory source output errors → FindLaw files source output errors
  find_law law search named text input names old new store kept began again left end other find second is also settled done setups has under text_is =
      let status : IsSettled find.ended.status = subst (λ (s : Status). IsSettled s) find.ends settled in
      let free : IsSome (limit_of find.ran.mode) = subst (λ (m : Mode). IsSome (limit_of m)) (sym find.ran.begins.chosen) refl in
      let given : Some find.supply.left ≡ Some input = ap Some (is-input (source.held began.input) input find.supply is find.whole) in
      let same = law (plain search.plain) named text input names old new store kept
      (record { input = find.supply; output = began.output; errors = find.middle }) again find.ended other find.ran second
      given also status done free setups has under text_is in
      rw find.ends same
