use Rattle.std.proofs.lemmas.List.{drop_all}
use Rattle.std.proofs.Common.{◌≡◌, ◌<◌, ◌≤◌, zero-add, length, true, false, refl, sym, ap, ◌∙◌, arith}
use Rattle.std.specs.Str.{bytes_eq}
use Rattle.tt_devices.specs.Memory.{NamedBytes}
use Rattle.tt_devices.proofs.FilesLemmas.{passed-more, passed-here}
use Rattle.tt_devices.proofs.memory_files.place_of.Goals as goal

pub loop-place-init : goal.loop-place-init
loop-place-init c = record { same = refl; first = λ place first. rw zero-add first }

pub returns-then-eq-clause-first : goal.returns-then-eq-clause-first
returns-then-eq-clause-first c =
    let file = c.index-files-place.result in
    let short : c.loop-place.place < length c.args.files.now = omega arith in
    let named = ap (λ (f : NamedBytes). f.name) c.file.view_is in
    let same : bytes_eq file.name c.args.name.now ≡ true = cc in
    passed-here _ _ _ file short c.index-files-place.is same c.loop-place.invariant

pub loop-place-preserved : goal.loop-place-preserved
loop-place-preserved c =
    let file = c.index-files-place.result in
    let short : c.loop-place.place < length c.args.files.now = omega arith in
    let named = ap (λ (f : NamedBytes). f.name) c.file.view_is in
    let other : bytes_eq file.name c.args.name.now ≡ false = cc in
    passed-more _ _ _ file short c.index-files-place.is other c.loop-place.invariant

pub returns-clause-none : goal.returns-clause-none
returns-clause-none c =
    let all : length c.args.files.now ≤ c.loop-place.place = omega arith in
    sym c.loop-place.invariant.same ∙ rw drop_all refl
