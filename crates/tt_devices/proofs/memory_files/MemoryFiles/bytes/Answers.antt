use Rattle.std.proofs.Common.{List, sym, ap, ◌∙◌, Some}
use Rattle.tt_devices.specs.Memory.{NamedBytes, Shelf, bytes_under}
use Rattle.tt_devices.proofs.FilesLemmas.{first_found}
use Rattle.tt_devices.proofs.memory_files.MemoryFiles.bytes.Goals as goal

pub returns-clause-found : goal.returns-clause-found
returns-clause-found c =
    let first = rw (c.deref.ensures.value, c.as_bytes.ensures.value) at c.in_ok-place.ensures.first in
    let found = first_found _ _ _ c.index.result.now first in
    let file = ap (λ (f : NamedBytes). f.bytes) (c.behind-self.view_is ∙ c.index.ensures) in
    let files = ap (λ (all : Shelf). all.files) c.self.view_is in
    ap (λ (all : List NamedBytes). bytes_under all c.args.name.now) (sym files) ∙ (found ∙ ap Some (sym file ∙ sym c.as_slice.ensures.value))
