use Rattle.std.proofs.Common.{ap, ◌∙◌}
use Rattle.tt_devices.specs.Memory.{NamedBytes}
use Rattle.tt_devices.proofs.FilesLemmas.{under-set, others-set, under-more, others-more}
use Rattle.tt_devices.proofs.memory_files.put.Goals as goal

pub returns-in-Some-clause-added : goal.returns-in-Some-clause-added
returns-in-Some-clause-added c =
    let named = ap (λ (f : NamedBytes). f.name) (c.file.view_is ∙ c.index_mut-file.ensures.value) in
    let first = rw c.deref.ensures.value at c.in-Some.ensures.first in
    rw (c.in_ok-bytes.ensures.items) (under-set _ _ _ _ _ _ first named)

pub returns-in-Some-clause-others : goal.returns-in-Some-clause-others
returns-in-Some-clause-others c other differs =
    let named = ap (λ (f : NamedBytes). f.name) (c.file.view_is ∙ c.index_mut-file.ensures.value) in
    let first = rw c.deref.ensures.value at c.in-Some.ensures.first in
    others-set _ _ _ _ _ _ _ first named differs

pub returns-in_ok-push-in-None-clause-added : goal.returns-in_ok-push-in-None-clause-added
returns-in_ok-push-in-None-clause-added c =
    let none = rw c.deref.ensures.value at c.in-None.ensures.none in
    rw (c.in_ok-push-in-None.ensures.items, c.in_ok-name-in-None.ensures.items, c.in_ok-bytes.ensures.items)
    (under-more c.args.files.now.items c.args.name.now c.args.bytes.now none)

pub returns-in_ok-push-in-None-clause-others : goal.returns-in_ok-push-in-None-clause-others
returns-in_ok-push-in-None-clause-others c other differs =
    rw (c.in_ok-push-in-None.ensures.items, c.in_ok-name-in-None.ensures.items) (others-more _ _ _ _ differs)
