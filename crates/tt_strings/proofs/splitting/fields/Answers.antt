use Rattle.std.proofs.Common.{◌∷◌, []}
use Rattle.tt_strings.proofs.Fields.{field_more, last_field, regroup, ended}
use Rattle.tt_strings.proofs.splitting.fields.Goals as goal

pub fields-preserved : goal.fields-preserved
fields-preserved c = λ more h.
    regroup _ _ _ _ _ _ c.in_ok-push.ensures.pushed
    (c.fields.invariant (c.in_ok-from_bytes.field-0 ∷ more) (field_more _ _ _ _ _ _ c.in_ok-from_bytes.ensures.made c.in-Some.ensures.cases h))

pub returns : goal.returns
returns c =
    ended _ _ _ _ c.in_ok-push-2.ensures.pushed
    (c.fields.invariant (c.in_ok-from_bytes-2.field-0 ∷ []) (last_field _ _ _ c.in_ok-from_bytes-2.ensures.made c.in_default.ensures.cases))
