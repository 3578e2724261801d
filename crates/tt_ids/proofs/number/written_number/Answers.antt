use Rattle.std.proofs.Common.{◌≡◌, rules}
use Rattle.std.proofs.lemmas.Fmt.{parse-decimal}
use Rattle.tt_ids.proofs.number.written_number.Goals as goal

pub returns-in_default-clause-none : goal.returns-in_default-clause-none
returns-in_default-clause-none c n small e =
    let read = parse-decimal 64 n _ _ small small e c.parse.ensures.value.0 in
    let text : c.format.result.now ≡ c.args.text.now = cc e in
    search rules

pub returns-in_default-2-clause-none : goal.returns-in_default-2-clause-none
returns-in_default-2-clause-none c n small e = absurd (cc (parse-decimal 64 n _ _ small small e c.parse.ensures.value.0))
