use Rattle.std.proofs.Common.{Some, None, arith, ap, sym, ◌∙◌}
use Rattle.std.proofs.lemmas.Str.Pattern.{split_parts}
use Rattle.tt_search_words.specs.inside.Places.{after_sign, before_sign}
use Rattle.tt_search_words.proofs.CutLemmas.{after_sign-Lacks, after_sign-at, before_sign-Lacks, before_sign-at}
use Rattle.tt_search_words.proofs.places.cut.Goals as goal

pub returns-in-Some : goal.returns-in-Some
returns-in-Some c =
    let parts =
    split_parts 61 c.args.word.now (Some (c.in-Some.name, c.in-Some.value)) c.in-Some.ensures.cases (omega arith) in
    record {
      name = sym (ap before_sign parts.0 ∙ before_sign-at c.in-Some.name.now c.in-Some.value.now parts.1);
      value = sym (ap after_sign parts.0 ∙ after_sign-at c.in-Some.name.now c.in-Some.value.now parts.1);
    }

pub returns-in-None : goal.returns-in-None
returns-in-None c =
    let lacks = split_parts 61 c.args.word.now None c.in-None.ensures.cases (omega arith) in
    record {
      name = sym (before_sign-Lacks c.args.word.now lacks);
      value = sym (after_sign-Lacks c.args.word.now lacks);
    }
