use Rattle.std.proofs.Common.{refl, subst, List, ℕ}
use Rattle.std.proofs.lemmas.List.{take_rest}
use Rattle.tt_text.specs.Characters.{characters}
use Rattle.tt_strings.specs.Mapping.{HasNoPair, IsFirstPair}
use Rattle.tt_strings.proofs.Pairs.{pair_of, pair_here, pair_later, pair_none}
use Rattle.tt_strings.proofs.mapping.first_pair.Goals as goal

pub returns-in-Some-clause-cases : goal.returns-in-Some-clause-cases
returns-in-Some-clause-cases c =
    let pair = pair_of c.pairs.left.now c.key-item.result c.value-item.result c.as_bytes.result.now c.as_bytes-in-Some.result.now c.in-len2-up.len_at_least c.key-item.is c.value-item.is
    c.as_bytes.ensures.bytes c.as_bytes-in-Some.ensures.bytes in
    c.pairs.invariant.first _ _ (pair_here _ _ _ _ _ _ pair c.in-Some.ensures.cases)

pub pairs-preserved : goal.pairs-preserved
pairs-preserved c =
    let pair = pair_of c.pairs.left.now c.key-item.result c.value-item.result c.as_bytes.result.now c.value-item.result c.in-len2-up.len_at_least c.key-item.is c.value-item.is
    c.as_bytes.ensures.bytes refl in
    let text = characters c.args.text.now in
    let more = take_rest c.pairs.left.now 2 in
    record {
      none = λ h. c.pairs.invariant.none (pair_none _ _ _ _ _ pair c.in_default-after_key.ensures.cases (let P : List (List ℕ) → Type 0 = λ l. HasNoPair l text in subst P more h));
      first = λ value rest h. c.pairs.invariant.first value rest
          (pair_later _ _ _ _ _ _ _ pair c.in_default-after_key.ensures.cases (let P : List (List ℕ) → Type 0 = λ l. IsFirstPair l text value rest in subst P more h));
    }
