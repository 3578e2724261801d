use Rattle.std.proofs.Common.{◌≡◌, ◌∙◌, ◌<◌, length, drop, arith, sym, ap}
use Rattle.std.proofs.lemmas.Bool.Decides.{nat_tests}
use Rattle.tt_text.specs.Characters.{without_white_front}
use Rattle.tt_lists.specs.Reading.{split_of}
use Rattle.tt_lists.proofs.Splits.{front_again, front_less, none_before, split-front, reads_item, reads_fault, reads_end}
use Rattle.tt_lists.specs.declared.items.Split.TheVariants.{Items, Bad}
use Rattle.tt_lists.proofs.SplitLaw.{split_by}
use Rattle.tt_lists.proofs.splitting.split.Goals as goal

pub loop-rest-init : goal.loop-rest-init
loop-rest-init c =
    let text = c.args.text.now in
    let front = c.without_white_front-rest.ensures in
    record {
      split = rw (c.new-items.ensures.empty, front) (sym (none_before (split_of (without_white_front text)) ∙ split-front text));
      front = rw front (front_again text);
    }

pub after_item-rest-requires : goal.after_item-rest-requires
after_item-rest-requires c =
    let some : 0 < length c.loop-rest.rest.now = grind (arith, nat_tests, c.loop-rest-test.ensures) in
    (reads_item c.loop-rest.rest.now c.in-Item.item c.in-Item.takes some c.loop-rest.invariant.front (sym c.in_ok-item.ensures ∙ c.in-Item.is)).within

pub loop-rest-smaller : goal.loop-rest-smaller
loop-rest-smaller c =
    let some : 0 < length c.loop-rest.rest.now = grind (arith, nat_tests, c.loop-rest-test.ensures) in
    let reads = reads_item c.loop-rest.rest.now c.in-Item.item c.in-Item.takes some c.loop-rest.invariant.front (sym c.in_ok-item.ensures ∙ c.in-Item.is) in
    omega (arith, reads.some, reads.within, front_less c.loop-rest.rest.now c.in-Item.takes, ap length c.after_item-rest.ensures)

pub loop-rest-preserved : goal.loop-rest-preserved
loop-rest-preserved c =
    let some : 0 < length c.loop-rest.rest.now = grind (arith, nat_tests, c.loop-rest-test.ensures) in
    let reads = reads_item c.loop-rest.rest.now c.in-Item.item c.in-Item.takes some c.loop-rest.invariant.front (sym c.in_ok-item.ensures ∙ c.in-Item.is) in
    let rest = c.after_item-rest.ensures in
    let pushed = c.in_ok-push-in-Item.ensures.pushed in
    record {
      split = rw (pushed, rest) (c.loop-rest.invariant.split ∙ reads.split c.loop-rest.items);
      front = rw rest (front_again (drop c.in-Item.takes c.loop-rest.rest.now));
    }

pub returns-in-Wrong-clause-answer : goal.returns-in-Wrong-clause-answer
returns-in-Wrong-clause-answer c =
    let some : 0 < length c.loop-rest.rest.now = grind (arith, nat_tests, c.loop-rest-test.ensures) in
    sym (c.loop-rest.invariant.split
    ∙ reads_fault c.loop-rest.rest.now c.in-Wrong.fault c.loop-rest.items some c.loop-rest.invariant.front (sym c.in_ok-item.ensures ∙ c.in-Wrong.is))

pub returns-clause-answer : goal.returns-clause-answer
returns-clause-answer c =
    let none : length c.loop-rest.rest.now ≡ 0 = grind (arith, nat_tests, c.loop-rest-test.ensures) in
    sym (c.loop-rest.invariant.split ∙ reads_end c.loop-rest.rest.now c.loop-rest.items none)

pub returns-in-Wrong-clause-by_grammar : goal.returns-in-Wrong-clause-by_grammar
returns-in-Wrong-clause-by_grammar c = split_by c.args.text.now (Bad c.in-Wrong.fault) (returns-in-Wrong-clause-answer c)

pub returns-clause-by_grammar : goal.returns-clause-by_grammar
returns-clause-by_grammar c = split_by c.args.text.now (Items c.loop-rest.items) (returns-clause-answer c)
