use Rattle.std.proofs.Common.{ℕ, ◌+◌, List, length, drop, sym, subst, ◌∙◌}
use Rattle.memchr.specs.Find.{Nowhere, OccursAt}
use Rattle.tt_strings.proofs.Searches.{FoundFrom, first_found, first_on, first_within, first_none, found_from, nowhere_from, some_bytes}
use Rattle.tt_strings.proofs.finding.first_whole.Goals as goal

pub returns-then-is_whole : goal.returns-then-is_whole
returns-then-is_whole c =
    let P : List ℕ → Type 0 = λ n. FoundFrom n c.args.text.now c.starts.from c.in-Some.at in
    let found = subst P c.new-finder.ensures (found_from c.new-finder.result c.args.text.now c.starts.from c.in-Some.at c.in-Some.ensures) in
    first_found c.args.needle.now c.args.text.now c.starts.from c.in-Some.at c.starts.invariant.within c.starts.invariant.none found
    (sym c.is_whole.ensures ∙ c.if-is_whole.true)

pub starts-preserved : goal.starts-preserved
starts-preserved c =
    let P : List ℕ → Type 0 = λ n. FoundFrom n c.args.text.now c.starts.from c.in-Some.at in
    let found = subst P c.new-finder.ensures (found_from c.new-finder.result c.args.text.now c.starts.from c.in-Some.at c.in-Some.ensures) in
    record {
      within = first_within c.args.needle.now c.args.text.now c.starts.from c.in-Some.at c.requires.some c.starts.invariant.within found;
      none = first_on c.args.needle.now c.args.text.now c.starts.from c.in-Some.at
          (some_bytes c.args.needle.now c.requires.some) c.starts.invariant.within c.starts.invariant.none
          found (sym c.is_whole.ensures ∙ c.if-is_whole.false);
    }

pub returns : goal.returns
returns c =
    let text = c.args.text.now in
    let P : List ℕ → Type 0 = λ n. Nowhere (OccursAt (drop c.starts.from text) n) 0 (length (drop c.starts.from text) + 1) in
    first_none c.args.needle.now c.args.text.now c.starts.from c.starts.invariant.within c.starts.invariant.none
    (subst P c.new-finder.ensures (nowhere_from c.new-finder.result text c.starts.from c.in_default.ensures))
