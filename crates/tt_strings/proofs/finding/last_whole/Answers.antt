use Rattle.std.proofs.Common.{ℕ, ◌+◌, List, length, take, sym, subst, ◌∙◌, arith}
use Rattle.memchr.specs.Find.{Nowhere, OccursAt}
use Rattle.tt_strings.proofs.Searches.{FoundUpTo, last_found, last_on, last_within, last_none, none_past_end, some_bytes}
use Rattle.tt_strings.proofs.finding.last_whole.Goals as goal

pub starts-init : goal.starts-init
starts-init c = record { within = omega arith; none = none_past_end c.args.needle.now c.args.text.now }

pub returns-then-is_whole : goal.returns-then-is_whole
returns-then-is_whole c =
    let P : List ℕ → Type 0 = λ n. FoundUpTo n c.args.text.now c.starts.end c.in-Some.start in
    let found = subst P c.new-finder.ensures c.in-Some.ensures in
    last_found c.args.needle.now c.args.text.now c.starts.end c.in-Some.start c.starts.invariant.within c.starts.invariant.none found
    (sym c.is_whole.ensures ∙ c.if-is_whole.true)

pub starts-preserved : goal.starts-preserved
starts-preserved c =
    let P : List ℕ → Type 0 = λ n. FoundUpTo n c.args.text.now c.starts.end c.in-Some.start in
    let found = subst P c.new-finder.ensures c.in-Some.ensures in
    let ends = last_within c.args.needle.now c.args.text.now c.starts.end c.in-Some.start c.starts.invariant.within found in
    let within = c.starts.invariant.within in
    record {
      within = omega (arith, ends, within);
      none = last_on c.args.needle.now c.args.text.now c.starts.end c.in-Some.start
          (some_bytes c.args.needle.now c.requires.some) within c.starts.invariant.none
          found (sym c.is_whole.ensures ∙ c.if-is_whole.false);
    }

pub returns : goal.returns
returns c =
    let text = c.args.text.now in
    let P : List ℕ → Type 0 = λ n. Nowhere (OccursAt (take c.starts.end text) n) 0 (length (take c.starts.end text) + 1) in
    last_none c.args.needle.now c.args.text.now c.starts.end c.starts.invariant.within c.starts.invariant.none
    (subst P c.new-finder.ensures c.in_default.ensures)
