use Rattle.std.proofs.Common.{◌-◌, ◌∙◌, sym, ap, take, drop, Option}
use Rattle.std.specs.Option.{option_map}
use Rattle.tt_script.specs.Reading.{letters_of, joined_lines}
use Rattle.tt_script.specs.declared.braces.Closing.{Closing}
use Rattle.tt_script.proofs.Readers.{braced_at-closed, braced_at-after, braced_at-open}
use Rattle.tt_script.proofs.parser.braced.Goals as goal

pub returns-clause-read : goal.returns-clause-read
returns-clause-read c = (
  letters_of (joined_lines 0 (take (c.in-Some.closing.end - c.args.from) (drop c.args.from c.args.text.now))),
  braced_at-closed c.args.place c.args.text.now c.args.from c.in-Some.closing.end c.in-Some.ensures.place (sym c.separates.ensures ∙ c.if-not-separates.false),
  λ keep. c.in_ok-parts.ensures keep,
)

pub returns-in_default-clause-read : goal.returns-in_default-clause-read
returns-in_default-clause-read c =
    braced_at-open c.args.place c.args.text.now c.args.from
    (ap (λ (o : Option Closing). option_map (λ closing. closing.end) o) (sym c.in_default.is) ∙ c.closing_brace.ensures.place)

pub returns-then-not-separates-clause-read : goal.returns-then-not-separates-clause-read
returns-then-not-separates-clause-read c =
    braced_at-after c.args.place c.args.text.now c.args.from c.in-Some.closing.end c.in-Some.ensures.place (sym c.separates.ensures ∙ c.if-not-separates.true)
