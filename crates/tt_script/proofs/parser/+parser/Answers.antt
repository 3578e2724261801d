use Rattle.std.proofs.Common.{◌+◌, ◌-◌, ◌<◌, ℕ, List, [], ◌∷◌, ◌++◌, length, drop, take, append-nil, arith, ap, sym, refl, ◌∙◌}
use Rattle.tt_text.specs.Backslash.{backslash}
use Rattle.std.proofs.lemmas.Option.{slice_get-get_or}
use Rattle.std.proofs.Common.{Some}
use Rattle.tt_script.specs.Words.{none, more, letters, variable, element, script, with_letters, with_part}
use Rattle.tt_script.specs.inside.Building.{so_far}
use Rattle.tt_script.specs.Plain.{plain_part, plain_parts, plain_words}
use Rattle.tt_script.specs.declared.command.Part.TheVariants.{Script}
use Rattle.tt_script.specs.inside.Scanning.{ends_run}
use Rattle.tt_script.specs.Reading.{takes, after, map_read, level, letters_of}
use Rattle.tt_script.proofs.Builds.{plain_letters, plain_variable, plain_element, plain_script}
use Rattle.tt_script.proofs.Keeping.{mapped-itself, gathered-word}
use Rattle.tt_script.proofs.Scanning.{run-within}
use Rattle.tt_script.proofs.Readers.{mapped-mapped}
use Rattle.tt_script.proofs.PartSteps.{index-too_deep, brackets-too_deep, dollar_at-braced, dollar_at-itself}
use Rattle.tt_script.proofs.PartSteps.{dollar_at-variable, dollar_at-read, dollar_at-fault, part_at-dollar}
use Rattle.tt_script.proofs.PartSteps.{part_at-script, part_at-script_fault, part_at-escape, parts_at-part}
use Rattle.tt_script.proofs.PartSteps.{parts_at-fault, parts_at-letters}
use Rattle.tt_script.proofs.CommandSteps.{quoted_at-fault, quoted_at-closed, quoted_at-after, parts_at-quoted}
use Rattle.tt_script.proofs.CommandSteps.{parts_at-braced, parts_at-bare, made, word_at, start-within, word-later}
use Rattle.tt_script.proofs.CommandSteps.{expands-room, words_at-last, words_at-more, words_at-fault}
use Rattle.tt_script.proofs.CommandSteps.{commands_at-closed, commands_at-ended, commands_at-more, commands_at-fault}
use Rattle.tt_script.proofs.CommandSteps.{brackets_at-closed, brackets_at-fault, ends_command-room, after_gap-word}
use Rattle.tt_script.proofs.CommandSteps.{in_brackets-word, index_at}
use Rattle.tt_script.proofs.LoneParts.{more_script_at, lone_script_at, script_at-fault, lone_part}
use Rattle.tt_script.proofs.Exits.{answers_exit, adds_exit, ends_exit, continues_exit, refuses_by}
use Rattle.tt_script.proofs.Escapes.{backslash_at_within}
use Rattle.tt_script.proofs.parser.+parser.Goals as goal

pub brackets-returns-then-depth-eq0-clause-read : goal.brackets-returns-then-depth-eq0-clause-read
brackets-returns-then-depth-eq0-clause-read t c =
    ap (λ d. after c.args.from ((level d).brackets (drop c.args.from c.args.text.now))) c.if-depth-eq0.true
    ∙ ap (after c.args.from) (brackets-too_deep (drop c.args.from c.args.text.now))

pub brackets-returns-in_err-end-clause-read : goal.brackets-returns-in_err-end-clause-read
brackets-returns-in_err-end-clause-read t c =
    answers_exit _ _ c.from_residual.result _ _ c.from_residual.ensures.1
    (refuses_by _ _ _ (λ fault e. brackets_at-fault c.args.depth c.args.text.now c.args.from c.if-depth-eq0.false fault e) c.in_err-end.ensures.read)

pub brackets-returns-clause-read : goal.brackets-returns-clause-read
brackets-returns-clause-read t c =
    (_, brackets_at-closed c.args.depth c.args.text.now c.args.from c.if-depth-eq0.false c.in_ok-end.end c.in_ok-end.ensures.read, λ keep. c.in_ok-inside.ensures keep)

pub commands-returns-then-begins-clause-read : goal.commands-returns-then-begins-clause-read
commands-returns-then-begins-clause-read t c =
    c.next_command.invariant.read
    ∙ commands_at-closed (level c.args.depth) c.args.text.now c.next_command.at c.skip_end-start.result c.skip_end-start.ensures.place
    (sym c.begins.ensures ∙ c.if-begins.true)

pub commands-returns-then-start-text-clause-read : goal.commands-returns-then-start-text-clause-read
commands-returns-then-start-text-clause-read t c =
    c.next_command.invariant.read
    ∙ commands_at-ended (level c.args.depth) c.args.text.now c.next_command.at c.skip_end-start.result c.skip_end-start.ensures.place c.if-start-text.true
    (sym c.begins.ensures ∙ c.if-begins.false)

pub commands-words-requires : goal.commands-words-requires
commands-words-requires t c =
    let room : c.skip_end-start.result < length c.args.text.now = omega arith in (
      omega arith,
      (room, in_brackets-word c.args.text.now c.skip_end-start.result room (c.skip_end-start.ensures.word room) (sym c.begins.ensures ∙ c.if-begins.false)),
    )

pub commands-returns-in_err-end-clause-read : goal.commands-returns-in_err-end-clause-read
commands-returns-in_err-end-clause-read t c =
    continues_exit _ c.from_residual.result _ _ c.from_residual.ensures.1
    (refuses_by _ _ _
    (λ fault e. c.next_command.invariant.read
    ∙ commands_at-fault (level c.args.depth) c.args.text.now c.next_command.at c.skip_end-start.result c.skip_end-start.ensures.place (omega arith)
    (sym c.begins.ensures ∙ c.if-begins.false) fault e) c.in_err-end.ensures.read)

pub commands-next_command-preserved : goal.commands-next_command-preserved
commands-next_command-preserved t c =
    record {
      begun = omega (arith, c.next_command.invariant.begun, c.skip_end-start.ensures.place, c.in_ok-end.ensures.within.0);
      within = c.in_ok-end.ensures.within.1;
      read = c.next_command.invariant.read
          ∙ commands_at-more (level c.args.depth) c.args.text.now c.next_command.at c.skip_end-start.result c.skip_end-start.ensures.place (omega arith)
          (sym c.begins.ensures ∙ c.if-begins.false) _ c.in_ok-end.end c.in_ok-end.ensures.read.1 c.in_ok-end.ensures.within.0;
    }

pub index-returns-then-depth-eq0-clause-read : goal.index-returns-then-depth-eq0-clause-read
index-returns-then-depth-eq0-clause-read t c =
    ap (λ d. after c.args.from ((level d).index (drop c.args.from c.args.text.now))) c.if-depth-eq0.true
    ∙ ap (after c.args.from) (index-too_deep (drop c.args.from c.args.text.now))

pub index-returns-in_err-parts-clause-read : goal.index-returns-in_err-parts-clause-read
index-returns-in_err-parts-clause-read t c =
    answers_exit _ _ c.from_residual.result _ _ c.from_residual.ensures.1
    (refuses_by _ _ _ (λ fault e. index_at c.args.depth c.args.text.now c.args.from c.if-depth-eq0.false ∙ e) c.in_err-parts.ensures.read)

pub index-returns-clause-read : goal.index-returns-clause-read
index-returns-clause-read t c =
    let read = c.in_ok-parts.ensures.read in
    (read.0, index_at c.args.depth c.args.text.now c.args.from c.if-depth-eq0.false ∙ read.1, read.2)

pub parts-returns-clause-read : goal.parts-returns-clause-read
parts-returns-clause-read t c =
    let read = c.in_ok-end.ensures.read in
    (read.0, read.1, λ keep. read.2 (c.new-builder.ensures.mode ∙ keep) ∙ c.new-builder.ensures.parts read.0)

pub parts-returns-in_err-end-clause-read : goal.parts-returns-in_err-end-clause-read
parts-returns-in_err-end-clause-read t c =
    answers_exit _ _ c.from_residual.result _ _ c.from_residual.ensures.1 c.in_err-end.ensures.read

pub push_more-returns-in_err-end-clause-read : goal.push_more-returns-in_err-end-clause-read
push_more-returns-in_err-end-clause-read t c =
    ends_exit (level c.args.depth) c.args.ending c.args.text.now c.args.builder.now c.push_parts.new.builder c.from_residual.result _ _ c.from_residual.ensures.1 c.in_err-end.ensures.read

pub push_parts-returns-clause-read : goal.push_parts-returns-clause-read
push_parts-returns-clause-read t c =
    let reached = c.loop-at.invariant.read in
    (reached.0 none, reached.1 ∙ ap (map_read reached.0) (c.in_ok-must_end.ensures.ok (level c.args.depth)), λ keep. c.in_ok-finish.ensures ∙ reached.2 keep none)

pub push_parts-returns-in_err-must_end-clause-read : goal.push_parts-returns-in_err-must_end-clause-read
push_parts-returns-in_err-must_end-clause-read t c =
    ends_exit (level c.args.depth) c.args.ending c.args.text.now c.args.builder.now c.loop-at.builder c.from_residual-in_err-must_end.result _ _ c.from_residual-in_err-must_end.ensures.1
    (refuses_by _ _ _ (λ fault e. c.loop-at.invariant.read.1 ∙ ap (map_read c.loop-at.invariant.read.0) e) (c.in_err-must_end.ensures.fault (level c.args.depth)))

pub push_parts-returns-in_err-at-clause-read : goal.push_parts-returns-in_err-at-clause-read
push_parts-returns-in_err-at-clause-read t c =
    ends_exit (level c.args.depth) c.args.ending c.args.text.now c.args.builder.now c.push_part.new.builder c.from_residual.result _ _ c.from_residual.ensures.1
    (refuses_by _ _ _ (λ fault e. c.loop-at.invariant.read.1 ∙ ap (map_read c.loop-at.invariant.read.0) e) c.in_err-at.ensures.read)

pub push_part-slice_bounds-push_letters-end-in_default : goal.push_part-slice_bounds-push_letters-end-in_default
push_part-slice_bounds-push_letters-end-in_default t c =
    omega (arith, run-within (ends_run c.args.ending) c.args.text.now (c.args.at + 1) (omega arith), c.letters_end-next.ensures)

pub push_part-returns-in_err-part-in-36-clause-read : goal.push_part-returns-in_err-part-in-36-clause-read
push_part-returns-in_err-part-in-36-clause-read t c =
    adds_exit (level c.args.depth) c.args.ending c.args.text.now c.args.builder.now c.args.builder.now c.from_residual.result _ _ c.from_residual.ensures.1
    (refuses_by _ _ _
    (λ fault e. parts_at-fault (level c.args.depth) c.args.ending c.args.text.now c.args.at fault c.requires.here c.requires.goes_on
    (ap (after (c.args.at + 1)) (part_at-dollar (level c.args.depth) c.args.text.now c.args.at c.in-36.is) ∙ e)) c.in_err-part-in-36.ensures.read)

pub push_part-returns-in_err-inside-in-91-clause-read : goal.push_part-returns-in_err-inside-in-91-clause-read
push_part-returns-in_err-inside-in-91-clause-read t c =
    adds_exit (level c.args.depth) c.args.ending c.args.text.now c.args.builder.now c.args.builder.now c.from_residual-in_err-inside-in-91.result _ _ c.from_residual-in_err-inside-in-91.ensures.1
    (refuses_by _ _ _
    (λ fault e. parts_at-fault (level c.args.depth) c.args.ending c.args.text.now c.args.at fault c.requires.here c.requires.goes_on
    (part_at-script_fault (level c.args.depth) c.args.text.now c.args.at fault c.in-91.is e)) c.in_err-inside-in-91.ensures.read)

pub push_part-backslash-sequence-requires : goal.push_part-backslash-sequence-requires
push_part-backslash-sequence-requires t c =
    slice_get-get_or c.args.text.now c.args.at 0 c.requires.here ∙ ap Some c.in-92.is

pub push_part-returns-in_ok-push-in-36-clause-read : goal.push_part-returns-in_ok-push-in-36-clause-read
push_part-returns-in_ok-push-in-36-clause-read t c =
    let read = c.in_ok-part-in-36.ensures.read in (
      with_part read.0,
      parts_at-part (level c.args.depth) c.args.ending c.args.text.now c.args.at c.in_ok-part-in-36.next read.0 c.requires.here c.requires.goes_on
          (ap (after (c.args.at + 1)) (part_at-dollar (level c.args.depth) c.args.text.now c.args.at c.in-36.is) ∙ read.1)
          (omega (arith, c.in_ok-part-in-36.ensures.within)),
      λ keep rest. c.in_ok-push-in-36.ensures.added keep rest ∙ ap (λ p. so_far c.args.builder.now (with_part p rest)) (read.2 keep),
    )

pub push_part-returns-in_ok-push-in-91-clause-read : goal.push_part-returns-in_ok-push-in-91-clause-read
push_part-returns-in_ok-push-in-91-clause-read t c =
    let read = c.in_ok-inside-in-91.ensures.read in
    let end = c.in_ok-inside-in-91.end in (
      with_part (script read.0),
      parts_at-part (level c.args.depth) c.args.ending c.args.text.now c.args.at (end + 1) (script read.0) c.requires.here c.requires.goes_on
          (part_at-script (level c.args.depth) c.args.text.now c.args.at read.0 end c.in-91.is read.1)
          (omega (arith, c.in_ok-inside-in-91.ensures.within)),
      λ keep rest. c.in_ok-push-in-91.ensures.added keep rest
          ∙ ap (λ p. so_far c.args.builder.now (with_part p rest)) (plain_script c.in_ok-inside-in-91.inside ∙ ap script (read.2 keep)),
    )

pub push_part-returns-in_ok-push_letters-in-92-clause-read : goal.push_part-returns-in_ok-push_letters-in-92-clause-read
push_part-returns-in_ok-push_letters-in-92-clause-read t c =
    let bytes : List ℕ = (backslash (drop (c.args.at + 1) c.args.text.now)).value in (
      with_part (letters bytes),
      parts_at-part (level c.args.depth) c.args.ending c.args.text.now c.args.at c.backslash-sequence.result.next
          (letters bytes) c.requires.here c.requires.goes_on
          (ap (after (c.args.at + 1)) (part_at-escape (level c.args.depth) c.args.text.now c.args.at c.in-92.is)
          ∙ ap (takes (letters bytes)) (sym c.backslash-sequence.ensures.next))
          (omega (arith, c.backslash-sequence.ensures.next)),
      λ keep rest. c.in_ok-push_letters-in-92.ensures.added keep rest
          ∙ ap (λ bs. so_far c.args.builder.now (with_letters bs rest))
          (ap (λ n. take n c.backslash-sequence.result.bytes) c.from.ensures ∙ c.backslash-sequence.ensures.value),
    )

pub push_part-returns-in_ok-push_letters-in-92-clause-within : goal.push_part-returns-in_ok-push_letters-in-92-clause-within
push_part-returns-in_ok-push_letters-in-92-clause-within t c = (
  omega (arith, c.backslash-sequence.ensures.next),
  omega
      (arith, c.backslash-sequence.ensures.next, backslash_at_within c.args.text.now c.args.at c.requires.here),
)

pub push_part-returns-in_ok-push_letters-in_default-clause-read : goal.push_part-returns-in_ok-push_letters-in_default-clause-read
push_part-returns-in_ok-push_letters-in_default-clause-read t c =
    let text = c.args.text.now in
    let next = c.letters_end-next.result in
    let within = run-within (ends_run c.args.ending) text (c.args.at + 1) (omega arith) in (
      with_letters (take (next - c.args.at) (drop c.args.at text)),
      parts_at-letters (level c.args.depth) c.args.ending text c.args.at c.requires.here c.requires.goes_on next (omega arith) (omega arith) (omega arith)
          (omega (arith, c.letters_end-next.ensures)) (omega (arith, within, c.letters_end-next.ensures)) (omega (arith, c.letters_end-next.ensures)),
      λ keep rest. c.in_ok-push_letters-in_default.ensures.added keep rest,
    )

pub quoted-returns-clause-read : goal.quoted-returns-clause-read
quoted-returns-clause-read t c =
    let read = c.in_ok-parts.ensures.read in (
      read.0,
      quoted_at-closed c.args.place (level c.args.depth) c.args.text.now c.args.from read.0 c.in_ok-parts.end read.1
          (sym c.separates.ensures ∙ c.if-not-separates.false),
      read.2,
    )

pub quoted-returns-in_err-parts-clause-read : goal.quoted-returns-in_err-parts-clause-read
quoted-returns-in_err-parts-clause-read t c =
    answers_exit _ _ c.from_residual.result _ _ c.from_residual.ensures.1
    (refuses_by _ _ _ (λ fault e. quoted_at-fault c.args.place (level c.args.depth) c.args.text.now c.args.from fault e) c.in_err-parts.ensures.read)

pub quoted-returns-then-not-separates-clause-read : goal.quoted-returns-then-not-separates-clause-read
quoted-returns-then-not-separates-clause-read t c =
    let read = c.in_ok-parts.ensures.read in
    quoted_at-after c.args.place (level c.args.depth) c.args.text.now c.args.from read.0 c.in_ok-parts.end read.1
    (sym c.separates.ensures ∙ c.if-not-separates.true)

pub variable-returns-clause-read : goal.variable-returns-clause-read
variable-returns-clause-read t c =
    let read = c.in_ok-parts.ensures.read in
    let name = take (c.name_end-end.result - c.args.from) (drop c.args.from c.args.text.now) in (
      element name read.0,
      dollar_at-read (level c.args.depth) c.args.text.now c.args.from c.name_end-end.result
          (sym c.begins.ensures ∙ c.if-begins.false) c.name_end-end.ensures.place c.if-end-from.false
          (sym c.begins-2.ensures ∙ c.if-not-begins.false) read.0 c.in_ok-parts.close read.1,
      λ keep. plain_element c.in_ok-name.name c.in_ok-parts.parts ∙ ap (λ n. element n (plain_parts c.in_ok-parts.parts.items)) (c.in_ok-name.ensures keep)
          ∙ ap (element name) (read.2 keep),
    )

pub variable-returns-in_err-parts-clause-read : goal.variable-returns-in_err-parts-clause-read
variable-returns-in_err-parts-clause-read t c =
    answers_exit _ _ c.from_residual-in_err-parts.result _ _ c.from_residual-in_err-parts.ensures.1
    (refuses_by _ _ _
    (λ fault e. dollar_at-fault (level c.args.depth) c.args.text.now c.args.from c.name_end-end.result
    (sym c.begins.ensures ∙ c.if-begins.false) c.name_end-end.ensures.place c.if-end-from.false
    (sym c.begins-2.ensures ∙ c.if-not-begins.false) fault e) c.in_err-parts.ensures.read)

pub variable-returns-then-end-from-clause-read : goal.variable-returns-then-end-from-clause-read
variable-returns-then-end-from-clause-read t c = (
  letters (36 ∷ []),
  dollar_at-itself (level c.args.depth) c.args.text.now c.args.from c.name_end-end.result
      (sym c.begins.ensures ∙ c.if-begins.false) c.name_end-end.ensures.place c.if-end-from.true,
  λ keep. plain_letters _ ∙ ap letters (c.in_ok-text.ensures keep),
)

pub variable-returns-then-not-begins-clause-read : goal.variable-returns-then-not-begins-clause-read
variable-returns-then-not-begins-clause-read t c = (
  variable (take (c.name_end-end.result - c.args.from) (drop c.args.from c.args.text.now)),
  dollar_at-variable (level c.args.depth) c.args.text.now c.args.from c.name_end-end.result
      (sym c.begins.ensures ∙ c.if-begins.false) c.name_end-end.ensures.place c.if-end-from.false (sym c.begins-2.ensures ∙ c.if-not-begins.true),
  λ keep. plain_variable _ ∙ ap variable (c.in_ok-name.ensures keep),
)

pub word-after_expansion-start-requires : goal.word-after_expansion-start-requires
word-after_expansion-start-requires t c expand =
    omega (arith, expands-room c.args.text.now c.args.from (sym c.expands-expand.ensures ∙ expand))

pub word-word_parts-requires : goal.word-word_parts-requires
word-word_parts-requires t c = (
  omega arith,
  (start-within c.args.place c.args.text.now c.args.from c.after_expansion-start.result c.expands-expand.result
      (sym c.expands-expand.ensures) c.after_expansion-start.ensures.expands c.after_expansion-start.ensures.plain c.requires.here).1,
)

pub word-returns-in_err-parts-clause-read : goal.word-returns-in_err-parts-clause-read
word-returns-in_err-parts-clause-read t c =
    answers_exit _ _ c.from_residual.result _ _ c.from_residual.ensures.1
    (refuses_by _ _ _
    (λ fault e. word_at c.args.place c.args.text.now c.args.from c.after_expansion-start.result (level c.args.depth) c.expands-expand.result
    (sym c.expands-expand.ensures) c.after_expansion-start.ensures.expands c.after_expansion-start.ensures.plain
    ∙ ap (map_read (made c.expands-expand.result)) e) c.in_err-parts.ensures.read)

pub word-returns-clause-read : goal.word-returns-clause-read
word-returns-clause-read t c =
    let read = c.in_ok-parts.ensures.read in (
      made c.expands-expand.result read.0,
      word_at c.args.place c.args.text.now c.args.from c.after_expansion-start.result
          (level c.args.depth) c.expands-expand.result
          (sym c.expands-expand.ensures) c.after_expansion-start.ensures.expands c.after_expansion-start.ensures.plain
          ∙ ap (map_read (made c.expands-expand.result)) read.1,
      λ keep. ap (made c.expands-expand.result) (read.2 keep),
    )

pub word-returns-clause-within : goal.word-returns-clause-within
word-returns-clause-within t c = (
  word-later c.args.place c.args.text.now c.args.from c.after_expansion-start.result c.expands-expand.result c.in_ok-parts.end c.after_expansion-start.ensures.expands c.after_expansion-start.ensures.plain c.requires.begins c.in_ok-parts.ensures.within.0 c.in_ok-parts.ensures.later,
  c.in_ok-parts.ensures.within.1,
)

pub word_parts-returns-in_ok-parts-clause-read : goal.word_parts-returns-in_ok-parts-clause-read
word_parts-returns-in_ok-parts-clause-read t c =
    let read = c.in_ok-parts.ensures.read in
    (read.0, parts_at-quoted c.args.place (level c.args.depth) c.args.text.now c.args.from (sym c.begins.ensures ∙ c.if-begins.true) ∙ read.1, read.2)

pub word_parts-returns-in_err-parts-clause-read : goal.word_parts-returns-in_err-parts-clause-read
word_parts-returns-in_err-parts-clause-read t c =
    answers_exit _ _ c.from_residual.result _ _ c.from_residual.ensures.1
    (refuses_by _ _ _
    (λ fault e. parts_at-quoted c.args.place (level c.args.depth) c.args.text.now c.args.from (sym c.begins.ensures ∙ c.if-begins.true)
    ∙ e) c.in_err-parts.ensures.read)

pub word_parts-returns-in_ok-parts-2-clause-read : goal.word_parts-returns-in_ok-parts-2-clause-read
word_parts-returns-in_ok-parts-2-clause-read t c =
    let read = c.in_ok-parts-2.ensures.read in (
      read.0,
      parts_at-braced c.args.place (level c.args.depth) c.args.text.now c.args.from (sym c.begins.ensures ∙ c.if-begins.false)
          (sym c.begins-else-begins.ensures ∙ c.if-begins-2.true) ∙ read.1,
      read.2,
    )

pub word_parts-returns-in_err-parts-2-clause-read : goal.word_parts-returns-in_err-parts-2-clause-read
word_parts-returns-in_err-parts-2-clause-read t c =
    answers_exit _ _ c.from_residual-in_err-parts-2.result _ _ c.from_residual-in_err-parts-2.ensures.1
    (refuses_by _ _ _
    (λ fault e. parts_at-braced c.args.place (level c.args.depth) c.args.text.now c.args.from (sym c.begins.ensures ∙ c.if-begins.false)
    (sym c.begins-else-begins.ensures ∙ c.if-begins-2.true) ∙ e) c.in_err-parts-2.ensures.read)

pub word_parts-returns-in_ok-parts-3-clause-read : goal.word_parts-returns-in_ok-parts-3-clause-read
word_parts-returns-in_ok-parts-3-clause-read t c =
    let name = take (c.in-Some.end - (c.args.from + 1)) (drop (c.args.from + 1) c.args.text.now) in (
      more (variable name) none,
      parts_at-bare c.args.place (level c.args.depth) c.args.text.now c.args.from (sym c.begins.ensures ∙ c.if-begins.false)
          (sym c.begins-else-begins.ensures ∙ c.if-begins-2.false) ∙ c.in-Some.ensures.read (level c.args.depth),
      λ keep. lone_part c.in_ok-parts-3.parts.items _ _ (c.in_ok-parts-3.ensures keep) (plain_variable _ ∙ ap variable (c.in_ok-name.ensures keep)),
    )

pub word_parts-returns-in_ok-parts-4-clause-read : goal.word_parts-returns-in_ok-parts-4-clause-read
word_parts-returns-in_ok-parts-4-clause-read t c =
    let read = c.in_ok-parts-4.ensures.read in (
      read.0,
      parts_at-bare c.args.place (level c.args.depth) c.args.text.now c.args.from (sym c.begins.ensures ∙ c.if-begins.false)
          (sym c.begins-else-begins.ensures ∙ c.if-begins-2.false) ∙ read.1,
      read.2,
    )

pub word_parts-returns-in_err-parts-4-clause-read : goal.word_parts-returns-in_err-parts-4-clause-read
word_parts-returns-in_err-parts-4-clause-read t c =
    answers_exit _ _ c.from_residual-in_err-parts-4.result _ _ c.from_residual-in_err-parts-4.ensures.1
    (refuses_by _ _ _
    (λ fault e. parts_at-bare c.args.place (level c.args.depth) c.args.text.now c.args.from (sym c.begins.ensures ∙ c.if-begins.false)
    (sym c.begins-else-begins.ensures ∙ c.if-begins-2.false) ∙ e) c.in_err-parts-4.ensures.read)

pub word_parts-returns-in_ok-parts-5-clause-read : goal.word_parts-returns-in_ok-parts-5-clause-read
word_parts-returns-in_ok-parts-5-clause-read t c = (
  letters_of (take (c.in-Some-plain_end.end - c.args.from) (drop c.args.from c.args.text.now)),
  parts_at-bare c.args.place (level c.args.depth) c.args.text.now c.args.from (sym c.begins.ensures ∙ c.if-begins.false)
      (sym c.begins-else-begins.ensures ∙ c.if-begins-2.false) ∙ c.in-Some-plain_end.ensures.read (level c.args.depth),
  λ keep. c.in_ok-parts-5.ensures ∙ ap letters_of (c.in_ok-plain.ensures keep),
)

pub word_parts-returns-in_ok-parts-6-clause-read : goal.word_parts-returns-in_ok-parts-6-clause-read
word_parts-returns-in_ok-parts-6-clause-read t c =
    let read = c.in_ok-parts-6.ensures.read in (
      read.0,
      parts_at-bare c.args.place (level c.args.depth) c.args.text.now c.args.from (sym c.begins.ensures ∙ c.if-begins.false)
          (sym c.begins-else-begins.ensures ∙ c.if-begins-2.false) ∙ read.1,
      read.2,
    )

pub word_parts-returns-in_err-parts-6-clause-read : goal.word_parts-returns-in_err-parts-6-clause-read
word_parts-returns-in_err-parts-6-clause-read t c =
    answers_exit _ _ c.from_residual-in_err-parts-6.result _ _ c.from_residual-in_err-parts-6.ensures.1
    (refuses_by _ _ _
    (λ fault e. parts_at-bare c.args.place (level c.args.depth) c.args.text.now c.args.from (sym c.begins.ensures ∙ c.if-begins.false)
    (sym c.begins-else-begins.ensures ∙ c.if-begins-2.false) ∙ e) c.in_err-parts-6.ensures.read)

pub script_parts-returns-then-separates-clause-read : goal.script_parts-returns-then-separates-clause-read
script_parts-returns-then-separates-clause-read t c =
    let read = c.in_ok-inside.ensures.read in (
      more (script read.0) none,
      lone_script_at (level c.args.depth) c.args.place c.args.text.now c.args.from c.requires.bracket read.0 c.in_ok-inside.close read.1
          (omega (arith, c.in_ok-inside.ensures.within)) (omega (arith, c.in_ok-inside.ensures.within)) (sym c.separates.ensures ∙ c.if-separates.true),
      λ keep. lone_part c.in_ok-parts.parts.items _ _ (c.in_ok-parts.ensures keep) (plain_script _ ∙ ap script (read.2 keep)),
    )

pub script_parts-returns-clause-read : goal.script_parts-returns-clause-read
script_parts-returns-clause-read t c =
    let read = c.in_ok-inside.ensures.read in
    let ended = c.in_ok-end.ensures.read in
    let keeps = c.new-builder.ensures.mode in (
      with_part (script read.0) ended.0,
      more_script_at (level c.args.depth) c.args.place c.args.text.now c.args.from c.requires.bracket read.0 c.in_ok-inside.close read.1
          (omega (arith, c.in_ok-inside.ensures.within))
          ∙ ap (map_read (with_part (script read.0))) ended.1,
      λ keep. ended.2 (c.in_ok-push.ensures.mode ∙ keeps ∙ keep) ∙ c.in_ok-push.ensures.added (keeps ∙ keep) ended.0
          ∙ c.new-builder.ensures.parts (with_part (plain_part (Script c.in_ok-inside.inside)) ended.0)
          ∙ ap (λ p. with_part p ended.0) (plain_script c.in_ok-inside.inside ∙ ap script (read.2 keep)),
    )

pub script_parts-returns-in_err-inside-clause-read : goal.script_parts-returns-in_err-inside-clause-read
script_parts-returns-in_err-inside-clause-read t c =
    answers_exit _ _ c.from_residual.result _ _ c.from_residual.ensures.1
    (refuses_by _ _ _
    (λ fault e. script_at-fault (level c.args.depth) c.args.place c.args.text.now c.args.from c.requires.bracket fault e) c.in_err-inside.ensures.read)

pub script_parts-returns-in_err-end-clause-read : goal.script_parts-returns-in_err-end-clause-read
script_parts-returns-in_err-end-clause-read t c =
    let read = c.in_ok-inside.ensures.read in
    answers_exit _ _ c.from_residual-in_err-end.result _ _ c.from_residual-in_err-end.ensures.1
    (refuses_by _ _ _ (λ fault e.
    more_script_at (level c.args.depth) c.args.place c.args.text.now c.args.from c.requires.bracket read.0 c.in_ok-inside.close read.1
    (omega (arith, c.in_ok-inside.ensures.within))
    ∙ ap (map_read (with_part (script read.0))) e) c.in_err-end.ensures.read)

pub variable-returns-then-begins-clause-read : goal.variable-returns-then-begins-clause-read
variable-returns-then-begins-clause-read t c =
    let read = c.in_ok-part.ensures.read in
    (read.0, dollar_at-braced (level c.args.depth) c.args.text.now c.args.from (sym c.begins.ensures ∙ c.if-begins.true) ∙ read.1, read.2)

pub variable-returns-in_err-part-clause-read : goal.variable-returns-in_err-part-clause-read
variable-returns-in_err-part-clause-read t c =
    answers_exit _ _ c.from_residual.result _ _ c.from_residual.ensures.1
    (refuses_by _ _ _
    (λ fault e. dollar_at-braced (level c.args.depth) c.args.text.now c.args.from (sym c.begins.ensures ∙ c.if-begins.true) ∙ e) c.in_err-part.ensures.read)

pub words-next_word-preserved : goal.words-next_word-preserved
words-next_word-preserved t c =
    let text = c.args.text.now in
    let next = c.gap_end-at.result in
    let unended = sym c.ends_command.ensures ∙ c.if-ends_command.false in
    let room = ends_command-room c.args.place text next unended in
    let read = c.in_ok-word.ensures.read in
    let gathered = c.next_word.invariant.read in
    record {
      begun = omega (arith, c.next_word.invariant.begun, c.in_ok-word.ensures.within, c.gap_end-at.ensures.place);
      within = room;
      word = after_gap-word c.args.place text next room (c.gap_end-at.ensures.blank room) (c.gap_end-at.ensures.line room) unended;
      read = (
        λ rest. gathered.0 (read.0 ∷ rest),
        gathered.1
            ∙ ap (map_read gathered.0)
            (words_at-more c.args.place
            (level c.args.depth) text c.next_word.at c.next_word.invariant.within read.0 c.in_ok-word.end next read.1 c.gap_end-at.ensures.place c.in_ok-word.ensures.within.0 unended)
            ∙ mapped-mapped gathered.0 (λ rest. read.0 ∷ rest) _,
        λ keep rest. gathered-word c.next_word.words.items _ c.in_ok-word.word read.0 rest (c.in_ok-push_word.ensures keep) (read.2 keep)
            ∙ gathered.2 keep (read.0 ∷ rest),
      );
    }

pub words-returns-in_err-word-clause-read : goal.words-returns-in_err-word-clause-read
words-returns-in_err-word-clause-read t c =
    answers_exit _ _ c.from_residual-in_err-word.result _ _ c.from_residual-in_err-word.ensures.1
    (refuses_by _ _ _
    (λ fault e. c.next_word.invariant.read.1
    ∙ ap (map_read c.next_word.invariant.read.0)
    (words_at-fault c.args.place (level c.args.depth) c.args.text.now c.next_word.at c.next_word.invariant.within fault e)) c.in_err-word.ensures.read)

pub words-returns-then-ends_command-clause-read : goal.words-returns-then-ends_command-clause-read
words-returns-then-ends_command-clause-read t c =
    let read = c.in_ok-word.ensures.read in
    let gathered = c.next_word.invariant.read in (
      gathered.0 (read.0 ∷ []),
      gathered.1
          ∙ ap (map_read gathered.0)
          (words_at-last c.args.place
          (level c.args.depth) c.args.text.now c.next_word.at c.next_word.invariant.within read.0 c.in_ok-word.end c.gap_end-at.result read.1 c.gap_end-at.ensures.place (sym c.ends_command.ensures ∙ c.if-ends_command.true)),
      λ keep. sym (append-nil _) ∙ gathered-word c.next_word.words.items _ c.in_ok-word.word read.0 [] (c.in_ok-push_word.ensures keep) (read.2 keep)
          ∙ gathered.2 keep (read.0 ∷ []),
    )

pub words-next_word-init : goal.words-next_word-init
words-next_word-init t c = record {
  begun = omega arith;
  within = c.requires.here;
  word = c.requires.begins;
  read = (λ rest. rest, mapped-itself _, λ keep rest. ap (λ ws. plain_words ws ++ rest) c.in_ok-words.ensures);
}

pub push_parts-loop-at-init : goal.push_parts-loop-at-init
push_parts-loop-at-init t c = record {
  begun = omega arith;
  within = c.requires;
  mode = refl;
  read = (λ rest. rest, mapped-itself _, λ keep rest. refl);
}

pub push_parts-loop-at-preserved : goal.push_parts-loop-at-preserved
push_parts-loop-at-preserved t c =
    let reached = c.loop-at.invariant.read in
    let step = c.in_ok-at.ensures.read in
    record {
      begun = omega (arith, c.loop-at.invariant.begun, c.in_ok-at.ensures.within);
      within = c.in_ok-at.ensures.within.1;
      mode = c.in_ok-at.ensures.mode ∙ c.loop-at.invariant.mode;
      read = (
        λ rest. reached.0 (step.0 rest),
        reached.1 ∙ ap (map_read reached.0) step.1 ∙ mapped-mapped reached.0 step.0 _,
        λ keep rest. step.2 (c.loop-at.invariant.mode ∙ keep) rest ∙ reached.2 keep (step.0 rest),
      );
    }
