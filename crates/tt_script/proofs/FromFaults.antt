-- The fault that a text has, the readers meet.
use Rattle.std.proofs.Common.{◌≡◌, ℕ, suc, pred, ◌+◌, ◌<◌, true, false, ◌==◌, List, [], ◌∷◌, ◌++◌, length, drop, take, refl, ap, ◌∙◌, arith, Option, Some, None}
use Rattle.std.proofs.lemmas.Bool.{eq-eqb, le-ltb}
use Rattle.std.specs.Prelude.{nat_lt, if◌then◌else◌}
use Rattle.std.specs.List.{position_or_len}
use Rattle.tt_text.specs.Braces.{IsBalanced, IsClosedAt, matching_brace}
use Rattle.tt_text.proofs.BraceLemmas.{matching_brace_law}
use Rattle.tt_script.specs.Words.{PlainPart, element, script, PlainParts, with_part, PlainWord}
use Rattle.tt_script.specs.Reading.{takes, fails, after, map_read, and_then, begins, separates, before_separator, ends_command}
use Rattle.tt_script.specs.Reading.{ends_parts, part_of_name, Level, level, part, parts, braced_variable, word_parts, word}
use Rattle.tt_script.specs.Reading.{words, gap, skipped, commands}
use Rattle.tt_script.specs.Grammar.{IsGap, IsSkipped, IsNamed}
use Rattle.tt_script.specs.FaultGrammar.{IsUnclosed, IsPartFault, bracket_too_deep, bracket_fault, index_too_deep}
use Rattle.tt_script.specs.FaultGrammar.{index_fault, name_unclosed, IsPartsFault, quote_unclosed, index_unclosed}
use Rattle.tt_script.specs.FaultGrammar.{this_part, later_part, IsWordPartsFault, quotes_fault, after_quotes}
use Rattle.tt_script.specs.FaultGrammar.{braces_unclosed, after_braces, bare_fault, IsWordFault, expanded_fault}
use Rattle.tt_script.specs.FaultGrammar.{whole_fault, IsWordsFault, this_word, later_word, IsCommandsFault}
use Rattle.tt_script.specs.FaultGrammar.{bracket_unclosed, this_command, later_command}
use Rattle.tt_script.specs.declared.command.ParseFault.{ParseFault}
use Rattle.tt_script.specs.declared.command.ParseFault.TheVariants.{AfterBrace, AfterQuote, CloseBracket, VariableBrace}
use Rattle.tt_script.specs.declared.command.Place.{Place}
use Rattle.tt_script.specs.declared.command.Place.TheVariants as places
use Rattle.tt_script.specs.declared.command.Ending.{Ending}
use Rattle.tt_script.specs.declared.command.Ending.TheVariants as endings
use Rattle.tt_script.proofs.Cuts.{cut_cut, gap_cut, skipped_cut}
use Rattle.tt_script.proofs.Readers.{braced-after, braced-open}
use Rattle.tt_script.proofs.PartSteps.{index-too_deep, brackets-too_deep, index-deeper, dollar-braced, named-element}
use Rattle.tt_script.proofs.PartSteps.{part-dollar, part-brackets, parts-part, parts-fault, parts_passes}
use Rattle.tt_script.proofs.CommandSteps.{brackets-deeper, quoted-on, separated-none, parts-quoted, parts-braced}
use Rattle.tt_script.proofs.CommandSteps.{parts-bare, made, word-expands, word-plain, words-more, words-fault}
use Rattle.tt_script.proofs.CommandSteps.{words_passes, ended-on, fault-on, more-on}
use Rattle.tt_script.proofs.IntoGrammar.{parts-none}
use Rattle.tt_script.proofs.FromGrammar.{ReadAs, PartRead, cut_one, cut_at, name_cut, named_on, expands_length}
use Rattle.tt_script.proofs.FromGrammar.{separates-some, part_read, parts_read, word_read, words_read}

-- a part fails so, behind its first byte
abbrev pub PartFails : ℕ → List ℕ → ParseFault → Type 0
PartFails depth [] fault = ⊥
PartFails depth (b ∷ text) fault = part (level depth) b text ≡ fails fault

-- ---- parts ----

brackets_fail : (level : Level) (b : ℕ) (text : List ℕ) (fault : ParseFault) → b ≡ 91 → level.brackets text ≡ fails fault → part level b text ≡ fails fault
brackets_fail level b text fault e r =
    part-brackets level b text (ap (λ x. x == 36) e) (eq-eqb b 91 e) ∙ ap (λ x. and_then x (λ v k. takes (script v) (k + 1))) r

brackets_in : (depth : ℕ) (text : List ℕ) (fault : ParseFault) → commands (level depth) 0 text ≡ fails fault → (level (suc depth)).brackets text ≡ fails fault
brackets_in depth text fault r = brackets-deeper depth text ∙ ap (λ x. and_then x (λ _ k. takes (take k text) k)) r

index_fails : (level : Level) (b c : ℕ) (text name inner : List ℕ) (fault : ParseFault) → b ≡ 36 → c ≡ 40 → IsNamed text name (c ∷ inner) →
    level.index inner ≡ fails fault → part level b text ≡ fails fault
index_fails level b c text name inner fault e f h r =
    let n : ℕ = length name in
    let whole = name_cut level b text name (c ∷ inner) e h in
    let cut = cut_one n c text inner whole in
    named_on level b text name (c ∷ inner) e h
    ∙ named-element level text n (ap (begins 40) whole.place ∙ eq-eqb c 40 f)
    ∙ ap (λ x. and_then (after (n + 1) x) (λ v m. takes (element (take n text) v) (m + 1))) (ap level.index cut.place ∙ r)

name_fails : (text : List ℕ) → position_or_len (λ x. x == 125) text ≡ length text → braced_variable text ≡ fails VariableBrace
name_fails text e =
    let n : ℕ = length text in
    let beyond : nat_lt n (length text) ≡ false = le-ltb n (length text) (omega arith) in
    ap (λ k. if nat_lt k (length text) then takes (part_of_name (take k text)) (k + 1) else fails VariableBrace) e
    ∙ ap (λ v. if v then takes (part_of_name (take n text)) (n + 1) else fails VariableBrace) beyond

this_fails : (depth : ℕ) (ending : Ending) (text : List ℕ) (fault : ParseFault) → ends_parts ending text ≡ false → PartFails depth text fault →
    parts (level depth) ending 0 text ≡ fails fault
this_fails depth ending [] fault e p = absurd p
this_fails depth ending (b ∷ text) fault e p = parts-fault (level depth) ending b text fault e p

later_fails : (depth : ℕ) (ending : Ending) (first : PlainPart) (text middle : List ℕ) (fault : ParseFault) → ends_parts ending text ≡ false →
    PartRead depth text first middle → parts (level depth) ending 0 middle ≡ fails fault → parts (level depth) ending 0 text ≡ fails fault
later_fails depth ending first [] middle fault e p r = absurd p
later_fails depth ending first (b ∷ text) middle fault e p r =
    parts-part (level depth) ending b text first p.n e p.read
    ∙ ap (λ x. after 1 (map_read (with_part first) x))
    (parts_passes (level depth) ending p.n text ∙ ap (λ x. after p.n (parts (level depth) ending 0 x)) p.cut.place ∙ ap (after p.n) r)

-- ---- words ----

quotes_fail : (depth b : ℕ) (place : Place) (text : List ℕ) (fault : ParseFault) → b ≡ 34 → parts (level depth) endings.Quote 0 text ≡ fails fault →
    word_parts place (level depth) (b ∷ text) ≡ fails fault
quotes_fail depth b place text fault e r =
    parts-quoted place (level depth) (b ∷ text) (eq-eqb b 34 e)
    ∙ ap (after 1) (quoted-on place (level depth) text ∙ ap (λ x. and_then x (λ v k. before_separator place AfterQuote text v (k + 1))) r)

after_quotes_fail : (depth b c : ℕ) (place : Place) (text rest : List ℕ) (value : PlainParts) → b ≡ 34 → separates place rest ≡ false →
    ReadAs (parts (level depth) endings.Quote 0 text) value text (c ∷ rest) → word_parts place (level depth) (b ∷ text) ≡ fails AfterQuote
after_quotes_fail depth b c place text rest value e f r =
    let cut = cut_one r.n c text rest r.cut in
    parts-quoted place (level depth) (b ∷ text) (eq-eqb b 34 e)
    ∙ ap (after 1)
    (quoted-on place (level depth) text ∙ ap (λ x. and_then x (λ v k. before_separator place AfterQuote text v (k + 1))) r.read
    ∙ separated-none place AfterQuote text value (r.n + 1) (ap (separates place) cut.place ∙ f))

no_match : (text : List ℕ) → IsUnclosed text → matching_brace text ≡ None
no_match text h = go (matching_brace text) refl
  where
    go : (o : Option ℕ) → matching_brace text ≡ o → matching_brace text ≡ None
    go None e = e
    go (Some n) e = let closed = (matching_brace_law text n).0 e in absurd (h closed.inner closed.rest closed.cut closed.balanced)

after_braces_fail : (depth b c : ℕ) (place : Place) (text inside rest : List ℕ) → b ≡ 123 → c ≡ 125 → text ≡ inside ++ (c ∷ rest) → IsBalanced inside →
    separates place rest ≡ false → word_parts place (level depth) (b ∷ text) ≡ fails AfterBrace
after_braces_fail depth b c place text inside rest e f g balanced h =
    let n : ℕ = length inside in
    let cut = cut_one n c text rest (cut_at text inside (c ∷ rest) g) in
    let closes : IsClosedAt text n = record { inner = inside; rest = rest; cut = g ∙ ap (λ x. inside ++ (x ∷ rest)) f; place = refl; balanced = balanced } in
    let found : matching_brace text ≡ Some n = (matching_brace_law text n).1 closes in
    parts-braced place (level depth) (b ∷ text) (ap (λ x. x == 34) e) (eq-eqb b 123 e)
    ∙ ap (after 1) (braced-after place text n found (ap (separates place) cut.place ∙ h))

word_fault_some : {depth : ℕ} {place : Place} {text : List ℕ} {fault : ParseFault} → IsWordFault depth place text fault → 0 < length text
word_fault_some (expanded_fault {text = text} e ps) = omega (arith, expands_length text e)
word_fault_some (whole_fault {place = place} {text = text} e f ps) = separates-some place text e

this_word_fails : (depth : ℕ) (place : Place) (text : List ℕ) (fault : ParseFault) → 0 < length text → word place (level depth) text ≡ fails fault →
    words place (level depth) 0 text ≡ fails fault
this_word_fails depth place [] fault h r = absurd (omega arith)
this_word_fails depth place (b ∷ text) fault h r = words-fault place (level depth) b text fault r

later_word_fails : (depth : ℕ) (place : Place) (text middle next : List ℕ) (first : PlainWord) (fault : ParseFault) → 0 < length text →
    length middle < length text → ReadAs (word place (level depth) text) first text middle → IsGap middle next → ends_command place next ≡ false →
    words place (level depth) 0 next ≡ fails fault → words place (level depth) 0 text ≡ fails fault
later_word_fails depth place [] middle next first fault h shorter r g e ws = absurd (omega arith)
later_word_fails depth place (b ∷ text) middle next first fault h shorter r g e ws =
    let both = cut_cut r.cut (gap_cut g) in
    let count : r.n + gap 0 (drop r.n (b ∷ text)) ≡ r.n + gap 0 middle = ap (λ x. r.n + gap 0 x) r.cut.place in
    let k : ℕ = pred (r.n + gap 0 middle) in
    let step : suc k ≡ r.n + gap 0 middle = omega (arith, r.cut.size) in
    let after_gap : drop (r.n + gap 0 (drop r.n (b ∷ text))) (b ∷ text) ≡ next = ap (λ m. drop m (b ∷ text)) count ∙ both.place in
    let tail : drop k text ≡ next = ap (λ m. drop m (b ∷ text)) step ∙ both.place in
    words-more place (level depth) b text first r.n r.read (ap (ends_command place) after_gap ∙ e)
    ∙ ap (λ m. after 1 (map_read (λ v. first ∷ v) (words place (level depth) (pred m) text))) count
    ∙ ap (λ x. after 1 (map_read (λ v. first ∷ v) x))
    (words_passes place (level depth) k text ∙ ap (λ x. after k (words place (level depth) 0 x)) tail ∙ ap (after k) ws)

-- ---- commands ----

unclosed_fails : (depth : ℕ) (text : List ℕ) → IsSkipped text [] → commands (level depth) 0 text ≡ fails CloseBracket
unclosed_fails depth text s =
    let cut = skipped_cut s in
    ended-on (level depth) text (ap (begins 93) cut.place) (omega (arith, cut.size))

this_command_fails : (depth : ℕ) (text start : List ℕ) (fault : ParseFault) → IsSkipped text start → begins 93 start ≡ false → 0 < length start →
    words places.Brackets (level depth) 0 start ≡ fails fault → commands (level depth) 0 text ≡ fails fault
this_command_fails depth text start fault s e h r =
    let cut = skipped_cut s in
    fault-on (level depth) text fault (ap (begins 93) cut.place ∙ e) (omega (arith, cut.size)) (ap (words places.Brackets (level depth) 0) cut.place ∙ r)

later_command_fails : (depth : ℕ) (text start next : List ℕ) (ws : List PlainWord) (fault : ParseFault) → IsSkipped text start → begins 93 start ≡ false →
    length next < length start → ReadAs (words places.Brackets (level depth) 0 start) ws start next → commands (level depth) 0 next ≡ fails fault →
    commands (level depth) 0 text ≡ fails fault
later_command_fails depth text start next ws fault s e shorter r cs =
    let cut = skipped_cut s in
    let both = cut_cut cut r.cut in
    more-on (level depth) text ws r.n (ap (begins 93) cut.place ∙ e) (omega (arith, cut.size))
    (ap (words places.Brackets (level depth) 0) cut.place ∙ r.read) (omega (arith, r.cut.size))
    ∙ ap (λ x. after (skipped 0 text + r.n) (commands (level depth) 0 x)) both.place ∙ ap (after (skipped 0 text + r.n)) cs

-- ---- every rule ----

pub words_fault_some : {depth : ℕ} {place : Place} {text : List ℕ} {fault : ParseFault} → IsWordsFault depth place text fault → 0 < length text
words_fault_some (this_word w) = word_fault_some w
words_fault_some (later_word w g e ws) = let r = word_read w in omega (arith, r.1, r.0.cut.size)

mutual
  pub part_fails : {depth : ℕ} {text : List ℕ} {fault : ParseFault} → IsPartFault depth text fault → PartFails depth text fault
  part_fails (bracket_too_deep {b} {text} e) = brackets_fail (level 0) b text _ e (brackets-too_deep text)
  part_fails (bracket_fault {depth} {b} {text} {fault} e cs) =
      brackets_fail (level (suc depth)) b text fault e (brackets_in depth text fault (commands_fail cs))
  part_fails (index_too_deep {b} {c} {text} {name} {inner} e f h) = index_fails (level 0) b c text name inner _ e f h (index-too_deep inner)
  part_fails (index_fault {depth} {b} {c} {text} {name} {inner} {fault} e f h ps) =
      index_fails (level (suc depth)) b c text name inner fault e f h (index-deeper depth inner ∙ parts_fail ps)
  part_fails (name_unclosed {depth} {b} {c} {text} e f g) =
      part-dollar (level depth) b (c ∷ text) (eq-eqb b 36 e) ∙ dollar-braced (level depth) (c ∷ text) (eq-eqb c 123 f) ∙ ap (after 1) (name_fails text g)

  pub parts_fail : {depth : ℕ} {ending : Ending} {text : List ℕ} {fault : ParseFault} → IsPartsFault depth ending text fault →
      parts (level depth) ending 0 text ≡ fails fault
  parts_fail (quote_unclosed {depth}) = parts-none (level depth) endings.Quote 0
  parts_fail (index_unclosed {depth}) = parts-none (level depth) endings.Parenthesis 0
  parts_fail (this_part {depth} {ending} {text} {fault} e p) = this_fails depth ending text fault e (part_fails p)
  parts_fail (later_part {depth} {ending} {text} {middle} {first} {fault} e p ps) =
      later_fails depth ending first text middle fault e (part_read p) (parts_fail ps)

  pub word_parts_fail : {depth : ℕ} {place : Place} {text : List ℕ} {fault : ParseFault} → IsWordPartsFault depth place text fault →
      word_parts place (level depth) text ≡ fails fault
  word_parts_fail (quotes_fault {depth} {b} {place} {text} {fault} e ps) = quotes_fail depth b place text fault e (parts_fail ps)
  word_parts_fail (after_quotes {depth} {b} {c} {place} {text} {rest} {parts = value} e f ps g) =
      after_quotes_fail depth b c place text rest value e g (parts_read ps)
  word_parts_fail (braces_unclosed {depth} {b} {place} {text} e h) =
      parts-braced place (level depth) (b ∷ text) (ap (λ x. x == 34) e) (eq-eqb b 123 e) ∙ ap (after 1) (braced-open place text (no_match text h))
  word_parts_fail (after_braces {depth} {b} {c} {place} {text} inside rest e f g balanced h) =
      after_braces_fail depth b c place text inside rest e f g balanced h
  word_parts_fail (bare_fault {depth} {place} {text} e f ps) = parts-bare place (level depth) text e f ∙ parts_fail ps

  pub word_fails : {depth : ℕ} {place : Place} {text : List ℕ} {fault : ParseFault} → IsWordFault depth place text fault →
      word place (level depth) text ≡ fails fault
  word_fails (expanded_fault {depth} {place} {text} e ps) =
      word-expands place (level depth) text e ∙ ap (λ x. after 3 (map_read (made true) x)) (word_parts_fail ps)
  word_fails (whole_fault {depth} {place} {text} e f ps) = word-plain place (level depth) text f ∙ ap (map_read (made false)) (word_parts_fail ps)

  pub words_fail : {depth : ℕ} {place : Place} {text : List ℕ} {fault : ParseFault} → IsWordsFault depth place text fault →
      words place (level depth) 0 text ≡ fails fault
  words_fail (this_word {depth} {place} {text} {fault} w) = this_word_fails depth place text fault (word_fault_some w) (word_fails w)
  words_fail (later_word {depth} {place} {text} {middle} {next} {word = first} {fault} w g e ws) =
      let r = word_read w in
      later_word_fails depth place text middle next first fault (omega (arith, r.1, r.0.cut.size)) (omega (arith, r.1, r.0.cut.size)) r.0 g e (words_fail ws)

  pub commands_fail : {depth : ℕ} {text : List ℕ} {fault : ParseFault} → IsCommandsFault depth text fault → commands (level depth) 0 text ≡ fails fault
  commands_fail (bracket_unclosed {depth} {text} s) = unclosed_fails depth text s
  commands_fail (this_command {depth} {text} {start} {fault} s e ws) = this_command_fails depth text start fault s e (words_fault_some ws) (words_fail ws)
  commands_fail (later_command {depth} {text} {start} {after = next} {words = ws} {fault} s e w cs) =
      let r = words_read w in
      later_command_fails depth text start next ws fault s e (omega (arith, r.1, r.0.cut.size)) r.0 (commands_fail cs)
