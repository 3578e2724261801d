-- What the grammar cuts off a text, the readers count.
use Rattle.std.proofs.Common.{◌≡◌, ℕ, suc, ◌+◌, Bool, true, false, ◌==◌, ◌&&◌, ◌||◌, List, [], ◌∷◌, length, drop, refl, ap, sym, ◌∙◌, subst, arith}
use Rattle.std.proofs.lemmas.List.{drop-drop}
use Rattle.std.proofs.lemmas.Bool.{eq-eqb, ne_eqb}
use Rattle.tt_text.specs.Characters.{is_white_space, is_blank}
use Rattle.tt_script.specs.Reading.{begins, continues_line, gap, comment, skipped}
use Rattle.tt_script.specs.Grammar.{begins_gap, IsGap, gap_ends, gap_blank, gap_line, IsComment, comment_ends}
use Rattle.tt_script.specs.Grammar.{comment_newline, comment_byte, comment_escape, comment_last, begins_skipped}
use Rattle.tt_script.specs.Grammar.{IsSkipped, skip_ends, skip_separator, skip_line, skip_comment}
use Rattle.tt_script.proofs.Scanning.{gap-blank, gap-line, gap-none, comment-letter, comment-escape, comment-newline}
use Rattle.tt_script.proofs.Scanning.{skipped_passes, skipped-space, skipped-line, skipped-comment, skipped-none}

-- n bytes are cut off
pub record Cut (n : ℕ) (text rest : List ℕ) : Type 0 where
  pub place : drop n text ≡ rest
  pub size : n + length rest ≡ length text

pub cut_none : (text : List ℕ) → Cut 0 text text
cut_none text = record { place = refl; size = omega arith }

pub cut_more : {n : ℕ} (b : ℕ) {text rest : List ℕ} → Cut n text rest → Cut (suc n) (b ∷ text) rest
cut_more b c = record { place = c.place; size = omega (arith, c.size) }

pub cut_same : {m n : ℕ} {text rest : List ℕ} → m ≡ n → Cut n text rest → Cut m text rest
cut_same {text = text} {rest = rest} e c = subst (λ k. Cut k text rest) (sym e) c

pub cut_cut : {m n : ℕ} {text middle rest : List ℕ} → Cut m text middle → Cut n middle rest → Cut (m + n) text rest
cut_cut {m} {n} {text} {middle} {rest} c d = record {
  place = sym (drop-drop n m text) ∙ ap (drop n) c.place ∙ d.place;
  size = omega (arith, c.size, d.size);
}

pub or_false : (p q : Bool) → p || q ≡ false → (p ≡ false) × (q ≡ false)
or_false false q e = (refl, e)
or_false true q e = cc

continues : (b c : ℕ) (text : List ℕ) → b ≡ 92 → c ≡ 10 → continues_line b (c ∷ text) ≡ true
continues b c text e f = ap (λ v. v && (c == 10)) (eq-eqb b 92 e) ∙ eq-eqb c 10 f

not_blank : (b : ℕ) → b ≡ 92 → is_blank b ≡ false
not_blank b e = ap is_blank e

gap-none_at : (text : List ℕ) → begins_gap text ≡ false → gap 0 text ≡ 0
unfolding gap
gap-none_at [] e = refl
gap-none_at (b ∷ text) e = let both = or_false (is_blank b) (continues_line b text) e in gap-none b text both.0 both.1

pub gap-one : (b : ℕ) (text : List ℕ) → gap 1 (b ∷ text) ≡ suc (gap 0 text)
unfolding gap
gap-one b text = refl

pub gap_cut : {text rest : List ℕ} → IsGap text rest → Cut (gap 0 text) text rest
gap_cut (gap_ends {rest} e) = cut_same (gap-none_at rest e) (cut_none rest)
gap_cut (gap_blank {b} {text} e g) = cut_same (gap-blank b text e) (cut_more b (gap_cut g))
gap_cut (gap_line {b} {c} {text} e f g) =
    cut_same (gap-line b (c ∷ text) (not_blank b e) (continues b c text e f) ∙ ap suc (gap-one c text)) (cut_more b (cut_more c (gap_cut g)))

pub escaped-one : (b : ℕ) (text : List ℕ) → comment true (b ∷ text) ≡ suc (comment false text)
unfolding comment
escaped-one b text = refl

pub no_comment : (escaped : Bool) → comment escaped [] ≡ 0
unfolding comment
no_comment true = refl
no_comment false = refl

no_newline : (b : ℕ) → b ≡ 92 → (b == 10) ≡ false
no_newline b e = ap (λ x. x == 10) e

pub comment_cut : {text rest : List ℕ} → IsComment text rest → Cut (comment false text) text rest
comment_cut comment_ends = cut_same (no_comment false) (cut_none [])
comment_cut (comment_newline {b} {text} e) = cut_same (comment-newline b text (eq-eqb b 10 e)) (cut_none (b ∷ text))
comment_cut (comment_byte {b} {text} e f c) = cut_same (comment-letter b text (ne_eqb b 10 e) (ne_eqb b 92 f)) (cut_more b (comment_cut c))
comment_cut (comment_escape {b} {c} {text} e d) =
    cut_same (comment-escape b (c ∷ text) (no_newline b e) (eq-eqb b 92 e) ∙ ap suc (escaped-one c text)) (cut_more b (cut_more c (comment_cut d)))
comment_cut (comment_last {b} e) = cut_same (comment-escape b [] (no_newline b e) (eq-eqb b 92 e) ∙ ap suc (no_comment true)) (cut_more b (cut_none []))

skipped-none_at : (text : List ℕ) → begins_skipped text ≡ false → skipped 0 text ≡ 0
unfolding skipped
skipped-none_at [] e = refl
skipped-none_at (b ∷ text) e =
    let outer = or_false ((is_white_space b || b == 59) || continues_line b text) (b == 35) e in
    let inner = or_false (is_white_space b || b == 59) (continues_line b text) outer.0 in
    skipped-none b text inner.0 inner.1 outer.1

pub skipped-one : (b : ℕ) (text : List ℕ) → skipped 1 (b ∷ text) ≡ suc (skipped 0 text)
unfolding skipped
skipped-one b text = refl

pub skipped_cut : {text rest : List ℕ} → IsSkipped text rest → Cut (skipped 0 text) text rest
skipped_cut (skip_ends {rest} e) = cut_same (skipped-none_at rest e) (cut_none rest)
skipped_cut (skip_separator {b} {text} e s) = cut_same (skipped-space b text e) (cut_more b (skipped_cut s))
skipped_cut (skip_line {b} {c} {text} e f s) =
    cut_same (skipped-line b (c ∷ text) (ap (λ x. is_white_space x || x == 59) e) (continues b c text e f) ∙ ap suc (skipped-one c text))
    (cut_more b (cut_more c (skipped_cut s)))
skipped_cut (skip_comment {b} {text} {end} {rest} e c s) =
    let hash : (b == 35) ≡ true = eq-eqb b 35 e in
    let first = comment_cut c in
    let passed : skipped (comment false text) text ≡ comment false text + skipped 0 end =
    skipped_passes (comment false text) text ∙ ap (λ r. comment false text + skipped 0 r) first.place in
    cut_same (skipped-comment b text (ap (λ x. is_white_space x || x == 59) e) (ap (λ x. x == 92 && begins 10 text) e) hash ∙ ap suc passed)
    (cut_more b (cut_cut first (skipped_cut s)))
