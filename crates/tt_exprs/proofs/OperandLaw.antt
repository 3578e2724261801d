-- Quotes, braces, `$` forms and brackets are cut as the command grammar cuts them.
use Rattle.std.proofs.Common.{◌≡◌, ℕ, ◌+◌, ◌<◌, true, List, ◌∷◌, ◌++◌, length, take, drop, Option, Some, None, refl, ap, sym, ◌∙◌, arith, ◌⊎◌, add-one}
use Rattle.std.proofs.lemmas.List.{take_at, drop_at, drop-drop}
use Rattle.tt_text.specs.Braces.{IsBalanced, IsClosedAt, matching_brace}
use Rattle.tt_text.proofs.BraceLemmas.{matching_brace_law}
use Rattle.tt_script.specs.Words.{PlainPart, letters, variable, element, script, PlainParts, none, more}
use Rattle.tt_script.specs.Reading.{Read, takes, fails, joined_lines, most_open}
use Rattle.tt_script.specs.Operands.{quoted_text, outer_part, IsQuotedText, IsOuterPart}
use Rattle.tt_script.proofs.FromGrammar.{part_read, parts_read}
use Rattle.tt_script.proofs.IntoGrammar.{sound, part_is, parts_is, parts_closed, byte_at}
use Rattle.tt_exprs.specs.Trees.{leaf, words}
use Rattle.tt_exprs.specs.Tokens.{PlainToken, operand, Cut, one, refused, none_here, quote_cut, of_quoted, in_braces, substitution_cut, of_part, of_one_part, token}
use Rattle.tt_exprs.specs.TokenGrammar.{is_substituted, IsToken, quoted_token, braced_token, substituted_token}

-- a cut that is the text's first token, or that says that no token is here
abbrev pub TokenIs : List ℕ → Cut → Type 0
TokenIs text (one token n) = (rest : List ℕ) × (0 < n) × (drop n text ≡ rest) × IsToken text token rest
TokenIs text (refused word) = ⊥
TokenIs text none_here = Unit {0}

-- the function cuts this token off, and leaves this rest
pub record CutsOff (cut : Cut) (text : List ℕ) (token : PlainToken) (rest : List ℕ) : Type 0 where
  pub n : ℕ
  pub is : cut ≡ one token n
  pub some : 0 < n
  pub place : drop n text ≡ rest

drop_past : (n b : ℕ) (text : List ℕ) → drop (n + 1) (b ∷ text) ≡ drop n text
drop_past n b text = rw add-one refl

drop_past_two : (n b : ℕ) (text : List ℕ) → drop (n + 2) (b ∷ text) ≡ drop (n + 1) text
drop_past_two n b text = let same : n + 2 ≡ (n + 1) + 1 = omega arith in ap (λ k. drop k (b ∷ text)) same ∙ drop_past (n + 1) b text

-- ---- quotes

pub quoted_is : (text : List ℕ) → TokenIs (34 ∷ text) (quote_cut text)
quoted_is text = go (quoted_text text) refl
  where
    go : (r : Read PlainParts) → quoted_text text ≡ r → TokenIs (34 ∷ text) (of_quoted r)
    go (fails fault) e = tt
    go (takes value n) e =
        let parts = parts_is most_open (sound most_open) _ 0 text value n e in
        let last = byte_at n 34 text (parts_closed parts) in
        let rest : drop n text ≡ 34 ∷ drop (n + 1) text = last.2 ∙ ap (λ c. c ∷ drop (n + 1) text) last.1 in
        (drop (n + 1) text, omega arith, drop_past_two n 34 text, quoted_token refl (rw rest at parts))

pub quoted_read : (text rest : List ℕ) (parts : PlainParts) → IsQuotedText text parts rest → CutsOff (quote_cut text) (34 ∷ text) (operand (words parts)) rest
quoted_read text rest parts h =
    let r = parts_read h in
    record {
      n = r.n + 2;
      is = ap of_quoted r.read;
      some = omega arith;
      place = drop_past_two r.n 34 text ∙ sym (drop-drop 1 r.n text) ∙ ap (drop 1) r.cut.place;
    }

-- ---- braces

pub braces_is : (text : List ℕ) → TokenIs (123 ∷ text) (in_braces text)
braces_is text = go (matching_brace text) refl
  where
    go : (o : Option ℕ) → matching_brace text ≡ o → TokenIs (123 ∷ text) (in_braces text)
    go None e = rw (e, in_braces) tt
    go (Some n) e =
        let closed = (matching_brace_law text n).0 e in
        let inside : take n text ≡ closed.inner = ap (take n) closed.cut ∙ take_at closed.inner (125 ∷ closed.rest) n closed.place in
        let rest : drop n text ≡ 125 ∷ closed.rest = ap (drop n) closed.cut ∙ drop_at closed.inner (125 ∷ closed.rest) n closed.place in
        rw (e, in_braces, inside) (
          closed.rest,
          omega arith,
          drop_past_two n 123 text ∙ sym (drop-drop 1 n text)
              ∙ ap (drop 1) rest,
          braced_token closed.inner refl refl closed.cut closed.balanced,
        )

pub braces_read : (text inside rest : List ℕ) (c : ℕ) → c ≡ 125 → text ≡ inside ++ (c ∷ rest) → IsBalanced inside →
    CutsOff (in_braces text) (123 ∷ text) (operand (leaf (joined_lines 0 inside))) rest
braces_read text inside rest c e cut balanced =
    let cut_at : text ≡ inside ++ (125 ∷ rest) = cut ∙ ap (λ d. inside ++ (d ∷ rest)) e in
    let closed : IsClosedAt text (length inside) = record { inner = inside; rest = rest; cut = cut_at; place = refl; balanced = balanced } in
    let found : matching_brace text ≡ Some (length inside) = (matching_brace_law text (length inside)).1 closed in
    let front : take (length inside) text ≡ inside = ap (take (length inside)) cut_at ∙ take_at inside (125 ∷ rest) (length inside) refl in
    let after : drop (length inside) text ≡ 125 ∷ rest = ap (drop (length inside)) cut_at ∙ drop_at inside (125 ∷ rest) (length inside) refl in
    record {
      n = length inside + 2;
      is = rw (found, in_braces, front) refl;
      some = omega arith;
      place = drop_past_two (length inside) 123 text ∙ sym (drop-drop 1 (length inside) text) ∙ ap (drop 1) after;
    }

-- ---- variables and scripts

part_token : (b n : ℕ) (text : List ℕ) (p : PlainPart) → (b ≡ 36) ⊎ (b ≡ 91) → IsOuterPart (b ∷ text) p (drop n text) → TokenIs (b ∷ text) (of_one_part p n)
part_token b n text (letters bytes) first h = tt
part_token b n text (variable name) first h = (drop n text, omega arith, drop_past n b text, substituted_token first refl h)
part_token b n text (element name index) first h = (drop n text, omega arith, drop_past n b text, substituted_token first refl h)
part_token b n text (script inside) first h = (drop n text, omega arith, drop_past n b text, substituted_token first refl h)

pub substituted_is : (b : ℕ) (text : List ℕ) → (b ≡ 36) ⊎ (b ≡ 91) → TokenIs (b ∷ text) (substitution_cut b text)
substituted_is b text first = go (outer_part b text) refl
  where
    go : (r : Read PlainPart) → outer_part b text ≡ r → TokenIs (b ∷ text) (of_part r)
    go (fails fault) e = tt
    go (takes p n) e = part_token b n text p first (part_is most_open (sound most_open) b text p n e)

one_part : (p : PlainPart) (n : ℕ) → is_substituted p ≡ true → of_one_part p n ≡ one (operand (words (more p none))) (n + 1)
one_part (letters bytes) n h = let wrong : ⊥ = cc in absurd wrong
one_part (variable name) n h = refl
one_part (element name index) n h = refl
one_part (script inside) n h = refl

pub substituted_read : (b : ℕ) (text rest : List ℕ) (p : PlainPart) → is_substituted p ≡ true → IsOuterPart (b ∷ text) p rest →
    CutsOff (substitution_cut b text) (b ∷ text) (operand (words (more p none))) rest
substituted_read b text rest p sub h =
    let r = part_read h in
    record {
      n = r.n + 1;
      is = ap of_part r.read ∙ one_part p r.n sub;
      some = omega arith;
      place = drop_past r.n b text ∙ r.cut.place;
    }
