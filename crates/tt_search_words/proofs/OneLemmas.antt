-- Words ask for one search at most.
use Rattle.std.proofs.Common.{◌≡◌, ℕ, List, ◌∷◌, Option, Some, None, refl, sym, ap, ◌∙◌}
use Rattle.tt_words.specs.Asked.{HasFile, HasNumber, Plain}
use Rattle.tt_search_words.specs.Asked.{HasDifference, IsPlain, IsSearch, Search, Values, WordsAskFor}
use Rattle.tt_search_words.specs.inside.Places.{Parts}
use Rattle.tt_search_words.specs.declared.asked.Difference.{Difference}
use Rattle.tt_search_words.proofs.GrammarLemmas.{both, parts_of-Splits}
use Rattle.tt_search_words.proofs.ReadingLemmas.{asks_of}

one_number : (least most default : ℕ) (value : Option (List ℕ)) (one other : ℕ) →
    HasNumber least most default value one → HasNumber least most default value other → one ≡ other
one_number least most default None one other a b = a ∙ sym b
one_number least most default (Some text) one other a b = a.writes.value ∙ sym b.writes.value

one_file : (value one other : Option (List ℕ)) → HasFile value one → HasFile value other → one ≡ other
one_file None None None a b = refl
one_file None None (Some name) a b = absurd b
one_file None (Some name) other a b = absurd a
one_file (Some value) None other a b = absurd a
one_file (Some value) (Some name) None a b = absurd b
one_file (Some value) (Some name) (Some second) a b = ap (λ (n : List ℕ). Some n) (a.0 ∙ sym b.0)

one_difference : (value : Option (List ℕ)) (one other : Difference) →
    HasDifference value one → HasDifference value other → one ≡ other
one_difference None one other a b = a ∙ sym b
one_difference (Some value) one other a b = a ∙ sym b

same_first : (one other : List ℕ) (rest second : List (List ℕ)) → one ∷ rest ≡ other ∷ second → one ≡ other
same_first one other rest second e = cc

same_rest : (one other : List ℕ) (rest second : List (List ℕ)) → one ∷ rest ≡ other ∷ second → rest ≡ second
same_rest one other rest second e = cc

abbrev plain_with : List ℕ → List (List ℕ) → (workers steps limit : ℕ) → Option (List ℕ) → Plain
plain_with script arguments workers steps limit kept = record {
  script = script;
  arguments = arguments;
  workers = workers;
  steps = steps;
  limit = limit;
  kept = kept;
}

same_plain : (s s' : List ℕ) (a a' : List (List ℕ)) (w w' n n' l l' : ℕ) (k k' : Option (List ℕ)) →
    s ≡ s' → a ≡ a' → w ≡ w' → n ≡ n' → l ≡ l' → k ≡ k' → plain_with s a w n l k ≡ plain_with s' a' w' n' l' k'
same_plain s s' a a' w w' n n' l l' k k' p q r t u v = rw (p, q, r, t, u, v) refl

one_plain : (values : Values) (ordinary : List (List ℕ)) (one other : Plain) →
    IsPlain values ordinary one → IsPlain values ordinary other → one ≡ other
one_plain values ordinary one other a b =
    let words = sym a.script.words ∙ b.script.words in
    same_plain one.script other.script one.arguments other.arguments one.workers other.workers one.steps other.steps
    one.limit other.limit one.kept other.kept
    (same_first one.script other.script one.arguments other.arguments words)
    (same_rest one.script other.script one.arguments other.arguments words)
    (one_number 1 64 4 values.workers one.workers other.workers a.workers b.workers)
    (one_number 1 16777216 100000 values.steps one.steps other.steps a.steps b.steps)
    (one_number 1 4611686018427387904 4611686018427387904 values.limit one.limit other.limit a.limit b.limit)
    (one_file values.kept one.kept other.kept a.kept b.kept)

abbrev search_with : Plain → (runs seed switches : ℕ) → Difference → Search
search_with plain runs seed switches difference =
    record { plain = plain; runs = runs; seed = seed; switches = switches; difference = difference }

same_search : (o o' : Plain) (r r' e e' w w' : ℕ) (d d' : Difference) →
    o ≡ o' → r ≡ r' → e ≡ e' → w ≡ w' → d ≡ d' → search_with o r e w d ≡ search_with o' r' e' w' d'
same_search o o' r r' e e' w w' d d' p q s t u = rw (p, q, s, t, u) refl

one_search : (values : Values) (ordinary : List (List ℕ)) (one other : Search) →
    IsSearch values ordinary one → IsSearch values ordinary other → one ≡ other
one_search values ordinary one other a b =
    same_search one.plain other.plain one.runs other.runs one.seed other.seed one.switches other.switches
    one.difference other.difference
    (one_plain values ordinary one.plain other.plain a.plain b.plain)
    (one_number 1 1000000 1000 values.runs one.runs other.runs a.runs b.runs)
    (one_number 0 18446744073709551615 0 values.seed one.seed other.seed a.seed b.seed)
    (one_number 0 1000 3 values.switches one.switches other.switches a.switches b.switches)
    (one_difference values.differ one.difference other.difference a.difference b.difference)

pub one_reading : (words : List (List ℕ)) (one other : Search) →
    WordsAskFor words one → WordsAskFor words other → one ≡ other
one_reading words one other a b =
    one_search _ a.ordinary one other a.asks
    (asks_of words (both a.options a.ordinary) other (parts_of-Splits a.splits) b)
