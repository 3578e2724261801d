-- Options and ordinary words ask for one thing at most.
use Rattle.std.proofs.Common.{◌≡◌, ℕ, Bool, true, false, List, [], ◌∷◌, Option, Some, None, refl, sym, ap, ◌∙◌, subst}
use Rattle.tt_words.specs.Asked.{Asked, plain, replay, generate, Plain, Replay, Generate, PartsAskFor, HasFile}
use Rattle.tt_words.specs.Asked.{Report, HasReport, HasNumber, IsPlain, IsReplay, IsGenerate, WordsAskFor, Values, WritesWithin}
use Rattle.tt_words.proofs.ReadingLemmas.{asks_of}

-- ---- numbers, files and scripts

one_written : (least most : ℕ) (text : List ℕ) (one other : ℕ) →
    WritesWithin least most text one → WritesWithin least most text other → one ≡ other
one_written least most text one other a b = a.writes.value ∙ sym b.writes.value

one_number : (least most default : ℕ) (value : Option (List ℕ)) (one other : ℕ) →
    HasNumber least most default value one → HasNumber least most default value other → one ≡ other
one_number least most default None one other a b = a ∙ sym b
one_number least most default (Some text) one other a b = one_written least most text one other a b

one_file : (value one other : Option (List ℕ)) → HasFile value one → HasFile value other → one ≡ other
one_file None None None a b = refl
one_file None None (Some name) a b = absurd b
one_file None (Some name) other a b = absurd a
one_file (Some value) None other a b = absurd a
one_file (Some value) (Some name) None a b = absurd b
one_file (Some value) (Some name) (Some second) a b = ap (λ (n : List ℕ). Some n) (a.0 ∙ sym b.0)

one_report : (waits races : Bool) (debug : Option (List ℕ)) (one other : Report) →
    HasReport waits races debug one → HasReport waits races debug other → one ≡ other
one_report false false None one other a b = a ∙ sym b
one_report false false (Some file) one other a b = a.0 ∙ sym b.0
one_report true false None one other a b = a ∙ sym b
one_report true false (Some file) one other a b = absurd a
one_report false true None one other a b = a ∙ sym b
one_report false true (Some file) one other a b = absurd a
one_report true true None one other a b = absurd a
one_report true true (Some file) one other a b = absurd a

same_some : (one other : List ℕ) → Some one ≡ Some other → one ≡ other
same_some one other e = cc

same_first : (one other : List ℕ) (rest second : List (List ℕ)) → one ∷ rest ≡ other ∷ second → one ≡ other
same_first one other rest second e = cc

same_rest : (one other : List ℕ) (rest second : List (List ℕ)) → one ∷ rest ≡ other ∷ second → rest ≡ second
same_rest one other rest second e = cc

no_file : (value : Option (List ℕ)) (name : List ℕ) → value ≡ None → HasFile value (Some name) → ⊥
no_file value name none has = subst (λ (v : Option (List ℕ)). HasFile v (Some name)) none has

no_value : (value : Option (List ℕ)) (text : List ℕ) → value ≡ None → value ≡ Some text → ⊥
no_value value text none some = let e : None ≡ Some text = sym none ∙ some in cc

-- ---- each mode

same_plain : (s s' : List ℕ) (a a' : List (List ℕ)) (w w' n n' l l' : ℕ) (k k' : Option (List ℕ)) →
    s ≡ s' → a ≡ a' → w ≡ w' → n ≡ n' → l ≡ l' → k ≡ k' →
    plain (record { script = s; arguments = a; workers = w; steps = n; limit = l; kept = k })
    ≡ plain (record { script = s'; arguments = a'; workers = w'; steps = n'; limit = l'; kept = k' })
same_plain s s' a a' w w' n n' l l' k k' p q r t u v = rw (p, q, r, t, u, v) refl

same_replay : (f f' s s' : List ℕ) (a a' : List (List ℕ)) (l l' : ℕ) (w w' : Report) →
    f ≡ f' → s ≡ s' → a ≡ a' → l ≡ l' → w ≡ w' →
    replay (record { schedule = f; script = s; arguments = a; limit = l; report = w })
    ≡ replay (record { schedule = f'; script = s'; arguments = a'; limit = l'; report = w' })
same_replay f f' s s' a a' l l' w w' p q r t u = rw (p, q, r, t, u) refl

same_generate : (s s' : List ℕ) (m m' z z' n n' l l' : ℕ) (k k' : Option (List ℕ)) →
    s ≡ s' → m ≡ m' → z ≡ z' → n ≡ n' → l ≡ l' → k ≡ k' →
    generate (record { script = s; number = m; size = z; steps = n; limit = l; kept = k })
    ≡ generate (record { script = s'; number = m'; size = z'; steps = n'; limit = l'; kept = k' })
same_generate s s' m m' z z' n n' l l' k k' o p q r t u = rw (o, p, q, r, t, u) refl

one_plain : (values : Values) (ordinary : List (List ℕ)) (one other : Plain) →
    IsPlain values ordinary one → IsPlain values ordinary other → plain one ≡ plain other
one_plain values ordinary one other a b =
    let words = sym a.script.words ∙ b.script.words in
    same_plain one.script other.script one.arguments other.arguments one.workers other.workers one.steps other.steps
    one.limit other.limit one.kept other.kept
    (same_first one.script other.script one.arguments other.arguments words)
    (same_rest one.script other.script one.arguments other.arguments words)
    (one_number 1 64 4 values.workers one.workers other.workers a.workers b.workers)
    (one_number 1 16777216 16777216 values.steps one.steps other.steps a.steps b.steps)
    (one_number 1 4611686018427387904 4611686018427387904 values.limit one.limit other.limit a.limit b.limit)
    (one_file values.kept one.kept other.kept a.kept b.kept)

one_replay : (values : Values) (ordinary : List (List ℕ)) (one other : Replay) →
    IsReplay values ordinary one → IsReplay values ordinary other → replay one ≡ replay other
one_replay values ordinary one other a b =
    let words = sym a.script.words ∙ b.script.words in
    same_replay one.schedule other.schedule one.script other.script one.arguments other.arguments one.limit other.limit
    one.report other.report
    (same_some one.schedule other.schedule
    (one_file values.replay (Some one.schedule) (Some other.schedule) a.schedule b.schedule))
    (same_first one.script other.script one.arguments other.arguments words)
    (same_rest one.script other.script one.arguments other.arguments words)
    (one_number 1 4611686018427387904 4611686018427387904 values.limit one.limit other.limit a.limit b.limit)
    (one_report values.waits values.races values.debug one.report other.report a.report b.report)

one_generate : (values : Values) (ordinary : List (List ℕ)) (one other : Generate) →
    IsGenerate values ordinary one → IsGenerate values ordinary other → generate one ≡ generate other
one_generate values ordinary one other a b =
    let script : one.script ≡ other.script = same_first one.script other.script [] [] (sym a.words ∙ b.words) in
    let value : a.value ≡ b.value = same_some a.value b.value (sym a.given ∙ b.given) in
    same_generate one.script other.script one.number other.number one.size other.size one.steps other.steps one.limit other.limit
    one.kept other.kept script
    (one_written 0 18446744073709551615 b.value one.number other.number
    (subst (λ (t : List ℕ). WritesWithin 0 18446744073709551615 t one.number) value a.number) b.number)
    (one_written 0 2000 other.script one.size other.size
    (subst (λ (t : List ℕ). WritesWithin 0 2000 t one.size) script a.size) b.size)
    (one_number 1 16777216 16777216 values.steps one.steps other.steps a.steps b.steps)
    (one_number 1 4611686018427387904 4611686018427387904 values.limit one.limit other.limit a.limit b.limit)
    (one_file values.kept one.kept other.kept a.kept b.kept)

one_asked : (values : Values) (ordinary : List (List ℕ)) (one other : Asked) →
    PartsAskFor values ordinary one → PartsAskFor values ordinary other → one ≡ other
one_asked values ordinary (plain one) (plain other) a b = one_plain values ordinary one other a b
one_asked values ordinary (replay one) (replay other) a b = one_replay values ordinary one other a b
one_asked values ordinary (generate one) (generate other) a b = one_generate values ordinary one other a b
one_asked values ordinary (plain one) (replay other) a b =
    absurd (no_file values.replay other.schedule a.no_replay b.schedule)
one_asked values ordinary (plain one) (generate other) a b = absurd (no_value values.generate b.value a.no_generate b.given)
one_asked values ordinary (replay one) (plain other) a b =
    absurd (no_file values.replay one.schedule b.no_replay a.schedule)
one_asked values ordinary (replay one) (generate other) a b = absurd (no_value values.generate b.value a.no_generate b.given)
one_asked values ordinary (generate one) (plain other) a b = absurd (no_value values.generate a.value b.no_generate a.given)
one_asked values ordinary (generate one) (replay other) a b = absurd (no_value values.generate a.value b.no_generate a.given)

pub one_reading : (words : List (List ℕ)) (one other : Asked) → WordsAskFor words one → WordsAskFor words other → one ≡ other
one_reading words one other a b =
    one_asked _ a.ordinary one other a.asks (asks_of words a.options a.ordinary other a.splits b)
