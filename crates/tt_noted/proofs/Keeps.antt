-- Each step keeps the rule.
use Rattle.std.proofs.Common.{◌≡◌, ◌≢◌, ℕ, zero, suc, ◌+◌, ◌-◌, ◌%◌, ◌<◌, eqb, List, [], ◌∷◌, ◌++◌, length, replicate}
use Rattle.std.proofs.Common.{get_or, set, sym, refl, ap, ◌∙◌, subst, ⊎_elim, arith, Option, Some, None, slice_get}
use Rattle.std.proofs.Common.{length-set, get_or-set_same, eq-eqb, ne_eqb}
use mathlib.Core.Logic.{dite}
use mathlib.Core.Option.{none, some, some-injective, some-ne-none}
use native.Mathlib.Decide.{ℕ_discrete}
use lib.ListN.{get_elem?, length-replicate}
use Rattle.std.proofs.lemmas.Option.{slice_get_within}
use lib.Seq.{set-get_or}
use prog.Atomic.{either}
use Rattle.atomic_table.specs.Table.{step, keeps, takes, gives, stepped, Allows, Splits, Joins, opening, Final, Seen}
use Rattle.atomic_table.proofs.Lists.{at_set, set_here, set_else, set_again, at_longer, at_last}
use Rattle.tt_noted.specs.declared.table.View.{View}
use Rattle.tt_noted.specs.declared.table.Opening.{Opening}
use Rattle.tt_noted.specs.inside.Rule.{Board, Sat, view, first_view, rest_of, first_of, both_of, spent, holding}
use Rattle.tt_noted.specs.inside.Rule.{FitsAll, IsFree, Stands, HasPlace, IsKept, took, noted}
use Rattle.tt_noted.proofs.Owners.{given, given_first, given_next, given_other, merged, merged_other, merged_own, merged_rest}
use Rattle.tt_noted.proofs.Lists.{set_there, at_end, none_get, get_set_same, get_set_other, get_drop, get_take}
use Rattle.tt_noted.proofs.Lists.{take_first, get_front, get_behind, numbered_at, get_one, get_append, get_numbered}

module _ {S N : Type 0} where
  -- what holds of each note stays if one view changes
  each_stays : (P : ℕ → ℕ → View S N → ℕ × N → Type 0) (vs : List (View S N)) (id : ℕ) (w : View S N) →
      ((k : ℕ) (c : ℕ × N) → slice_get w.notes k ≡ Some c → P id k w c)
      → ((at k : ℕ) (v : View S N) (c : ℕ × N) → at ≢ id → get_elem? vs at ≡ some v → slice_get v.notes k ≡ Some c → P at k v c)
      → (at k : ℕ) (v : View S N) (c : ℕ × N) → get_elem? (set vs id w) at ≡ some v → slice_get v.notes k ≡ Some c → P at k v c
  each_stays P vs id w mine others at k v c there has = ⊎_elim
      (λ (t : (at ≡ id) × (w ≡ v)). subst (λ (x : ℕ × View S N). slice_get x.1.notes k ≡ Some c → P x.0 k x.1 c) (λ i. (sym t.0 i, t.1 i)) (mine k c) has)
      (λ (t : (at ≢ id) × (get_elem? vs at ≡ some v)). others at k v c t.0 t.1 has) (at_set vs id at w v there)

  no_turns : (vs : List (View S N)) (id : ℕ) (w : View S N) → w.turn ≡ None → ((at : ℕ) (v : View S N) → at ≢ id → get_elem? vs at ≡ some v → v.turn ≡ None)
      → (at : ℕ) (v : View S N) → get_elem? (set vs id w) at ≡ some v → v.turn ≡ None
  no_turns vs id w mine others at v there = ⊎_elim (λ (t : (at ≡ id) × (w ≡ v)). ap (λ (u : View S N). u.turn) (sym t.1) ∙ mine)
      (λ (t : (at ≢ id) × (get_elem? vs at ≡ some v)). others at v t.0 t.1) (at_set vs id at w v there)

  -- the same if one view may have a turn
  no_turns_but : (vs : List (View S N)) (id holder : ℕ) (w : View S N) → w.turn ≡ None →
      ((at : ℕ) (v : View S N) → at ≢ holder → get_elem? vs at ≡ some v → v.turn ≡ None)
      → (at : ℕ) (v : View S N) → at ≢ holder → get_elem? (set vs id w) at ≡ some v → v.turn ≡ None
  no_turns_but vs id holder w mine others at v but there = ⊎_elim (λ (t : (at ≡ id) × (w ≡ v)). ap (λ (u : View S N). u.turn) (sym t.1) ∙ mine)
      (λ (t : (at ≢ id) × (get_elem? vs at ≡ some v)). others at v but t.1) (at_set vs id at w v there)

  turn_at : (s : Board S N) (v : View S N) (holder id : ℕ) (own : View S N) (state : S) → holder ≡ id → get_elem? s.views holder ≡ some own →
      get_elem? s.views id ≡ some v → own.turn ≡ Some state → v.turn ≡ Some state
  turn_at s v holder id own state same has at turn =
      ap (λ (u : View S N). u.turn) (some-injective v own (sym at ∙ (ap (λ (k : ℕ). get_elem? s.views k) (sym same) ∙ has))) ∙ turn

  only : (v : View S N) (at : ℕ) (u : View S N) → get_elem? (v ∷ []) at ≡ some u → (at ≡ 0) × (v ≡ u)
  only v zero u e = (refl, some-injective v u e)
  only v (suc k) u e = absurd (some-ne-none u (sym e))

  placed : (vs : List (View S N)) (owner : ℕ → ℕ × ℕ) (place : ℕ) (x : ℕ × ℕ) (own : View S N) (note : N) → owner place ≡ x → get_elem? vs x.0 ≡ some own →
      slice_get own.notes x.1 ≡ Some (place, note) → HasPlace vs owner place
  placed vs owner place x own note is has at =
      record { own = own; note = note; has = ap (λ (y : ℕ × ℕ). get_elem? vs y.0) is ∙ has; at = ap (λ (y : ℕ × ℕ). slice_get own.notes y.1) is ∙ at }

  -- a place stays a view's if one view changes and keeps its places
  place_stays : (vs : List (View S N)) (owner : ℕ → ℕ × ℕ) (id : ℕ) (v w : View S N) (place : ℕ) → get_elem? vs id ≡ some v
      → ((k : ℕ) (note : N) → slice_get v.notes k ≡ Some (place, note) → (new : N) × (slice_get w.notes k ≡ Some (place, new))) → HasPlace vs owner place →
      HasPlace (set vs id w) owner place
  place_stays vs owner id v w place at same h = dite (ℕ_discrete (owner place).0 id)
      (λ mine. let is : h.own ≡ v = some-injective h.own v (sym h.has ∙ (ap (λ (k : ℕ). get_elem? vs k) mine ∙ at)) in
      let t = same (owner place).1 h.note (ap (λ (u : View S N). slice_get u.notes (owner place).1) (sym is) ∙ h.at) in
      record { own = w; note = t.0; has = ap (λ (k : ℕ). get_elem? (set vs id w) k) mine ∙ set_there vs id v w at; at = t.1 })
      (λ other. record { own = h.own; note = h.note; has = set_else vs id (owner place).0 w other ∙ h.has; at = h.at })

  at_other : (vs : List (View S N)) (id at : ℕ) (w v : View S N) → at ≢ id → get_elem? (set vs id w) at ≡ some v → get_elem? vs at ≡ some v
  at_other vs id at w v other there = sym (set_else vs id at w other) ∙ there

no_both : {S : Type 0} (o : Option S) (x : S) → o ≡ None → o ≡ Some x → ⊥
no_both o x a b = cc

-- a number that is odd goes to an even one, by an odd number
next_is_even : (n more : ℕ) → n % 2 ≡ 1 → more % 2 ≡ 1 → (n + more) % 18446744073709551616 % 2 ≡ 0
next_is_even n more odd odd_more = omega arith

module _ {S N : Type 0} (fits : S → List N → Type 0) (count : ℕ) where
  abbrev Rule : Board S N → Type 0
  Rule = IsKept fits count

  unmoved : (s : Board S N) → Rule s → (id : ℕ) (v : View S N) → get_elem? s.views id ≡ some v →
      Rule record { words = set s.words 0 (get_or s.words 0 0); homes = s.homes; views = set s.views id v }
  unmoved s r id v at =
      subst (λ (x : List ℕ × List (View S N)). Rule record { words = x.0; homes = s.homes; views = x.1 })
      (λ i. (sym (set-get_or s.words 0 0) i, sym (set_again s.views id v at) i)) r

  taken : (s : Board S N) (r : Rule s) (id old : ℕ) (v : View S N) (c : ℕ × N) → get_elem? s.views id ≡ some v → slice_get v.notes 0 ≡ Some c →
      old % 2 ≡ 0 → (f : IsFree fits r.notes s)
      → Rule record { words = set s.words 0 (old + 1); homes = set s.homes 0 none; views = set s.views id (holding v f.state) }
  taken s r id old v c at has even f = let w : View S N = holding v f.state in let one = r.one_word in let now = get_or-set_same s.words 0 (old + 1) 0 (omega arith) in record {
    notes = r.notes;
    owner = r.owner;
    one_word = length-set s.words 0 (old + 1) ∙ r.one_word;
    all = r.all;
    each_note = each_stays (Stands r.notes r.owner count) s.views id w
        (λ k d there. let st = r.each_note id k v d at there in record { counted = st.counted; stands = st.stands; owned = st.owned })
        (λ at' k u d _ there. r.each_note at' k u d there);
    each_place = λ place inside. place_stays s.views r.owner id v w place at (λ k note here. (note, here)) (r.each_place place inside);
    free = λ z. absurd (omega arith);
    held = λ _. record {
      holder = id;
      state = f.state;
      own = w;
      has = set_there s.views id v w at;
      turn = refl;
      note = c;
      has_note = has;
      fit = f.fit;
      no_other = λ at' u other there. f.no_turn at' u (at_other s.views id at' w u other there);
    };
  }

  pub take_keeps : (slots id old : ℕ) (me : Sat S N) (c : ℕ × N) → old % 2 ≡ 0 → slice_get me.0.notes 0 ≡ Some c
      → Allows Rule slots id me 0 (λ n. either (eqb n old) (old + 1) n) (took fits (step slots 0 old (old + 1) none) me)
  take_keeps slots id old me c even has s r deep at small = let n : ℕ = get_or s.words 0 0 in dite (ℕ_discrete n old)
      (λ hit. let f = r.free (ap (λ (k : ℕ). k % 2) hit ∙ even) in let w : View S N = holding me.0 f.state in (
        w,
        takes 0 (Some f.state),
        f.home,
        subst (λ b. Rule (stepped s 0 (either b (old + 1) n) id me.1 w (takes 0 (Some f.state)))) (sym (eq-eqb n old hit))
            (taken s r id old me.0 c at has even f),
        (
          (λ _. (
            f.state,
            refl,
            (
              r.notes,
              r.all
                  ∙ sym (r.each_note id 0 me.0 c at has).counted,
              (λ k place note there. (r.each_note id k me.0 (place, note) at there).stands),
              f.fit,
            ),
          )),
          λ miss. absurd (miss hit),
        ),
      ))
      (λ miss. (
        me.0,
        keeps,
        tt,
        subst (λ b. Rule (stepped s 0 (either b (old + 1) n) id me.1 me.0 keeps)) (sym (ne_eqb n old miss)) (unmoved s r id me.0 at),
        ((λ hit. absurd (miss hit)), λ _. refl),
      ))

  -- the note step of the seat that has the turn, if the state that it put fits with the new note
  noted_to : (s : Board S N) (r : Rule s) (id place x : ℕ) (old note : N) (n : ℕ) (entered state : S) → 0 < length s.homes
      → get_elem? s.views id ≡ some (view n ((place, old) ∷ []) (Some entered)) → x % 2 ≡ 0 → fits state (set r.notes place note)
      → ((at : ℕ) (v : View S N) → at ≢ id → get_elem? s.views at ≡ some v → v.turn ≡ None)
      → Rule record { words = set s.words 0 x; homes = set s.homes 0 (some (Some state)); views = set s.views id (view n ((place, note) ∷ []) None) }
  noted_to s r id place x old note n entered state deep at even fit alone = let w : View S N = view n ((place, note) ∷ []) None in
      let mine = r.each_note id 0 (view n ((place, old) ∷ []) (Some entered)) (place, old) at refl in
      let one = r.one_word in let now = get_or-set_same s.words 0 x 0 (omega arith) in record {
        notes = set r.notes place note;
        owner = r.owner;
        one_word = length-set s.words 0 x ∙ r.one_word;
        all = length-set r.notes place note ∙ r.all;
        each_note = each_stays (Stands (set r.notes place note) r.owner count) s.views id w
            (λ k c has. let t = get_one k (place, note) c has in subst (λ (y : ℕ × (ℕ × N)). Stands (set r.notes place note) r.owner count id y.0 w y.1) (λ i. (sym t.0 i, sym t.1 i))
            record { counted = mine.counted; stands = get_set_same r.notes place old note mine.stands; owned = mine.owned })
            (λ at' k u c other there has. let st = r.each_note at' k u c there has in record {
              counted = st.counted;
              stands = get_set_other r.notes place c.0 note
                  (λ same. other (ap (λ (y : ℕ × ℕ). y.0) (sym st.owned ∙ (ap r.owner same ∙ mine.owned)))) ∙ st.stands;
              owned = st.owned;
            });
        each_place = λ p inside. place_stays s.views r.owner id (view n ((place, old) ∷ []) (Some entered)) w p at
            (λ k other here. let t = get_one k (place, old) (p, other) here in let same : place ≡ p = ap (λ (y : ℕ × N). y.0) (sym t.1) in
            (note, ap (λ (j : ℕ). slice_get w.notes j) t.0 ∙ ap (λ (q : ℕ). Some (q, note)) same)) (r.each_place p inside);
        free = λ _. record { state = state; home = set_here s.homes 0 (some (Some state)) deep; fit = fit; no_turn = no_turns s.views id w refl alone };
        held = λ z. absurd (omega arith);
      }

  note_steps : (slots id n place more : ℕ) (old note : N) (entered state : S) → 0 < slots → more % 2 ≡ 1
      → ((all : List N) → length all ≡ n → slice_get all place ≡ Some old → fits entered all → fits state (set all place note))
      → Allows Rule slots id (view n ((place, old) ∷ []) (Some entered), (0, Some state) ∷ []) 0 (λ x. (x + more) % 18446744073709551616)
      (noted (Some note) (step slots 0 more 0 none) (view n ((place, old) ∷ []) (Some entered), (0, Some state) ∷ []))
  note_steps slots id n place more old note entered state some_slot odd_more keeps_fit s r deep at small = let v : View S N = view n ((place, old) ∷ []) (Some entered) in let x : ℕ = get_or s.words 0 0 in
      let odd : x % 2 ≡ 1 = dite (ℕ_discrete (x % 2) 0) (λ even. absurd (no_both v.turn entered ((r.free even).no_turn id v at) refl)) (λ ne. omega arith) in
      let h = r.held odd in
      let same : h.holder ≡ id = dite (ℕ_discrete id h.holder) (λ e. sym e) (λ other. absurd (no_both v.turn entered (h.no_other id v other at) refl)) in
      let own : h.own ≡ v = some-injective h.own v (sym h.has ∙ (ap (λ (k : ℕ). get_elem? s.views k) same ∙ at)) in
      let taken : h.state ≡ entered = let e : Some h.state ≡ Some entered = sym h.turn ∙ ap (λ (u : View S N). u.turn) own in cc in
      let mine = r.each_note id 0 v (place, old) at refl in (
        view n ((place, note) ∷ []) None,
        gives,
        tt,
        noted_to s r id place ((x + more) % 18446744073709551616) old note n entered state (omega arith) at (next_is_even x more odd odd_more)
            (keeps_fit r.notes (r.all ∙ sym mine.counted) mine.stands (subst (λ (y : S). fits y r.notes) taken h.fit))
            (λ at' u other there. h.no_other at' u (λ e. other (e ∙ same)) there),
        refl,
      )

  pub note_keeps : (slots id place more : ℕ) (me : Sat S N) (old note : N) (entered state : S) → 0 < slots → more % 2 ≡ 1
      → me.0.notes ≡ (place, old) ∷ [] → me.0.turn ≡ Some entered → me.1 ≡ (0, Some state) ∷ []
      → ((all : List N) → length all ≡ me.0.count → slice_get all place ≡ Some old → fits entered all → fits state (set all place note))
      → Allows Rule slots id me 0 (λ x. (x + more) % 18446744073709551616) (noted (Some note) (step slots 0 more 0 none) me)
  note_keeps slots id place more me old note entered state some_slot odd_more notes turn held keeps_fit =
      subst (λ (m : Sat S N). Allows Rule slots id m 0 (λ x. (x + more) % 18446744073709551616) (noted (Some note) (step slots 0 more 0 none) m))
      (λ i. (view me.0.count (sym notes i) (sym turn i), sym held i))
      (note_steps slots id me.0.count place more old note entered state some_slot odd_more keeps_fit)

  pub split_keeps : (id : ℕ) (v : View S N) → v.turn ≡ None → Splits Rule id v (rest_of v) (first_of v)
  split_keeps id v no_turn s r at = let new : ℕ = length s.views in let vs : List (View S N) = set s.views id (rest_of v) in
      let long : length vs ≡ new = length-set s.views id (rest_of v) in let owner : ℕ → ℕ × ℕ = λ p. given id new (r.owner p) in let P = Stands r.notes owner count in record {
        notes = r.notes;
        owner = owner;
        one_word = r.one_word;
        all = r.all;
        each_note = λ at' k u c there has. ⊎_elim
            (λ (in_old : get_elem? vs at' ≡ some u). each_stays P s.views id (rest_of v)
            (λ k' d here. let st = r.each_note id (suc k') v d at (sym (get_drop v.notes k') ∙ here) in record { counted = st.counted; stands = st.stands; owned = given_next id new k' _ st.owned })
            (λ j k' w d other there' here. let st = r.each_note j k' w d there' here in record { counted = st.counted; stands = st.stands; owned = given_other id new j k' _ other st.owned })
            at' k u c in_old has)
            (λ (last : (at' ≡ length vs) × (first_of v ≡ u)).
            let got = get_take v.notes k c (ap (λ (w : View S N). slice_get w.notes k) last.1 ∙ has) in let st = r.each_note id 0 v c at got.1 in
            record {
              counted =
                  ap (λ (w : View S N). w.count) (sym last.1) ∙ st.counted;
              stands =
                  st.stands;
              owned = given_first id new _ st.owned ∙ (λ i. (sym (last.0 ∙ long) i, sym got.0 i));
            })
            (at_end vs (first_of v) u at' there);
        each_place = λ place inside. let h = r.each_place place inside in let x : ℕ × ℕ = r.owner place in let all : List (View S N) = vs ++ first_of v ∷ [] in dite (ℕ_discrete x.0 id)
            (λ mine. let is : h.own ≡ v = some-injective h.own v (sym h.has ∙ (ap (λ (k : ℕ). get_elem? s.views k) mine ∙ at)) in
            let here : slice_get v.notes x.1 ≡ Some (place, h.note) = ap (λ (u : View S N). slice_get u.notes x.1) (sym is) ∙ h.at in dite (ℕ_discrete x.1 0)
            (λ none_before. placed all owner place (new, 0) (first_of v) h.note (given_first id new x (λ i. (mine i, none_before i)))
            (at_last vs (first_of v) new long)
            (take_first v.notes (place, h.note) (ap (λ (k : ℕ). slice_get v.notes k) (sym none_before) ∙ here)))
            (λ some_before. let k : ℕ = x.1 - 1 in let next : x.1 ≡ suc k = omega arith in
            placed all owner place (id, k) (rest_of v) h.note (given_next id new k x (λ i. (mine i, next i)))
            (at_longer vs (first_of v ∷ []) id (rest_of v) (set_there s.views id v (rest_of v) at))
            (get_drop v.notes k ∙ (ap (λ (j : ℕ). slice_get v.notes j) (sym next) ∙ here))))
            (λ else. placed all owner place x h.own h.note (given_other id new x.0 x.1 x else refl)
            (at_longer vs (first_of v ∷ []) x.0 h.own (set_else s.views id x.0 (rest_of v) else ∙ h.has)) h.at);
        free = λ even. let f = r.free even in record {
          state = f.state;
          home = f.home;
          fit = f.fit;
          no_turn = λ at' u there. ⊎_elim
              (λ (in_old : get_elem? vs at' ≡ some u). no_turns s.views id (rest_of v) no_turn (λ j w _ there'. f.no_turn j w there') at' u in_old)
              (λ (last : (at' ≡ length vs) × (first_of v ≡ u)). ap (λ (w : View S N). w.turn) (sym last.1)) (at_end vs (first_of v) u at' there);
        };
        held = λ odd. let h = r.held odd in let apart : h.holder ≢ id = λ e. no_both v.turn h.state no_turn (turn_at s v h.holder id h.own h.state e h.has at h.turn) in record {
          holder = h.holder;
          state = h.state;
          own = h.own;
          has = at_longer vs (first_of v ∷ []) h.holder h.own (set_else s.views id h.holder (rest_of v) apart ∙ h.has);
          turn = h.turn;
          note = h.note;
          has_note = h.has_note;
          fit = h.fit;
          no_other = λ at' u other there. ⊎_elim
              (λ (in_old : get_elem? vs at' ≡ some u). no_turns_but s.views id h.holder (rest_of v) no_turn
              (λ j w other' there'. h.no_other j w other' there') at' u other in_old)
              (λ (last : (at' ≡ length vs) × (first_of v ≡ u)). ap (λ (w : View S N). w.turn) (sym last.1)) (at_end vs (first_of v) u at' there);
        };
      }

  pub join_keeps : (id : ℕ) (v : View S N) (other : ℕ) (w : View S N) (c : ℕ × N) → slice_get v.notes 0 ≡ Some c → v.turn ≡ None → w.turn ≡ None →
      Joins Rule id v other w (both_of v w) spent
  join_keeps id v other w c has no_turn no_turn' s r at apart there =
      let both : View S N = both_of v w in let vs : List (View S N) = set s.views id both in let n : ℕ = length w.notes in let owner : ℕ → ℕ × ℕ = λ p. merged id other n (r.owner p) in
      let was : get_elem? s.views other ≡ some w = at_other s.views id other both w apart there in let P = Stands r.notes owner count in let counted = (r.each_note id 0 v c at has).counted in record {
        notes = r.notes;
        owner = owner;
        one_word = r.one_word;
        all = r.all;
        each_note = each_stays P vs other spent (λ k d here. absurd (none_get k d here))
            (λ j k u d apart' there' here. dite (ℕ_discrete j id)
            (λ same. let is : both ≡ u = some-injective both u (sym (set_there s.views id v both at) ∙ (ap (λ (z : ℕ). get_elem? vs z) (sym same) ∙ there')) in
            subst (λ (y : ℕ × View S N). P y.0 k y.1 d) (λ i. (sym same i, is i)) (⊎_elim
            (λ (in_w : slice_get w.notes k ≡ Some d). let st = r.each_note other k w d was in_w in record { counted = counted; stands = st.stands; owned = merged_other id other n k _ st.owned })
            (λ (in_v : (m : ℕ) × (k ≡ n + m) × (slice_get v.notes m ≡ Some d)). let st = r.each_note id in_v.0 v d at in_v.2 in
            record { counted = counted; stands = st.stands; owned = merged_own id other n in_v.0 _ apart st.owned ∙ (λ i. (id, sym in_v.1 i)) })
            (get_append w.notes v.notes k d (ap (λ (y : View S N). slice_get y.notes k) is ∙ here))))
            (λ else. let st = r.each_note j k u d (at_other s.views id j both u else there') here in record { counted = st.counted; stands = st.stands; owned = merged_rest id other n j k _ apart' else st.owned }));
        each_place = λ place inside. let h = r.each_place place inside in let x : ℕ × ℕ = r.owner place in let after : List (View S N) = set vs other spent in
            let stays : get_elem? after id ≡ some both =
            set_else vs other id spent (λ e. apart (sym e)) ∙ set_there s.views id v both at in dite (ℕ_discrete x.0 other)
            (λ theirs. let is : h.own ≡ w = some-injective h.own w (sym h.has ∙ (ap (λ (k : ℕ). get_elem? s.views k) theirs ∙ was)) in
            placed after owner place (id, x.1) both h.note (merged_other id other n x.1 x (λ i. (theirs i, x.1))) stays
            (get_front w.notes v.notes x.1 (place, h.note) (ap (λ (u : View S N). slice_get u.notes x.1) (sym is) ∙ h.at)))
            (λ not_theirs. dite (ℕ_discrete x.0 id)
            (λ mine. let is : h.own ≡ v = some-injective h.own v (sym h.has ∙ (ap (λ (k : ℕ). get_elem? s.views k) mine ∙ at)) in
            placed after owner place (id, n + x.1) both h.note (merged_own id other n x.1 x apart (λ i. (mine i, x.1))) stays
            (get_behind w.notes v.notes x.1 ∙ (ap (λ (u : View S N). slice_get u.notes x.1) (sym is) ∙ h.at)))
            (λ else. placed after owner place x h.own h.note (merged_rest id other n x.0 x.1 x not_theirs else refl)
            (set_else vs other x.0 spent not_theirs ∙ (set_else s.views id x.0 both else ∙ h.has)) h.at));
        free = λ even. let f = r.free even in record {
          state = f.state;
          home = f.home;
          fit = f.fit;
          no_turn = no_turns vs other spent refl (λ j u _ there'. no_turns s.views id both no_turn (λ i x _ here. f.no_turn i x here) j u there');
        };
        held = λ odd. let h = r.held odd in let not_id : h.holder ≢ id = λ e. no_both v.turn h.state no_turn (turn_at s v h.holder id h.own h.state e h.has at h.turn) in
            let not_other : h.holder ≢ other = λ e. no_both w.turn h.state no_turn' (turn_at s w h.holder other h.own h.state e h.has was h.turn) in record {
              holder = h.holder;
              state = h.state;
              own = h.own;
              has = set_else vs other h.holder spent not_other ∙ (set_else s.views id h.holder both not_id ∙ h.has);
              turn = h.turn;
              note = h.note;
              has_note = h.has_note;
              fit = h.fit;
              no_other = no_turns_but vs other h.holder spent refl
                  (λ j u but there'. no_turns_but s.views id h.holder both no_turn (λ i x but' here. h.no_other i x but' here) j u but there');
            };
      }

  first_stands : (o : Opening N) → o.count ≡ count → (at k : ℕ) (v : View S N) (c : ℕ × N) → get_elem? (first_view o ∷ []) at ≡ some v →
      slice_get v.notes k ≡ Some c
      → Stands (replicate o.count o.note.value) (λ p. (0, p)) count at k v c
  first_stands o is at k v c there has = let here = only (first_view o) at v there in
      let t = get_numbered o.count 0 k o.note.value c (ap (λ (u : View S N). slice_get u.notes k) here.1 ∙ has) in let place : c.0 ≡ k = ap (λ (y : ℕ × N). y.0) t.0 ∙ omega arith in record {
        counted = ap (λ (u : View S N). u.count) (sym here.1) ∙ is;
        stands = ap (λ (j : ℕ). slice_get (replicate o.count o.note.value) j) place ∙ (t.1 ∙ ap (λ (y : ℕ × N). Some y.1) (sym t.0));
        owned = λ i. (sym here.0 i, place i);
      }

  pub opening_holds : (o : Opening N) (state : S) → o.count ≡ count → fits state (replicate count o.note.value) →
      Rule (opening (0 ∷ []) (Some state ∷ []) (first_view o))
  opening_holds o state is fit = let notes : List N = replicate o.count o.note.value in record {
    notes = notes;
    owner = λ p. (0, p);
    one_word = refl;
    all = length-replicate o.count o.note.value ∙ is;
    each_note = λ at k v c there has. first_stands o is at k v c there has;
    each_place = λ place inside. let here : 0 + place ≡ place = omega arith in
        record {
          own =
              first_view o;
          note =
              o.note.value;
          has = refl;
          at = numbered_at o.count 0 place o.note.value (omega arith) ∙ ap (λ (j : ℕ). Some (j, o.note.value)) here;
        };
    free = λ _. record {
      state = state;
      home = refl;
      fit = subst (λ (n : ℕ). fits state (replicate n o.note.value)) (sym is) fit;
      no_turn = λ at v there. ap (λ (u : View S N). u.turn) (sym (only (first_view o) at v there).1);
    };
    held = λ odd. absurd (omega arith);
  }

  -- once one view has every note and no turn, the slot has a state that fits them
  pub closed_fits : (id : ℕ) (v : View S N) (words : List ℕ) (slots : List (Option S)) → 0 < count → v.turn ≡ None
      → ((place : ℕ) → place < count → (k : ℕ) × (note : N) × (slice_get v.notes k ≡ Some (place, note)))
      → Final (Seen Rule id v) words slots → (state : S) × (get_elem? slots 0 ≡ some (Some state)) × FitsAll fits (view count v.notes None) state
  closed_fits id v words slots some_note no_turn every last = let s = last.0 in let r : Rule s = last.1.0 in let at = last.1.1 in
      let even : get_or s.words 0 0 % 2 ≡ 0 = dite (ℕ_discrete (get_or s.words 0 0 % 2) 1)
      (λ odd. let h = r.held odd in let st = r.each_note h.holder 0 h.own h.note h.has h.has_note in let place : ℕ = h.note.0 in
      let inside : place < count = subst (λ (n : ℕ). place < n) r.all (slice_get_within r.notes place h.note.1 st.stands) in let mine = every place inside in
      let st' = r.each_note id mine.0 v (place, mine.1) at mine.2 in
      let same : h.holder ≡ id = ap (λ (y : ℕ × ℕ). y.0) (sym st.owned ∙ st'.owned) in
      absurd (no_both v.turn h.state no_turn (turn_at s v h.holder id h.own h.state same h.has at h.turn)))
      (λ ne. omega arith) in
      let f = r.free even in
      (f.state, last.4 0 (Some f.state) f.home, (r.notes, r.all, (λ k place note has. (r.each_note id k v (place, note) at has).stands), f.fit))
