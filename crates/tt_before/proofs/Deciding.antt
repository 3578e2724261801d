-- The races among the steps that are kept are those of the entries.
use Rattle.std.proofs.Common.{◌≡◌, ◌∙◌, ℕ, ◌+◌, ◌<◌, ◌≤◌, ◌⊎◌, ◌↔◌, ◌==◌, Bool, true, false, ◌&&◌, ◌||◌, not, bytes_eq, nat_le, List, Option, Some}
use Rattle.std.proofs.Common.{length, slice_get, slice_index, refl, sym, ap, subst, inl, inr, arith}
use Rattle.std.proofs.lemmas.Bool.{cases_order, eq-eqb, eqb-true, leb-false, leb-true}
use Rattle.std.proofs.lemmas.Option.{slice_get_within}
use Rattle.std.proofs.lemmas.Slice.Eq.{bytes_eq-Decides}
use Rattle.tt_before.specs.Known.{nothing_known}
use Rattle.tt_before.specs.Orders.{Before, Link, LinkAt, links}
use Rattle.tt_before.specs.RaceLists.{AreRacesOf, AreRacing, IsRace, overlap}
use Rattle.tt_before.specs.Steps.{Entry, Step, Stepped}
use Rattle.tt_before.specs.Touching.{shared_key, touched}
use Rattle.tt_before.specs.declared.kept.Touch.{Touch}
use Rattle.tt_before.specs.declared.race.Race.{Race}
use Rattle.tt_before.specs.declared.race.Races.{Races}
use Rattle.tt_before.specs.declared.touched.Touched.{Touched}
use Rattle.tt_before.specs.inside.Clocks.{rank}
use Rattle.tt_before.specs.inside.Found.{AreCounted, clash, is_known, race_of, races, races_up_to}
use Rattle.tt_before.specs.inside.Told.{AreTouches, IsKeptAt, IsTouch}
use Rattle.tt_before.proofs.Places.{some_same}
use Rattle.tt_before.proofs.Racing.{IsGood, IsMade, all_good}
use Rattle.tt_before.proofs.Telling.{link_there, stepped_same}

both : (a b : Bool) → a && b ≡ true → (a ≡ true) × (b ≡ true)
both true b is = (refl, is)
both false b is = absurd (cc is)

join : (a b : Bool) → a ≡ true → b ≡ true → a && b ≡ true
join true b first second = second
join false b first second = absurd (cc first)

off : (b : Bool) → not b ≡ true → b ≡ false
off true is = absurd (cc is)
off false is = refl

off_from : (b : Bool) → (b ≡ true → ⊥) → not b ≡ true
off_from true none = absurd (none refl)
off_from false none = refl

abbrev race_at : ℕ → ℕ → List ℕ → Option (List ℕ) → Race
race_at f s a k = record { first = f; second = s; array = a; key = k }

race_same : (f s f' s' : ℕ) (a a' : List ℕ) (k k' : Option (List ℕ)) → f ≡ f' → s ≡ s' → a ≡ a' → k ≡ k' →
    race_at f s a k ≡ race_at f' s' a' k'
race_same f s f' s' a a' k k' is_f is_s is_a is_k =
    ap (λ x. race_at x s a k) is_f ∙ ap (λ x. race_at f' x a k) is_s ∙ ap (λ x. race_at f' s' x k) is_a ∙ ap (λ x. race_at f' s' a' x) is_k

le_true : (m n : ℕ) → m ≤ n → nat_le m n ≡ true
le_true m n less = by (nat_le m n) refl
  where
    by : (b : Bool) → nat_le m n ≡ b → nat_le m n ≡ true
    by true is = is
    by false is = absurd (let more = leb-false m n is in omega (arith, less, more))

module _ (entries : List Entry) (one other : Touch) (is_one : IsTouch entries one) (is_other : IsTouch entries other)
    (earlier : one.place < other.place) where
  -- the clock tells what is before
  known_is : is_known one other ≡ true ↔ Before entries one.place other.place
  known_is = (there, back)
    where
      link : (link : Link) × LinkAt (links entries) one.place link × (link.thread ≡ is_one.step.thread)
      link = link_there nothing_known entries one.place is_one.step is_one.stands

      thread : link.0.thread ≡ one.thread
      thread = link.2 ∙ is_one.by

      tells : rank link.0.thread (links entries) one.place ≤ slice_index other.row.items link.0.thread ↔ Before entries one.place other.place
      tells = is_other.row one.place link.0 earlier link.1

      ranks : one.rank ≡ rank link.0.thread (links entries) one.place
      ranks = is_one.ranked ∙ ap (λ t. rank t (links entries) one.place) (sym thread)

      rows : slice_index other.row.items one.thread ≡ slice_index other.row.items link.0.thread
      rows = ap (slice_index other.row.items) (sym thread)

      there : is_known one other ≡ true → Before entries one.place other.place
      there is = let small = leb-true one.rank (slice_index other.row.items one.thread) is in tells.0 (omega (arith, small, ranks, rows))

      back : Before entries one.place other.place → is_known one other ≡ true
      back before = let small = tells.1 before in le_true one.rank (slice_index other.row.items one.thread) (omega (arith, small, ranks, rows))

  pub race_there : races one other ≡ true → IsRace entries (race_of one other)
  race_there is = record {
    i = one.place;
    j = other.place;
    one = one.touched;
    other = other.touched;
    racing = record {
      first = is_one.step;
      second = is_other.step;
      first_touches = record { stands = is_one.stands; touches = is_one.touches };
      second_touches = record { stands = is_other.stands; touches = is_other.touches };
      earlier = earlier;
      differ = λ eq. let no : true ≡ false = sym (eq-eqb one.thread other.thread (sym is_one.by ∙ eq ∙ is_other.by))
          ∙ off (one.thread == other.thread) threads.0 in absurd (cc no);
      unordered = λ before. let no : true ≡ false = sym (known_is.1 before) ∙ off (is_known one other) rest.0 in absurd (cc no);
      same_array = (bytes_eq-Decides one.touched.array other.touched.array).0 arrays.0;
      overlaps = touching.0;
      one_writes = touching.1;
    };
    first = refl;
    second = refl;
    array = refl;
    key = refl;
  }
    where
      threads : (not (one.thread == other.thread) ≡ true) × ((not (is_known one other) && clash one.touched other.touched) ≡ true)
      threads = both (not (one.thread == other.thread)) (not (is_known one other) && clash one.touched other.touched) is

      rest : (not (is_known one other) ≡ true) × (clash one.touched other.touched ≡ true)
      rest = both (not (is_known one other)) (clash one.touched other.touched) threads.1

      arrays : (bytes_eq one.touched.array other.touched.array ≡ true) × ((overlap one.touched other.touched &&
          (one.touched.writes || other.touched.writes)) ≡ true)
      arrays = both (bytes_eq one.touched.array other.touched.array) (overlap one.touched other.touched &&
          (one.touched.writes || other.touched.writes)) rest.1

      touching : (overlap one.touched other.touched ≡ true) × ((one.touched.writes || other.touched.writes) ≡ true)
      touching = both (overlap one.touched other.touched) (one.touched.writes || other.touched.writes) arrays.1

  pub race_back : (is_one.step.thread ≡ is_other.step.thread → ⊥) → (Before entries one.place other.place → ⊥) → one.touched.array ≡ other.touched.array →
      overlap one.touched other.touched ≡ true → one.touched.writes || other.touched.writes ≡ true → races one other ≡ true
  race_back differ unordered array overlaps writes =
      join (not (one.thread == other.thread)) (not (is_known one other) && clash one.touched other.touched)
      (off_from (one.thread == other.thread) (λ eq. differ (is_one.by ∙ eqb-true one.thread other.thread eq ∙ sym is_other.by)))
      (join (not (is_known one other)) (clash one.touched other.touched)
      (off_from (is_known one other) (λ known. unordered (known_is.0 known)))
      (join (bytes_eq one.touched.array other.touched.array) (overlap one.touched other.touched && (one.touched.writes || other.touched.writes))
      ((bytes_eq-Decides one.touched.array other.touched.array).1 array)
      (join (overlap one.touched other.touched) (one.touched.writes || other.touched.writes) overlaps writes)))

module _ (entries : List Entry) (touches : List Touch) (kept : AreTouches entries touches) where
  made_is : {race : Race} → IsMade touches kept.in_order (length touches) 0 race → IsRace entries race
  made_is {race} made =
      subst (λ r. IsRace entries r) (sym made.is)
      (race_there entries made.one made.other (kept.each made.a made.one made.at_a) (kept.each made.b made.other made.at_b)
      (kept.in_order made.a made.b made.one made.other made.at_a made.at_b made.less) made.racing)

  -- what is kept of a step that touches an array
  touch_is : (place : ℕ) (step : Step) (one : Touched) → slice_get entries place ≡ Some (Stepped step) → touched step ≡ Some one →
      (at : IsKeptAt touches place) →
      ((kept.each at.number at.touch at.stands).step ≡ step) × (at.touch.touched ≡ one)
  touch_is place step one stands some at =
      (same, some_same (sym is.touches ∙ ap touched same ∙ some))
    where
      is : IsTouch entries at.touch
      is = kept.each at.number at.touch at.stands

      same : is.step ≡ step
      same = stepped_same (some_same (sym is.stands ∙ ap (λ n. slice_get entries n) at.is_there ∙ stands))

  is_made : {race : Race} → IsRace entries race → IsMade touches kept.in_order (length touches) 0 race
  is_made {race} is = record {
    a = first.number;
    b = second.number;
    one = first.touch;
    other = second.touch;
    at_a = first.stands;
    at_b = second.stands;
    less = in_turn (cases_order first.number second.number);
    bound = inl (slice_get_within touches second.number second.touch second.stands);
    racing = racing_is;
    is = same_race;
  }
    where
      r : AreRacing entries is.i is.j is.one is.other
      r = is.racing

      first : IsKeptAt touches is.i
      first = kept.all is.i r.first is.one r.first_touches.stands r.first_touches.touches

      second : IsKeptAt touches is.j
      second = kept.all is.j r.second is.other r.second_touches.stands r.second_touches.touches

      first_is : ((kept.each first.number first.touch first.stands).step ≡ r.first) × (first.touch.touched ≡ is.one)
      first_is = touch_is is.i r.first is.one r.first_touches.stands r.first_touches.touches first

      second_is : ((kept.each second.number second.touch second.stands).step ≡ r.second) × (second.touch.touched ≡ is.other)
      second_is = touch_is is.j r.second is.other r.second_touches.stands r.second_touches.touches second

      places : first.touch.place < second.touch.place
      places = let less = r.earlier in let at = first.is_there in let also = second.is_there in omega (arith, less, at, also)

      in_turn : (first.number ≡ second.number) ⊎ ((first.number < second.number) ⊎ (second.number < first.number)) → first.number < second.number
      in_turn (inl eq) =
          let same : first.touch ≡ second.touch = some_same (sym first.stands ∙ ap (λ n. slice_get touches n) eq ∙ second.stands) in
          let place : first.touch.place ≡ second.touch.place = ap (λ t. t.place) same in
          absurd (omega (arith, places, place))
      in_turn (inr (inl less)) = less
      in_turn (inr (inr more)) = let back = kept.in_order second.number first.number second.touch first.touch second.stands first.stands more in absurd (omega (arith, places, back))

      racing_is : races first.touch second.touch ≡ true
      racing_is =
          race_back entries first.touch second.touch (kept.each first.number first.touch first.stands)
          (kept.each second.number second.touch second.stands) places
          (λ eq. r.differ (ap (λ s. s.thread) (sym first_is.0) ∙ eq ∙ ap (λ s. s.thread) second_is.0))
          (λ before. r.unordered (subst (λ n. Before entries is.i n) second.is_there (subst
          (λ n. Before entries n second.touch.place) first.is_there before)))
          (ap (λ t. t.array) first_is.1 ∙ r.same_array ∙ ap (λ t. t.array) (sym second_is.1))
          (ap (λ t. overlap t second.touch.touched) first_is.1 ∙ ap (λ t. overlap is.one t) second_is.1 ∙ r.overlaps)
          (ap (λ t. t.writes || second.touch.touched.writes) first_is.1 ∙ ap (λ t. is.one.writes || t.writes) second_is.1 ∙ r.one_writes)

      same_race : race ≡ race_of first.touch second.touch
      same_race = race_same race.first race.second (first.touch.place + 1) (second.touch.place + 1) race.array second.touch.touched.array race.key
          (shared_key first.touch.touched second.touch.touched)
          (let at = first.is_there in let number = is.first in omega (arith, at, number)) (let at = second.is_there in let number = is.second in omega
          (arith, at, number))
          (is.array ∙ ap (λ t. t.array) (sym second_is.1))
          (is.key ∙ sym (ap (λ t. shared_key t second.touch.touched) first_is.1 ∙ ap (λ t. shared_key is.one t) second_is.1))

  pub all_races : (told : Races) → AreCounted (races_up_to touches (length touches)) told → AreRacesOf entries told
  all_races told counted = record {
    all = races_up_to touches (length touches);
    are_all = record {
      exactly = λ race. ((λ listed. made_is ((good.exactly race).0 listed)), (λ is. (good.exactly race).1 (is_made is)));
      in_order = good.ordered;
    };
    first = counted.first;
    counted = counted.counted;
  }
    where
      good : IsGood touches kept.in_order (length touches) 0 (races_up_to touches (length touches))
      good = all_good touches kept.in_order (length touches) (omega arith)
