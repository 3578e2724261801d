-- What an order is of, with one entry more.
use Rattle.std.proofs.Common.{◌≡◌, ◌∙◌, ℕ, zero, suc, ◌+◌, ◌<◌, ◌⊎◌, List, [], ◌∷◌, ◌++◌, Option, Some, None, length, slice_get, slice_index, refl}
use Rattle.std.proofs.Common.{sym, ap, subst, inl, inr, arith}
use Rattle.std.specs.List.{Contains}
use Rattle.std.proofs.lemmas.List.{append-nil}
use Rattle.std.proofs.lemmas.Option.{none-some, slice_get_within}
use Rattle.tt_before.specs.Known.{Knowledge, after_entry, after_step, nothing_known}
use Rattle.tt_before.specs.Objects.{acquires, releases}
use Rattle.tt_before.specs.Orders.{Link, LinkAt, link_at, link_of, links, links_from}
use Rattle.tt_before.specs.Steps.{Entry, Step, Stepped, Tick}
use Rattle.tt_before.specs.Touching.{touched}
use Rattle.tt_before.specs.declared.clocks.Told.{Told}
use Rattle.tt_before.specs.declared.kept.Touch.{Touch}
use Rattle.tt_before.specs.declared.object.Object.{Object}
use Rattle.tt_before.specs.declared.object.Object.TheVariants.{Line}
use Rattle.tt_before.specs.declared.order.Order.{Order}
use Rattle.tt_before.specs.declared.touched.Touched.{Touched}
use Rattle.tt_before.specs.inside.Kept.{clock_of}
use Rattle.tt_before.specs.inside.Clocks.{AreClocks, AreLined, IsRowOf, IsTold, Links, rank}
use Rattle.tt_before.specs.inside.Keeping.{touches_made}
use Rattle.tt_before.specs.inside.Told.{AreTouches, IsKeptAt, IsOrderOf, IsTouch, after_all}
use Rattle.tt_before.proofs.Clocking.{clocks_after, clocks_tick, row_is, row_more, row_own}
use Rattle.tt_before.proofs.Places.{at_cases, at_end, at_old, some_same}
use Rattle.tt_before.proofs.Ranks.{own_one, rank_end, rank_old}

pub after_more : (known : Knowledge) (entries : List Entry) (entry : Entry) →
    after_all known (entries ++ entry ∷ []) ≡ after_entry (after_all known entries) entry
after_more known [] entry = refl
after_more known (first ∷ entries) entry = after_more (after_entry known first) entries entry

pub links_more : (known : Knowledge) (entries : List Entry) (entry : Entry) →
    links_from known (entries ++ entry ∷ []) ≡ links_from known entries ++ link_at (after_all known entries) entry ∷ []
links_more known [] entry = refl
links_more known (first ∷ entries) entry = ap (λ all. link_at known first ∷ all) (links_more (after_entry known first) entries entry)

pub links_length : (known : Knowledge) (entries : List Entry) → length (links_from known entries) ≡ length entries
links_length known [] = refl
links_length known (first ∷ entries) = ap suc (links_length (after_entry known first) entries)

-- the link of a step
pub link_there : (known : Knowledge) (entries : List Entry) (place : ℕ) (step : Step) → slice_get entries place ≡ Some (Stepped step) →
    (link : Link) × LinkAt (links_from known entries) place link × (link.thread ≡ step.thread)
link_there known [] place step there = absurd (none-some (Stepped step) there)
link_there known (first ∷ entries) zero step there = (link_of known step, ap (λ entry. Some (link_at known entry)) (some_same there), refl)
link_there known (first ∷ entries) (suc place) step there = link_there (after_entry known first) entries place step there

-- each step releases its thread's line
pub lined_more : (all : Links) (one : Option Link) → AreLined all → ((link : Link) → one ≡ Some link → Contains link.gives (Line link.thread)) →
    AreLined (all ++ one ∷ [])
lined_more all one lined last i link at = by (at_cases all one i (Some link) at)
  where
    by : LinkAt all i link ⊎ ((i ≡ length all) × (one ≡ Some link)) → Contains link.gives (Line link.thread)
    by (inl before) = lined i link before
    by (inr end) = last link end.1

-- what was kept stays true
touch_more : (entries : List Entry) (entry : Entry) (touch : Touch) → IsTouch entries touch → IsTouch (entries ++ entry ∷ []) touch
touch_more entries entry touch is = record {
  step = is.step;
  stands = at_old entries entry touch.place (Stepped is.step) is.stands;
  by = is.by;
  touches = is.touches;
  ranked = is.ranked ∙ sym (rank_old touch.thread (links entries) one touch.place small) ∙ ap (λ all. rank touch.thread all touch.place) (sym more);
  row = subst (λ all. IsRowOf all touch.place (slice_index touch.row.items)) (sym more) (row_more (links entries) one touch.place
      (slice_index touch.row.items) small is.row);
}
  where
    one : Option Link
    one = link_at (after_all nothing_known entries) entry

    more : links (entries ++ entry ∷ []) ≡ links entries ++ one ∷ []
    more = links_more nothing_known entries entry

    small : touch.place < length (links entries)
    small = let within = slice_get_within entries touch.place (Stepped is.step) is.stands in let size = links_length nothing_known entries in omega
        (arith, within, size)

-- an entry that touches nothing
pub kept_same : (entries : List Entry) (entry : Entry) (touches : List Touch) → AreTouches entries touches →
    ((step : Step) (one : Touched) → entry ≡ Stepped step → touched step ≡ Some one → ⊥) → AreTouches (entries ++ entry ∷ []) touches
kept_same entries entry touches kept none = record {
  each = λ number touch there. touch_more entries entry touch (kept.each number touch there);
  in_order = kept.in_order;
  all = all;
}
  where
    all : (place : ℕ) (step : Step) (one : Touched) → slice_get (entries ++ entry ∷ []) place ≡ Some (Stepped step) → touched step ≡ Some one →
        IsKeptAt touches place
    all place step one there touch = by (at_cases entries entry place (Stepped step) there)
      where
        by : (slice_get entries place ≡ Some (Stepped step)) ⊎ ((place ≡ length entries) × (entry ≡ Stepped step)) → IsKeptAt touches place
        by (inl before) = kept.all place step one before touch
        by (inr end) = absurd (none step one end.1 touch)

-- an entry that touches an array, and is kept last
pub kept_more : (entries : List Entry) (entry : Entry) (touches : List Touch) (touch : Touch) → AreTouches entries touches → touch.place ≡ length entries →
    IsTouch (entries ++ entry ∷ []) touch → AreTouches (entries ++ entry ∷ []) (touches ++ touch ∷ [])
kept_more entries entry touches touch kept last is = record { each = each; in_order = in_order; all = all }
  where
    each : (number : ℕ) (one : Touch) → slice_get (touches ++ touch ∷ []) number ≡ Some one → IsTouch (entries ++ entry ∷ []) one
    each number one there = by (at_cases touches touch number one there)
      where
        by : (slice_get touches number ≡ Some one) ⊎ ((number ≡ length touches) × (touch ≡ one)) → IsTouch (entries ++ entry ∷ []) one
        by (inl before) = touch_more entries entry one (kept.each number one before)
        by (inr end) = subst (λ t. IsTouch (entries ++ entry ∷ []) t) end.1 is

    place_within : (number : ℕ) (one : Touch) → slice_get touches number ≡ Some one → one.place < length entries
    place_within number one there = let was = kept.each number one there in slice_get_within entries one.place (Stepped was.step) was.stands

    in_order : (m n : ℕ) (one other : Touch) → slice_get (touches ++ touch ∷ []) m ≡ Some one → slice_get (touches ++ touch ∷ []) n ≡ Some other →
        m < n → one.place < other.place
    in_order m n one other at_m at_n less = by (at_cases touches touch m one at_m) (at_cases touches touch n other at_n)
      where
        by : (slice_get touches m ≡ Some one) ⊎ ((m ≡ length touches) × (touch ≡ one)) →
            (slice_get touches n ≡ Some other) ⊎ ((n ≡ length touches) × (touch ≡ other)) → one.place < other.place
        by (inl first) (inl second) = kept.in_order m n one other first second less
        by (inl first) (inr second) =
            let small = place_within m one first in
            let at : touch.place ≡ other.place = ap (λ t. t.place) second.1 in
            omega (arith, small, last, at)
        by (inr first) (inl second) = let small = slice_get_within touches n other second in let at = first.0 in absurd (omega (arith, less, small, at))
        by (inr first) (inr second) = let at = first.0 in let also = second.0 in absurd (omega (arith, less, at, also))

    all : (place : ℕ) (step : Step) (one : Touched) → slice_get (entries ++ entry ∷ []) place ≡ Some (Stepped step) → touched step ≡ Some one →
        IsKeptAt (touches ++ touch ∷ []) place
    all place step one there some = by (at_cases entries entry place (Stepped step) there)
      where
        longer : IsKeptAt touches place → IsKeptAt (touches ++ touch ∷ []) place
        longer at = record { number = at.number; touch = at.touch; stands = at_old touches touch at.number at.touch at.stands; is_there = at.is_there }

        by : (slice_get entries place ≡ Some (Stepped step)) ⊎ ((place ≡ length entries) × (entry ≡ Stepped step)) → IsKeptAt (touches ++ touch ∷ []) place
        by (inl before) = longer (kept.all place step one before some)
        by (inr end) = record { number = length touches; touch = touch; stands = at_end touches touch; is_there = last ∙ sym end.0 }

-- ---- a step ----

pub stepped_same : {one other : Step} → Stepped one ≡ Stepped other → one ≡ other
stepped_same is = cc is

module _ (entries : List Entry) (step : Step) (lined : AreLined (links entries)) (before after : Object → ℕ →
    ℕ) (clocks : AreClocks (links entries) before) where
  abbrev pub new : Link
  new = link_of (after_all nothing_known entries) step

  own_gives : Contains new.gives (Line new.thread)
  own_gives = (0, omega arith, refl)

  own_takes : Contains new.takes (Line new.thread)
  own_takes = (0, omega arith, refl)

  more : links (entries ++ Stepped step ∷ []) ≡ links entries ++ Some new ∷ []
  more = links_more nothing_known entries (Stepped step)

  pub lined_step : AreLined (links (entries ++ Stepped step ∷ []))
  lined_step = subst AreLined (sym more) (lined_more (links entries) (Some new) lined (λ link is. subst (λ l. Contains l.gives (Line l.thread))
      (some_same is) own_gives))

  module _ (count : ℕ) (row : ℕ → ℕ) (told : IsTold before after step.thread new.takes new.gives count row) where
    pub clocks_step : AreClocks (links (entries ++ Stepped step ∷ [])) after
    clocks_step = subst (λ all. AreClocks all after) (sym more)
        (clocks_after (links entries) new lined own_takes own_gives before clocks told.joined row told.join told.more after told.gave)

    pub row_step : IsRowOf (links (entries ++ Stepped step ∷ [])) (length entries) row
    row_step = subst (λ all. IsRowOf all (length entries) row) (sym more)
        (subst (λ n. IsRowOf (links entries ++ Some new ∷ []) n row) (links_length nothing_known entries)
        (row_is (links entries) new lined own_takes own_gives before clocks told.joined row told.join told.more))

    pub rank_step : count ≡ rank step.thread (links (entries ++ Stepped step ∷ [])) (length entries)
    rank_step =
        by_numbers ∙ ap (λ n. rank step.thread (links entries ++ Some new ∷ []) n) (links_length nothing_known entries)
        ∙ ap (λ all. rank step.thread all (length entries)) (sym more)
      where
        by_numbers : count ≡ rank step.thread (links entries ++ Some new ∷ []) (length (links entries))
        by_numbers =
            let counts = told.counts in
            let own = row_own (links entries) new lined own_takes own_gives before clocks told.joined row told.join told.more in
            let end = rank_end step.thread (links entries) (Some new) in
            let one = own_one step.thread new refl in
            omega (arith, counts, own, end, one)

  pub kept_step : (touches : List Touch) (told : Told) → AreTouches entries touches →
      IsTold before after step.thread new.takes new.gives told.rank (slice_index told.row.items) →
      AreTouches (entries ++ Stepped step ∷ []) (touches ++ touches_made (length entries) step.thread told (touched step))
  kept_step touches told kept is = by (touched step) refl
    where
      by : (o : Option Touched) → touched step ≡ o → AreTouches (entries ++ Stepped step ∷ []) (touches ++ touches_made (length entries) step.thread told o)
      by None none =
          subst (λ list. AreTouches (entries ++ Stepped step ∷ []) list) (sym (append-nil touches))
          (kept_same entries (Stepped step) touches kept (λ other one eq some. none-some one (sym none ∙ ap touched (stepped_same eq) ∙ some)))
      by (Some one) some =
          kept_more entries (Stepped step) touches (record {
            place = length entries;
            thread = step.thread;
            rank = told.rank;
            row = told.row;
            touched = one;
          }) kept refl
          (record {
            step = step;
            stands = at_end entries (Stepped step);
            by = refl;
            touches = some;
            ranked = rank_step told.rank (slice_index told.row.items) is;
            row = row_step told.rank (slice_index told.row.items) is;
          })

-- ---- an order ----

length_more : {X : Type 0} (xs : List X) (x : X) → length (xs ++ x ∷ []) ≡ length xs + 1
length_more [] x = refl
length_more (y ∷ xs) x = let later = length_more xs x in omega (arith, later)

pub order_tick : (entries : List Entry) (old new : Order) → IsOrderOf entries old → new.count ≡ old.count + 1 → new.known ≡ old.known →
    clock_of new.clocks ≡ clock_of old.clocks → new.touches.items ≡ old.touches.items → IsOrderOf (entries ++ Tick ∷ []) new
order_tick entries old new is count known clocks touches = record {
  counted = let was = is.counted in let size = length_more entries Tick in omega (arith, count, was, size);
  knows = known ∙ is.knows ∙ sym (after_more nothing_known entries Tick);
  lined = subst AreLined (sym more) (lined_more (links entries) None is.lined (λ link none. absurd (none-some link none)));
  clocks = subst (λ all. AreClocks all (clock_of new.clocks)) (sym more)
      (subst (λ clock. AreClocks (links entries ++ None ∷ []) clock) (sym clocks) (clocks_tick (links entries) (clock_of old.clocks) is.clocks));
  touches = subst (λ list. AreTouches (entries ++ Tick ∷ []) list) (sym touches)
      (kept_same entries Tick old.touches.items is.touches (λ step one eq some. absurd (cc eq)));
}
  where
    more : links (entries ++ Tick ∷ []) ≡ links entries ++ None ∷ []
    more = links_more nothing_known entries Tick

pub order_step : (entries : List Entry) (old new : Order) (step : Step) (told : Told) → IsOrderOf entries old →
    IsTold (clock_of old.clocks) (clock_of new.clocks) step.thread (acquires old.known step) (releases old.known step) told.rank
    (slice_index told.row.items) →
    new.count ≡ old.count + 1 → new.known ≡ after_step old.known step →
    new.touches.items ≡ old.touches.items ++ touches_made old.count step.thread told (touched step) → IsOrderOf (entries ++ Stepped step ∷ []) new
order_step entries old new step told is tells count known touches = record {
  counted = let was = is.counted in let size = length_more entries (Stepped step) in omega (arith, count, was, size);
  knows = known ∙ ap (λ k. after_step k step) is.knows ∙ sym (after_more nothing_known entries (Stepped step));
  lined = lined_step entries step is.lined (clock_of old.clocks) (clock_of new.clocks) is.clocks;
  clocks = clocks_step entries step is.lined (clock_of old.clocks) (clock_of new.clocks) is.clocks told.rank (slice_index told.row.items) there;
  touches = subst (λ list. AreTouches (entries ++ Stepped step ∷ []) list)
      (sym (touches ∙ ap (λ n. old.touches.items ++ touches_made n step.thread told (touched step)) is.counted))
      (kept_step entries step is.lined (clock_of old.clocks) (clock_of new.clocks) is.clocks old.touches.items told is.touches there);
}
  where
    there : IsTold (clock_of old.clocks) (clock_of new.clocks) step.thread (acquires (after_all nothing_known entries) step)
        (releases (after_all nothing_known entries) step) told.rank (slice_index told.row.items)
    there = subst (λ k. IsTold (clock_of old.clocks) (clock_of new.clocks) step.thread (acquires k step) (releases k step) told.rank
        (slice_index told.row.items))
        is.knows tells
