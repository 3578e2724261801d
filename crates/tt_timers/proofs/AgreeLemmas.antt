-- The moments beside the timers stay those of the timers.
use Rattle.std.proofs.Common.{◌≡◌, ◌∙◌, ◌<◌, ℕ, Bool, true, false, not, cond, List, [], ◌∷◌, get_or, Option, Some, None}
use Rattle.std.proofs.Common.{refl, sym, ap, subst, arith, rules}
use Rattle.std.proofs.lemmas.List.Elements.{All-cons, All-filter, All-head, All-tail, filter_passes}
use Rattle.std.proofs.lemmas.List.Folds.{list_any_none}
use Rattle.std.specs.BTreeMap.{insert_entry, is_at}
use Rattle.std.specs.List.{All, list_any}
use Rattle.std.specs.Map.{keys_of, lookup, remove_entry}
use Rattle.std.specs.Option.{is_some, option_map}
use Rattle.std.specs.Ordering.{is_eq}
use Rattle.std.specs.declared.cmp.Ordering.{Ordering}
use Rattle.std.specs.declared.cmp.Ordering.TheVariants.{Less, Equal, Greater}
use Rattle.tt_timers.specs.inside.Entries.{Agree, is_owned, moment_of, owner_at, owner_cmp, owner_of, spot_cmp, spot_of, without_owned}
use Rattle.tt_timers.specs.declared.spot.Owner.{Owner}
use Rattle.tt_timers.specs.declared.spot.Spot.{Spot}
use Rattle.tt_timers.specs.declared.spot.Waiting.{Waiting}
use Rattle.tt_timers.proofs.KeyLemmas.{exact-spots, owner-self, same-owner, same-spot, spot-self}
use Rattle.tt_timers.proofs.SortLemmas.{each, found-any, found-below, of-entries, removed-is, some-value}

-- what a write of one key leaves, None taking it out
abbrev pub Writes : List (Owner × ℕ) → Owner → Option ℕ → List (Owner × ℕ) → Type 0
Writes old owner written new = (other : Owner) → moment_of new other ≡ cond (is_at (owner_cmp owner) other) written (moment_of old other)

abbrev pub WritesTimer : List (Spot × Waiting) → Spot → Option Waiting → List (Spot × Waiting) → Type 0
WritesTimer old spot written new =
    (other : Spot) → lookup (is_at (spot_cmp other)) new ≡ cond (is_at (spot_cmp spot) other) written (lookup (is_at (spot_cmp other)) old)

cond-true : {X : Type 0} (b : Bool) (x y : X) → b ≡ true → cond b x y ≡ x
cond-true b x y e = rw e refl

cond-false : {X : Type 0} (b : Bool) (x y : X) → b ≡ false → cond b x y ≡ y
cond-false b x y e = rw e refl

-- the owner's entry is at the spot that is kept of it
pub owned-at : (timers : List (Spot × Waiting)) (moments : List (Owner × ℕ)) (owner : Owner) (moment : ℕ) → Agree timers moments →
    moment_of moments owner ≡ Some moment → All (λ entry. is_owned owner entry ≡ true → entry.0 ≡ spot_of owner moment) timers
owned-at timers moments owner moment agree is = λ k d l owned.
    let same = same-owner owner _ owned in
    let listed = agree.listed k d l in
    let at = some-value _ _ (sym listed ∙ ap (moment_of moments) (sym same) ∙ is) in
    search (rules, same, at)

-- an owner of whom nothing is kept has no entry
pub none-owned : (timers : List (Spot × Waiting)) (moments : List (Owner × ℕ)) (owner : Owner) → Agree timers moments →
    moment_of moments owner ≡ None → All (λ entry. is_owned owner entry ≡ false) timers
none-owned timers moments owner agree is = λ k d l. go (get_or timers k d) (agree.listed k d l) (is_owned owner (get_or timers k d)) refl
  where
    go : (entry : Spot × Waiting) → moment_of moments (owner_of entry) ≡ Some entry.0.moment → (owned : Bool) → is_owned owner entry ≡ owned →
        is_owned owner entry ≡ false
    go entry listed true e =
        let none : moment_of moments (owner_of entry) ≡ None = subst (λ one. moment_of moments one ≡ None) (same-owner owner
        (owner_of entry) e) is in absurd (cc (listed, none))
    go entry listed false e = e

pub owned-any : (timers : List (Spot × Waiting)) (moments : List (Owner × ℕ)) (owner : Owner) → Agree timers moments →
    is_some (moment_of moments owner) ≡ list_any (is_owned owner) timers
owned-any timers moments owner agree = go (moment_of moments owner) refl
  where
    go : (found : Option ℕ) → moment_of moments owner ≡ found → is_some (moment_of moments owner) ≡ list_any (is_owned owner) timers
    go None e = rw e (sym (list_any_none (is_owned owner) timers (none-owned timers moments owner agree e)))
    go (Some moment) e = rw e (sym (found-any timers (spot_of owner moment) owner (agree.kept owner moment e)))

-- ---- a timer goes ----

-- the spot of a timer that was taken out is free
free : (timers left : List (Spot × Waiting)) (spot : Spot) → WritesTimer timers spot None left → lookup (is_at (spot_cmp spot)) left ≡ None
free timers left spot taken = taken spot ∙ cond-true (is_at (spot_cmp spot) spot) None (lookup (is_at (spot_cmp spot)) timers) (ap is_eq (spot-self spot))

pub removed-where : (timers left : List (Spot × Waiting)) (moments : List (Owner × ℕ)) (owner : Owner) (moment : ℕ) → Agree timers moments →
    moment_of moments owner ≡ Some moment → left ≡ remove_entry (is_at (spot_cmp (spot_of owner moment))) timers →
    WritesTimer timers (spot_of owner moment) None left → left ≡ without_owned owner timers
removed-where timers left moments owner moment agree is gone taken =
    gone ∙ removed-is timers (spot_of owner moment) owner (owned-at timers moments owner moment agree is) (agree.kept owner moment is)
    (subst (λ list. lookup (is_at (spot_cmp (spot_of owner moment))) list ≡ None) gone (free timers left (spot_of owner moment) taken))

pub agree-removed : (timers left : List (Spot × Waiting)) (moments kept : List (Owner × ℕ)) (owner : Owner) (moment : ℕ) → Agree timers moments →
    moment_of moments owner ≡ Some moment → Writes moments owner None kept → left ≡ without_owned owner timers →
    WritesTimer timers (spot_of owner moment) None left → Agree left kept
agree-removed timers left moments kept owner moment agree is writes filtered taken = record {
  listed = subst (All (λ entry. moment_of kept
      (owner_of entry) ≡ Some entry.0.moment)) (sym filtered) listed;
  kept = keeps;
}
  where
    listed : All (λ entry. moment_of kept (owner_of entry) ≡ Some entry.0.moment) (without_owned owner timers)
    listed =
        each (λ entry. moment_of moments (owner_of entry) ≡ Some entry.0.moment) (λ entry. not (is_owned owner entry) ≡ true)
        (λ entry. moment_of kept (owner_of entry) ≡ Some entry.0.moment)
        (λ entry old others. writes (owner_of entry) ∙ cond-false (is_owned owner entry) None (moment_of moments (owner_of entry)) (not-false
        (is_owned owner entry) others) ∙ old)
        (without_owned owner timers) (All-filter (λ entry. not (is_owned owner entry)) (λ entry. moment_of moments
        (owner_of entry) ≡ Some entry.0.moment) timers agree.listed)
        (filter_passes (λ entry. not (is_owned owner entry)) timers)
      where
        not-false : (b : Bool) → not b ≡ true → b ≡ false
        not-false true e = absurd (cc e)
        not-false false e = refl

    keeps : (other : Owner) (at : ℕ) → moment_of kept other ≡ Some at → owner_at left (spot_of other at) ≡ Some other
    keeps other at there = go (is_at (owner_cmp owner) other) refl
      where
        go : (same : Bool) → is_at (owner_cmp owner) other ≡ same → owner_at left (spot_of other at) ≡ Some other
        go true e = absurd (let gone : moment_of kept other ≡ None = writes other ∙ cond-true (is_at (owner_cmp owner) other) None
            (moment_of moments other) e in cc (gone, there))
        go false e = by (is_at (spot_cmp (spot_of owner moment)) (spot_of other at)) refl
          where
            old : owner_at timers (spot_of other at) ≡ Some other
            old = agree.kept other at (sym (cond-false (is_at (owner_cmp owner) other) None (moment_of moments other) e) ∙ sym (writes other) ∙ there)

            by : (same : Bool) → is_at (spot_cmp (spot_of owner moment)) (spot_of other at) ≡ same → owner_at left (spot_of other at) ≡ Some other
            by true f =
                let spots : spot_of owner moment ≡ spot_of other at = same-spot (spot_of owner moment) (spot_of other at) f in
                let owners : owner ≡ other = some-value owner other (sym (agree.kept owner moment is) ∙ ap (owner_at timers) spots ∙ old) in
                let equal : is_at (owner_cmp owner) other ≡ true = subst (λ one. is_at (owner_cmp owner) one ≡ true) owners (ap is_eq (owner-self owner)) in
                absurd (cc (e, equal))
            by false f =
                ap (option_map (λ waiting. owner_of (spot_of other at, waiting)))
                (taken (spot_of other at) ∙ cond-false (is_at (spot_cmp (spot_of owner moment)) (spot_of other at)) None (lookup (is_at (spot_cmp
                (spot_of other at))) timers) f) ∙ old

-- the first goes
pub agree-popped : (first : Spot × Waiting) (left : List (Spot × Waiting)) (moments kept : List (Owner × ℕ)) → Agree (first ∷ left) moments →
    Writes moments (owner_of first) None kept → WritesTimer (first ∷ left) first.0 None left → Agree left kept
agree-popped first left moments kept agree writes taken =
    let listed : moment_of moments (owner_of first) ≡ Some first.0.moment =
    All-head (λ entry. moment_of moments (owner_of entry) ≡ Some entry.0.moment) first left agree.listed in
    let gone : left ≡ remove_entry (is_at (spot_cmp first.0)) (first ∷ left) = sym (cond-true (is_at (spot_cmp first.0) first.0) left _ (ap is_eq
    (spot-self first.0))) in
    agree-removed (first ∷ left) left moments kept (owner_of first) first.0.moment agree listed writes
    (removed-where (first ∷ left) left moments (owner_of first) first.0.moment agree listed gone taken) taken

-- ---- a timer more ----

-- nothing is kept of an owner whose number is above all
pub none-kept : (timers : List (Spot × Waiting)) (moments : List (Owner × ℕ)) (owner : Owner) → Agree timers moments →
    All (λ one. one.number < owner.number) (keys_of timers) → moment_of moments owner ≡ None
none-kept timers moments owner agree fresh = go (moment_of moments owner) refl
  where
    go : (found : Option ℕ) → moment_of moments owner ≡ found → moment_of moments owner ≡ None
    go None e = e
    go (Some moment) e = absurd (omega (arith, found-below owner.number timers (spot_of owner moment) owner fresh (agree.kept owner moment e)))

-- what is written and taken out again is as it was
pub agree-undone : (timers : List (Spot × Waiting)) (moments put undone : List (Owner × ℕ)) (owner : Owner) (moment : ℕ) → Agree timers moments →
    moment_of moments owner ≡ None → Writes moments owner (Some moment) put → Writes put owner None undone → Agree timers undone
agree-undone timers moments put undone owner moment agree none writes undoes =
    record {
      listed = λ k d l. same _ ∙ agree.listed k d l;
      kept = λ other at there. agree.kept other at (sym (same other) ∙ there);
    }
  where
    same : (other : Owner) → moment_of undone other ≡ moment_of moments other
    same other = go (is_at (owner_cmp owner) other) refl
      where
        go : (at : Bool) → is_at (owner_cmp owner) other ≡ at → moment_of undone other ≡ moment_of moments other
        go true e =
            undoes other ∙ cond-true (is_at (owner_cmp owner) other) None (moment_of put other) e ∙
            sym (subst (λ one. moment_of moments one ≡ None) (same-owner owner other e) none)
        go false e =
            undoes other ∙ cond-false (is_at (owner_cmp owner) other) None (moment_of put other) e ∙ writes other ∙
            cond-false (is_at (owner_cmp owner) other) (Some moment) (moment_of moments other) e

-- what holds of the new entry and of all others
all-put : (P : Spot × Waiting → Type 0) (entries : List (Spot × Waiting)) (spot : Spot) (waiting : Waiting) → P (spot, waiting) → All P entries →
    All P (insert_entry spot_cmp entries spot waiting)
all-put P [] spot waiting new all = All-cons P (spot, waiting) [] new all
all-put P (entry ∷ entries) spot waiting new all = go (all-put P entries spot waiting new (All-tail P entry entries all)) (spot_cmp spot entry.0) refl
  where
    go : All P (insert_entry spot_cmp entries spot waiting) → (by : Ordering) → spot_cmp spot entry.0 ≡ by →
        All P (insert_entry spot_cmp (entry ∷ entries) spot waiting)
    go rest Less e = rw e (All-cons P (spot, waiting) (entry ∷ entries) new all)
    go rest Equal e = rw e (All-cons P (entry.0, waiting) entries (subst (λ one. P (one, waiting)) (exact-spots spot entry.0 e) new)
        (All-tail P entry entries all))
    go rest Greater e = rw e (All-cons P entry (insert_entry spot_cmp entries spot waiting) (All-head P entry entries all) rest)

pub agree-put : (timers more : List (Spot × Waiting)) (moments put : List (Owner × ℕ)) (spot : Spot) (waiting : Waiting) → Agree timers moments →
    All (λ one. one.number < spot.number) (keys_of timers) → Writes moments (owner_of (spot, waiting)) (Some spot.moment) put →
    more ≡ insert_entry spot_cmp timers spot waiting → WritesTimer timers spot (Some waiting) more → Agree more put
agree-put timers more moments put spot waiting agree fresh writes is taken =
    record { listed = subst (All (λ entry. moment_of put (owner_of entry) ≡ Some entry.0.moment)) (sym is) listed; kept = keeps }
  where
    owner : Owner
    owner = owner_of (spot, waiting)

    old-listed : (entry : Spot × Waiting) → moment_of moments (owner_of entry) ≡ Some entry.0.moment → entry.0.number < spot.number →
        moment_of put (owner_of entry) ≡ Some entry.0.moment
    old-listed entry there below = go (is_at (owner_cmp (owner_of (spot, waiting))) (owner_of entry)) refl
      where
        go : (same : Bool) → is_at (owner_cmp (owner_of (spot, waiting))) (owner_of entry) ≡ same → moment_of put (owner_of entry) ≡ Some entry.0.moment
        go true e =
            let number : spot.number ≡ entry.0.number = ap (λ one. one.number) (same-owner (owner_of (spot, waiting)) (owner_of entry) e) in
            absurd (omega (arith, number, below))
        go false e = writes (owner_of entry) ∙ cond-false (is_at (owner_cmp (owner_of (spot, waiting))) (owner_of entry)) (Some spot.moment)
            (moment_of moments (owner_of entry)) e ∙ there

    listed : All (λ entry. moment_of put (owner_of entry) ≡ Some entry.0.moment) (insert_entry spot_cmp timers spot waiting)
    listed =
        all-put (λ entry. moment_of put (owner_of entry) ≡ Some entry.0.moment) timers spot waiting
        (writes (owner_of (spot, waiting)) ∙ cond-true (is_at (owner_cmp (owner_of (spot, waiting))) (owner_of (spot, waiting))) (Some spot.moment)
        (moment_of moments (owner_of (spot, waiting))) (ap is_eq (owner-self (owner_of (spot, waiting)))))
        (each (λ entry. moment_of moments (owner_of entry) ≡ Some entry.0.moment) (λ entry. entry.0.number < spot.number)
        (λ entry. moment_of put (owner_of entry) ≡ Some entry.0.moment) old-listed timers agree.listed (of-entries
        (λ one. one.number < spot.number) timers fresh))

    keeps : (other : Owner) (at : ℕ) → moment_of put other ≡ Some at → owner_at more (spot_of other at) ≡ Some other
    keeps other at there = go (is_at (owner_cmp (owner_of (spot, waiting))) other) refl
      where
        go : (same : Bool) → is_at (owner_cmp (owner_of (spot, waiting))) other ≡ same → owner_at more (spot_of other at) ≡ Some other
        go true e =
            let owners : owner_of (spot, waiting) ≡ other = same-owner (owner_of (spot, waiting)) other e in
            let moment : spot.moment ≡ at =
            some-value spot.moment at (sym (cond-true (is_at (owner_cmp (owner_of (spot, waiting))) other) (Some spot.moment)
            (moment_of moments other) e) ∙ sym (writes other) ∙ there) in
            let found : owner_at more spot ≡ Some (owner_of (spot, waiting)) =
            ap (option_map (λ waiting. owner_of (spot, waiting)))
            (taken spot ∙ cond-true (is_at (spot_cmp spot) spot) (Some waiting) (lookup (is_at (spot_cmp spot)) timers) (ap is_eq (spot-self spot))) in
            let spots : spot ≡ spot_of other at = search (rules, moment, owners) in
            ap (owner_at more) (sym spots) ∙ found ∙ ap (λ one. Some one) owners
        go false e = by (is_at (spot_cmp spot) (spot_of other at)) refl
          where
            old : owner_at timers (spot_of other at) ≡ Some other
            old = agree.kept other at (sym (cond-false (is_at (owner_cmp (owner_of (spot, waiting))) other) (Some spot.moment)
                (moment_of moments other) e) ∙ sym (writes other) ∙ there)

            by : (same : Bool) → is_at (spot_cmp spot) (spot_of other at) ≡ same → owner_at more (spot_of other at) ≡ Some other
            by true f =
                let below : other.number < spot.number = found-below spot.number timers (spot_of other at) other fresh old in
                let number : spot.number ≡ other.number = ap (λ one. one.number) (same-spot spot (spot_of other at) f) in absurd (omega
                (arith, below, number))
            by false f =
                ap (option_map (λ waiting. owner_of (spot_of other at, waiting)))
                (taken (spot_of other at) ∙ cond-false (is_at (spot_cmp spot) (spot_of other at)) (Some waiting) (lookup (is_at (spot_cmp
                (spot_of other at))) timers) f) ∙ old
