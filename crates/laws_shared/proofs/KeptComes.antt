-- Channels stay kept when one has come: the event that brought it was the only one.
use Rattle.std.proofs.Common.{◌≡◌, ◌≢◌, ◌∙◌, ◌+◌, ◌<◌, ◌==◌, ℕ, Bool, true, false, cond, if◌then◌else◌, List, ◌∷◌}
use Rattle.std.proofs.Common.{Option, Some, None, ap, refl, sym, subst, arith}
use Rattle.std.proofs.lemmas.Bool.Decides.{nat_tests}
use Rattle.tt_calls.specs.declared.event.Event.{Event}
use Rattle.tt_calls.specs.declared.event.Event.TheVariants as event
use Rattle.tt_chans.specs.Channels.{ChannelTable, channel_of, after_arrival, owner_given, with_channel}
use Rattle.tt_chans.specs.Ends.{with_owner}
use Rattle.tt_chans.specs.declared.channel.Channel.{Channel}
use Rattle.tt_chans.specs.declared.channel.Owner.{Owner}
use Rattle.tt_chans.specs.declared.channel.Owner.TheVariants.{Thread, Detached, Moving}
use Rattle.laws_shared.proofs.Deciding as deciding
use Rattle.laws_shared.proofs.Apart.{other_key}
use Rattle.laws_shared.proofs.Arrivals.{by_taking, count, count-cons, weight}
use Rattle.laws_shared.proofs.Kept.{AllHold, OwnerHolds, expected}
use Rattle.laws_shared.proofs.Tables.{by_set, is_key, same_key, set_here}
use Rattle.laws_shared.specs.KeptChannels.{arrivals, brings, events_in}
use Rattle.laws_shared.specs.Owners.{owner_at, owner_in}
use Rattle.tt_shared.specs.Mail.{Queues, queue_of, with_queue}
use Rattle.tt_threads.specs.Rows.{is_living}
use Rattle.tt_threads.specs.declared.row.Row.{Row}

-- an owner by whom an event brings the channel to the thread
on_its_way : (t : ℕ) (owner : Option Owner) → 0 < expected owner t → (from : Option ℕ) × (owner ≡ Some (Moving from t))
on_its_way t None some = absurd (omega (arith, some))
on_its_way t (Some (Thread s)) some = absurd (omega (arith, some))
on_its_way t (Some Detached) some = absurd (omega (arith, some))
on_its_way t (Some (Moving from to)) some = go (to == t) refl some
  where
    go : (b : Bool) → (to == t) ≡ b → 0 < deciding.one_if b → (source : Option ℕ) × (Some (Moving from to) ≡ Some (Moving source t))
    go true is some = (from, ap (λ one. Some (Moving from one)) (deciding.same to t is))
    go false is some = absurd (omega (arith, some))

module _ (queues : Queues) (rows : List Row) (table : ChannelTable) (t : ℕ) (lives : is_living rows t ≡ true) (all : AllHold queues rows table) (events : List Event) where
  abbrev later : Queues
  later = with_queue queues t events

  -- what the taking of an event leaves, if it does not bring the channel
  others : (event : Event) (text : List ℕ) → queue_of queues t ≡ Some (event ∷ events) → weight text event ≡ 0 → (u : ℕ) →
      arrivals later u text ≡ arrivals queues u text
  others event text there none u =
      let counted : arrivals later u text + deciding.more_if (u == t) 0 ≡ arrivals queues u text =
      ap (λ n. arrivals later u text + deciding.more_if (u == t) n) (sym none) ∙ by_taking queues t u event events text there in
      sym (ap (λ n. arrivals later u text + n) (deciding.no_more (u == t)) ∙ omega arith) ∙ counted

  pub by_other : (event : Event) → queue_of queues t ≡ Some (event ∷ events) → ((text : List ℕ) → brings text event ≡ false) → AllHold later rows table
  by_other event there quiet = record {
    each = λ text. ((λ u. others event text there (ap (λ b. cond b 1 0) (quiet text)) u ∙ (all.each text).0 u), (all.each text).1);
  }

  module _ (id : List ℕ) (there : queue_of queues t ≡ Some (event.Moved id ∷ events)) where
    itself : weight id (event.Moved id) ≡ 1
    itself = ap (λ b. cond b 1 0) (deciding.text_itself id)

    -- it was on its way to the thread
    some : 0 < expected (owner_at table id) t
    some =
        let here : arrivals queues t id ≡ count id (event.Moved id ∷ events) = ap (λ found. count id (events_in found)) there in
        omega (arith, (all.each id).0 t, here, count-cons id (event.Moved id) events, itself)

    from : Option ℕ
    from = (on_its_way t (owner_at table id) some).0

    moving : owner_at table id ≡ Some (Moving from t)
    unfolding from
    moving = (on_its_way t (owner_at table id) some).1

    -- and no event more brings it
    none_left : (u : ℕ) → arrivals later u id ≡ 0
    none_left u =
        let had : arrivals queues u id ≡ deciding.one_if (t == u) = (all.each id).0 u ∙ ap (λ owner. expected owner u) moving in
        let counted : arrivals later u id + deciding.more_if (u == t) 1 ≡ arrivals queues u id =
        ap (λ n. arrivals later u id + deciding.more_if (u == t) n) (sym itself) ∙ by_taking queues t u (event.Moved id) events id there in
        let both : arrivals later u id + deciding.one_if (u == t) ≡ deciding.one_if (u == t) = counted ∙ had ∙ ap deciding.one_if (deciding.flipped t u) in
        omega (arith, both)

    given_owner : (channel : Channel) → channel_of table id ≡ Some channel → owner_given t channel.owner ≡ Thread t
    given_owner channel found =
        let is : Some channel.owner ≡ Some (Moving from t) = sym (ap owner_in found) ∙ moving in
        let owner : channel.owner ≡ Moving from t = cc is in
        ap (owner_given t) owner ∙ go (t == t) refl
      where
        go : (b : Bool) → (t == t) ≡ b → (if b then Thread t else Moving from t) ≡ Thread t
        go true is = refl
        go false is = absurd (grind (arith, nat_tests, is))

    come : (channel : Channel) → channel_of table id ≡ Some channel →
        AllHold later rows (with_channel table id (with_owner channel (owner_given t channel.owner)))
    come channel found = record { each = λ text. go text (is_key text id) refl }
      where
        new : Channel
        new = with_owner channel (owner_given t channel.owner)

        go : (text : List ℕ) (b : Bool) → is_key text id ≡ b → OwnerHolds later rows text (owner_at (with_channel table id new) text)
        go text true is =
            let alike : text ≡ id = same_key text id is in
            let put : owner_at (with_channel table id new) id ≡ Some (Thread t) =
            ap owner_in (set_here id table.channels new channel found) ∙ ap Some (given_owner channel found) in
            subst (λ one. OwnerHolds later rows one (owner_at (with_channel table id new) one)) (sym alike)
            (subst (λ owner. OwnerHolds later rows id owner) (sym put) (none_left, lives))
        go text false is =
            let other : text ≢ id = λ alike. other_key text id is (sym alike) in
            let not_it : weight text (event.Moved id) ≡ 0 = ap (λ b. cond b 1 0) (deciding.texts_apart id text (λ it. other (sym it))) in
            by_set (λ one. OwnerHolds later rows text (owner_in one)) text id table.channels new (λ alike had. absurd (other alike))
            ((λ u. others (event.Moved id) text there not_it u ∙ (all.each text).0 u), (all.each text).1)

    pub by_coming : AllHold later rows (after_arrival table t id (channel_of table id))
    by_coming = go (channel_of table id) refl
      where
        go : (one : Option Channel) → channel_of table id ≡ one → AllHold later rows (after_arrival table t id one)
        go None missing = let both : None ≡ Some (Moving from t) = sym (ap owner_in missing) ∙ moving in absurd (cc both)
        go (Some channel) found = come channel found
