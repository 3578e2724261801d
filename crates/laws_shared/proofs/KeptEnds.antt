-- Channels stay kept at the end of a thread, and when one has come.
use Rattle.std.proofs.Common.{◌≡◌, ◌≢◌, ◌∙◌, ◌==◌, ◌||◌, ℕ, Bool, true, false, not, if◌then◌else◌, List, Option, Some, None, ap, refl, sym, subst, ℤ}
use Rattle.tt_chans.specs.Channels.{ChannelTable, channel_of, table_after_end}
use Rattle.tt_chans.specs.Ends.{after_end, is_sent, owner_after, stays_open, owner_without_sender}
use Rattle.tt_chans.specs.declared.channel.Channel.{Channel}
use Rattle.tt_chans.specs.declared.channel.Owner.{Owner}
use Rattle.tt_chans.specs.declared.channel.Owner.TheVariants.{Thread, Detached, Moving}
use Rattle.laws_shared.proofs.Deciding as deciding
use Rattle.laws_shared.proofs.Apart.{left, left-is}
use Rattle.laws_shared.proofs.Arrivals.{SameArrivals, by_emptying}
use Rattle.laws_shared.proofs.Drawn.{IsDrawn}
use Rattle.laws_shared.proofs.Kept.{AllHold, OwnerHolds}
use Rattle.laws_shared.proofs.Lives.{by_end}
use Rattle.laws_shared.specs.KeptChannels.{arrivals}
use Rattle.laws_shared.specs.Owners.{owner_in}
use Rattle.tt_shared.specs.Mail.{Queues, queues_without_events}
use Rattle.tt_threads.specs.Rows.{is_living, with_end}
use Rattle.tt_threads.specs.declared.row.Row.{Row}

-- ---- the end of a thread ----

-- whose a channel is then; none, if it was closed
abbrev owner_left : ℕ → Owner → Option Owner
owner_left t owner =
    if elim owner [ Thread thread ↦ not (thread == t) | Detached ↦ true | Moving from to ↦ not (to == t) || is_sent from ]
    then Some (owner_after t owner)
    else None

owner-left : (t : ℕ) (channel : Channel) → owner_in (left (stays_open t) (after_end t) (Some channel)) ≡ owner_left t channel.owner
owner-left t channel = go (stays_open t channel)
  where
    go : (b : Bool) → owner_in (if b then Some (after_end t channel) else None) ≡ (if b then Some (owner_after t channel.owner) else None)
    go true = refl
    go false = refl

module _ (queues later : Queues) (rows : List Row) (t : ℕ) (code : ℤ) (text : List ℕ) (arrive : SameArrivals queues later) where
  abbrev HoldsThen : Option Owner → Type 0
  HoldsThen owner = OwnerHolds (queues_without_events later t) (with_end rows t code) text owner

  counted : (u : ℕ) → arrivals (queues_without_events later t) u text ≡ (if u == t then 0 else arrivals queues u text)
  counted u = by_emptying later t u text ∙ ap (λ n. if u == t then 0 else n) (arrive u text)

  nothing : (owner : Option Owner) → ((u : ℕ) → arrivals queues u text ≡ 0) → (u : ℕ) → arrivals (queues_without_events later t) u text ≡ 0
  nothing owner none u = counted u ∙ ap (λ n. if u == t then 0 else n) (none u) ∙ deciding.still_zero (u == t)

  -- it was on its way to another thread, and still is
  on_its_way : (to : ℕ) → (to == t) ≡ false → ((u : ℕ) → arrivals queues u text ≡ (if to == u then 1 else 0)) → (u : ℕ) →
      arrivals (queues_without_events later t) u text ≡ (if to == u then 1 else 0)
  on_its_way to other had u = counted u ∙ ap (λ n. if u == t then 0 else n) (had u) ∙ go (u == t) refl
    where
      go : (b : Bool) → (u == t) ≡ b → deciding.zero_if b (deciding.one_if (to == u)) ≡ deciding.one_if (to == u)
      go true is =
          let not_here : (to == u) ≡ false = ap (λ one. to == one) (deciding.same u t is) ∙ other in
          sym (ap deciding.one_if not_here)
      go false is = refl

  goes_on : (owner : Owner) → OwnerHolds queues rows text (Some owner) → HoldsThen (owner_left t owner)
  goes_on Detached holds = (nothing None holds.0, tt)
  goes_on (Thread s) holds = go (s == t) refl
    where
      go : (b : Bool) → (s == t) ≡ b → HoldsThen (if not b then Some (Thread s) else None)
      go true is = (nothing None holds.0, tt)
      go false is = (nothing None holds.0, by_end rows t code s (deciding.differs s t is) holds.1)
  goes_on (Moving None to) holds = go (to == t) refl
    where
      go : (b : Bool) → (to == t) ≡ b → HoldsThen (if not b || false then Some (if b then Detached else Moving None to) else None)
      go true is =
          (λ u. counted u ∙ ap (λ n. if u == t then 0 else n) (holds.0 u) ∙ gone u (u == t) refl, tt)
        where
          gone : (u : ℕ) (b : Bool) → (u == t) ≡ b → deciding.zero_if b (deciding.one_if (to == u)) ≡ 0
          gone u true here = refl
          gone u false here = ap deciding.one_if (ap (λ one. one == u) (deciding.same to t is) ∙ deciding.flipped t u ∙ here)
      go false is = (on_its_way to is holds.0, (by_end rows t code to (deciding.differs to t is) holds.1.0, tt))
  goes_on (Moving (Some s) to) holds = go (to == t) refl
    where
      lives : is_living rows s ≡ true
      lives = holds.1.1.0

      apart : s ≢ to
      apart = holds.1.1.1

      go : (b : Bool) → (to == t) ≡ b → HoldsThen (if not b || true then Some (if b then Thread s else owner_without_sender t (Some s) to) else None)
      go true is = (
        λ u. counted u ∙ ap (λ n. if u == t then 0 else n) (holds.0 u)
            ∙ gone u (u == t) refl,
        by_end rows t code s (λ me. apart (me ∙ sym (deciding.same to t is))) lives,
      )
        where
          gone : (u : ℕ) (b : Bool) → (u == t) ≡ b → deciding.zero_if b (deciding.one_if (to == u)) ≡ 0
          gone u true here = refl
          gone u false here = ap deciding.one_if (ap (λ one. one == u) (deciding.same to t is) ∙ deciding.flipped t u ∙ here)
      go false is = sender (s == t) refl
        where
          sender : (b : Bool) → (s == t) ≡ b → HoldsThen (Some (if b then Moving None to else Moving (Some s) to))
          sender true me = (on_its_way to is holds.0, (by_end rows t code to (deciding.differs to t is) holds.1.0, tt))
          sender false me = (
            on_its_way to is holds.0,
            (by_end rows t code to (deciding.differs to t is) holds.1.0, (by_end rows t code s (deciding.differs s t me) lives, apart)),
          )

pub by_ending : (queues later : Queues) (rows : List Row) (table : ChannelTable) (t : ℕ) (code : ℤ) → SameArrivals queues later → IsDrawn table →
    AllHold queues rows table
    → AllHold (queues_without_events later t) (with_end rows t code) (table_after_end table t)
by_ending queues later rows table t code arrive drawn all = record {
  each = λ text.
      subst (λ found. OwnerHolds (queues_without_events later t) (with_end rows t code) text (owner_in found))
      (sym (left-is (stays_open t) (after_end t) text table.channels drawn.apart))
      (go text (channel_of table text) (all.each text));
}
  where
    go : (text : List ℕ) (found : Option Channel) → OwnerHolds queues rows text (owner_in found) →
        OwnerHolds (queues_without_events later t) (with_end rows t code) text (owner_in (left (stays_open t) (after_end t) found))
    go text None holds = (nothing queues later rows t code text arrive None holds.0, tt)
    go text (Some channel) holds =
        subst (λ owner. OwnerHolds (queues_without_events later t) (with_end rows t code) text owner) (sym (owner-left t channel))
        (goes_on queues later rows t code text arrive channel.owner holds)
