use Rattle.std.proofs.Common.{◌≡◌, ◌∙◌, ◌++◌, ◌∷◌, ℕ, [], refl, subst}
use Rattle.tt_core.proofs.PlaceLemmas.{add-suc}
use Rattle.std.proofs.Common.{length}
use Rattle.tt_workers.specs.inside.Places.{IsNew}
use Rattle.tt_workers.specs.declared.place.Place.TheVariants.{Fresh}
use Rattle.tt_workers.proofs.roster.Roster.begin.Goals as goal

pub returns : goal.returns
returns c =
    let pushed : c.push.new.self ≡ c.args.self.now ++ Fresh c.in_ok-interp.interp ∷ [] = rw (← c.self.view_is) c.in_ok-push.ensures.pushed in
    record {
      begins = record {
        place = Fresh c.in_ok-interp.interp;
        pushed = pushed;
        fresh = subst (λ (n : ℕ). IsNew c.in_ok-interp.interp c.args.setup.now n (record { start = c.args.start.now; replies = [] }))
            (c.requires.next ∙ add-suc (length c.args.self.now))
            (record { no_reply = refl; fresh = c.in_ok-interp.ensures.fresh; stands = c.in_ok-interp.ensures.stands });
      };
    }
