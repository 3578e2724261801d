use Rattle.std.proofs.Common.{◌≡◌, ◌++◌, ◌∷◌, [], Some}
use Rattle.tt_core.proofs.CrewLemmas.{begins-one}
use Rattle.tt_core.proofs.crew.Crew.begin.Goals as goal

pub returns : goal.returns
returns c =
    let pushed : c.push.new.self ≡ c.args.self.now ++ Some c.resume.new.self ∷ [] = rw (← c.self.view_is) c.in_ok-push.ensures.pushed in
    record {
      begins = begins-one c.args.setup.now c.args.start.now c.args.number c.in_ok-interp.interp c.resume.new.self c.args.self.now c.push.new.self
          c.requires.next c.in_ok-interp.ensures.stands c.in_ok-resume.ensures.stands c.in_ok-resume.ensures.halts pushed;
    }
