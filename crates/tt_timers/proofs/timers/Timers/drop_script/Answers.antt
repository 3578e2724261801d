use Rattle.std.proofs.Common.{◌∙◌, ◌<◌, not, sym, subst, rules}
use Rattle.std.specs.List.{All}
use Rattle.std.specs.Map.{keys_of}
use Rattle.tt_timers.specs.Pending.{is_script_of}
use Rattle.tt_timers.specs.inside.Entries.{is_owned}
use Rattle.tt_timers.proofs.AgreeLemmas.{owned-any}
use Rattle.tt_timers.proofs.EntryLemmas.{numbers-kept}
use Rattle.tt_timers.proofs.TestLemmas.{dropped-is, found-is, script-is, script_owner}
use Rattle.tt_timers.proofs.timers.Timers.drop_script.Goals as goal

pub invariant_of-self : goal.invariant_of-self
invariant_of-self c =
    record {
      agree =
          c.remove.ensures.agree;
      drawn =
          subst (λ entries. All (λ spot. spot.number < c.self.inside.next) (keys_of entries)) (sym c.remove.ensures.removed)
          (numbers-kept c.self.inside.next (λ entry. not (is_owned (script_owner c.args.thread c.args.number) entry)) c.self.inside.pending.timers.entries
          c.self.invariant.drawn);
    }

pub returns-clause-found : goal.returns-clause-found
returns-clause-found c =
    let timers = c.self.inside.pending.timers.entries in
    let any = owned-any timers c.self.inside.pending.moments.entries (script_owner c.args.thread c.args.number) c.self.invariant.agree in
    let same =
    found-is (is_owned (script_owner c.args.thread c.args.number)) (is_script_of c.args.thread c.args.number)
    (script-is c.args.thread c.args.number) timers in
    search (rules, c.remove.ensures.found ∙ any ∙ same)

pub returns-clause-dropped : goal.returns-clause-dropped
returns-clause-dropped c =
    let timers = c.self.inside.pending.timers.entries in
    let left =
    dropped-is (is_owned (script_owner c.args.thread c.args.number)) (is_script_of c.args.thread c.args.number)
    (script-is c.args.thread c.args.number) timers in
    search (rules, c.remove.ensures.removed, left)
