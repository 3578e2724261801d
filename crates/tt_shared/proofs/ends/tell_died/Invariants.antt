use Rattle.std.proofs.Common.{◌≡◌, map}
use Rattle.std.specs.List.{fold}
use Rattle.tt_shared.specs.Ends.{with_died_event}
use Rattle.tt_shared.proofs.ends.tell_died.Given as goal

abbrev pub invariant-loop-post : goal.invariant-loop-post
invariant-loop-post l = l.queues ≡ fold (with_died_event l.threads l.thread) l.fn.queues (map (λ post. post.now) l.yielded)
