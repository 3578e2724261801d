use Rattle.std.proofs.Common.{◌∙◌, ◌∷◌, ◌++◌, [], ap, arith, rules}
use Rattle.std.proofs.lemmas.Grind.{common_steps}
use Rattle.tt_run.proofs.ActLemmas.{happens, writes-of}
use Rattle.tt_run.proofs.desk.Desk.answer.Goals as goal
use Rattle.tt_devices.specs.Streams.{Grows, GrowsByPart}
use Rattle.tt_shared.specs.Acts.{act}
use Rattle.tt_shared.specs.declared.applied.Applied.{Applied}

pub returns-in_err-put-clause-cut : goal.returns-in_err-put-clause-cut
returns-in_err-put-clause-cut g c failed =
    let out = c.as_bytes.ensures.bytes ∙ ap (λ (gives : Applied). gives.out) c.in-Ok.ensures.gives in
    let err = c.as_bytes-2.ensures.bytes ∙ ap (λ (gives : Applied). gives.err) c.in-Ok.ensures.gives in
    let entry = c.push_reserved.ensures.pushed ∙ ap (λ xs. xs ++ c.args.thread ∷ []) c.reserve.ensures.same in
    rw (← c.self.view_is) (
      c.in_ok-line.line,
      happens _ _ _ GrowsByPart _ _ c.args.thread c.args.request.now c.in_ok-line.line
          c.read.new.self c.as_bytes.result.now c.as_bytes-2.result.now (record {
            read = c.in_ok-line.ensures.line;
            input = c.put.ensures.others;
            others = c.read.ensures.others;
            shared = c.in-Ok.ensures.state;
            entry = entry;
            is_out = out;
            is_err = err;
            put_out = c.in_err-put.ensures.part_of_out;
            put_err = c.in_err-put.ensures.part_of_err;
          }),
      writes-of (act c.self.inside.shared c.args.thread c.args.request.now c.in_ok-line.line).gives
          c.as_bytes.result.now c.as_bytes-2.result.now out err c.in_err-put.ensures.writes,
    )

pub returns-clause-acts : goal.returns-clause-acts
returns-clause-acts g c =
    let out = c.as_bytes.ensures.bytes ∙ ap (λ (gives : Applied). gives.out) c.in-Ok.ensures.gives in
    let err = c.as_bytes-2.ensures.bytes ∙ ap (λ (gives : Applied). gives.err) c.in-Ok.ensures.gives in
    let entry = c.push_reserved.ensures.pushed ∙ ap (λ xs. xs ++ c.args.thread ∷ []) c.reserve.ensures.same in
    rw (← c.self.view_is) (
      c.in_ok-line.line,
      happens _ _ _ Grows _ _ c.args.thread c.args.request.now c.in_ok-line.line
          c.read.new.self c.as_bytes.result.now c.as_bytes-2.result.now (record {
            read = c.in_ok-line.ensures.line;
            input = c.put.ensures.others;
            others = c.read.ensures.others;
            shared = c.in-Ok.ensures.state;
            entry = entry;
            is_out = out;
            is_err = err;
            put_out = c.in_ok-put.ensures.out;
            put_err = c.in_ok-put.ensures.err;
          }),
      record {
        reply = ap (λ (gives : Applied). gives.reply) c.in-Ok.ensures.gives;
        made = ap (λ (gives : Applied). gives.made) c.in-Ok.ensures.gives;
        over = ap (λ (gives : Applied). gives.over) c.in-Ok.ensures.gives;
      },
    )

pub returns-in_err-put-clause-read_ahead : goal.returns-in_err-put-clause-read_ahead
returns-in_err-put-clause-read_ahead g c =
    rw (← c.self.view_is) (λ never.
    let stays = c.read.ensures.read_ahead never in
    let wrote = c.in_err-put.ensures.fault in
    let is = c.from_residual-in_err-put.ensures in
    (c.put.ensures.others.0 ∙ stays.0, λ same. first_of (search (rules, is, wrote, same), grind (arith, common_steps, is, wrote, same))))
