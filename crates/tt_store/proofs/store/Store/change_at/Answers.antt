use Rattle.std.proofs.Common.{rules}
use Rattle.tt_store.proofs.Changed.{bad-ok, begun-ok, made, unread-ok}
use Rattle.tt_store.proofs.store.Store.change_at.Goals as goal

pub returns-in-Ok-into_result : goal.returns-in-Ok-into_result
returns-in-Ok-into_result g c =
    made (g.C.Changing.meaning c.args.changing.now) c.args.missing.now c.args.word.now c.args.self.now _ c.in-Ok-into_result.value c.with_result.result
    (search rules) (search rules) (search rules) (search rules)

pub returns-in-Err-into_result : goal.returns-in-Err-into_result
returns-in-Err-into_result g c =
    bad-ok (g.C.Changing.meaning c.args.changing.now) c.args.missing.now c.args.word.now c.args.self.now _ c.in-Err-into_result.message c.failed.result
    (search rules) (search rules) (search rules) (search rules)

pub returns-in-Err-NoSuchVariable : goal.returns-in-Err-NoSuchVariable
returns-in-Err-NoSuchVariable g c =
    begun-ok (g.C.Changing.meaning c.args.changing.now) c.args.missing.now c.args.word.now c.args.self.now
    (record {
      levels =
          c.change.new.self;
      watches = c.args.self.now.watches;
    }) c.begin_changed.new.self c.in-Err-NoSuchVariable.field-0 c.begin_changed.result (search rules)
    (search rules) (search rules) (search rules) (search rules)

pub returns-in_ok-message-in-Err : goal.returns-in_ok-message-in-Err
returns-in_ok-message-in-Err g c =
    unread-ok (g.C.Changing.meaning c.args.changing.now) c.args.missing.now c.args.word.now c.args.self.now _ c.in-Err.fault c.failed-in-Err.result (search rules) (search rules)
    (search rules) (search rules) (search rules)
