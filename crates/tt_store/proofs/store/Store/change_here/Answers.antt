use Rattle.std.proofs.Common.{Ok, rules}
use Rattle.tt_lists.specs.declared.answer.ListAnswer.TheVariants.{Bad, Made}
use Rattle.tt_store.proofs.Changed.{bad-ok, made}
use Rattle.tt_store.proofs.Frequent.{changed_here, same_changes, unchanged_here, unmarked}
use Rattle.tt_store.proofs.store.Store.change_here.Goals as goal

pub returns-in-Err : goal.returns-in-Err
returns-in-Err g c =
    same_changes (g.C.Changing.meaning c.args.changing.now) c.args.word.now c.args.missing.now c.args.self.now
    (record {
      levels = c.change_here.new.self;
      watches = c.args.self.now.watches;
    }) c.change_anywhere.new.self c.change_anywhere.result
    (unchanged_here (g.C.Changing.meaning c.args.changing.now) c.args.word.now c.args.missing.now c.args.self.now
    (record {
      levels = c.change_here.new.self;
      watches = c.args.self.now.watches;
    }) c.in_ok-made.field-0 c.in-Err.field-0 (search rules) (search rules) (search rules) (search rules))
    (search rules)

pub returns-in-Err-into_result : goal.returns-in-Err-into_result
returns-in-Err-into_result g c =
    bad-ok (g.C.Changing.meaning c.args.changing.now) c.args.missing.now c.args.word.now c.args.self.now _ c.in-Err-into_result.message c.failed.result
    (changed_here (g.C.Changing.meaning c.args.changing.now) c.args.word.now c.args.self.now c.change_here.new.self.frames
    (Ok (Bad c.in-Err-into_result.message)) (search rules) (search rules) (search rules))
    (search rules) (search rules) (search rules)

pub returns : goal.returns
returns g c =
    made (g.C.Changing.meaning c.args.changing.now) c.args.missing.now c.args.word.now c.args.self.now _ c.in-Ok-into_result.value c.with_result.result
    (changed_here (g.C.Changing.meaning c.args.changing.now) c.args.word.now c.args.self.now c.change_here.new.self.frames
    (Ok (Made c.in-Ok-into_result.value)) (search rules) (search rules) (search rules))
    (search rules) (unmarked c.change_here.new.self.frames _ c.args.self.now.watches _ (search rules) (search rules)) (search rules)
