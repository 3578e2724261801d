use Rattle.example_language.proofs.Taking.{taken}
use Rattle.example_language.proofs.deliveries.DeliveringHostedGreatest.answer.Goals as goal

pub returns-in-Deliver : goal.returns-in-Deliver
returns-in-Deliver c = record {
  answered = λ coming serving stops. taken c.args.want c.in-Deliver.number coming serving c.args.host.now c.in-Deliver.is stops;
}
