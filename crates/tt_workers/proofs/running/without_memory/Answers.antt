use Rattle.std.proofs.Common.{ap, refl}
use Rattle.tt_workers.proofs.RunLemmas.{no-memory}
use Rattle.tt_workers.proofs.running.without_memory.Goals as goal

pub returns : goal.returns
returns g c = record {
  ran = λ begun is. no-memory g.S.Source g.K.Sink g.E.Sink begun _ refl c.new.ensures.empty
      (ap (λ f. f.input) is, ap (λ f. f.output) is, ap (λ f. f.errors) is);
}
