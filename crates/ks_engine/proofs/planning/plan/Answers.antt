use Rattle.ks_engine.proofs.Prelude.{◌+◌, ◌∙◌, ap}
use Rattle.ks_engine.proofs.Reading.{are_changed}
use Rattle.ks_engine.proofs.planning.plan.Goals as goal

pub returns : goal.returns
returns c = record {
  headroom = λ full. c.if-generation-eq18446744073709551615.false (c.generation.ensures ∙ full);
  generation = ap (λ n. n + 1) c.generation-generation.ensures;
  unknown = c.unknown-unknown.ensures;
  changed = are_changed c.args.old.now _ _ c.keeps_names.ensures c.keeps_configuration.ensures c.in_ok-touched.ensures;
}
