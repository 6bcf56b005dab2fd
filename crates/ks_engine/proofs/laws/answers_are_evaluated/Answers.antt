use Rattle.ks_engine.proofs.Querying.{build_evaluated, stale_evaluated}
use Rattle.ks_engine.proofs.Explanations.{explanation_evaluated}
use Rattle.ks_engine.proofs.Predicting.{impact_evaluated}
use Rattle.ks_engine.proofs.laws.answers_are_evaluated.Goals as goal

pub returns : goal.returns
returns c = record {
  verdicts = λ files o answer is h r shows last. stale_evaluated files h o r answer is shows last;
  explanations = λ files o answer is h r shows last. explanation_evaluated files h o r answer is.by_files shows last;
  impacts = impact_evaluated;
  builds = λ files o command answer is word h r shows last. build_evaluated files h o command r answer is word shows last;
}
