use Rattle.ks_commands.proofs.Prelude.{◌≡◌, Err, EngineError, Explanation, IsSpelled, Result, arith, option_map, subst}
use Rattle.ks_engine.specs.declared.error.EngineError.TheVariants.{Device}
use Rattle.ks_engine.specs.Asked.{reported as verdict}
use Rattle.ks_commands.proofs.Spelled.{backdates_as_reported, backdates_on, is_explained, risen, reported_answers, reported_spelled}
use Rattle.ks_commands.proofs.queries.spelled_answer.Goals as goal

pub returns-clause-step : goal.returns-clause-step
returns-clause-step g c = λ files here.
    let asked = c.answer-answer.ensures in
    let did = c.with_spelling.ensures in
    let answer = c.answer-answer.result in
    let reported = c.with_spelling.result.answer in
    let spelling = option_map (λ v. v.items) c.with_spelling.result.spelling in
    let query = c.args.query in
    let format = c.args.format in
    let o = c.args.target.now in
    let honest = g.T.Tree.is_honest in
    let old = g.T.Tree.files c.args.tree.now in
    let now = g.T.Tree.files c.answer-answer.new.tree in
    let spelled : honest → IsSpelled old query format o answer reported spelling
    = λ h. subst (λ f. IsSpelled f query format o answer reported spelling) (asked.unchanged h) (did.reported h) in
    record {
      reported = is_explained honest old files c.args.backdates format query o reported spelling here
          (λ h. reported_answers old query format o answer reported spelling (asked.answer h) (spelled h))
          (λ h. reported_spelled old query format o answer reported spelling (spelled h));
      counted = record {
        later = omega (arith, asked.counted.later, did.reads.counted.later);
        cause = λ device. risen (g.T.Tree.failures c.args.tree.now) (g.T.Tree.failures c.answer-answer.new.tree) (g.T.Tree.failures c.with_spelling.new.tree)
            (◌≡◌ {A = Result Explanation EngineError} answer (Err Device)) asked.counted.later asked.counted.cause did.reads.counted.later (did.cause device);
      };
      backdated = backdates_on honest old files c.args.backdates o (verdict reported) (g.T.Tree.backdated c.args.tree.now) (g.T.Tree.backdated c.answer-answer.new.tree)
          (g.T.Tree.backdated c.with_spelling.new.tree) here did.reads.kept
          (backdates_as_reported honest old old query c.args.backdates format o answer reported spelling (g.T.Tree.backdated c.args.tree.now) (g.T.Tree.backdated c.answer-answer.new.tree)
          c.requires.may_backdate spelled asked.backdated);
    }
