use Rattle.std.proofs.lemmas.Result.{IfOk-weaker}
use Rattle.ks_engine.proofs.Prelude.{IsRecordPlanUnder, RecordPlan, content, rules}
use Rattle.ks_engine.specs.declared.depfile.Ruled.{Ruled}
use Rattle.ks_engine.specs.Depfile.{IsRuled}
use Rattle.ks_engine.proofs.DepfileLemmas.{placed_some, rule_is}
use Rattle.ks_engine.proofs.depfile.prepare_rule_by.Goals as goal

pub returns-clause-planned : goal.returns-clause-planned
returns-clause-planned g c = λ honest.
    let planned = c.in_ok-prepared.ensures.planned honest in
    let files = g.T.Tree.files c.args.tree.now in
    let ScanRules : Ruled → Type 0 = λ r. (plan : RecordPlan) × IsRecordPlanUnder c.args.conventions files c.args.depfile.now c.args.target.now c.args.command.now plan
    × IsRuled c.args.conventions files c.args.depfile.now plan r in
    let at = placed_some c.args.conventions.options c.args.depfile.now (content files c.args.depfile.now) c.in_ok-prepared.prepared.depfile.items planned.2.text in
    IfOk-weaker _ _ ScanRules (λ r ruled. (
      planned.0,
      planned.1,
      record {
        draft = search rules;
        names = search rules;
        was = at.0;
        was_there = at.1;
        rule = rule_is c.args.conventions at.0 _ _ _ _ _ at.2 planned.2.prerequisites planned.2.names ruled.2;
      },
    )) c.make_rule.ensures.ruled
