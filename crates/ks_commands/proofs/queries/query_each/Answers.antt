use Rattle.ks_commands.proofs.Prelude.{err_from_is_err_and, ◌≡◌, ◌∙◌, ◌+◌, ◌++◌, ◌∷◌, arith, ℕ, List, [], Bor, get_or, sym, subst, ap, map, map_more, take, take-map, take_all, length-map, limit_of, option_map, refl, rules, code_of, explained, state, ReportsAll, querying_by}
use Rattle.ks_commands.proofs.Spelled.{spelled_lines}
use Rattle.ks_commands.proofs.Walks.{as_many, nothing_reported, objects_more, stale_more, reported_more, walk_more}
use Rattle.ks_commands.proofs.queries.query_each.Goals as goal

pub loop-target-init : goal.loop-target-init
loop-target-init g c = record {
  unchanged = λ honest. refl;
  cache = c.requires.cache;
  reported = λ files here.
      let querying = querying_by g.T.Tree.is_honest files c.args.backdates c.args.format c.args.query in
      let first = state g.T.Tree c.args.tree.now in
      ([], subst (λ l. ReportsAll querying [] first [] l 0 first) (sym c.new-text.ensures.items) (nothing_reported querying first), refl);
  few = search rules;
}

pub loop-target-preserved : goal.loop-target-preserved
loop-target-preserved g c =
    let was = c.loop-target.invariant in
    let asked = c.spelled_answer-reported.ensures in
    let reported = c.spelled_answer-reported.result in
    let spelling = option_map (λ v. v.items) reported.spelling in
    let targets = c.args.targets.now in
    let i = c.loop-target.target-index in
    let nothing : Bor (List ℕ) = record { ref_ptr = (0, 0); now = [] } in
    let o = (get_or targets i nothing).now in
    let limit = limit_of c.args.query in
    let part = explained c.args.format limit o reported.answer spelling in
    record {
      unchanged = λ h. asked.unchanged h ∙ was.unchanged h;
      cache = asked.cache;
      reported = λ files here.
          let (parts, reports, stale) = was.reported files here in (
            parts ++ part ∷ [],
            reported_more (querying_by g.T.Tree.is_honest files c.args.backdates c.args.format c.args.query) (map (λ t. t.now) (take (i + 1) targets)) (code_of c.worse-status.result)
                reports
                (record {
                  part = part;
                  of_object = refl;
                  step = asked.step files (λ h. was.unchanged h ∙ here h);
                  lines = spelled_lines c.args.format limit o reported.answer spelling c.loop-target.text.items c.write_spelled.new.text.items asked.line
                      c.in_ok-answered.ensures.lines;
                  status_of = c.in_ok-answered.ensures.status;
                }) (map_more (λ t. t.now) targets i nothing c.loop-target-test.true) c.worse-status.ensures,
            stale_more parts part c.loop-target.stale c.stale_of-stale.result (code_of c.in_ok-answered.answered) stale c.in_ok-answered.ensures.status
                c.stale_of-stale.ensures.stale,
          );
      few = omega (arith, was.few, c.stale_of-stale.ensures.small);
    }

pub returns-clause-reported : goal.returns-clause-reported
returns-clause-reported g c = λ files here.
    let (parts, reports, stale) = c.loop-target.invariant.reported files here in
    let targets = c.args.targets.now in
    let all : map (λ t. t.now) (take c.loop-target.target-index targets) ≡ map (λ t. t.now) targets
    = ap (map (λ t. t.now)) (take_all c.loop-target.target-index targets c.loop-target-test.false) in
    let are = reports.of_objects ∙ all in
    (parts, reports.walks, (are, (reports.lines, reports.worst_of, c.count_for-count.ensures parts stale (sym (length-map targets (λ t. t.now)) ∙ sym (as_many parts _ are)))))

pub returns-in_err-answered-clause-reported : goal.returns-in_err-answered-clause-reported
returns-in_err-answered-clause-reported g c = λ files here.
    let was = c.loop-target.invariant in
    let (parts, reports, stale) = was.reported files here in
    let reported = c.spelled_answer-reported.result in
    let targets = c.args.targets.now in
    let i = c.loop-target.target-index in
    let nothing : Bor (List ℕ) = record { ref_ptr = (0, 0); now = [] } in
    let o = (get_or targets i nothing).now in
    let part = explained c.args.format (limit_of c.args.query) o reported.answer (option_map (λ v. v.items) reported.spelling) in
    let querying = querying_by g.T.Tree.is_honest files c.args.backdates c.args.format c.args.query in
    let p = err_from_is_err_and c.from_residual.result c.from_residual.ensures.1 in
    rw p.1 (
      parts ++ part ∷ [],
      walk_more querying (state g.T.Tree c.args.tree.now) parts (state g.T.Tree c.loop-target.tree) part (state g.T.Tree c.spelled_answer-reported.new.tree) reports.walks
          (c.spelled_answer-reported.ensures.step files (λ h. was.unchanged h ∙ here h)),
      (
        i + 1,
        objects_more parts part (map (λ t. t.now) (take i targets)) (take (i + 1) (map (λ t. t.now) targets)) o reports.of_objects refl
            (take-map (λ t. t.now) (i + 1) targets ∙ map_more (λ t. t.now) targets i nothing c.loop-target-test.true),
      ),
    )
