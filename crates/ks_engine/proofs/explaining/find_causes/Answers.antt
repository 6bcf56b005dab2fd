use Rattle.ks_engine.proofs.Prelude.{◌≡◌, ◌∙◌, ap, arith, and_parts, length-map, err_from_is_err_and, Dep, File, is_dep, seen_dep, list_all-drop, First, limit_of, rules, append-nil, cond-false, cond-true, le-ltb, lt-ltb}
use Rattle.ks_engine.specs.declared.query.Limit.TheVariants.{All as Every}
use Rattle.ks_engine.proofs.Querying.{borrowed_next, still_seen}
use Rattle.ks_engine.proofs.Listing.{few_of_none, enough, enough_at_end, looked_name, looked_file, looked_first, looked_refused}
use Rattle.ks_engine.proofs.explaining.find_causes.Goals as goal
use Rattle.ks_engine.proofs.explaining.find_causes.Goals.{in-File, in-Config+in_ok-number-in-Config+then-generation-number+in_ok-cause-in-Config+in_ok-push-in-Config+in-All, in-Config+in_ok-number-in-Config+else-generation-number}

pub loop-dep-init : goal.loop-dep-init
loop-dep-init g c = search (rules, few_of_none, looked_first)

pub returns-in_err-number-in-Config-clause-refused : goal.returns-in_err-number-in-Config-clause-refused
returns-in_err-number-in-Config-clause-refused g c = λ honest after seen.
    let p = err_from_is_err_and c.from_residual.result c.from_residual.ensures.1 in
    let old = c.loop-dep.invariant in
    let here = still_seen c.args.query _ _ after (old.unchanged honest) seen in
    rw (p.1, p.2) (looked_refused after c.args.generation c.args.source.now _ _ _ (limit_of c.args.query) _ _ _
    (borrowed_next c.args.deps.now _ c.dep-item.result _ c.loop-dep-test.true c.dep-item.is (ap seen_dep c.in-Config.is))
    (rw c.as_bytes.ensures.value at (c.in_err-number-in-Config.ensures.refused honest after here)) old.few (old.looked honest after seen))

pub returns-in-First-clause-causes : goal.returns-in-First-clause-causes
returns-in-First-clause-causes g c = λ honest after seen.
    let old = c.loop-dep.invariant in
    let made = c.in_ok-cause-in-Config.ensures in
    let items = c.in_ok-push-in-Config.ensures.items in
    let next = borrowed_next c.args.deps.now c.loop-dep.dep-index c.dep-item.result _ c.loop-dep-test.true c.dep-item.is (ap seen_dep c.in-Config.is) in
    let here = still_seen c.args.query _ _ after (old.unchanged honest) seen in
    let has = rw c.as_bytes.ensures.value at (c.in_ok-number-in-Config.ensures.number honest after here) in
    let one : limit_of c.args.query ≡ First = cc in
    enough after c.args.generation c.args.source.now _ _ _ _ _ (grind (arith, old.few))
    (looked_name after c.args.generation c.args.source.now _ _ c.loop-dep.causes.items _ _ c.in_ok-number-in-Config.number _ next has
    (search (rules, items, made, cond-true, lt-ltb)) (old.looked honest after seen))

pub loop-dep-preserved : goal.loop-dep-preserved
loop-dep-preserved g c =
    let old = c.loop-dep.invariant in
    let next = λ (e : Dep). borrowed_next c.args.deps.now c.loop-dep.dep-index c.dep-item.result e c.loop-dep-test.true c.dep-item.is in
    elim c.match-dep.branch [
      | in-File w ↦
          let here = next _ (ap seen_dep w.in-File.is) in
          let legal = and_parts (is_dep (File w.in-File.path.now)) _ (rw here at (list_all-drop is_dep c.loop-dep.dep-index _ c.requires.deps)) in
          rw (w.tree-is, w.cache-is, w.causes-is, w.place-is) (record {
            unchanged = old.unchanged;
            kept = old.kept;
            cache = old.cache;
            same = old.same;
            place = legal.0;
            few = old.few;
            looked = λ h after seen. looked_file after c.args.generation c.args.source.now _ _ _ _ _ here (old.looked h after seen);
          })
      | in-Config+in_ok-number-in-Config+then-generation-number+in_ok-cause-in-Config+in_ok-push-in-Config+in-All w ↦
          let stated = w.in_ok-number-in-Config.ensures in
          let made = w.in_ok-cause-in-Config.ensures in
          let all : limit_of c.args.query ≡ Every = cc in
          rw (w.tree-is, w.cache-is, w.causes-is, w.place-is) (record {
            unchanged = λ h. stated.reads.unchanged h ∙ old.unchanged h;
            kept = stated.reads.kept ∙ old.kept;
            cache = stated.cache;
            same = stated.passed ∙ old.same;
            place = old.place;
            few = grind (arith, all);
            looked = λ h after seen.
                looked_name after c.args.generation c.args.source.now _ _ _ _ _ _ _ (next _ (ap seen_dep w.in-Config.is))
                (rw w.as_bytes.ensures.value at (stated.number h after (still_seen c.args.query _ _ after (old.unchanged h) seen)))
                (search (rules, w.in_ok-push-in-Config.ensures.items, made, cond-true, lt-ltb)) (old.looked h after seen);
          })
      | in-Config+in_ok-number-in-Config+else-generation-number w ↦
          let stated = w.in_ok-number-in-Config.ensures in
          rw (w.tree-is, w.cache-is, w.causes-is, w.place-is) (record {
            unchanged = λ h. stated.reads.unchanged h ∙ old.unchanged h;
            kept = stated.reads.kept ∙ old.kept;
            cache = stated.cache;
            same = stated.passed ∙ old.same;
            place = old.place;
            few = old.few;
            looked = λ h after seen.
                looked_name after c.args.generation c.args.source.now _ _ _ _ _ _ _ (next _ (ap seen_dep w.in-Config.is))
                (rw w.as_bytes.ensures.value at (stated.number h after (still_seen c.args.query _ _ after (old.unchanged h) seen)))
                (search (rules, append-nil, cond-false, le-ltb)) (old.looked h after seen);
          })
    ]

pub returns-clause-causes : goal.returns-clause-causes
returns-clause-causes g c = search (rules, enough, enough_at_end, length-map)
