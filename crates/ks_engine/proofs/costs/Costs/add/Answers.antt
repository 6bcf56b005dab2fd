use Rattle.ks_engine.proofs.Prelude.{map, take, ap, refl, arith, append-nil, length-map, seen_dep, config_names, tallies_of, common_steps, Dep}
use Rattle.ks_engine.proofs.Tallying.{adds_none, adds_more, lines_more}
use Rattle.ks_engine.proofs.costs.Costs.add.Goals as goal
use Rattle.ks_engine.proofs.costs.Costs.add.Goals.{in-Config+in_ok-count_name, in_default}

pub loop-dep-init : goal.loop-dep-init
loop-dep-init c = record { number = refl; adds = adds_none c.args.self.now.records (tallies_of c.args.self.now) c.requires.sound }

pub count_name-requires : goal.count_name-requires
count_name-requires c = c.loop-dep.invariant.adds.tallies.sound

pub loop-dep-preserved : goal.loop-dep-preserved
loop-dep-preserved c =
    let old = c.loop-dep.invariant in
    let so_far = config_names (take c.loop-dep.dep-index (map seen_dep c.args.deps.now)) in
    let more = λ (e : Dep). lines_more c.args.deps.now c.loop-dep.dep-index c.dep-item.result e c.loop-dep-test.true c.dep-item.is in
    elim c.match-dep.branch [
      | in-Config+in_ok-count_name w ↦ rw (w.self-is, more _ (ap seen_dep w.in-Config.is), ← w.as_bytes.ensures.value) (record {
        number = old.number;
        adds = adds_more c.loop-dep.self.records (tallies_of c.args.self.now) (tallies_of c.loop-dep.self) _ so_far w.as_bytes.result.now
            (omega (arith, old.number)) old.adds w.in_ok-count_name.ensures;
      })
      | in_default w ↦ rw (w.self-is, more _ (ap seen_dep w.in_default.is), append-nil so_far) (record { number = old.number; adds = old.adds })
    ]

pub returns-clause-costs : goal.returns-clause-costs
returns-clause-costs c = grind (arith, common_steps, length-map)
