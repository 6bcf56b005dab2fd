use Rattle.ks_engine.proofs.Prelude.{◌≡◌, ◌+◌, map, take, seen_dep, config_names, tallies_of}
use Rattle.ks_engine.proofs.Tallying.{Adds}
use Rattle.ks_engine.proofs.costs.Costs.add.Given as goal

-- the names so far are counted
abbrev pub invariant-loop-dep : goal.invariant-loop-dep
invariant-loop-dep l = record {
  number : l.self.records ≡ l.fn.self.records + 1;
  adds : Adds l.self.records (tallies_of l.fn.self) (tallies_of l.self) (config_names (take l.dep-index (map seen_dep l.deps)));
}
