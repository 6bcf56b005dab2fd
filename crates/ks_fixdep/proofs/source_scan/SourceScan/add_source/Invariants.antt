use Rattle.ks_fixdep.proofs.Prelude.{◌≡◌, IsTrue, list_all, is_name, all_noted, found_of}
use Rattle.ks_fixdep.proofs.source_scan.SourceScan.add_source.Given as goal

-- those so far are noted, and those that are left are still to be
abbrev pub invariant-loop-name : goal.invariant-loop-name
invariant-loop-name l = record {
  found : found_of l.self ≡ found_of l.fn.self;
  current : all_noted l.self.table.current l.name-iterator ≡ l.names;
  legal : IsTrue (list_all is_name l.name-iterator);
}
