use Rattle.ks_fixdep.proofs.Prelude.{◌≡◌, ◌++◌, IsTrue, List, [], drop, length, flat_map, list_all, is_path, is_dep, deps_text, all_noted, names_of, deps_after, picked, names_at, Dep}
use Rattle.ks_fixdep.proofs.listing.push_dependencies.Given as goal

-- These legal lines are written; with those of the prerequisites that are left they are the whole.
abbrev pub invariant-loop-source : goal.invariant-loop-source
invariant-loop-source l = record {
  deps : List Dep;
  text : l.text.items ≡ l.fn.text.items ++ deps_text deps;
  whole : deps_after [] l.fn.prerequisites (picked l.table.found l.sources)
      ≡ deps ++ deps_after (names_at l.table.names l.listed) l.entries (picked l.table.found (drop l.source-index l.sources));
  legal : IsTrue (list_all is_dep deps);
  names : names_of (picked l.table.found l.sources)
      ≡ all_noted (names_at l.table.names l.listed) (flat_map (λ names. names) (picked l.table.found (drop l.source-index l.sources)));
  many : length l.listed ≡ length (names_at l.table.names l.listed);
  paths : IsTrue (list_all (λ p. is_path p.0) l.entries);
}
