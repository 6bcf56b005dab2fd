use Rattle.ks_output.proofs.Prelude.{◌≡◌, ◌++◌, Keeps, heading, entry_lines}
use Rattle.std.specs.FinMap as map
use Rattle.ks_output.proofs.auto_text.append_auto.Given as goal

-- the text so far and the lines of the entries that are left
abbrev pub invariant-loop-name : goal.invariant-loop-name
invariant-loop-name l = record {
  written : l.out.items ++ entry_lines l.name-iterator ≡ (l.fn.out.items ++ heading l.fn.title) ++ entry_lines (map.entries l.fn.settings.entries);
  kept : Keeps l.fn.out.items l.out.items;
}
