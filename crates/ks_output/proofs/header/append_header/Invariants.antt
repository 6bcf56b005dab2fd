use Rattle.ks_output.proofs.Prelude.{◌≡◌, ◌++◌, Keeps, header_heading, definition_lines}
use Rattle.std.specs.FinMap as map
use Rattle.ks_output.proofs.header.append_header.Given as goal

-- the text so far and the lines of the entries that are left
abbrev pub invariant-loop-name : goal.invariant-loop-name
invariant-loop-name l = record {
  written : l.out.items ++ definition_lines l.name-iterator ≡ (l.fn.out.items ++ header_heading l.fn.title)
      ++ definition_lines (map.entries l.fn.settings.entries);
  kept : Keeps l.fn.out.items l.out.items;
}
